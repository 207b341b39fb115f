-- `line_bytes::read_numbers` meets its contract. The invariant: storing the figures that are left makes of the slice what is wanted.
-- Assumes nothing.
use mathlib.Core.Path.{◌≡◌}
use Prim.Native.Nat.{◌+◌, ◌-◌, ◌*◌, ◌≤◌}
use lib.ListN.{length, replicate}
use lib.Seq.{sets}
use Rattle.codec.specs.Codec.{values_at}
use Rattle.line_bytes.specs.Lines.{figure}
use Rattle.line_bytes.proofs.read_numbers.Given as goal

abbrev pub invariant-loop-i : goal.invariant-loop-i
invariant-loop-i l = (8 * length l.v ≤ length l.line + 10) × (l.p + 10 ≡ 8 * l.i) × (length l.v ≡ length l.initial.v)
    × (sets l.v l.i (values_at (replicate (length l.initial.v - l.i) figure) l.line l.p) ≡ sets l.initial.v 2 (values_at (replicate (length l.initial.v - 2) figure) l.line 6))
