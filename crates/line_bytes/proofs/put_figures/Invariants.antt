-- `line_bytes::put_figures` meets its contract. The invariant: storing the figures that are left makes of the slice what is wanted.
-- Assumes nothing.
use mathlib.Core.Path.{◌≡◌}
use Prim.Native.Nat.{◌+◌, ◌-◌, ◌*◌, ◌≤◌}
use lib.ListN.{length, replicate}
use lib.Seq.{sets}
use Rattle.codec.specs.Codec.{bytes_of}
use Rattle.line_bytes.specs.Lines.{figure}
use Rattle.line_bytes.proofs.put_figures.Given as goal

abbrev pub invariant-loop-figure : goal.invariant-loop-figure
invariant-loop-figure l = (l.p + (length l.f - l.figure-index) * 8 ≤ length l.out) × (length l.out ≡ length l.initial.out)
    × (sets l.out l.p (bytes_of (replicate (length l.f - l.figure-index) figure) l.f l.figure-index) ≡ sets l.initial.out l.at (bytes_of (replicate (length l.f) figure) l.f 0))
