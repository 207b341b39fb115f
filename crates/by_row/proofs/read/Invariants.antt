-- The invariant: storing the values that are left makes of twelve zeros what is wanted. Assumes nothing.
use mathlib.Core.Path.{◌≡◌}
use Prim.Native.Nat.{ℕ, ◌+◌, ◌≤◌}
use lib.ListN.{length, drop, replicate}
use lib.Seq.{sets}
use Rattle.codec.specs.Table.{fields, size}
use Rattle.codec.specs.Codec.{values_at}
use Rattle.by_row.proofs.read.Given as goal

abbrev pub invariant-loop-i : goal.invariant-loop-i
invariant-loop-i l = (length l.v ≡ 12) × (l.p + size (drop l.i (fields l.row)) ≤ length l.s)
    × (sets l.v l.i (values_at (drop l.i (fields l.row)) l.s l.p) ≡ sets {A = ℕ} (replicate 12 0) 0 (values_at (fields l.row) l.s l.at))
