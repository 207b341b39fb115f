-- The invariant: storing the fields that are left makes of the slice what is wanted. Assumes nothing.
use mathlib.Core.Path.{◌≡◌}
use Prim.Native.Nat.{◌+◌, ◌≤◌}
use lib.ListN.{length, drop}
use lib.Seq.{sets}
use Rattle.codec.specs.Table.{fields, size}
use Rattle.codec.specs.Codec.{bytes_of}
use Rattle.by_row.proofs.put_fields.Given as goal

abbrev pub invariant-loop-i : goal.invariant-loop-i
invariant-loop-i l = (length l.out ≡ length l.initial.out) × (l.p + size (drop l.i (fields l.row)) ≤ length l.out)
    × (sets l.out l.p (bytes_of (drop l.i (fields l.row)) l.v l.i) ≡ sets l.initial.out l.at (bytes_of (fields l.row) l.v 0))
