-- `image::read::read_run` meets its contract: storing the numbers that are left makes of the slice what is wanted.
-- Assumes nothing.
use mathlib.Core.Path.{◌≡◌}
use lib.ListN.{length, take, drop}
use lib.Seq.{sets}
use Rattle.codec.specs.Codec.{values_at}
use Rattle.account.specs.Account.{account_fields}
use Rattle.image.specs.Image.{place_of}
use Rattle.image.proofs.read.read_run.Given as goal

abbrev pub invariant-loop-i : goal.invariant-loop-i
invariant-loop-i l = let fs = take l.to account_fields in
    (length l.v ≡ length l.initial.v) × (l.p ≡ place_of l.i)
    × (sets l.v l.i (values_at (drop l.i fs) l.image l.p) ≡ sets l.initial.v l.from (values_at (drop l.from fs) l.image (place_of l.from)))
