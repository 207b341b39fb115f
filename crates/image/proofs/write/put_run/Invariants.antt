-- `image::write::put_run` meets its contract: storing the numbers that are left makes of the image what is wanted.
-- Assumes nothing.
use Prim.Native.Nat.{◌+◌}
use mathlib.Core.Path.{◌≡◌}
use lib.ListN.{length, take, drop}
use lib.Seq.{sets}
use Rattle.codec.specs.Codec.{bytes_of}
use Rattle.account.specs.Account.{account_fields}
use Rattle.image.specs.Image.{place_of}
use Rattle.image.proofs.write.put_run.Given as goal

abbrev pub invariant-loop-i : goal.invariant-loop-i
invariant-loop-i l = let fs = take (length l.v) (drop l.from account_fields) in
    (length l.image ≡ length l.initial.image) × (l.p ≡ place_of (l.from + l.i))
    × (sets l.image l.p (bytes_of (drop l.i fs) l.v l.i) ≡ sets l.initial.image (place_of l.from) (bytes_of fs l.v 0))
