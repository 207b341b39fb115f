-- `image::write::put_front` meets its contract: three runs, one after the other.
-- Assumes nothing.
use mathlib.Core.Path.{refl}
use native.Mathlib.Omega.{arith}
use Rattle.codec.specs.Table.{size}
use Rattle.account.specs.Account.{account_fields}
use Rattle.image.proofs.Stored.{three-stored}
use Rattle.image.proofs.write.put_front.Goals as goal

pub put_run-second-requires : goal.put_run-second-requires
unfolding size account_fields
put_run-second-requires c = (c.requires, refl, rw c.of_start-start.ensures (omega arith))

pub put_run-third-requires : goal.put_run-third-requires
unfolding size account_fields
put_run-third-requires c =
    (omega (arith, c.requires), rw c.of_start-start.ensures at c.put_run-second.ensures.next, rw c.of_heading-heading.ensures (omega arith))

pub put_run-requires : goal.put_run-requires
unfolding size account_fields
put_run-requires c =
    (omega (arith, c.requires), rw c.of_heading-heading.ensures at c.put_run-third.ensures.next, rw c.of_used-used.ensures (omega arith))

pub returns : goal.returns
returns c = let bytes = three-stored c.args.image.now 0 _ _ _ c.of_start-start.ensures c.of_heading-heading.ensures
    c.of_used-used.ensures refl refl c.put_run-second.ensures.bytes c.put_run-third.ensures.bytes c.put_run.ensures.bytes in
    record { bytes = bytes; next = rw c.of_used-used.ensures at c.put_run.ensures.next }
