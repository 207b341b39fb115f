-- `image::write::put_back` meets its contract: three runs, one after the other.
-- Assumes nothing.
use mathlib.Core.Path.{refl}
use native.Mathlib.Omega.{arith}
use lib.ListN.{length}
use Rattle.codec.specs.Table.{size}
use Rattle.account.specs.Account.{account_fields}
use Rattle.image.specs.Image.{front_numbers}
use Rattle.image.proofs.Stored.{three-stored}
use Rattle.image.proofs.write.put_back.Goals as goal

pub put_run-second-requires : goal.put_run-second-requires
unfolding size account_fields
put_run-second-requires c = (c.requires.0, c.requires.1, rw c.of_subtotal-subtotal.ensures (omega arith))

pub put_run-third-requires : goal.put_run-third-requires
unfolding size account_fields
put_run-third-requires c =
    (omega (arith, c.requires), rw c.of_subtotal-subtotal.ensures at c.put_run-second.ensures.next, rw c.listed-sums.ensures (omega arith))

pub put_run-requires : goal.put_run-requires
unfolding size account_fields
put_run-requires c =
    (omega (arith, c.requires), rw c.listed-sums.ensures at c.put_run-third.ensures.next, rw c.of_refusal-refusal.ensures (omega arith))

pub returns : goal.returns
returns c = let bytes = three-stored c.args.image.now (length (front_numbers c.args.a)) _ _ _ c.of_subtotal-subtotal.ensures c.listed-sums.ensures
    c.of_refusal-refusal.ensures refl refl c.put_run-second.ensures.bytes c.put_run-third.ensures.bytes c.put_run.ensures.bytes in
    bytes
