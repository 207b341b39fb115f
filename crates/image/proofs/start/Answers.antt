-- `image::start` meets its contract: the image of no record yet, or nothing.
-- Assumes nothing.
use mathlib.Core.Path.{sym}
use borrow.Author.Rules.{rules}
use borrow.Author.Tests.{eq-eqb, ne_eqb}
use Rattle.codec.specs.Table.{size}
use Rattle.account.specs.Account.{account_fields}
use Rattle.image.proofs.Calls.{start-long, start_none}
use Rattle.image.proofs.start.Goals as goal

pub returns-then-image-ne-SIZE : goal.returns-then-image-ne-SIZE
unfolding size account_fields
returns-then-image-ne-SIZE c = record { long = sym (ne_eqb _ _ c.if-image-ne-SIZE.true); image = sym (start_none _ c.if-image-ne-SIZE.true) }

pub new-state-requires : goal.new-state-requires
unfolding size account_fields
new-state-requires c = tt

pub put_state-requires : goal.put_state-requires
unfolding size account_fields
put_state-requires c = search rules

pub shape_of-image : goal.shape_of-image
unfolding size account_fields
shape_of-image c = search rules

pub returns : goal.returns
unfolding size account_fields
returns c = let long = c.if-image-ne-SIZE.false in
    record { long = sym (eq-eqb _ _ long); image = rw (c.put_state.ensures, c.new-state.ensures) (sym (start-long _ long)) }
