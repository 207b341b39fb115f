-- `image::write::put_state` meets its contract: held bytes, their count, and the account's numbers.
-- Assumes nothing.
use mathlib.Core.Path.{◌≡◌, refl, ◌∙◌}
use mathlib.Core.Logic.{inl}
use native.Mathlib.Omega.{arith}
use borrow.Author.Rules.{rules}
use lib.ListN.{length}
use Rattle.image.proofs.Stored.{parts-stored, image-stored}
use Rattle.image.proofs.write.put_state.Goals as goal

pub put_held-requires : goal.put_held-requires
put_held-requires c = c.requires

pub put-requires : goal.put-requires
put-requires c = (omega arith, inl refl)

pub put_back-requires : goal.put_back-requires
put_back-requires c = (omega arith, c.put_front-at.ensures.next)

pub returns : goal.returns
returns c =
    let places : length c.args.s.held ≡ 27 = search rules in
    rw (c.put_back.ensures, c.put_front-at.ensures.bytes, c.put.ensures, c.put_held.ensures)
    (parts-stored _ _ ∙ image-stored c.args.s (places) c.args.image.now c.requires)
