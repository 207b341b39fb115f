use mathlib.Core.Path.{◌≡◌}
use borrow.Author.Rules.{rules}
use lib.ListN.{length}
use Rattle.book.proofs.MovedBytes.{gathered}
use Rattle.book.proofs.State.gather.Goals as goal

pub returns : goal.returns
returns c =
    let places : length c.args.self.held ≡ 27 = search rules in
    let h = c in
    let p = c.requires in
    gathered _ _ _ _ _ _ _ _ (places) p.0.count p.1 p.2 c.fill.ensures c.fill-k.ensures
