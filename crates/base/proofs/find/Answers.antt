use Rattle.std.proofs.Common.{◌≡◌, ◌∙◌, sym}
use Rattle.std.proofs.lemmas.Iterator.{IsFirst-from_position, YieldsList-from_slice, index_from_first}
use borrow.Author.Rules.{rules}
use borrow.Author.Tests.{tests}
use Rattle.base.specs.Bytes.{index_of}
use Rattle.base.proofs.Bytes.{index-end, index-first, index-next}
use Rattle.base.proofs.find.Goals as goal

pub returns-clause-value : goal.returns-clause-value
returns-clause-value c =
    let b = c.args.b in
    let first = IsFirst-from_position _ _ _ (λ x. x ≡ b) (λ x. x ≡ b → ⊥) c.position.ensures.ran
    (YieldsList-from_slice c.args.s.now (search rules)) (λ x q k. search (rules, tests)) (λ x q k. search (rules, tests)) in
    c.unwrap_or.ensures
    ∙ sym (index_from_first (index_of b) (λ x. x ≡ b) (λ x. x ≡ b → ⊥) (index-end b) (index-first b) (index-next b) c.args.s.now _ first)
