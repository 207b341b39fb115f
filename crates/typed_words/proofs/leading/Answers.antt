use mathlib.Core.Path.{◌≡◌, sym, ◌∙◌}
use mathlib.Core.Bool.{true, false, beq}
use borrow.Author.Rules.{rules}
use borrow.Author.Tests.{tests}
use Rattle.std.proofs.lemmas.Iterator.{IsFirst-from_position, YieldsList-from_slice, index_from_first}
use Rattle.typed_words.specs.Words.{is_blank, leading_of}
use Rattle.typed_words.proofs.Blanks.{leading-none, leading-ends, leading-goes-on}
use Rattle.typed_words.proofs.leading.Goals as goal

pub returns-clause-value : goal.returns-clause-value
returns-clause-value c =
    let blanks = c.args.blanks in
    let first = IsFirst-from_position _ _ _ (λ x. beq (is_blank x) blanks ≡ false) (λ x. beq (is_blank x) blanks ≡ true) c.position.ensures.ran
    (YieldsList-from_slice c.args.s.now (search rules)) (λ x q k. search (rules, tests)) (λ x q k. search (rules, tests)) in
    c.unwrap_or.ensures
    ∙ sym (index_from_first (leading_of blanks) (λ x. beq (is_blank x) blanks ≡ false) (λ x. beq (is_blank x) blanks ≡ true) (leading-none blanks)
    (leading-ends blanks) (leading-goes-on blanks) c.args.s.now _ first)
