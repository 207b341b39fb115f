use Prim.Native.Nat.{ℕ}
use mathlib.Core.Path.{sym, ap, ◌∙◌}
use mathlib.Core.List.{List, map}
use lib.ListN.{length}
use borrow.Author.Rules.{rules}
use borrow.Author.Tests.{tests, ne_eqb}
use Rattle.std.proofs.lemmas.Iterator.{YieldsList-from_slice, YieldsList-from_map, YieldsList-from_zip, same_from_all}
use Rattle.std.specs.Char.{to_ascii_lowercase}
use Rattle.typed_words.specs.Words.{lowered, same_text_lem}
use Rattle.typed_words.proofs.Same.{same-decided, other_length, lowered-map, length-lowered}
use Rattle.typed_words.proofs.is_name.Goals as goal

pub returns-then-word-name : goal.returns-then-word-name
returns-then-word-name c =
    let w = c.args.word.now in
    let name = c.args.name.now in
    let letters = YieldsList-from_map _ to_ascii_lowercase (YieldsList-from_slice w (search rules)) (search rules) (λ x r q. search rules) in
    let both = YieldsList-from_zip letters (YieldsList-from_slice name (search rules)) in
    same-decided (map to_ascii_lowercase w) name c.all.result
    (same_from_all c.all.new.self _ c.all.result (map to_ascii_lowercase w) name c.all.ensures.ran both
    (ap length (lowered-map w) ∙ length-lowered w ∙ c.if-word-name.true) (λ x q k. search (rules, tests)) (λ x q k. search (rules, tests)))
    ∙ ap (λ (t : List ℕ). same_text_lem t name) (lowered-map w)

pub returns-else-word-name : goal.returns-else-word-name
returns-else-word-name c =
    let w = c.args.word.now in
    ne_eqb _ _ c.if-word-name.false ∙ sym (other_length (lowered w) c.args.name.now (λ e. c.if-word-name.false (sym (length-lowered w) ∙ e)))
