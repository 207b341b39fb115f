-- The invariant: the word's number is its number among those that are left. Assumes nothing.
use mathlib.Core.Path.{sym, ap, ◌∙◌}
use native.Mathlib.Omega.{arith}
use Rattle.typed_words.specs.Words.{same_text_lem, lowered}
use Rattle.names.proofs.Chosen.{chosen-here, chosen_on, chosen_none}
use Rattle.names.proofs.choice_in.Goals as goal

pub returns-then-is_name : goal.returns-then-is_name
returns-then-is_name c =
    let l = c.loop-k in
    let w = lowered c.args.typed.now in
    let word = c.is_name.ensures ∙ ap (same_text_lem w) c.nth_choice.ensures in
    sym (chosen-here c.args.words.now w l.k (omega arith) word c.if-is_name.true) ∙ l.invariant

pub loop-k-preserved : goal.loop-k-preserved
loop-k-preserved c =
    let l = c.loop-k in
    let w = lowered c.args.typed.now in
    let word = c.is_name.ensures ∙ ap (same_text_lem w) c.nth_choice.ensures in
    sym (chosen_on c.args.words.now w l.k (omega arith) word c.if-is_name.false) ∙ l.invariant

pub returns : goal.returns
returns c =
    let l = c.loop-k in
    sym (chosen_none c.args.words.now (lowered c.args.typed.now) l.k (omega arith)) ∙ l.invariant
