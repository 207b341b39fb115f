-- The words, where there are some. Assumes nothing.
use mathlib.Core.Path.{sym, ◌∙◌}
use Rattle.printing.proofs.Texts.{◌⟫◌}
use Rattle.kinds.proofs.next_choices.Goals as goal

pub returns-then-not-is_choice : goal.returns-then-not-is_choice
returns-then-not-is_choice c = rw (sym c.is_choice.ensures ∙ c.if-not-is_choice.true) c.say.ensures

pub returns : goal.returns
returns c = let p1 = c in
    let test = p1 in
    rw (
      sym test.is_choice.ensures ∙ test.if-not-is_choice.false,
      ←
          p1.highest.ensures,
    ) (test.say.ensures
    ⟫ p1.say_words.ensures)
