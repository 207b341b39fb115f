use Rattle.printing.proofs.Texts.{◌⟫◌}
use Rattle.salvage.specs.Lines.{dropped_text}
use Rattle.salvage.proofs.Reading.say_line.Goals as goal

pub returns-in-Some : goal.returns-in-Some
unfolding dropped_text
returns-in-Some c =
    rw c.in-Some.is (
    c.say.ensures
    ⟫ c.say_number.ensures
    ⟫ c.say-in-Some.ensures
    ⟫ c.say_number-in-Some.ensures
    ⟫ c.say-in-Some-2.ensures
    ⟫ c.say_words.ensures
    ⟫ c.say-in-Some-3.ensures
    )
