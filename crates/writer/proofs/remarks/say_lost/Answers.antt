-- By the cause. Assumes nothing.
use Rattle.printing.proofs.Texts.{◌⟫◌}
use Rattle.writer.specs.Remarks.{lost_text}
use Rattle.writer.proofs.remarks.say_lost.Goals as goal

pub returns-in-Heading : goal.returns-in-Heading
unfolding lost_text
returns-in-Heading c = rw c.in-Heading.is (c.say.ensures ⟫ c.say_number.ensures ⟫ c.say-in-Heading.ensures)

pub returns-in-Unread : goal.returns-in-Unread
unfolding lost_text
returns-in-Unread c = rw c.in-Unread.is c.say_may.ensures

pub returns-in-Refused : goal.returns-in-Refused
unfolding lost_text
returns-in-Refused c = rw c.in-Refused.is c.say_may-in-Refused.ensures
