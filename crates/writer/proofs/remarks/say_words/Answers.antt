-- By what became of the line. Assumes nothing.
use Rattle.printing.proofs.Texts.{says-none}
use Rattle.writer.specs.Remarks.{words_of}
use Rattle.writer.proofs.remarks.say_words.Goals as goal

pub returns-in-Unread : goal.returns-in-Unread
unfolding words_of
returns-in-Unread c = rw c.in-Unread.is c.say_unread.ensures

pub returns-in-Withheld : goal.returns-in-Withheld
unfolding words_of
returns-in-Withheld c = rw c.in-Withheld.is (rw c.unwrap_or.ensures at c.say_withheld.ensures)

pub returns-in-Refused : goal.returns-in-Refused
unfolding words_of
returns-in-Refused c = rw c.in-Refused.is c.say_refused.ensures

pub returns-in-Nothing : goal.returns-in-Nothing
unfolding words_of
returns-in-Nothing c = rw c.in-Nothing.is says-none

pub returns-in-Waits : goal.returns-in-Waits
unfolding words_of
returns-in-Waits c = rw c.in-Waits.is says-none

pub returns-in-Without : goal.returns-in-Without
unfolding words_of
returns-in-Without c = rw c.in-Without.is says-none

pub returns-in-Wrote : goal.returns-in-Wrote
unfolding words_of
returns-in-Wrote c = rw c.in-Wrote.is says-none
