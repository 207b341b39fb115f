use Rattle.printing.proofs.Texts.{says-none}
use Rattle.compare.proofs.remarks.tell_hint.Goals as goal

pub returns-in-Book : goal.returns-in-Book
returns-in-Book c = rw c.in-Book.is says-none

pub returns-in-Nothing : goal.returns-in-Nothing
returns-in-Nothing c = let e = c.in-Nothing.is in rw e (rw e at c.say_with_hint.ensures)

pub returns-in-Typed : goal.returns-in-Typed
returns-in-Typed c = let e = c.in-Typed.is in rw e (rw e at c.say_with_hint-in-Typed.ensures)

pub returns-in-Sheet : goal.returns-in-Sheet
returns-in-Sheet c = let e = c.in-Sheet.is in rw e (rw e at c.say_with_hint-in-Sheet.ensures)
