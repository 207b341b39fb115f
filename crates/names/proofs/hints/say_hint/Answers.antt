use Rattle.printing.proofs.Texts.{says-none}
use Rattle.names.proofs.hints.say_hint.Goals as goal

pub returns-in-Book : goal.returns-in-Book
returns-in-Book c = rw c.in-Book.is says-none

pub returns-in-Nothing : goal.returns-in-Nothing
returns-in-Nothing c = rw c.in-Nothing.is c.say.ensures

pub returns-in-Typed : goal.returns-in-Typed
returns-in-Typed c = rw c.in-Typed.is c.say-in-Typed.ensures

pub returns-in-Sheet : goal.returns-in-Sheet
returns-in-Sheet c = rw c.in-Sheet.is c.say-in-Sheet.ensures
