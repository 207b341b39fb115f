-- One answer of the public function (base, specs/Answers): what is said, and the buffer at the end (the parameter out). It asks nothing. Assumes
-- nothing.
use Rattle.base.specs.Answers.{AsksNothing, OneAnswerWith}
use Rattle.printing.proofs.Examples.{one-put}
use Rattle.kinds_screen.proofs.say_screen.Kinds as screen
use Rattle.kinds_screen.proofs.say_screen.Reads as screen-contract

pub say-screen-asks-nothing : AsksNothing screen.ps screen-contract.Asked
say-screen-asks-nothing κs args = tt

-- The screen.
pub one-say-screen : OneAnswerWith screen.ps screen.r screen-contract.Learnt (λ κs e. e.0.now)
one-say-screen κs args f g e e' p q = one-put p.put q.put
