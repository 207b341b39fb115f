-- One answer of the public function (base, specs/Answers): what is said, and the buffer at the end (the parameter out). It asks nothing. Assumes
-- nothing.
use Rattle.base.specs.Answers.{AsksNothing, OneAnswerWith}
use Rattle.printing.proofs.Examples.{one-put}
use Rattle.kinds.proofs.say_kinds.Kinds as kinds
use Rattle.kinds.proofs.say_kinds.Reads as kinds-contract

pub say-kinds-asks-nothing : AsksNothing kinds.ps kinds-contract.Asked
say-kinds-asks-nothing κs args = tt

-- The table.
pub one-say-kinds : OneAnswerWith kinds.ps kinds.r kinds-contract.Learnt (λ κs e. e.0.now)
one-say-kinds κs args f g e e' p q = one-put p.put q.put
