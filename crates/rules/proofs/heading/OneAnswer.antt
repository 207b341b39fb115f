-- One answer of what the values of a heading do. Assumes nothing.
use Rattle.base.specs.Answers.{TwoAnswers}
use Rattle.rules.specs.Alike.{Alike}
use Rattle.rules.proofs.OneAnswer.{tell-alike}
use Rattle.rules.proofs.heading.weigh.Kinds as done
use Rattle.rules.proofs.heading.weigh.Reads as done-contract

pub one-weigh : TwoAnswers done.ps done.r done-contract.Learnt (λ κs args f g e e'. Alike args.1.1.0 f g)
one-weigh κs args f g e e' p q = tell-alike p q
