-- One answer of what the values of the farm record do, in version 1 and in version 2. Assumes nothing.
use Rattle.base.specs.Answers.{TwoAnswers}
use Rattle.rules.specs.Alike.{Alike}
use Rattle.rules.proofs.OneAnswer.{tell-alike}
use Rattle.rules.proofs.farm.weigh.Kinds as done
use Rattle.rules.proofs.farm.weigh.Reads as done-contract
use Rattle.rules.proofs.farm.weigh_factors.Kinds as factors
use Rattle.rules.proofs.farm.weigh_factors.Reads as factors-contract

pub one-weigh : TwoAnswers done.ps done.r done-contract.Learnt (λ κs args f g e e'. Alike args.1.1.0 f g)
one-weigh κs args f g e e' p q = tell-alike p q

pub one-weigh-factors : TwoAnswers factors.ps factors.r factors-contract.Learnt (λ κs args f g e e'. Alike args.1.1.0 f g)
one-weigh-factors κs args f g e e' p q = tell-alike p q
