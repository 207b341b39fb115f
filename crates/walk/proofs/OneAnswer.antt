-- One answer of the walk: all of Next, and the line buffer at the end where one is lent. The account that is asked for is in its ranges, and there is
-- room for the lines of any record. Assumes nothing.
use mathlib.Core.Path.{◌≡◌, sym, ◌∙◌}
use Rattle.base.specs.Answers.{OneAnswer, OneAnswerWith}
use Rattle.walk.proofs.next_record.Kinds as next
use Rattle.walk.proofs.next_record.Reads as next-contract
use Rattle.walk.proofs.next_alone.Kinds as alone
use Rattle.walk.proofs.next_alone.Reads as alone-contract

-- The next record after an account, and its lines (the third parameter).
pub one-next-record : OneAnswerWith next.ps next.r next-contract.Learnt (λ κs e. e.1.1.0.now)
one-next-record κs args f g e e' p q = let same : f ≡ g = p.0 ∙ sym q.0 in (same, cc (same, p.1.0, q.1.0))

-- The same where nobody asks for its lines.
pub one-next-alone : OneAnswer alone.ps alone.r alone-contract.Learnt
one-next-alone κs args f g e e' p q = p.0 ∙ sym q.0
