-- One answer: herd_desk, herd_start and herd_call ask nothing of their caller, a C program, and two answers that meet a contract are equal (base,
-- specs/Answers). Assumes nothing.
use mathlib.Core.Path.{◌≡◌, sym, ◌∙◌}
use Rattle.base.specs.Answers.{AsksNothing, TwoAnswers, OneAnswerWith}
use Rattle.desk_c.proofs.herd_desk.Kinds as desk
use Rattle.desk_c.proofs.herd_desk.Reads as desk-contract
use Rattle.desk_c.proofs.herd_start.Kinds as start
use Rattle.desk_c.proofs.herd_start.Reads as start-contract
use Rattle.desk_c.proofs.herd_call.Kinds as call
use Rattle.desk_c.proofs.herd_call.Reads as call-contract

pub herd-desk-asks-nothing : AsksNothing desk.ps desk-contract.Asked
herd-desk-asks-nothing κs args = tt

-- Two calls of herd_desk over the same bytes: the number, and the line buffer at the end (the second parameter, lines).
pub one-herd-desk : OneAnswerWith desk.ps desk.r desk-contract.Learnt (λ κs e. e.1.0.now)
one-herd-desk κs args f g e e' p q = (p.0 ∙ sym q.0, p.1 ∙ sym q.1)

pub herd-start-asks-nothing : AsksNothing start.ps start-contract.Asked
herd-start-asks-nothing κs args = tt

-- The number, and the image.
pub one-herd-start : OneAnswerWith start.ps start.r start-contract.Learnt (λ κs e. e.0.now)
one-herd-start κs args f g e e' p q = (p.0 ∙ sym q.0, p.1 ∙ sym q.1)

pub herd-call-asks-nothing : AsksNothing call.ps call-contract.Asked
herd-call-asks-nothing κs args = tt

-- The number, the count taken (the fourth parameter), the image (the first) and the line buffer (the third).
pub one-herd-call : TwoAnswers call.ps call.r call-contract.Learnt
    (λ κs args f g e e'. (f ≡ g) × ((e.1.1.1.0.now ≡ e'.1.1.1.0.now) × ((e.0.now ≡ e'.0.now)
    × (e.1.1.0.now ≡ e'.1.1.0.now))))
one-herd-call κs args f g e e' p q =
    (p.0 ∙ sym q.0, (p.1.0 ∙ sym q.1.0, (p.1.1.0 ∙ sym q.1.1.0, p.1.1.1 ∙ sym q.1.1.1)))
