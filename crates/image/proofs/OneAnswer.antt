-- One answer of each public function, with the image and the lines at the end (base, specs/Answers). None asks anything of its caller. Assumes
-- nothing.
use mathlib.Core.Path.{◌≡◌, sym, ◌∙◌}
use Rattle.base.specs.Answers.{AsksNothing, TwoAnswers, OneAnswerWith, OneAnswer}
use Rattle.image.proofs.start.Kinds as start
use Rattle.image.proofs.start.Reads as start-contract
use Rattle.image.proofs.call.Kinds as call
use Rattle.image.proofs.call.Reads as call-contract
use Rattle.image.proofs.code_of.Kinds as number
use Rattle.image.proofs.code_of.Reads as number-contract

pub start-asks-nothing : AsksNothing start.ps start-contract.Asked
start-asks-nothing κs args = tt

pub one-start : OneAnswerWith start.ps start.r start-contract.Learnt (λ κs e. e.0.now)
one-start κs args f g e e' p q = (p.0 ∙ sym q.0, p.1 ∙ sym q.1)

pub call-asks-nothing : AsksNothing call.ps call-contract.Asked
call-asks-nothing κs args = tt

-- The answer with its counts, the image (the first parameter) and the line buffer (the third).
pub one-call : TwoAnswers call.ps call.r call-contract.Learnt
    (λ κs args f g e e'. (f ≡ g) × ((e.0.now ≡ e'.0.now) × (e.1.1.0.now ≡ e'.1.1.0.now)))
one-call κs args f g e e' p q = (p.0 ∙ sym q.0, (p.1.0 ∙ sym q.1.0, p.1.1.0 ∙ sym q.1.1.0))

pub code-of-asks-nothing : AsksNothing number.ps number-contract.Asked
code-of-asks-nothing κs args = tt

-- The number of an answer.
pub one-code-of : OneAnswer number.ps number.r number-contract.Learnt
one-code-of κs args f g e e' p q = p.0 ∙ sym q.0
