-- One answer: no public function asks anything of its caller, and two answers that meet a contract are equal (base, specs/Answers). Assumes nothing.
use mathlib.Core.Path.{◌≡◌, sym, ◌∙◌}
use Rattle.base.specs.Answers.{AsksNothing, TwoAnswers, OneAnswer, OneAnswerWith}
use Rattle.text_lines.proofs.Cut.new.Kinds as first
use Rattle.text_lines.proofs.Cut.new.Reads as first-contract
use Rattle.text_lines.proofs.Cut.next.Kinds as following
use Rattle.text_lines.proofs.Cut.next.Reads as following-contract
use Rattle.text_lines.proofs.cut_line.Kinds as cutter
use Rattle.text_lines.proofs.cut_line.Reads as cutter-contract
use Rattle.text_lines.proofs.whole.Kinds as line
use Rattle.text_lines.proofs.whole.Reads as line-contract

pub new-asks-nothing : AsksNothing first.ps first-contract.Asked
new-asks-nothing κs args = tt

pub next-asks-nothing : AsksNothing following.ps following-contract.Asked
next-asks-nothing κs args = tt

pub cut-line-asks-nothing : AsksNothing cutter.ps cutter-contract.Asked
cut-line-asks-nothing κs args = tt

pub whole-asks-nothing : AsksNothing line.ps line-contract.Asked
whole-asks-nothing κs args = tt

-- The cut before any byte.
pub one-new : OneAnswer first.ps first.r first-contract.Learnt
one-new κs args f g e e' p q = p ∙ sym q

-- The cut behind a line.
pub one-next : OneAnswer following.ps following.r following-contract.Learnt
one-next κs args f g e e' p q = p ∙ sym q

-- Two cuttings: all of Cutting, and the line buffer at the end (the first parameter, line).
pub one-cut-line : OneAnswerWith cutter.ps cutter.r cutter-contract.Learnt (λ κs e. e.0.now)
one-cut-line κs args f g e e' p q = (p.0 ∙ sym q.0, p.1.0 ∙ sym q.1.0)

-- Two lines: the bytes of the slice handed back.
pub one-whole : TwoAnswers line.ps line.r line-contract.Learnt (λ κs args f g e e'. f.now ≡ g.now)
one-whole κs args f g e e' p q = p ∙ sym q
