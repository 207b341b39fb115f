-- One answer of each public function, with the buffer at the end where one is lent (base, specs/Answers). Assumes nothing.
use mathlib.Core.Path.{refl, sym, ◌∙◌}
use Rattle.base.specs.Answers.{AsksNothing, OneAnswer, OneAnswerWith}
use Rattle.printing.proofs.Texts.{one-says}
use Rattle.printing.specs.Says.{left_by}
use Rattle.printing.proofs.Examples.{one-put}
use Rattle.line_rows.proofs.is_signed.Kinds as sign
use Rattle.line_rows.proofs.is_signed.Reads as sign-contract
use Rattle.line_rows.proofs.put_line.Kinds as line
use Rattle.line_rows.proofs.put_line.Reads as line-contract
use Rattle.line_rows.proofs.put_lines.Kinds as lines
use Rattle.line_rows.proofs.put_lines.Reads as lines-contract
use Rattle.line_rows.proofs.put_header.Kinds as head
use Rattle.line_rows.proofs.put_header.Reads as head-contract
use Rattle.line_rows.proofs.say_form.Kinds as form
use Rattle.line_rows.proofs.say_form.Reads as form-contract

pub is-signed-asks-nothing : AsksNothing sign.ps sign-contract.Asked
is-signed-asks-nothing κs args = tt

-- Whether a column is signed.
pub one-is-signed : OneAnswer sign.ps sign.r sign-contract.Learnt
one-is-signed κs args f g e e' p q = p ∙ sym q

-- A line's row: the index past it, and the buffer at the end.
pub one-put-line : OneAnswerWith line.ps line.r line-contract.Learnt (λ κs e. e.0.now)
one-put-line κs args f g e e' p q = one-put p.0 q.0

-- The rows of lines: their bytes, and the buffer at the end.
pub one-put-lines : OneAnswerWith lines.ps lines.r lines-contract.Learnt (λ κs e. e.0.now)
one-put-lines κs args f g e e' p q = one-put p q

-- What stands before them.
pub one-put-header : OneAnswerWith head.ps head.r head-contract.Learnt (λ κs e. e.0.now)
one-put-header κs args f g e e' p q = one-put p q

pub say-form-asks-nothing : AsksNothing form.ps form-contract.Asked
say-form-asks-nothing κs args = tt

-- A sheet's form in words.
pub one-say-form : OneAnswerWith form.ps form.r form-contract.Learnt (λ κs e. left_by e.0.now)
one-say-form κs args f g e e' p q = (refl, one-says p q)
