-- One answer of each public function, with the buffer at the end where one is lent (base, specs/Answers). Those with a `requires` ask that the bytes
-- lie inside the slice; the others ask nothing. Assumes nothing.
use mathlib.Core.Path.{refl, sym, ◌∙◌}
use Rattle.base.specs.Answers.{AsksNothing, OneAnswer, OneAnswerWith}
use Rattle.line_bytes.proofs.put_line.Kinds as detail
use Rattle.line_bytes.proofs.put_line.Reads as detail-contract
use Rattle.line_bytes.proofs.put_total.Kinds as total
use Rattle.line_bytes.proofs.put_total.Reads as total-contract
use Rattle.line_bytes.proofs.put_numbers.Kinds as laid
use Rattle.line_bytes.proofs.put_numbers.Reads as laid-contract
use Rattle.line_bytes.proofs.detail_numbers.Kinds as detail-values
use Rattle.line_bytes.proofs.detail_numbers.Reads as detail-values-contract
use Rattle.line_bytes.proofs.total_numbers.Kinds as total-values
use Rattle.line_bytes.proofs.total_numbers.Reads as total-values-contract
use Rattle.line_bytes.proofs.front_size.Kinds as size
use Rattle.line_bytes.proofs.front_size.Reads as size-contract
use Rattle.line_bytes.proofs.size_of_kind.Kinds as kind-size
use Rattle.line_bytes.proofs.size_of_kind.Reads as kind-size-contract
use Rattle.line_bytes.proofs.number_width.Kinds as width
use Rattle.line_bytes.proofs.number_width.Reads as width-contract
use Rattle.line_bytes.proofs.is_line_kind.Kinds as kind-test
use Rattle.line_bytes.proofs.is_line_kind.Reads as kind-test-contract
use Rattle.line_bytes.proofs.is_line.Kinds as line-test
use Rattle.line_bytes.proofs.is_line.Reads as line-test-contract

-- The line of a detail or of a subtotal: the buffer at the end (the first parameter, out).
pub one-put-line : OneAnswerWith detail.ps detail.r detail-contract.Learnt (λ κs e. e.0.now)
one-put-line κs args f g e e' p q = (refl, p ∙ sym q)

-- The line of the close.
pub one-put-total : OneAnswerWith total.ps total.r total-contract.Learnt (λ κs e. e.0.now)
one-put-total κs args f g e e' p q = (refl, p ∙ sym q)

-- A line from its numbers.
pub one-put-numbers : OneAnswerWith laid.ps laid.r laid-contract.Learnt (λ κs e. e.0.now)
one-put-numbers κs args f g e e' p q = (refl, p ∙ sym q)

-- The numbers of a line.
pub one-detail-numbers : OneAnswer detail-values.ps detail-values.r detail-values-contract.Learnt
one-detail-numbers κs args f g e e' p q = p ∙ sym q

-- Those of the close's line.
pub one-total-numbers : OneAnswer total-values.ps total-values.r total-values-contract.Learnt
one-total-numbers κs args f g e e' p q = p ∙ sym q

-- How many bytes the line at the front of a slice has.
pub one-front-size : OneAnswer size.ps size.r size-contract.Learnt
one-front-size κs args f g e e' p q = p ∙ sym q

pub size-of-kind-asks-nothing : AsksNothing kind-size.ps kind-size-contract.Asked
size-of-kind-asks-nothing κs args = tt

-- And one of a kind.
pub one-size-of-kind : OneAnswer kind-size.ps kind-size.r kind-size-contract.Learnt
one-size-of-kind κs args f g e e' p q = p.0 ∙ sym q.0

pub number-width-asks-nothing : AsksNothing width.ps width-contract.Asked
number-width-asks-nothing κs args = tt

-- The bytes of a line's number.
pub one-number-width : OneAnswer width.ps width.r width-contract.Learnt
one-number-width κs args f g e e' p q = p.0 ∙ sym q.0

pub is-line-kind-asks-nothing : AsksNothing kind-test.ps kind-test-contract.Asked
is-line-kind-asks-nothing κs args = tt

-- Whether lines have the kind.
pub one-is-line-kind : OneAnswer kind-test.ps kind-test.r kind-test-contract.Learnt
one-is-line-kind κs args f g e e' p q = p ∙ sym q

pub is-line-asks-nothing : AsksNothing line-test.ps line-test-contract.Asked
is-line-asks-nothing κs args = tt

-- Whether a slice begins with a whole line.
pub one-is-line : OneAnswer line-test.ps line-test.r line-test-contract.Learnt
one-is-line κs args f g e e' p q = p ∙ sym q
