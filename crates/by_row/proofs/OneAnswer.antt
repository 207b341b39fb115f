-- One answer of the functions by any row, with the buffer at the end where one is lent. All ask for a row of the table, and that the bytes lie
-- inside the slice or the values are as many as its fields. Assumes nothing.
use mathlib.Core.Path.{refl, sym, ◌∙◌}
use Rattle.base.specs.Answers.{OneAnswer, OneAnswerWith}
use Rattle.by_row.proofs.read.Kinds as values
use Rattle.by_row.proofs.read.Reads as values-contract
use Rattle.by_row.proofs.first_bad.Kinds as bad
use Rattle.by_row.proofs.first_bad.Reads as bad-contract
use Rattle.by_row.proofs.write.Kinds as written
use Rattle.by_row.proofs.write.Reads as written-contract

-- The values of a record.
pub one-read : OneAnswer values.ps values.r values-contract.Learnt
one-read κs args f g e e' p q = p ∙ sym q

-- The position of the first value out of its range.
pub one-first-bad : OneAnswer bad.ps bad.r bad-contract.Learnt
one-first-bad κs args f g e e' p q = p ∙ sym q

-- The whole record: the buffer at the end (the first parameter, out).
pub one-write : OneAnswerWith written.ps written.r written-contract.Learnt (λ κs e. e.0.now)
one-write κs args f g e e' p q = (refl, p ∙ sym q)
