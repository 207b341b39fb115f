-- One answer: read_line, row_of_line and write_entry ask nothing of their callers, and two answers that meet a contract are equal (base,
-- specs/Answers). Assumes nothing.
use mathlib.Core.Path.{sym, ◌∙◌}
use Rattle.base.specs.Answers.{AsksNothing, OneAnswer, OneAnswerWith}
use Rattle.writer.proofs.typed_line.read_line.Kinds as line
use Rattle.writer.proofs.typed_line.read_line.Reads as line-contract
use Rattle.writer.proofs.typed_line.has_field.Kinds as field
use Rattle.writer.proofs.typed_line.has_field.Reads as field-contract
use Rattle.writer.proofs.typed_line.row_of_line.Kinds as row
use Rattle.writer.proofs.typed_line.row_of_line.Reads as row-contract
use Rattle.writer.proofs.typed_line.write_entry.Kinds as entry
use Rattle.writer.proofs.typed_line.write_entry.Reads as entry-contract

pub read-line-asks-nothing : AsksNothing line.ps line-contract.Asked
read-line-asks-nothing κs args = tt

pub row-of-line-asks-nothing : AsksNothing row.ps row-contract.Asked
row-of-line-asks-nothing κs args = tt

pub write-entry-asks-nothing : AsksNothing entry.ps entry-contract.Asked
write-entry-asks-nothing κs args = tt

-- Two answers that meet read_line's contract are equal.
pub one_line : OneAnswer line.ps line.r line-contract.Learnt
one_line κs args f g e e' p q = p ∙ sym q

-- Two rows that meet row_of_line's contract are equal.
pub one-row : OneAnswer row.ps row.r row-contract.Learnt
one-row κs args f g e e' p q = p ∙ sym q

-- Two answers that meet write_entry's contract are equal: all of Written, and the buffer at the end (the third parameter, out).
pub one_entry : OneAnswerWith entry.ps entry.r entry-contract.Learnt (λ κs e. e.1.1.0.now)
one_entry κs args f g e e' p q = (p.0 ∙ sym q.0, p.1.0 ∙ sym q.1.0)

pub has-field-asks-nothing : AsksNothing field.ps field-contract.Asked
has-field-asks-nothing κs args = tt

-- Whether a row has a field.
pub one-has-field : OneAnswer field.ps field.r field-contract.Learnt
one-has-field κs args f g e e' p q = p ∙ sym q
