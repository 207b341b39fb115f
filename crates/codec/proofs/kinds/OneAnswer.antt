-- One answer of the size of a record by its row, which asks for a row of the table. Assumes nothing.
use mathlib.Core.Path.{sym, ◌∙◌}
use Rattle.base.specs.Answers.{OneAnswer}
use Rattle.codec.proofs.kinds.bytes_of.Kinds as size
use Rattle.codec.proofs.kinds.bytes_of.Reads as size-contract

-- How many bytes.
pub one-bytes-of : OneAnswer size.ps size.r size-contract.Learnt
one-bytes-of κs args f g e e' p q = p ∙ sym q
