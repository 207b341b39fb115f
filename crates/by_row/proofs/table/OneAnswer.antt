-- One answer of the table as the code has it. The functions with a `requires` ask for a row of the table, and for one of twelve places; the others
-- ask nothing. Assumes nothing.
use mathlib.Core.Path.{sym, ◌∙◌}
use Rattle.base.specs.Answers.{AsksNothing, OneAnswer}
use Rattle.by_row.proofs.table.row_of.Kinds as row
use Rattle.by_row.proofs.table.row_of.Reads as row-contract
use Rattle.by_row.proofs.table.version_of.Kinds as version
use Rattle.by_row.proofs.table.version_of.Reads as version-contract
use Rattle.by_row.proofs.table.kind_of.Kinds as kind
use Rattle.by_row.proofs.table.kind_of.Reads as kind-contract
use Rattle.by_row.proofs.table.values_of.Kinds as count
use Rattle.by_row.proofs.table.values_of.Reads as count-contract
use Rattle.by_row.proofs.table.width.Kinds as width
use Rattle.by_row.proofs.table.width.Reads as width-contract
use Rattle.by_row.proofs.table.lowest.Kinds as low
use Rattle.by_row.proofs.table.lowest.Reads as low-contract
use Rattle.by_row.proofs.table.highest.Kinds as high
use Rattle.by_row.proofs.table.highest.Reads as high-contract

pub row-of-asks-nothing : AsksNothing row.ps row-contract.Asked
row-of-asks-nothing κs args = tt

-- The row of a record.
pub one-row-of : OneAnswer row.ps row.r row-contract.Learnt
one-row-of κs args f g e e' p q = p ∙ sym q

pub version-of-asks-nothing : AsksNothing version.ps version-contract.Asked
version-of-asks-nothing κs args = tt

-- The version and the kind of its records.
pub one-version-of : OneAnswer version.ps version.r version-contract.Learnt
one-version-of κs args f g e e' p q = p ∙ sym q

pub kind-of-asks-nothing : AsksNothing kind.ps kind-contract.Asked
kind-of-asks-nothing κs args = tt

pub one-kind-of : OneAnswer kind.ps kind.r kind-contract.Learnt
one-kind-of κs args f g e e' p q = p ∙ sym q

pub values-of-asks-nothing : AsksNothing count.ps count-contract.Asked
values-of-asks-nothing κs args = tt

-- How many values they have.
pub one-values-of : OneAnswer count.ps count.r count-contract.Learnt
one-values-of κs args f g e e' p q = p ∙ sym q

-- The bytes of a field, its lowest value and its highest.
pub one_width : OneAnswer width.ps width.r width-contract.Learnt
one_width κs args f g e e' p q = p ∙ sym q

pub one-lowest : OneAnswer low.ps low.r low-contract.Learnt
one-lowest κs args f g e e' p q = p ∙ sym q

pub one-highest : OneAnswer high.ps high.r high-contract.Learnt
one-highest κs args f g e e' p q = p ∙ sym q
