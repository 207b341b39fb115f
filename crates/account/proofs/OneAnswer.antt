-- One answer of each public function (base, specs/Answers). Those with a `requires` ask for room or for a range; the others ask nothing. Assumes
-- nothing.
use mathlib.Core.Path.{refl, sym, ◌∙◌}
use Rattle.base.specs.Answers.{AsksNothing, OneAnswer, OneAnswerWith}
use Rattle.account.proofs.Figures.plus.Kinds as sums
use Rattle.account.proofs.Figures.plus.Reads as sums-contract
use Rattle.account.proofs.Figures.listed.Kinds as listed
use Rattle.account.proofs.Figures.listed.Reads as listed-contract
use Rattle.account.proofs.Account.new.Kinds as new
use Rattle.account.proofs.Account.new.Reads as new-contract
use Rattle.account.proofs.Account.by_fields.Kinds as moved
use Rattle.account.proofs.Account.by_fields.Reads as moved-contract
use Rattle.account.proofs.Account.refuse.Kinds as refusal
use Rattle.account.proofs.Account.refuse.Reads as refusal-contract
use Rattle.account.proofs.Account.in_range.Kinds as in-range
use Rattle.account.proofs.Account.in_range.Reads as in-range-contract
use Rattle.account.proofs.range.test.Kinds as range-test
use Rattle.account.proofs.range.test.Reads as range-test-contract
use Rattle.account.proofs.sort.sort_of.Kinds as sort
use Rattle.account.proofs.sort.sort_of.Reads as sort-contract
use Rattle.account.proofs.sort.is_of_group.Kinds as of-group
use Rattle.account.proofs.sort.is_of_group.Reads as of-group-contract
use Rattle.account.proofs.line.none.Kinds as no_line
use Rattle.account.proofs.line.none.Reads as no-line-contract
use Rattle.account.proofs.line.one.Kinds as single
use Rattle.account.proofs.line.one.Reads as single-contract
use Rattle.account.proofs.line.closing.Kinds as last-lines
use Rattle.account.proofs.line.closing.Reads as last-lines-contract
use Rattle.account.proofs.line.write.Kinds as written
use Rattle.account.proofs.line.write.Reads as written-contract

-- The sums with a line's figures.
pub one-figures-plus : OneAnswer sums.ps sums.r sums-contract.Learnt
one-figures-plus κs args f g e e' p q = p ∙ sym q

pub figures-listed-asks-nothing : AsksNothing listed.ps listed-contract.Asked
figures-listed-asks-nothing κs args = tt

-- Figures in the order of a line.
pub one-figures-listed : OneAnswer listed.ps listed.r listed-contract.Learnt
one-figures-listed κs args f g e e' p q = p ∙ sym q

pub account-new-asks-nothing : AsksNothing new.ps new-contract.Asked
account-new-asks-nothing κs args = tt

-- Before any record.
pub one-account-new : OneAnswer new.ps new.r new-contract.Learnt
one-account-new κs args f g e e' p q = p ∙ sym q

pub by-fields-asks-nothing : AsksNothing moved.ps moved-contract.Asked
by-fields-asks-nothing κs args = tt

-- An account moved.
pub one-by-fields : OneAnswer moved.ps moved.r moved-contract.Learnt
one-by-fields κs args f g e e' p q = p ∙ sym q

pub refuse-asks-nothing : AsksNothing refusal.ps refusal-contract.Asked
refuse-asks-nothing κs args = tt

-- An account refused.
pub one-refuse : OneAnswer refusal.ps refusal.r refusal-contract.Learnt
one-refuse κs args f g e e' p q = p ∙ sym q

pub in-range-asks-nothing : AsksNothing in-range.ps in-range-contract.Asked
in-range-asks-nothing κs args = tt

-- Whether an account is in its ranges.
pub one-in-range : OneAnswer in-range.ps in-range.r in-range-contract.Learnt
one-in-range κs args f g e e' p q = p ∙ sym q

pub range-test-asks-nothing : AsksNothing range-test.ps range-test-contract.Asked
range-test-asks-nothing κs args = tt

pub one-range-test : OneAnswer range-test.ps range-test.r range-test-contract.Learnt
one-range-test κs args f g e e' p q = p ∙ sym q

pub sort-of-asks-nothing : AsksNothing sort.ps sort-contract.Asked
sort-of-asks-nothing κs args = tt

-- What a record of a row is.
pub one-sort-of : OneAnswer sort.ps sort.r sort-contract.Learnt
one-sort-of κs args f g e e' p q = p ∙ sym q

pub is-of-group-asks-nothing : AsksNothing of-group.ps of-group-contract.Asked
is-of-group-asks-nothing κs args = tt

-- Whether it is a detail of a group.
pub one-is-of-group : OneAnswer of-group.ps of-group.r of-group-contract.Learnt
one-is-of-group κs args f g e e' p q = p ∙ sym q

pub no-line-asks-nothing : AsksNothing no_line.ps no-line-contract.Asked
no-line-asks-nothing κs args = tt

-- A record's lines by their values: none.
pub one-no-line : OneAnswer no_line.ps no_line.r no-line-contract.Learnt
one-no-line κs args f g e e' p q = p ∙ sym q

pub one-line-asks-nothing : AsksNothing single.ps single-contract.Asked
one-line-asks-nothing κs args = tt

-- A detail's line or a subtotal.
pub one-one-line : OneAnswer single.ps single.r single-contract.Learnt
one-one-line κs args f g e e' p q = p ∙ sym q

pub closing-line-asks-nothing : AsksNothing last-lines.ps last-lines-contract.Asked
closing-line-asks-nothing κs args = tt

-- The close's lines.
pub one-closing-line : OneAnswer last-lines.ps last-lines.r last-lines-contract.Learnt
one-closing-line κs args f g e e' p q = p ∙ sym q

-- The lines in a buffer: the buffer at the end (the first parameter, out).
pub one-write-lines : OneAnswerWith written.ps written.r written-contract.Learnt (λ κs e. e.0.now)
one-write-lines κs args f g e e' p q = (refl, p ∙ sym q)
