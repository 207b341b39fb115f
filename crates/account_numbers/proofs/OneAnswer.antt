-- One answer of each public function (base, specs/Answers). The width asks for a number that there is, the others ask nothing. Assumes nothing.
use mathlib.Core.Path.{sym, ◌∙◌}
use Rattle.base.specs.Answers.{AsksNothing, OneAnswer}
use Rattle.account_numbers.proofs.width.Kinds as width
use Rattle.account_numbers.proofs.width.Reads as width-contract
use Rattle.account_numbers.proofs.of_start.Kinds as start-part
use Rattle.account_numbers.proofs.of_start.Reads as start-part-contract
use Rattle.account_numbers.proofs.of_heading.Kinds as heading-part
use Rattle.account_numbers.proofs.of_heading.Reads as heading-part-contract
use Rattle.account_numbers.proofs.of_used.Kinds as used-part
use Rattle.account_numbers.proofs.of_used.Reads as used-part-contract
use Rattle.account_numbers.proofs.of_subtotal.Kinds as subtotal-part
use Rattle.account_numbers.proofs.of_subtotal.Reads as subtotal-part-contract
use Rattle.account_numbers.proofs.of_refusal.Kinds as refusal-part
use Rattle.account_numbers.proofs.of_refusal.Reads as refusal-part-contract
use Rattle.account_numbers.proofs.account_of.Kinds as back
use Rattle.account_numbers.proofs.account_of.Reads as back-contract

-- The bytes of one of the account's numbers.
pub one-number-width : OneAnswer width.ps width.r width-contract.Learnt
one-number-width κs args f g e e' p q = p ∙ sym q

pub start-numbers-asks-nothing : AsksNothing start-part.ps start-part-contract.Asked
start-numbers-asks-nothing κs args = tt

-- The numbers of an account, part by part.
pub one-start-numbers : OneAnswer start-part.ps start-part.r start-part-contract.Learnt
one-start-numbers κs args f g e e' p q = p ∙ sym q

pub heading-numbers-asks-nothing : AsksNothing heading-part.ps heading-part-contract.Asked
heading-numbers-asks-nothing κs args = tt

pub one-heading-numbers : OneAnswer heading-part.ps heading-part.r heading-part-contract.Learnt
one-heading-numbers κs args f g e e' p q = p ∙ sym q

pub used-numbers-asks-nothing : AsksNothing used-part.ps used-part-contract.Asked
used-numbers-asks-nothing κs args = tt

pub one-used-numbers : OneAnswer used-part.ps used-part.r used-part-contract.Learnt
one-used-numbers κs args f g e e' p q = p ∙ sym q

pub subtotal-numbers-asks-nothing : AsksNothing subtotal-part.ps subtotal-part-contract.Asked
subtotal-numbers-asks-nothing κs args = tt

pub one-subtotal-numbers : OneAnswer subtotal-part.ps subtotal-part.r subtotal-part-contract.Learnt
one-subtotal-numbers κs args f g e e' p q = p ∙ sym q

pub refusal-numbers-asks-nothing : AsksNothing refusal-part.ps refusal-part-contract.Asked
refusal-numbers-asks-nothing κs args = tt

pub one-refusal-numbers : OneAnswer refusal-part.ps refusal-part.r refusal-part-contract.Learnt
one-refusal-numbers κs args f g e e' p q = p ∙ sym q

pub account-of-asks-nothing : AsksNothing back.ps back-contract.Asked
account-of-asks-nothing κs args = tt

-- An account from its numbers.
pub one-account-of : OneAnswer back.ps back.r back-contract.Learnt
one-account-of κs args f g e e' p q = p ∙ sym q
