-- One answer: none of the public functions asks anything of its caller, and two answers that meet the contract of one are equal (base,
-- specs/Answers), the buffer at the end among them where one is lent. Assumes nothing.
use Rattle.std.proofs.Common.{sym, ◌∙◌}
use Rattle.base.specs.Answers.{AsksNothing, OneAnswer, OneAnswerWith}
use Rattle.printing.proofs.Examples.{one-put}
use Rattle.table.proofs.look.Kinds as seen
use Rattle.table.proofs.look.Reads as seen-contract
use Rattle.table.proofs.not_read.Kinds as unseen
use Rattle.table.proofs.not_read.Reads as unseen-contract
use Rattle.table.proofs.is_closed.Kinds as shut
use Rattle.table.proofs.is_closed.Reads as shut-contract
use Rattle.table.proofs.sums.fits.Kinds as fit
use Rattle.table.proofs.sums.fits.Reads as fit-contract
use Rattle.table.proofs.sums.Totals.new.Kinds as none
use Rattle.table.proofs.sums.Totals.new.Reads as none-contract
use Rattle.table.proofs.sums.Totals.with.Kinds as more
use Rattle.table.proofs.sums.Totals.with.Reads as more-contract
use Rattle.table.proofs.rows.say_header.Kinds as names
use Rattle.table.proofs.rows.say_header.Reads as names-contract
use Rattle.table.proofs.rows.say_row.Kinds as row
use Rattle.table.proofs.rows.say_row.Reads as row-contract
use Rattle.table.proofs.rows.say_last.Kinds as all
use Rattle.table.proofs.rows.say_last.Reads as all-contract
use Rattle.table.proofs.remarks.is_name.Kinds as plain
use Rattle.table.proofs.remarks.is_name.Reads as plain-contract
use Rattle.table.proofs.remarks.say_wrong_name.Kinds as wrong
use Rattle.table.proofs.remarks.say_wrong_name.Reads as wrong-contract
use Rattle.table.proofs.remarks.say_no_file.Kinds as missing
use Rattle.table.proofs.remarks.say_no_file.Reads as missing-contract
use Rattle.table.proofs.remarks.status.Kinds as digit
use Rattle.table.proofs.remarks.status.Reads as digit-contract

pub look-asks-nothing : AsksNothing seen.ps seen-contract.Asked
look-asks-nothing κs args = tt

pub not-read-asks-nothing : AsksNothing unseen.ps unseen-contract.Asked
not-read-asks-nothing κs args = tt

pub is-closed-asks-nothing : AsksNothing shut.ps shut-contract.Asked
is-closed-asks-nothing κs args = tt

pub fits-asks-nothing : AsksNothing fit.ps fit-contract.Asked
fits-asks-nothing κs args = tt

pub new-asks-nothing : AsksNothing none.ps none-contract.Asked
new-asks-nothing κs args = tt

pub with-asks-nothing : AsksNothing more.ps more-contract.Asked
with-asks-nothing κs args = tt

pub say-header-asks-nothing : AsksNothing names.ps names-contract.Asked
say-header-asks-nothing κs args = tt

pub say-row-asks-nothing : AsksNothing row.ps row-contract.Asked
say-row-asks-nothing κs args = tt

pub say-last-asks-nothing : AsksNothing all.ps all-contract.Asked
say-last-asks-nothing κs args = tt

pub is-name-asks-nothing : AsksNothing plain.ps plain-contract.Asked
is-name-asks-nothing κs args = tt

pub say-wrong-name-asks-nothing : AsksNothing wrong.ps wrong-contract.Asked
say-wrong-name-asks-nothing κs args = tt

pub say-no-file-asks-nothing : AsksNothing missing.ps missing-contract.Asked
say-no-file-asks-nothing κs args = tt

pub status-asks-nothing : AsksNothing digit.ps digit-contract.Asked
status-asks-nothing κs args = tt

-- What is seen of a book.
pub one-look : OneAnswer seen.ps seen.r seen-contract.Learnt
one-look κs args f g e e' p q = p ∙ sym q

-- Of a file that could not be read.
pub one-not-read : OneAnswer unseen.ps unseen.r unseen-contract.Learnt
one-not-read κs args f g e e' p q = p ∙ sym q

pub one-is-closed : OneAnswer shut.ps shut.r shut-contract.Learnt
one-is-closed κs args f g e e' p q = p ∙ sym q

pub one-fits : OneAnswer fit.ps fit.r fit-contract.Learnt
one-fits κs args f g e e' p q = p ∙ sym q

-- The sums over no books, and with one more.
pub one-new : OneAnswer none.ps none.r none-contract.Learnt
one-new κs args f g e e' p q = p ∙ sym q

pub one-with : OneAnswer more.ps more.r more-contract.Learnt
one-with κs args f g e e' p q = p ∙ sym q

-- The rows: their lengths, and the buffer at the end.
pub one-say-header : OneAnswerWith names.ps names.r names-contract.Learnt (λ κs e. e.0.now)
one-say-header κs args f g e e' p q = one-put p.put q.put

pub one-say-row : OneAnswerWith row.ps row.r row-contract.Learnt (λ κs e. e.0.now)
one-say-row κs args f g e e' p q = one-put p.put q.put

pub one-say-last : OneAnswerWith all.ps all.r all-contract.Learnt (λ κs e. e.0.now)
one-say-last κs args f g e e' p q = one-put p.put q.put

-- The remarks.
pub one-is-name : OneAnswer plain.ps plain.r plain-contract.Learnt
one-is-name κs args f g e e' p q = p ∙ sym q

pub one-say-wrong-name : OneAnswerWith wrong.ps wrong.r wrong-contract.Learnt (λ κs e. e.0.now)
one-say-wrong-name κs args f g e e' p q = one-put p.put q.put

pub one-say-no-file : OneAnswerWith missing.ps missing.r missing-contract.Learnt (λ κs e. e.0.now)
one-say-no-file κs args f g e e' p q = one-put p.put q.put

pub one-status : OneAnswer digit.ps digit.r digit-contract.Learnt
one-status κs args f g e e' p q = p ∙ sym q
