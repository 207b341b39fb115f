-- One answer: no public function asks anything of its caller, and two answers that meet a contract are equal (base, specs/Answers). Assumes nothing.
use mathlib.Core.Path.{◌≡◌, sym, ◌∙◌}
use Rattle.base.specs.Answers.{AsksNothing, TwoAnswers, OneAnswer}
use Rattle.typed_words.proofs.is_name.Kinds as named
use Rattle.typed_words.proofs.is_name.Reads as named-contract
use Rattle.typed_words.proofs.is_word.Kinds as same
use Rattle.typed_words.proofs.is_word.Reads as same-contract
use Rattle.typed_words.proofs.part.Kinds as piece
use Rattle.typed_words.proofs.part.Reads as piece-contract
use Rattle.typed_words.proofs.read_amount.Kinds as amount
use Rattle.typed_words.proofs.read_amount.Reads as amount-contract
use Rattle.typed_words.proofs.read_decimal.Kinds as double
use Rattle.typed_words.proofs.read_decimal.Reads as double-contract
use Rattle.typed_words.proofs.read_whole.Kinds as digits
use Rattle.typed_words.proofs.read_whole.Reads as digits-contract
use Rattle.typed_words.proofs.word.Kinds as nth
use Rattle.typed_words.proofs.word.Reads as nth-contract

pub word-asks-nothing : AsksNothing nth.ps nth-contract.Asked
word-asks-nothing κs args = tt

pub part-asks-nothing : AsksNothing piece.ps piece-contract.Asked
part-asks-nothing κs args = tt

pub read-whole-asks-nothing : AsksNothing digits.ps digits-contract.Asked
read-whole-asks-nothing κs args = tt

pub read-decimal-asks-nothing : AsksNothing double.ps double-contract.Asked
read-decimal-asks-nothing κs args = tt

pub read-amount-asks-nothing : AsksNothing amount.ps amount-contract.Asked
read-amount-asks-nothing κs args = tt

pub is-word-asks-nothing : AsksNothing same.ps same-contract.Asked
is-word-asks-nothing κs args = tt

pub is-name-asks-nothing : AsksNothing named.ps named-contract.Asked
is-name-asks-nothing κs args = tt

-- A word: the bytes of the slice handed back.
pub one_word : TwoAnswers nth.ps nth.r nth-contract.Learnt (λ κs args f g e e'. f.now ≡ g.now)
one_word κs args f g e e' p q = p ∙ sym q

-- A part: the bytes of the slice handed back.
pub one-part : TwoAnswers piece.ps piece.r piece-contract.Learnt (λ κs args f g e e'. f.now ≡ g.now)
one-part κs args f g e e' p q = p ∙ sym q

-- A whole number read.
pub one-read-whole : OneAnswer digits.ps digits.r digits-contract.Learnt
one-read-whole κs args f g e e' p q = p ∙ sym q

-- A number with a point, as a double.
pub one-read-decimal : OneAnswer double.ps double.r double-contract.Learnt
one-read-decimal κs args f g e e' p q = p ∙ sym q

-- An amount with decimals.
pub one-read-amount : OneAnswer amount.ps amount.r amount-contract.Learnt
one-read-amount κs args f g e e' p q = p ∙ sym q

-- A word compared.
pub one-is-word : OneAnswer same.ps same.r same-contract.Learnt
one-is-word κs args f g e e' p q = p ∙ sym q

-- A name compared, whatever its capitals.
pub one-is-name : OneAnswer named.ps named.r named-contract.Learnt
one-is-name κs args f g e e' p q = p ∙ sym q
