-- One answer of each public function (base, specs/Answers): the index past the text, and the buffer at the end (the first parameter, out). What writes
-- into a buffer asks its caller for room: the functions named put for all of the text, those named say for where it begins. What begins a text, or
-- says words or a number into one, asks nothing. Assumes nothing.
use mathlib.Core.Path.{◌≡◌, refl, sym, ◌∙◌}
use Rattle.base.specs.Answers.{AsksNothing, OneAnswerWith, TwoAnswers}
use Rattle.printing.specs.Says.{left_by}
use Rattle.printing.proofs.Texts.{one-says, same-left}
use Rattle.printing.proofs.Examples.{one-put}
use Rattle.printing.proofs.put_byte.Kinds as byte
use Rattle.printing.proofs.put_byte.Reads as byte-contract
use Rattle.printing.proofs.put_decimal.Kinds as number
use Rattle.printing.proofs.put_decimal.Reads as number-contract
use Rattle.printing.proofs.put_signed.Kinds as signed
use Rattle.printing.proofs.put_signed.Reads as signed-contract
use Rattle.printing.proofs.put_numbers.Kinds as numbers
use Rattle.printing.proofs.put_numbers.Reads as numbers-contract
use Rattle.printing.proofs.put_pointed.Kinds as pointed
use Rattle.printing.proofs.put_pointed.Reads as pointed-contract
use Rattle.printing.proofs.put_text.Kinds as text
use Rattle.printing.proofs.put_text.Reads as text-contract
use Rattle.printing.proofs.put_thousandths.Kinds as thousandths
use Rattle.printing.proofs.put_thousandths.Reads as thousandths-contract
use Rattle.printing.proofs.say.Kinds as said
use Rattle.printing.proofs.say.Reads as said-contract
use Rattle.printing.proofs.say_number.Kinds as told
use Rattle.printing.proofs.say_number.Reads as told-contract
use Rattle.printing.proofs.say_pointed.Kinds as shown
use Rattle.printing.proofs.say_pointed.Reads as shown-contract
use Rattle.printing.proofs.text.Text.new.Kinds as text-start
use Rattle.printing.proofs.text.Text.new.Reads as text-start-contract
use Rattle.printing.proofs.text.Text.behind.Kinds as text-behind
use Rattle.printing.proofs.text.Text.behind.Reads as text-behind-contract
use Rattle.printing.proofs.text.Text.say.Kinds as text-words
use Rattle.printing.proofs.text.Text.say.Reads as text-words-contract
use Rattle.printing.proofs.text.Text.say_number.Kinds as text-count
use Rattle.printing.proofs.text.Text.say_number.Reads as text-count-contract
use Rattle.printing.proofs.text.Text.say_pointed.Kinds as text-places
use Rattle.printing.proofs.text.Text.say_pointed.Reads as text-places-contract

-- A byte.
pub one-put-byte : OneAnswerWith byte.ps byte.r byte-contract.Learnt (λ κs e. e.0.now)
one-put-byte κs args f g e e' p q = one-put p q

-- A number.
pub one-put-decimal : OneAnswerWith number.ps number.r number-contract.Learnt (λ κs e. e.0.now)
one-put-decimal κs args f g e e' p q = one-put p.0 q.0

-- A signed number.
pub one-put-signed : OneAnswerWith signed.ps signed.r signed-contract.Learnt (λ κs e. e.0.now)
one-put-signed κs args f g e e' p q = one-put p.0 q.0

-- A line of numbers.
pub one-put-numbers : OneAnswerWith numbers.ps numbers.r numbers-contract.Learnt (λ κs e. e.0.now)
one-put-numbers κs args f g e e' p q = one-put p.0 q.0

-- Thousandths.
pub one-put-thousandths : OneAnswerWith thousandths.ps thousandths.r thousandths-contract.Learnt (λ κs e. e.0.now)
one-put-thousandths κs args f g e e' p q = one-put p.0 q.0

-- A text.
pub one-put-text : OneAnswerWith text.ps text.r text-contract.Learnt (λ κs e. e.0.now)
one-put-text κs args f g e e' p q = one-put p q

-- A text, as far as there is room.
pub one-say : OneAnswerWith said.ps said.r said-contract.Learnt (λ κs e. e.0.now)
one-say κs args f g e e' p q = one-put p.put q.put

-- A number, as far as there is room.
pub one-say-number : OneAnswerWith told.ps told.r told-contract.Learnt (λ κs e. e.0.now)
one-say-number κs args f g e e' p q = one-put p.put q.put

-- A number with decimals.
pub one-put-pointed : OneAnswerWith pointed.ps pointed.r pointed-contract.Learnt (λ κs e. e.0.now)
one-put-pointed κs args f g e e' p q = one-put p.0 q.0

-- A number with decimals, as far as there is room.
pub one-say-pointed : OneAnswerWith shown.ps shown.r shown-contract.Learnt (λ κs e. e.0.now)
one-say-pointed κs args f g e e' p q = one-put p.put q.put

pub text-new-asks-nothing : AsksNothing text-start.ps text-start-contract.Asked
text-new-asks-nothing κs args = tt

-- A text at a buffer's start: the bytes, and that none is said.
pub one-text-new : TwoAnswers text-start.ps text-start.r text-start-contract.Learnt (λ κs args f g e e'. left_by f ≡ left_by g)
one-text-new κs args f g e e' p q = same-left f g (p.1.0 ∙ sym q.1.0) (p.1.1 ∙ sym q.1.1)

-- A text that goes on.
pub one-text-behind : TwoAnswers text-behind.ps text-behind.r text-behind-contract.Learnt (λ κs args f g e e'. left_by f ≡ left_by g)
one-text-behind κs args f g e e' p q = same-left f g (p.1.0 ∙ sym q.1.0) (p.1.1 ∙ sym q.1.1)

pub text-say-asks-nothing : AsksNothing text-words.ps text-words-contract.Asked
text-say-asks-nothing κs args = tt

-- Words said into it.
pub one-text-say : OneAnswerWith text-words.ps text-words.r text-words-contract.Learnt (λ κs e. left_by e.0.now)
one-text-say κs args f g e e' p q = (refl, one-says p q)

pub text-say-number-asks-nothing : AsksNothing text-count.ps text-count-contract.Asked
text-say-number-asks-nothing κs args = tt

-- A number.
pub one-text-say-number : OneAnswerWith text-count.ps text-count.r text-count-contract.Learnt (λ κs e. left_by e.0.now)
one-text-say-number κs args f g e e' p q = (refl, one-says p q)

-- A number with decimals.
pub one-text-say-pointed : OneAnswerWith text-places.ps text-places.r text-places-contract.Learnt (λ κs e. left_by e.0.now)
one-text-say-pointed κs args f g e e' p q = (refl, one-says p q)
