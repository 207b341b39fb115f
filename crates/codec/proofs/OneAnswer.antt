-- One answer of each public function, with the buffer at the end where one is lent (base, specs/Answers). Here of the numbers and of what records
-- and lines begin with; of the size of a row below its own module. All but bytes8 ask that the bytes lie inside the slice.
-- Assumes nothing.
use mathlib.Core.Path.{refl, sym, ◌∙◌}
use Rattle.base.specs.Answers.{AsksNothing, OneAnswer, OneAnswerWith}
use Rattle.codec.proofs.numbers.be8.Kinds as one_byte
use Rattle.codec.proofs.numbers.be8.Reads as one-byte-contract
use Rattle.codec.proofs.numbers.be16.Kinds as two_bytes
use Rattle.codec.proofs.numbers.be16.Reads as two-bytes-contract
use Rattle.codec.proofs.numbers.be32.Kinds as four_bytes
use Rattle.codec.proofs.numbers.be32.Reads as four-bytes-contract
use Rattle.codec.proofs.numbers.be64.Kinds as eight-bytes
use Rattle.codec.proofs.numbers.be64.Reads as eight-bytes-contract
use Rattle.codec.proofs.numbers.put1.Kinds as put_one
use Rattle.codec.proofs.numbers.put1.Reads as put-one-contract
use Rattle.codec.proofs.numbers.put2.Kinds as put_two
use Rattle.codec.proofs.numbers.put2.Reads as put-two-contract
use Rattle.codec.proofs.numbers.put4.Kinds as put_four
use Rattle.codec.proofs.numbers.put4.Reads as put-four-contract
use Rattle.codec.proofs.numbers.put8.Kinds as put-eight
use Rattle.codec.proofs.numbers.put8.Reads as put-eight-contract
use Rattle.codec.proofs.numbers.bytes8.Kinds as bytes
use Rattle.codec.proofs.numbers.bytes8.Reads as bytes-contract
use Rattle.codec.proofs.numbers.number.Kinds as any
use Rattle.codec.proofs.numbers.number.Reads as any-contract
use Rattle.codec.proofs.numbers.put.Kinds as put_any
use Rattle.codec.proofs.numbers.put.Reads as put-any-contract
use Rattle.codec.proofs.start.put_start.Kinds as start
use Rattle.codec.proofs.start.put_start.Reads as start-contract
use Rattle.codec.proofs.start.put_versioned.Kinds as versioned
use Rattle.codec.proofs.start.put_versioned.Reads as versioned-contract

-- Numbers read.
pub one-be8 : OneAnswer one_byte.ps one_byte.r one-byte-contract.Learnt
one-be8 κs args f g e e' p q = p ∙ sym q

pub one-be16 : OneAnswer two_bytes.ps two_bytes.r two-bytes-contract.Learnt
one-be16 κs args f g e e' p q = p ∙ sym q

pub one-be32 : OneAnswer four_bytes.ps four_bytes.r four-bytes-contract.Learnt
one-be32 κs args f g e e' p q = p ∙ sym q

pub one-be64 : OneAnswer eight-bytes.ps eight-bytes.r eight-bytes-contract.Learnt
one-be64 κs args f g e e' p q = p ∙ sym q

pub one-number : OneAnswer any.ps any.r any-contract.Learnt
one-number κs args f g e e' p q = p ∙ sym q

-- Numbers written: the buffer at the end (the first parameter, out).
pub one-put1 : OneAnswerWith put_one.ps put_one.r put-one-contract.Learnt (λ κs e. e.0.now)
one-put1 κs args f g e e' p q = (refl, p ∙ sym q)

pub one-put2 : OneAnswerWith put_two.ps put_two.r put-two-contract.Learnt (λ κs e. e.0.now)
one-put2 κs args f g e e' p q = (refl, p ∙ sym q)

pub one-put4 : OneAnswerWith put_four.ps put_four.r put-four-contract.Learnt (λ κs e. e.0.now)
one-put4 κs args f g e e' p q = (refl, p ∙ sym q)

pub one-put8 : OneAnswerWith put-eight.ps put-eight.r put-eight-contract.Learnt (λ κs e. e.0.now)
one-put8 κs args f g e e' p q = (refl, p ∙ sym q)

pub one-put : OneAnswerWith put_any.ps put_any.r put-any-contract.Learnt (λ κs e. e.0.now)
one-put κs args f g e e' p q = (refl, p ∙ sym q)

pub bytes8-asks-nothing : AsksNothing bytes.ps bytes-contract.Asked
bytes8-asks-nothing κs args = tt

-- The bytes of one.
pub one-bytes8 : OneAnswer bytes.ps bytes.r bytes-contract.Learnt
one-bytes8 κs args f g e e' p q = p ∙ sym q

-- What every record and every line begins with: the buffer at the end.
pub one-put-start : OneAnswerWith start.ps start.r start-contract.Learnt (λ κs e. e.0.now)
one-put-start κs args f g e e' p q = (refl, p ∙ sym q)

-- And with a version of its own.
pub one-put-versioned : OneAnswerWith versioned.ps versioned.r versioned-contract.Learnt (λ κs e. e.0.now)
one-put-versioned κs args f g e e' p q = (refl, p ∙ sym q)
