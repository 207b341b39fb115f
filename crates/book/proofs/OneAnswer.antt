-- One answer of each public function that says where a record ends (base, specs/Answers); of the state's own in promises. They ask nothing but
-- `front_of`, that the bytes are there. Assumes nothing.
use Prim.Native.Nat.{ℕ, zero, suc}
use native.Mathlib.Omega.{arith}
use mathlib.Core.Path.{◌≡◌, refl, sym, ◌∙◌}
use mathlib.Core.List.{List}
use Rattle.base.specs.Answers.{AsksNothing, OneAnswer}
use Rattle.book.specs.WholeRecords.{Ready}
use Rattle.book.proofs.front.bad_length.Kinds as length-test
use Rattle.book.proofs.front.bad_length.Reads as length-test-contract
use Rattle.book.proofs.front.front_of.Kinds as front
use Rattle.book.proofs.front.front_of.Reads as front-contract
use Rattle.book.proofs.front.ready.Kinds as ready
use Rattle.book.proofs.front.ready.Reads as ready-contract

pub bad-length-asks-nothing : AsksNothing length-test.ps length-test-contract.Asked
bad-length-asks-nothing κs args = tt

-- Whether no record has the length.
pub one-bad-length : OneAnswer length-test.ps length-test.r length-test-contract.Learnt
one-bad-length κs args f g e e' p q = p ∙ sym q

-- A record that is there has its length, and where none is there is none.
one-count : (xs : List ℕ) (m n : ℕ) → Ready xs m → Ready xs n → m ≡ n
one-count xs zero zero p q = refl
one-count xs zero (suc n) p q = absurd (p.none refl (q.some (omega arith)).0)
one-count xs (suc m) zero p q = absurd (q.none refl (p.some (omega arith)).0)
one-count xs (suc m) (suc n) p q = (p.some (omega arith)).1 ∙ sym (q.some (omega arith)).1

pub ready-asks-nothing : AsksNothing ready.ps ready-contract.Asked
ready-asks-nothing κs args = tt

-- The bytes of the record that lies whole at the front.
pub one-ready : OneAnswer ready.ps ready.r ready-contract.Learnt
one-ready κs args f g e e' p q = one-count _ f g p q

-- What stands at the front.
pub one-front-of : OneAnswer front.ps front.r front-contract.Learnt
one-front-of κs args f g e e' p q = p ∙ sym q
