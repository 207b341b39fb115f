-- States stay in range; a closed and a refused book stay so; a state outside the ranges is handed back.
use Prim.Native.Nat.{ℕ, ◌≤◌}
use mathlib.Core.Path.{◌≡◌, refl}
use mathlib.Core.List.{List, [], ◌∷◌}
use mathlib.Core.Bool.{true, false}
use native.Mathlib.Omega.{arith}
use lib.ListN.{length, replicate, length-replicate}
use lib.Seq.{take-length}
use Rattle.account.specs.Account.{no_record}
use Rattle.account.proofs.Keeps.{in-range-none}
use Rattle.book.specs.declared.State.{State}
use Rattle.book.specs.State.{no_record_yet, InRange, in_range}
use Rattle.book.specs.Call.{numbers, answer_of, outside, call}
use Rattle.book.proofs.Ranges.{range-idle, range-parts, range-test}
use Rattle.book.proofs.Readings.{reading-none}
use Rattle.book.proofs.Calls.{done-ended}
use Rattle.promises.proofs.Calls.{call-range}

-- The test that the code makes decides the range.
pub test-decides : (s : State) → ((in_range s ≡ true → InRange s) × (InRange s → in_range s ≡ true))
test-decides s = (range-parts s, range-test s)

-- The state before any record is in range.
pub new-in-range : InRange no_record_yet
new-in-range = range-idle no_record in-range-none

-- From a state in range every call ends in one.
pub stays-in-range : (s : State) (xs : List ℕ) (room : ℕ) → InRange s → InRange (call s xs room).state
stays-in-range s xs room v = rw (take-length xs) at (call-range s xs (length xs) room v)

-- A closed or refused book is so for ever: a call takes nothing, writes nothing, and hands the same state back.
pub ended-for-ever : (s : State) (xs : List ℕ) (room : ℕ) → InRange s → 2 ≤ s.account.stage
    → call s xs room ≡ record { state = s; taken = 0; bytes = []; answer = answer_of s.account 0 (length xs) }
ended-for-ever s xs room v h = rw length-replicate at (done-ended (reading-none xs (replicate room 0) s v) h)

-- Closed is its answer, each time,
pub closed-answer : (s : State) (xs : List ℕ) (room : ℕ) → InRange s → s.account.stage ≡ 2 → numbers (call s xs room).answer ≡ 0 ∷ []
unfolding answer_of
closed-answer s xs room v e = rw (ended-for-ever s xs room v (omega arith), e)

-- and the refusal that the state holds, each time.
pub refused-answer : (s : State) (xs : List ℕ) (room : ℕ) → InRange s → s.account.stage ≡ 3
    → numbers (call s xs room).answer ≡ s.account.refusal.code ∷ s.account.refusal.accepted ∷ s.account.refusal.field ∷ []
unfolding answer_of
refused-answer s xs room v e = rw (ended-for-ever s xs room v (omega arith), e)

-- A state outside the ranges is handed back as given, nothing is taken or written, and the answer is 13.
pub outside-answer : (s : State) (xs : List ℕ) (room : ℕ) → in_range s ≡ false
    → (call s xs room ≡ outside s) × (numbers (call s xs room).answer ≡ 13 ∷ 0 ∷ 0 ∷ [])
unfolding call
outside-answer s xs room e = rw e (refl, refl)
