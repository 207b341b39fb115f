-- The CO2 sum stays a word of 64 bits, whatever is read: each sum is one of two words, and so a word.
-- Assumes nothing.
use Prim.Native.Nat.{ℕ, zero, suc, ◌^◌, ◌≤◌, ◌<◌}
use mathlib.Core.Path.{◌≡◌, refl}
use mathlib.Core.List.{List, ◌++◌}
use mathlib.Core.Logic.{⊎_elim}
use native.Mathlib.Omega.{arith}
use lib.ListN.{length, take, drop, length-drop}
use lib.Dec.{eqb}
use Rattle.base.specs.Signed.{signed_of}
use Rattle.base.proofs.Signed.{signed-mag, word-plus}
use Rattle.base.proofs.Tests.{lt-or-ge, of-choice}
use Rattle.grams.specs.Units.{co2_word, plus_co2}
use Rattle.grams.specs.declared.units.Co2.{Co2}
use Rattle.account.specs.declared.Account.{Account}
use Rattle.account.specs.Sorts.{sort_of}
use Rattle.account.specs.Figures.{figures_of}
use Rattle.account.specs.Judge.{record_row, values_of, refusals, first, Step, accepted, judge}
use Rattle.account.proofs.Sorts.{by-sort}
use Rattle.book.specs.declared.State.{State}
use Rattle.book.specs.Front.{Front, unfinished, bad_length, whole, need, front}
use Rattle.book.specs.State.{held_of}
use Rattle.book.specs.Run.{outcome, book, run}
use Rattle.book.specs.Call.{longest, fits, call}
use Rattle.book.proofs.Fronts.{meaning}
use Rattle.book.proofs.Runs.{book-ended, book-unfinished, book-bad, book-whole}
use Rattle.book.proofs.RunLeaves.{run-leaves}
use Rattle.book.proofs.Calls.{call_at}
use Rattle.image.specs.Image.{Possible}

abbrev Word : Account → Type 0
Word a = co2_word a.sums.co2 < 2 ^ 64

sum-word : (c d : Co2) → co2_word (plus_co2 c d) < 2 ^ 64
sum-word c d = omega (arith, word-plus (signed_of c.0) (signed_of d.0) (signed-mag c.0) (signed-mag d.0))

-- a record
judge-word : (a : Account) (r : List ℕ) → Word a → Word (judge a r).account
unfolding judge accepted
judge-word a r w =
    let more = sum-word a.sums.co2 (figures_of a.heading (record_row r) (values_of r)).co2 in
    of-choice (λ (s : Step). Word s.account) (eqb (first (refusals a r)) 0)
    (λ e. by-sort (λ (s : Step). Word s.account) (sort_of (record_row r)) (λ e. w) (λ e. w) (λ e. more) (λ e. more) (λ e. w))
    (λ e. w)

-- a run
book-word-at : (a : Account) (xs : List ℕ) → a.stage < 2 → Word a
    → ((b : Account) (zs : List ℕ) → length zs < length xs → Word b → Word (book b zs).state.account)
    → (f : Front) → front xs ≡ f → Word (book a xs).state.account
book-word-at a xs k w ih unfinished e = rw (book-unfinished a xs k e) w
book-word-at a xs k w ih bad_length e = rw (book-bad a xs k e) w
book-word-at a xs k w ih whole e =
    let m = meaning xs whole e in
    let r = take (need xs) xs in
    let short : length (drop (need xs) xs) < length xs = rw length-drop (omega arith) in
    rw (book-whole a xs k e) (ih (judge a r).account (drop (need xs) xs) short (judge-word a r w))

book-word-by : (n : ℕ) (a : Account) (xs : List ℕ) → length xs < n → Word a → Word (book a xs).state.account
book-word-by zero a xs h w = absurd (omega arith)
book-word-by (suc n) a xs h w =
    ⊎_elim
    (λ (k : a.stage < 2). book-word-at a xs k w (λ b zs p v. book-word-by n b zs (omega arith) v) (front xs) refl)
    (λ (k : 2 ≤ a.stage). rw (book-ended a xs k) w)
    (lt-or-ge a.stage 2)

run-word : (s : State) (xs : List ℕ) → Word s.account → Word (run s xs).state.account
unfolding run
run-word s xs w = book-word-by (suc (length (held_of s ++ xs))) s.account (held_of s ++ xs) (omega arith) w

-- so from a possible state every call ends in one
pub call-possible : (s : State) (xs : List ℕ) (room : ℕ) → Possible s → Possible (call s xs room).state
call-possible s xs room p =
    let n = longest (fits s xs room) (length xs) in
    let v = p.range in
    rw (call_at s xs room n (outcome (run s (take n xs))) v refl refl)
    (record { range = (run-leaves s (take n xs) v).range; word = run-word s (take n xs) p.word })
