-- A number with its decimals is a word.
-- Assumes nothing.
use Prim.Native.Nat.{ℕ, zero, suc, ◌/◌, ◌%◌, ◌≤◌, ◌<◌}
use native.Mathlib.Omega.{arith}
use mathlib.Core.List.{[], ◌∷◌}
use lib.ListN.{length, length-append}
use lib.Dec.{ltb}
use borrow.Author.Tests.{ltb-true, ltb-false}
use Rattle.base.proofs.Tests.{by-test}
use Rattle.printing.specs.Decimal.{digit, decimal, last_digits, without_last, pointed}
use Rattle.printing.proofs.Digits.{decimal-small, decimal-more}
use Rattle.printing.proofs.PointedLength.{decimal-some}
use Rattle.retype.proofs.Words.{Word, word_and}

digit-word : (d : ℕ) → d < 10 → Word (digit d ∷ [])
digit-word d h = ((omega arith, omega arith), tt)

word-by : (f n : ℕ) → n ≤ f → Word (decimal n)
word-by zero n h = rw (decimal-small n (omega arith)) (digit-word n (omega arith))
word-by (suc f) n h =
    by-test (ltb n 10)
    (λ t. rw (decimal-small n (ltb-true n 10 t)) (digit-word n (ltb-true n 10 t)))
    (λ t. let m : 10 ≤ n = ltb-false n 10 t in
    rw (decimal-more n m) (word_and (decimal (n / 10)) (digit (n % 10) ∷ []) (word-by f (n / 10) (omega arith)) (digit-word (n % 10) (omega arith))))

last_word : (d n : ℕ) → Word (last_digits d n)
unfolding last_digits
last_word zero n = tt
last_word (suc d) n = word_and (last_digits d (n / 10)) (digit (n % 10) ∷ []) (last_word d (n / 10)) (digit-word (n % 10) (omega arith))

pub pointed_word : (d n : ℕ) → Word (pointed d n)
unfolding pointed
pointed_word zero n = word-by n n (omega arith)
pointed_word (suc d) n =
    let whole = without_last (suc d) n in
    word_and (decimal whole) (46 ∷ last_digits (suc d) n) (word-by whole whole (omega arith)) ((omega arith, omega arith), last_word (suc d) n)

pub pointed-some : (d n : ℕ) → 0 < length (pointed d n)
unfolding pointed
pointed-some zero n = decimal-some n
pointed-some (suc d) n =
    let whole = decimal (without_last (suc d) n) in
    omega (arith, decimal-some (without_last (suc d) n), length-append whole (46 ∷ last_digits (suc d) n))
