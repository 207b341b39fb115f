-- Laws of the whole records of some bytes.
-- Assumes nothing.
use Prim.Native.Nat.{ℕ, zero, suc, ◌<◌}
use mathlib.Core.Path.{◌≡◌, refl, ap}
use mathlib.Core.List.{List, ◌∷◌}
use native.Mathlib.Omega.{arith}
use lib.ListN.{length, take, drop, length-drop}
use Rattle.book.specs.Front.{Front, unfinished, bad_length, whole, need, front}
use Rattle.book.specs.WholeRecords.{begins_with, records_by, records_of}
use Rattle.book.proofs.Fronts.{meaning}

-- what stands behind the first record is shorter
pub rest-short : (xs : List ℕ) (n : ℕ) → front xs ≡ whole → length xs < suc n → length (drop (need xs) xs) < n
rest-short xs n e h = let m = meaning xs whole e in rw length-drop (omega arith)

same-begin : (f : Front) (xs : List ℕ) (p q : List (List ℕ)) → (f ≡ whole → p ≡ q) → begins_with f xs p ≡ begins_with f xs q
same-begin unfinished xs p q h = refl
same-begin bad_length xs p q h = refl
same-begin whole xs p q h = ap (λ (l : List (List ℕ)). take (need xs) xs ∷ l) (h refl)

enough : (n m : ℕ) (xs : List ℕ) → length xs < n → length xs < m → records_by n xs ≡ records_by m xs
unfolding records_by
enough zero m xs p q = absurd (omega arith)
enough (suc n) zero xs p q = absurd (omega arith)
enough (suc n) (suc m) xs p q =
    same-begin (front xs) xs (records_by n (drop (need xs) xs)) (records_by m (drop (need xs) xs))
    (λ e. enough n m (drop (need xs) xs) (rest-short xs n e p) (rest-short xs m e q))

pub records-whole : (xs : List ℕ) → front xs ≡ whole → records_of xs ≡ take (need xs) xs ∷ records_of (drop (need xs) xs)
unfolding records_of records_by
records-whole xs e =
    rw e
    (ap (λ (l : List (List ℕ)). take (need xs) xs ∷ l)
    (enough (length xs) (suc (length (drop (need xs) xs))) (drop (need xs) xs) (rest-short xs (length xs) e (omega arith)) (omega arith)))
