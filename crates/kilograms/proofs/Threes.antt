-- Laws of digits in threes: the first of them, then the space before the others, then these.
-- Assumes nothing.
use Prim.Native.Nat.{ℕ, suc, ◌+◌, ◌-◌, ◌≤◌, ◌<◌}
use native.Mathlib.Omega.{arith}
use mathlib.Core.Path.{◌≡◌, refl, ap, ◌∙◌}
use mathlib.Core.List.{List, [], ◌∷◌, ◌++◌}
use lib.ListN.{length, take, drop, length-drop, drop_of_length-le}
use lib.Seq.{drop-drop, length-take-le}
use Rattle.kilograms.specs.Kilograms.{space_before, in_threes, pointed_before, amount_text}

split : (ds : List ℕ) → 0 < length ds → in_threes ds ≡ take 1 ds ++ (space_before (length ds - 1) ++ in_threes (drop 1 ds))
unfolding in_threes
split [] h = absurd (omega (arith, h))
split (d ∷ ds) h = let e : suc (length ds) - 1 ≡ length ds = omega arith in rw e refl

-- no digits are left
pub threes-none : (ds : List ℕ) (n : ℕ) → n ≡ 0 → in_threes (drop (length ds - n) ds) ≡ []
unfolding in_threes
threes-none ds n e =
    let all : length ds - n ≡ length ds = omega (arith, e) in
    rw all (rw (drop_of_length-le ds {i = length ds} (omega arith)) refl)

-- of the last n, the first
pub threes-last : (ds : List ℕ) (n : ℕ) → (n ≡ 0 → ⊥) → n ≤ length ds
    → in_threes (drop (length ds - n) ds)
    ≡ take 1 (drop (length ds - n) ds) ++ (space_before (n - 1) ++ in_threes (drop (length ds - (n - 1)) ds))
threes-last ds n some h =
    let k = length ds - n in
    let l = length-drop k ds in
    let m : length (drop k ds) ≡ n = omega (arith, l) in
    let j : k + 1 ≡ length ds - (n - 1) = omega arith in
    let after : drop 1 (drop k ds) ≡ drop (length ds - (n - 1)) ds = drop-drop 1 k ds ∙ ap (λ (i : ℕ). drop i ds) j in
    let parts = split (drop k ds) (omega (arith, m)) in
    rw (m, after) at parts

-- all of the first n
pub threes-all : (ds : List ℕ) (n : ℕ) → n ≤ length ds → in_threes (drop (length (take n ds) - n) (take n ds)) ≡ in_threes (take n ds)
threes-all ds n h =
    let l = length-take-le n ds h in
    let e : length (take n ds) - n ≡ 0 = omega (arith, l) in
    rw e refl

-- ---- an amount

pub amount-long : (ds : List ℕ) → 4 ≤ length ds → amount_text ds ≡ pointed_before (length ds - 3) ds
unfolding amount_text
amount-long ds h = let e : 4 - length ds ≡ 0 = omega arith in rw e refl

pub amount-short : (ds : List ℕ) → length ds < 4 → amount_text ds ≡ (48 ∷ 46 ∷ []) ++ (take (3 - length ds) (48 ∷ 48 ∷ 48 ∷ []) ++ ds)
unfolding amount_text in_threes
amount-short [] h = refl
amount-short (a ∷ []) h = refl
amount-short (a ∷ b ∷ []) h = refl
amount-short (a ∷ b ∷ c ∷ []) h = refl
amount-short (a ∷ b ∷ c ∷ d ∷ ds) h = absurd (omega (arith, h))
