-- A test at every zone, texture and change of table A4-4, which antt computes, and the law that hands it out at one of them. Assumes nothing.
use Rattle.std.proofs.Common.{ℕ, zero, suc, ◌<◌, Bool, true, false, T, le_of_suc-le-suc, not-suc-le-zero}
use Rattle.grams.specs.TillageTable.{PlaceIn}

unfoldable pub both : Bool → Bool → Bool
both true b = b
both false b = false

pub left : (a b : Bool) → T (both a b) → T a
unfolding both
left true b t = tt
left false b t = t

pub right : (a b : Bool) → T (both a b) → T b
unfolding both
right true b t = t
right false b t = absurd t

-- at each number below n
unfoldable pub every : ℕ → (ℕ → Bool) → Bool
every zero f = true
every (suc n) f = both (f zero) (every n (λ k. f (suc k)))

pub at : (n : ℕ) (f : ℕ → Bool) → T (every n f) → (k : ℕ) → k < n → T (f k)
unfolding every
at zero f t k h = absurd (not-suc-le-zero h)
at (suc n) f t zero h = left _ _ t
at (suc n) f t (suc k) h = at n (λ k. f (suc k)) (right _ _ t) k (le_of_suc-le-suc h)

abbrev pub every-place : (ℕ → ℕ → ℕ → Bool) → Bool
every-place f = every 9 (λ z. every 3 (λ t. every 6 (λ n. f (suc z) (suc t) (suc n))))

pub at_place : (f : ℕ → ℕ → ℕ → Bool) → T (every-place f) → (zone texture change : ℕ) → PlaceIn zone texture change → T (f zone texture change)
at_place f c zero texture change i = absurd (not-suc-le-zero i.zone-in.0)
at_place f c (suc z) zero change i = absurd (not-suc-le-zero i.texture-in.0)
at_place f c (suc z) (suc t) zero i = absurd (not-suc-le-zero i.change-in.0)
at_place f c (suc z) (suc t) (suc n) i = at 6 _ (at 3 _ (at 9 _ c z i.zone-in.1) t i.texture-in.1) n i.change-in.1
