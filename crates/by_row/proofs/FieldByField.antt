-- A record of any row, field by field: what a turn of each loop does, over any row of fields.
-- Assumes nothing.
use mathlib.Core.Path.{◌≡◌, refl, ap, ◌∙◌}
use mathlib.Core.Bool.{Bool, true, false}
use mathlib.Core.List.{List, ◌++◌}
use Prim.Native.Nat.{ℕ, zero, suc, ◌+◌, ◌-◌, ◌<◌, ◌≤◌}
use native.Mathlib.Omega.{arith}
use native.Mathlib.Nat.{zero-add}
use native.Mathlib.Numerals.{add-one}
use borrow.Author.Tests.{le-leb, lt-leb}
use Rattle.std.specs.Prelude.{None, Some}
use lib.ListN.{length, get_or, set, drop, replicate, drop_of_length-le}
use lib.Seq.{sets, sets-eq, drop-cons}
use Rattle.base.specs.Choice.{pick}
use Rattle.codec.specs.declared.Field.{Field}
use Rattle.codec.specs.Table.{size}
use Rattle.codec.specs.Codec.{val_at, be, values_at, in_twelve, bytes_of, first_bad, as_position}
use Rattle.codec.proofs.Stores.{put_then}
use Rattle.codec.proofs.Within.{none}

-- the answer of a position
pub some_at : (i : ℕ) {n : ℕ} → i + 1 ≡ n → Some (i + 1) ≡ as_position n
some_at i e = rw (← e, add-one) refl

pub none_at : {n : ℕ} → 0 ≡ n → None ≡ as_position n
none_at e = rw (← e) refl

-- and back: one that is given is the position itself, and not 0
pub position_given : {i : ℕ} (n : ℕ) → Some i ≡ as_position n → (i ≡ n) × (i ≡ 0 → ⊥)
position_given {i} zero e = let z : ◌≡◌ {A = ℕ} 0 1 = cc in absurd (omega arith)
position_given {i} (suc n) e = let same : i ≡ suc n = cc in (same, λ z. absurd (omega arith))

pub no_position : (n : ℕ) → None ≡ as_position n → n ≡ 0
no_position zero e = refl
no_position (suc n) e = let z : ◌≡◌ {A = ℕ} 0 1 = cc in absurd (omega arith)

either : (b : Bool) (n : ℕ) → pick b n n ≡ n
either true n = refl
either false n = refl

-- ---- the fields that are left, from i on

module _ (fs : List Field) (i : ℕ) (h : i < length fs) where
  -- their bytes
  pub size-left : size (drop i fs) ≡ (get_or fs i none).0 + size (drop (i + 1) fs)
  unfolding size
  size-left = rw (drop-cons fs i none h, add-one)

  module _ {w : ℕ} (e : w ≡ (get_or fs i none).0) where
    -- reading the next
    pub read-turn : (s v : List ℕ) (p : ℕ)
        → sets (set v i (val_at s p w)) (i + 1) (values_at (drop (i + 1) fs) s (p + w)) ≡ sets v i (values_at (drop i fs) s p)
    unfolding values_at
    read-turn s v p = rw (e, drop-cons fs i none h, add-one)

    -- storing the next
    pub put-turn : (v out : List ℕ) (p : ℕ)
        → sets (sets out p (be w (get_or v i 0))) (p + w) (bytes_of (drop (i + 1) fs) v (i + 1)) ≡ sets out p (bytes_of (drop i fs) v i)
    unfolding bytes_of
    put-turn v out p = put_then w (get_or v i 0) p out (bytes_of (drop (i + 1) fs) v (i + 1)) ∙ rw (e, drop-cons fs i none h, add-one)

  -- testing the next
  module _ (v : List ℕ) where
    pub below : get_or v i 0 < (get_or fs i none).1 → i + 1 ≡ first_bad (drop i fs) v i
    unfolding first_bad
    below l = rw (drop-cons fs i none h, lt-leb _ _ l, add-one)

    pub above : (get_or fs i none).2 < get_or v i 0 → i + 1 ≡ first_bad (drop i fs) v i
    unfolding first_bad
    above l = rw (drop-cons fs i none h, lt-leb _ _ l, either, add-one)

    pub within : (get_or fs i none).1 ≤ get_or v i 0 → get_or v i 0 ≤ (get_or fs i none).2
        → first_bad (drop (i + 1) fs) v (i + 1) ≡ first_bad (drop i fs) v i
    unfolding first_bad
    within l m = rw (drop-cons fs i none h, le-leb _ _ l, le-leb _ _ m, add-one)

-- ---- no field is left

module _ (fs : List Field) (i : ℕ) (h : length fs ≤ i) where
  pub all_read : (s v : List ℕ) (p : ℕ) → sets v i (values_at (drop i fs) s p) ≡ v
  unfolding values_at
  all_read s v p = rw (drop_of_length-le fs h)

  pub all-put : (v out : List ℕ) (p : ℕ) → sets out p (bytes_of (drop i fs) v i) ≡ out
  unfolding bytes_of
  all-put v out p = rw (drop_of_length-le fs h)

  pub all-within : (v : List ℕ) → first_bad (drop i fs) v i ≡ 0
  unfolding first_bad
  all-within v = rw (drop_of_length-le fs h)

-- ---- values stored into twelve zeros

rest-zero : (n m : ℕ) → drop {A = ℕ} n (replicate m 0) ≡ replicate (m - n) 0
rest-zero zero m = let e : m - 0 ≡ m = omega arith in rw e
rest-zero (suc n) zero = let e : 0 - suc n ≡ 0 = omega arith in rw e
rest-zero (suc n) (suc m) = let e : suc m - suc n ≡ m - n = omega arith in rw e (rest-zero n m)

pub in-twelve : (v : List ℕ) → length v ≤ 12 → sets {A = ℕ} (replicate 12 0) 0 v ≡ in_twelve v
in-twelve v h = sets-eq v (replicate 12 0) 0 (omega arith) ∙ rw zero-add (ap (λ (l : List ℕ). v ++ l) (rest-zero (length v) 12))
