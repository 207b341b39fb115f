-- What holds of the table itself: one test over all its rows, which antt computes. A row that stands beside the table is tested alike.
-- Assumes nothing.
use mathlib.Core.Path.{◌≡◌, refl}
use mathlib.Core.Bool.{Bool, true, false, ◌||◌}
use mathlib.Core.List.{List, [], ◌∷◌}
use Prim.Native.Nat.{ℕ, zero, suc, ◌+◌, ◌<◌, ◌≤◌}
use native.Mathlib.Omega.{arith}
use mathlib.Core.Logic.{◌⊎◌, inl, inr}
use borrow.Author.Tests.{eqb-true}
use lib.Dec.{T, leb, ltb, eqb, leb→le, ltb→lt}
use lib.ListN.{length, get_or}
use Rattle.base.specs.Choice.{pick}
use Rattle.codec.specs.declared.Field.{Field}
use Rattle.codec.specs.Table.{table, fields, field_at, size, length_of, length_most_lem}
use Rattle.codec.specs.Codec.{Fit, bytes_hold, first_bad, IsWidth}
use Rattle.codec.proofs.Within.{none, first-within}

-- ---- the test

-- the range is not empty, and its highest value fits the field's bytes
unfoldable pub right-field : Field → Bool
right-field f = pick (leb f.1 f.2) (ltb f.2 (bytes_hold f.0)) false

unfoldable pub right-row : List Field → Bool
right-row [] = true
right-row (f ∷ fs) = pick (right-field f) (right-row fs) false

-- with version and kind the fields take no more bytes than the highest length
short_row : List Field → Bool
short_row r = leb (2 + size r) length_most_lem

-- no more than twelve fields, each of one byte, two or four
few-row : List Field → Bool
few-row r = leb (length r) 12

narrow-field : Field → Bool
narrow-field f = eqb f.0 1 || (eqb f.0 2 || eqb f.0 4)

narrow-row : List Field → Bool
narrow-row [] = true
narrow-row (f ∷ fs) = pick (narrow-field f) (narrow-row fs) false

every : (List Field → Bool) → List (List Field) → Bool
every p [] = true
every p (r ∷ t) = pick (p r) (every p t) false

-- THE TEST: antt computes it
checked : T (every right-row table) × T (every short_row table) × T (every few-row table) × T (every narrow-row table)
unfolding right-field right-row short_row few-row narrow-field narrow-row every table bytes_hold size
checked = (tt, tt, tt, tt)

-- ---- what follows from it at each row

both_left : (a b : Bool) → T (pick a b false) → T a
both_left true b t = tt
both_left false b t = t

both_right : (a b : Bool) → T (pick a b false) → T b
both_right true b t = t
both_right false b t = absurd t

row_at : (p : List Field → Bool) → T (p []) → (t : List (List Field)) → T (every p t) → (k : ℕ) → T (p (get_or t k []))
unfolding every
row_at p e [] h k = e
row_at p e (r ∷ t) h zero = both_left (p r) (every p t) h
row_at p e (r ∷ t) h (suc k) = row_at p e t (both_right (p r) (every p t) h) k

right-at : (k : ℕ) → T (right-row (fields k))
unfolding right-row
right-at = row_at right-row tt table checked.0

-- no record has a higher length
pub length_most : (kind : ℕ) → length_of kind ≤ length_most_lem
unfolding short_row size
length_most kind = leb→le (length_of kind) length_most_lem (row_at short_row tt table checked.1 kind)

-- no record has more than twelve values
pub fields-few : (kind : ℕ) → length (fields kind) ≤ 12
unfolding few-row
fields-few kind = leb→le (length (fields kind)) 12 (row_at few-row tt table checked.2 kind)

one-two-four : (w : ℕ) (a b c : Bool) → eqb w 1 ≡ a → eqb w 2 ≡ b → eqb w 4 ≡ c → T (a || (b || c)) → (w ≡ 1) ⊎ ((w ≡ 2) ⊎ (w ≡ 4))
one-two-four w true b c p q r t = inl (eqb-true w 1 p)
one-two-four w false true c p q r t = inr (inl (eqb-true w 2 q))
one-two-four w false false true p q r t = inr (inr (eqb-true w 4 r))
one-two-four w false false false p q r t = absurd t

narrow_at : (fs : List Field) → T (narrow-row fs) → (i : ℕ) → i < length fs
    → ((get_or fs i none).0 ≡ 1) ⊎ (((get_or fs i none).0 ≡ 2) ⊎ ((get_or fs i none).0 ≡ 4))
unfolding narrow-row narrow-field
narrow_at [] t i h = absurd (omega arith)
narrow_at (f ∷ fs) t zero h =
    one-two-four f.0 (eqb f.0 1) (eqb f.0 2) (eqb f.0 4) refl refl refl (both_left (narrow-field f) (narrow-row fs) t)
narrow_at (f ∷ fs) t (suc i) h = narrow_at fs (both_right (narrow-field f) (narrow-row fs) t) i (omega arith)

-- each of its fields has one byte, two or four
pub narrow : (kind i : ℕ) → i < length (fields kind) → ((field_at kind i).0 ≡ 1) ⊎ (((field_at kind i).0 ≡ 2) ⊎ ((field_at kind i).0 ≡ 4))
unfolding narrow-row
narrow kind = narrow_at (fields kind) (row_at narrow-row tt table checked.3 kind)

-- a width
four-widths : {w : ℕ} → (w ≡ 1) ⊎ ((w ≡ 2) ⊎ (w ≡ 4)) → IsWidth w
four-widths (inl e) = inl e
four-widths (inr (inl e)) = inr (inl e)
four-widths (inr (inr e)) = inr (inr (inl e))

pub is_width : (kind i : ℕ) → i < length (fields kind) → IsWidth (field_at kind i).0
is_width kind i h = four-widths (narrow kind i h)

-- values in the ranges of a right row fit their bytes
pub fit_row : (fs : List Field) → T (right-row fs) → (vs : List ℕ) (i : ℕ) → first_bad fs vs i ≡ 0 → Fit fs vs i
unfolding right-row right-field
fit_row [] t vs i p = tt
fit_row (f ∷ fs) t vs i p =
    let o = first-within f fs vs i p in
    let highest : f.2 < bytes_hold f.0 =
    ltb→lt _ _ (both_right (leb f.1 f.2) (ltb f.2 (bytes_hold f.0)) (both_left (right-field f) (right-row fs) t)) in (
      omega (arith, o.0.below),
      fit_row fs (both_right (right-field f) (right-row fs) t) vs (suc i) o.1,
    )

-- and so do those of a kind
pub fit-kind : (vs : List ℕ) (kind : ℕ) → first_bad (fields kind) vs 0 ≡ 0 → Fit (fields kind) vs 0
fit-kind vs kind = fit_row (fields kind) (right-at kind) vs 0
