-- Laws of table A4-4, most of them a test over all its places that antt computes: the mirror rule and its exceptions give the print, each exception
-- differs from the mirror rule, how the code finds a pair, its sign and its bounds. Assumes nothing.
use Rattle.std.proofs.Common.{◌≡◌, ℕ, ◌+◌, ◌-◌, ◌*◌, ◌%◌, ◌<◌, ◌≤◌, Bool, false, T, eqb, ltb, leb, ◌≢◌, ℤ, pos, negsuc, neg_ℤ, nat_abs, refl, ap, arith, eqb→eq, leb→le, le-ltb, lt-ltb, eq-eqb, ne_eqb}
use borrow.Author.Tests.{eqb-false}
use Rattle.base.specs.Choice.{pick}
use Rattle.grams.specs.declared.tillage_table.Entry.{Entry}
use Rattle.grams.specs.TillageTable.{Pair, PlaceIn, less_tillage, less_of, EachDiffers, exceptions, pair_of, printed, printed_at}
use Rattle.grams.specs.Tillage.{entry_of}
use Rattle.grams.proofs.Places.{both, left, right, every, every-place, at_place}

sameℤ : ℤ → ℤ → Bool
sameℤ (pos a) (pos b) = eqb a b
sameℤ (pos a) (negsuc b) = false
sameℤ (negsuc a) (pos b) = false
sameℤ (negsuc a) (negsuc b) = eqb a b

sameℤ-is : (a b : ℤ) → T (sameℤ a b) → a ≡ b
unfolding sameℤ
sameℤ-is (pos a) (pos b) t = let e : a ≡ b = eqb→eq a b t in rw e refl
sameℤ-is (pos a) (negsuc b) t = absurd t
sameℤ-is (negsuc a) (pos b) t = absurd t
sameℤ-is (negsuc a) (negsuc b) t = let e : a ≡ b = eqb→eq a b t in rw e refl

-- ---- as printed

abbrev pair : ℤ → ℕ → Pair
pair lum k = record { lum = lum; k = k }

same : Pair → Pair → Bool
same a b = both (sameℤ a.lum b.lum) (eqb a.k b.k)

same-is : (a b : Pair) → T (same a b) → a ≡ b
unfolding same
same-is a b t = parts (sameℤ-is _ _ (left _ _ t)) (eqb→eq _ _ (right _ _ t))
  where
    parts : a.lum ≡ b.lum → a.k ≡ b.k → pair a.lum a.k ≡ pair b.lum b.k
    parts e f = cc

at-print : ℕ → ℕ → ℕ → Bool
at-print zone texture change = same (pair_of zone texture change) (printed_at zone texture change)

all-printed : T (every-place at-print)
unfolding both every sameℤ same at-print pair_of less_of less_tillage printed
all-printed = tt

pub as-printed : (zone texture change : ℕ) → PlaceIn zone texture change → pair_of zone texture change ≡ printed_at zone texture change
unfolding at-print
as-printed zone texture change i = same-is _ _ (at_place at-print all-printed zone texture change i)

-- ---- the exceptions

-- Each exception that is listed differs from the mirror rule: here by its k.
pub exceptions-differ : EachDiffers exceptions
unfolding less_of less_tillage
exceptions-differ = ((λ e. other-k 219 131 refl (ap (λ (p : Pair). p.k) e)), ((λ e. other-k 310 106 refl (ap (λ (p : Pair). p.k) e)), tt))
  where
    other-k : (a b : ℕ) → eqb a b ≡ false → a ≡ b → ⊥
    other-k a b n = eqb-false a b n

-- ---- as the code finds it

abbrev pub place_of : ℕ → ℕ → ℕ → ℕ
place_of zone texture change = zone * 100 + texture * 10 + change

abbrev entry : ℕ → ℕ → Entry
entry lum k = (lum, k)

found : ℕ → ℕ → ℕ → Entry
found zone texture change =
    pick (eqb (place_of zone texture change) 825) (entry 1256 219)
    (pick (eqb (place_of zone texture change) 835) (entry 441 310) (entry_of (less_of zone texture ((change - 1) % 3 + 1))))

same_entry : Entry → Entry → Bool
same_entry a b = both (eqb a.0 b.0) (eqb a.1 b.1)

same-entry-is : (a b : Entry) → T (same_entry a b) → a ≡ b
unfolding same_entry
same-entry-is a b t = parts (eqb→eq _ _ (left _ _ t)) (eqb→eq _ _ (right _ _ t))
  where
    parts : a.0 ≡ b.0 → a.1 ≡ b.1 → entry a.0 a.1 ≡ entry b.0 b.1
    parts e f = cc

at_code : ℕ → ℕ → ℕ → Bool
at_code zone texture change = same_entry (found zone texture change) (entry_of (pair_of zone texture change))

all_found : T (every-place at_code)
unfolding both every same_entry found at_code pair_of less_of less_tillage
all_found = tt

other : (n : ℕ) → n ≡ 835 → n ≢ 825
other n e f = omega arith

module _ {zone texture change : ℕ} (i : PlaceIn zone texture change) where
  found-is : found zone texture change ≡ entry_of (pair_of zone texture change)
  unfolding at_code
  found-is = same-entry-is _ _ (at_place at_code all_found zone texture change i)

  pub pacific-medium : place_of zone texture change ≡ 825 → entry 1256 219 ≡ entry_of (pair_of zone texture change)
  unfolding found
  pacific-medium e = rw (eq-eqb _ _ e) at found-is

  pub pacific-fine : place_of zone texture change ≡ 835 → entry 441 310 ≡ entry_of (pair_of zone texture change)
  unfolding found
  pacific-fine e = rw (ne_eqb _ _ (other _ e), eq-eqb _ _ e) at found-is

  pub no-exception : place_of zone texture change ≢ 825 → place_of zone texture change ≢ 835
      → entry_of (less_of zone texture ((change - 1) % 3 + 1)) ≡ entry_of (pair_of zone texture change)
  unfolding found
  no-exception n m = rw (ne_eqb _ _ n, ne_eqb _ _ m) at found-is

-- ---- sign and bounds

-- above zero for the changes 1 to 3, below it for 4 to 6
abbrev on_side : ℕ → ℕ → ℤ
on_side change lum = pick (ltb change 4) (pos lum) (neg_ℤ (pos lum))

at_sign : ℕ → ℕ → ℕ → Bool
at_sign zone texture change =
    let lum = (pair_of zone texture change).lum in sameℤ lum (on_side change (nat_abs lum))

all-signed : T (every-place at_sign)
unfolding both every sameℤ at_sign pair_of less_of less_tillage
all-signed = tt

at_bounds : ℕ → ℕ → ℕ → Bool
at_bounds zone texture change = let p = pair_of zone texture change in both (leb (nat_abs p.lum) 1570) (leb p.k 403)

all-bounded : T (every-place at_bounds)
unfolding both every at_bounds pair_of less_of less_tillage
all-bounded = tt

-- the same of the changes towards less tillage by themselves
at-less-bounds : ℕ → ℕ → ℕ → Bool
at-less-bounds zone texture change = let p = less_of zone texture change in both (leb (nat_abs p.lum) 1570) (leb p.k 403)

all-less-bounded : T (every-place at-less-bounds)
unfolding both every at-less-bounds less_of less_tillage
all-less-bounded = tt

module _ {zone texture change : ℕ} (i : PlaceIn zone texture change) where
  pub less-lum-most : nat_abs (less_of zone texture change).lum ≤ 1570
  unfolding at-less-bounds
  less-lum-most = leb→le _ _ (left _ _ (at_place at-less-bounds all-less-bounded zone texture change i))

  pub less-k-most : (less_of zone texture change).k ≤ 403
  unfolding at-less-bounds
  less-k-most = leb→le _ _ (right _ _ (at_place at-less-bounds all-less-bounded zone texture change i))

  signed : (pair_of zone texture change).lum ≡ on_side change (nat_abs (pair_of zone texture change).lum)
  unfolding at_sign
  signed = sameℤ-is _ _ (at_place at_sign all-signed zone texture change i)

  pub less-gains : change < 4 → (pair_of zone texture change).lum ≡ pos (nat_abs (pair_of zone texture change).lum)
  less-gains h = rw (lt-ltb change 4 h) at signed

  pub back-loses : 4 ≤ change → (pair_of zone texture change).lum ≡ neg_ℤ (pos (nat_abs (pair_of zone texture change).lum))
  back-loses h = rw (le-ltb change 4 h) at signed

  pub lum-most : nat_abs (pair_of zone texture change).lum ≤ 1570
  unfolding at_bounds
  lum-most = leb→le _ _ (left _ _ (at_place at_bounds all-bounded zone texture change i))

  pub k-most : (pair_of zone texture change).k ≤ 403
  unfolding at_bounds
  k-most = leb→le _ _ (right _ _ (at_place at_bounds all-bounded zone texture change i))
