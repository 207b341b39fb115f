-- Which kinds have CO2, which the page shows as sources, and what the figures of all others are: computed of each row of the table, so that a further
-- kind is computed with them. And the rows of details are their kinds.
-- Assumes nothing.
use Prim.Native.Nat.{ℕ, zero, suc}
use mathlib.Core.Path.{◌≡◌, refl, ap}
use mathlib.Core.List.{List, [], ◌∷◌}
use mathlib.Core.Bool.{Bool, true, false, ◌&&◌, ◌||◌, not}
use lib.Dec.{eqb}
use lib.ListN.{get_or, drop, replicate}
use Rattle.base.specs.Choice.{pick}
use Rattle.base.proofs.Tests.{by-test, no_bool}
use Rattle.codec.specs.Table.{last_row, is_row}
use Rattle.codec.proofs.EachKind.{EachFrom, each_row}
use Rattle.grams.specs.Units.{no_co2}
use Rattle.account.specs.declared.Heading.{Heading}
use Rattle.account.specs.declared.sort.Sort.TheVariants.{OfGroup, OfFarm}
use Rattle.account.specs.Figures.{figures_of}
use Rattle.account.specs.Sorts.{sort_of, by_sort, is_of_group}
use Rattle.account.specs.Judge.{version_of, kind_byte, record_row}
use Rattle.account.proofs.Details.{DetailKind}

-- ---- the kinds that are named

-- energy, organic soil and tillage have CO2
abbrev pub has_co2 : ℕ → Bool
has_co2 k = eqb k 6 || (eqb k 7 || eqb k 9)

-- the seven that are rows of the sources
abbrev pub is_source : ℕ → Bool
is_source k = eqb k 3 || (eqb k 4 || (eqb k 5 || (eqb k 10 || has_co2 k)))

-- ---- a test of all rows

-- what f is at n numbers, from i on
abbrev values_from : {A : Type 0} → (ℕ → A) → ℕ → ℕ → List A
values_from f i zero = []
values_from f i (suc n) = f i ∷ values_from f (suc i) n

each_same : {A : Type 0} (f : ℕ → A) (z : A) (n i : ℕ) → values_from f i n ≡ replicate n z → EachFrom (λ k. f k ≡ z) i n
each_same f z zero i e = tt
each_same f z (suc n) i e = (ap (λ l. get_or l 0 z) e, each_same f z n (suc i) (ap (λ l. drop 1 l) e))

-- what is z at each row for which a test holds, as computed, is z at every such row
where-tested : {A : Type 0} (test : ℕ → Bool) (f : ℕ → A) (z : A) → values_from (λ k. pick (test k) (f k) z) 1 last_row ≡ replicate last_row z
    → (k : ℕ) → is_row k ≡ true → test k ≡ true → f k ≡ z
where-tested test f z e k r t = rw t at (each_row (λ k. pick (test k) (f k) z ≡ z) (each_same (λ k. pick (test k) (f k) z) z last_row 1 e) k r)

-- ---- the figures of the others

module _ (h : Heading) (v : List ℕ) where
  -- no CO2
  pub no-carbon : (k : ℕ) → is_row k ≡ true → DetailKind k → has_co2 k ≡ false → (figures_of h k v).co2 ≡ no_co2
  unfolding sort_of figures_of
  no-carbon k r d n =
      where-tested (λ k. by_sort (sort_of k) false false true true false && not (has_co2 k)) (λ k. (figures_of h k v).co2)
      no_co2 refl k r (rw (d, n) refl)

  -- no grazing where it is the farm's
  pub none-grazed : (k : ℕ) → is_row k ≡ true → sort_of k ≡ OfFarm → (figures_of h k v).grazing.0 ≡ 0
  unfolding sort_of figures_of
  none-grazed k r q =
      where-tested (λ k. by_sort (sort_of k) false false false true false) (λ k. (figures_of h k v).grazing.0) 0 refl k r (rw q refl)

-- a detail of the group is one of the sources
pub group-source : (k : ℕ) → is_row k ≡ true → sort_of k ≡ OfGroup → is_source k ≡ true
unfolding sort_of
group-source k r q = where-tested is_of_group is_source true refl k r (rw q refl)

-- ---- the row of a detail

pub detail-row : (r : List ℕ) → DetailKind (record_row r) → record_row r ≡ kind_byte r
unfolding sort_of
detail-row r d = by-test (eqb (version_of r) 2 && eqb (kind_byte r) 1) (λ t. no_bool (rw t at d)) (λ t. rw t refl)
