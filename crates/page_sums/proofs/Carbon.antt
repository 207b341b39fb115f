-- CO2 of a record, with its sign: how far it moves the sum, and what each kind has.
-- Assumes nothing.
use Prim.Native.Nat.{ℕ, ◌+◌, ◌-◌, ◌*◌, ◌^◌, ◌%◌, ◌≤◌, ◌<◌}
use mathlib.Core.Path.{◌≡◌, refl, sym, ap, ◌∙◌, subst}
use mathlib.Core.List.{List}
use mathlib.Core.Bool.{true, false}
use native.Mathlib.Omega.{arith}
use borrow.Author.Tests.{eqb-true, ltb-true, ltb-false}
use lib.Dec.{eqb, ltb}
use lib.IntN.{ℤ, pos, negsuc, nat_abs, ◌+ℤ◌, +ℤ_idr}
use lib.Signed.{mag}
use Rattle.base.specs.Signed.{word_of, signed_of}
use Rattle.base.proofs.Tests.{by-test, of-choice, no_bool, not-false, or_l}
use Rattle.base.proofs.Signed.{word-plus, word-signed, signed-mag}
use Rattle.codec.specs.Table.{fields, is_row, is_kind}
use Rattle.codec.specs.Codec.{first_bad}
use Rattle.codec.proofs.EachKind.{row-of-kind}
use Rattle.grams.specs.Units.{co2_grams, plus_co2, Co2Within}
use Rattle.grams.specs.declared.units.Co2.{Co2}
use Rattle.grams.proofs.Carbon.{plus-grams}
use Rattle.grams.proofs.farm.Small.{energy-small, energy-grams, soil-small, soil-grams}
use Rattle.account.specs.declared.Account.{Account}
use Rattle.account.specs.declared.Heading.{Heading}
use Rattle.account.specs.Figures.{figures_of}
use Rattle.account.specs.Sorts.{sort_of}
use Rattle.account.specs.Range.{AccountInRange}
use Rattle.account.specs.Told.{Small}
use Rattle.account.specs.Judge.{Step, version_of, kind_byte, record_row, values_of, NotRefused, parts_wrong, first, refusals, accepted, judge}
use Rattle.account.proofs.Sorts.{by-sort}
use Rattle.account.proofs.Details.{DetailKind}
use Rattle.account.proofs.Refusals.{passed, not-refused}
use Rattle.account.proofs.EachFigure.{figures-small}
use Rattle.account.proofs.EachFigure.Energy.{energy-in}
use Rattle.account.proofs.EachFigure.Soil.{soil-in}
use Rattle.account.proofs.Told.{head-most}
use Rattle.page.specs.Bars.{minus8}
use Rattle.page_sums.proofs.OtherKinds.{has_co2, no-carbon, detail-row}

-- ---- words

small_word : (z : ℤ) → mag z < 2 ^ 63 → word_of z < 2 ^ 64
small_word (pos n) h = omega (arith, h)
small_word (negsuc n) h = omega arith

back : (a w : ℕ) → a < 2 ^ 64 → w < 2 ^ 64 → minus8 ((a + w) % 2 ^ 64) a ≡ w
back a w p q =
    by-test (ltb ((a + w) % 2 ^ 64) a)
    (λ t. let h = ltb-true ((a + w) % 2 ^ 64) a t in let e : (a + w) % 2 ^ 64 + (2 ^ 64 - a) ≡ w = omega (arith, h, p, q) in rw t e)
    (λ t. let h = ltb-false ((a + w) % 2 ^ 64) a t in let e : (a + w) % 2 ^ 64 - a ≡ w = omega (arith, h, p, q) in rw t e)

-- the word of a sum
plus-word : (a g : Co2) → a.0 < 2 ^ 64 → (plus_co2 a g).0 ≡ (a.0 + word_of (co2_grams g)) % 2 ^ 64
plus-word a g h =
    rw (word-signed a.0 h) at (word-plus (co2_grams a) (co2_grams g) (signed-mag a.0) (signed-mag g.0))

plus-small : (a g : Co2) → a.0 < 2 ^ 64 → (plus_co2 a g).0 < 2 ^ 64
plus-small a g h = rw (plus-word a g h) (omega arith)

-- what was added to a word
pub added-word : (a g : Co2) → a.0 < 2 ^ 64 → minus8 (plus_co2 a g).0 a.0 ≡ word_of (co2_grams g)
added-word a g h =
    rw (plus-word a g h) (back a.0 (word_of (co2_grams g)) h (small_word (co2_grams g) (signed-mag g.0)))

-- ---- what each kind has

-- CO2 of a record of the kind: none but of those that have it, and below zero of tillage alone
record CarbonOf (kind : ℕ) (g : Co2) : Type 0 where
  none : has_co2 kind ≡ false → co2_grams g ≡ pos 0
  up : eqb kind 9 ≡ false → word_of (co2_grams g) ≤ 10 ^ 13

nothing : (kind : ℕ) (g : Co2) → co2_grams g ≡ pos 0 → CarbonOf kind g
nothing kind g e = record { none = λ t. e; up = λ t. rw e (omega arith) }

rises : (kind n : ℕ) (g : Co2) → has_co2 kind ≡ true → co2_grams g ≡ pos n → Co2Within 1 g → CarbonOf kind g
rises kind n g f e w =
    let most : n ≤ 1 * 10 ^ 13 = rw e at w in
    record { none = λ t. no_bool (sym t ∙ f); up = λ t. rw e (omega (arith, most)) }

module _ (h : Heading) (v : List ℕ) where
  abbrev AtRow : ℕ → Type 0
  AtRow row = first_bad (fields row) v 0 ≡ 0 → CarbonOf row (figures_of h row v).co2

  of-energy : AtRow 6
  unfolding figures_of
  of-energy e = rises 6 _ _ refl (energy-grams (energy-in v e)) (energy-small (energy-in v e))

  of-soil : AtRow 7
  unfolding figures_of
  of-soil e = rises 7 _ _ refl (soil-grams (soil-in v e)) (soil-small (soil-in v e))

  -- with its sign
  of-tillage : AtRow 9
  of-tillage e = record { none = λ t. no_bool (sym t); up = λ t. no_bool (sym t) }

  carbon-of : (row : ℕ) → is_row row ≡ true → DetailKind row → AtRow row
  carbon-of row k d =
      by-test (eqb row 6) (λ t. rw (eqb-true row 6 t) of-energy)
      (λ t6. by-test (eqb row 7) (λ t. rw (eqb-true row 7 t) of-soil)
      (λ t7. by-test (eqb row 9) (λ t. rw (eqb-true row 9 t) of-tillage)
      (λ t9 e. nothing row _ (ap co2_grams (no-carbon h v row k d (rw (t6, t7, t9) refl))))))

-- ---- what an accepted record adds

-- so many grams of CO2, from the account a to b
pub record Moves (kind : ℕ) (a b : Account) : Type 0 where
  pub grams : ℤ
  pub word : minus8 b.sums.co2.0 a.sums.co2.0 ≡ word_of grams
  pub sum : signed_of b.sums.co2.0 ≡ signed_of a.sums.co2.0 +ℤ grams
  pub most : nat_abs grams ≤ 10 ^ 13
  pub small : b.sums.co2.0 < 2 ^ 64
  pub none : has_co2 kind ≡ false → grams ≡ pos 0
  pub up : eqb kind 9 ≡ false → word_of grams ≤ 10 ^ 13
  pub counts : b.records ≡ a.records + 1

module _ (a : Account) (range : AccountInRange a) (small : a.sums.co2.0 < 2 ^ 64) (r : List ℕ) where
  abbrev MovesTo : Step → Type 0
  MovesTo s = Moves (kind_byte r) a s.account

  stays : (b : Account) → b.sums.co2.0 ≡ a.sums.co2.0 → b.records ≡ a.records + 1 → Moves (kind_byte r) a b
  stays b e n =
      record {
        grams = pos 0;
        word = rw e (minus-same a.sums.co2.0);
        sum = rw e (sym (+ℤ_idr (signed_of a.sums.co2.0)));
        most = omega arith;
        small = rw e small;
        none = λ t. refl;
        up = λ t. omega arith;
        counts = n;
      }
    where
      minus-same : (x : ℕ) → minus8 x x ≡ 0
      minus-same x = by-test (ltb x x) (λ t. let h = ltb-true x x t in absurd (omega (arith, h))) (λ t. rw t (omega arith))

  moves : (g : Co2) (b : Account) → Co2Within 1 g → CarbonOf (kind_byte r) g → b.sums.co2 ≡ plus_co2 a.sums.co2 g
      → b.records ≡ a.records + 1 → Moves (kind_byte r) a b
  moves g b w c e n =
      let most = range.started.counted.records-most in
      record {
        grams = co2_grams g;
        word = rw e (added-word a.sums.co2 g small);
        sum = rw e (plus-grams a.sums.co2 g a.records 1 (omega (arith, most)) range.sums.co2 w);
        most = omega (arith, w);
        small = rw e (plus-small a.sums.co2 g small);
        none = c.none;
        up = c.up;
        counts = n;
      }

  module _ (t : NotRefused a r) where
    abbrev k : is_kind (kind_byte r) ≡ true
    k = not-false (is_kind (kind_byte r)) t.kind

    figure-small : DetailKind (record_row r) → Small (figures_of a.heading (record_row r) (values_of r))
    figure-small d =
        figures-small a.heading (values_of r) (head-most a range) (record_row r) (row-of-kind (version_of r) (kind_byte r) k) d
        (passed a (record_row r) (values_of r) t.values).ranges (or_l (parts_wrong (record_row r) (values_of r)) _ t.values.together)

    figure-carbon : DetailKind (record_row r) → CarbonOf (kind_byte r) (figures_of a.heading (record_row r) (values_of r)).co2
    figure-carbon d =
        subst (λ (kind : ℕ). CarbonOf kind (figures_of a.heading (record_row r) (values_of r)).co2) (detail-row r d)
        (carbon-of a.heading (values_of r) (record_row r) (row-of-kind (version_of r) (kind_byte r) k) d
        (passed a (record_row r) (values_of r) t.values).ranges)

  accepted-moves : eqb (first (refusals a r)) 0 ≡ true → MovesTo (accepted a (record_row r) (values_of r))
  unfolding accepted
  accepted-moves e =
      let t = not-refused a r (eqb-true _ _ e) in
      by-sort MovesTo (sort_of (record_row r)) (λ q. stays _ refl refl) (λ q. stays _ refl refl)
      (λ q. moves _ _ (figure-small t (rw q refl)).co2 (figure-carbon t (rw q refl)) refl refl)
      (λ q. moves _ _ (figure-small t (rw q refl)).co2 (figure-carbon t (rw q refl)) refl refl)
      (λ q. stays _ refl refl)

  pub judge-moves : ((judge a r).account.stage ≡ 3 → ⊥) → MovesTo (judge a r)
  unfolding judge
  judge-moves n =
      of-choice (λ (s : Step). (s.account.stage ≡ 3 → ⊥) → MovesTo s) (eqb (first (refusals a r)) 0) (λ e m. accepted-moves e)
      (λ e m. absurd (m refl)) n
