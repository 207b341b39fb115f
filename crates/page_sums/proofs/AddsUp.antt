-- Theorem: each of the three tables on the page of a closed book adds up to the total line, and so do the columns of the groups and of the sources.
-- Assumes nothing.
use Prim.Native.Nat.{ℕ, ◌+◌, ◌*◌}
use mathlib.Core.Path.{◌≡◌, refl, sym, ap, ◌∙◌}
use mathlib.Core.List.{List, [], ◌∷◌, map}
use mathlib.Core.Bool.{true, false}
use native.Mathlib.Omega.{arith}
use native.Mathlib.Nat.{mul-zero}
use borrow.Author.Tests.{eqb-true}
use lib.IntN.{ℤ, pos, ◌+ℤ◌, +ℤ_assoc, +ℤ_comm, +ℤ_idr}
use Rattle.base.specs.Signed.{word_of, signed_of}
use Rattle.base.proofs.Signed.{word-signed}
use Rattle.base.proofs.Tests.{by-test, or_l, or_r}
use Rattle.account.specs.declared.Account.{Account}
use Rattle.account.specs.Range.{AccountInRange}
use Rattle.page.specs.declared.Source.{Source}
use Rattle.page.specs.declared.Sum.{Sum}
use Rattle.page.specs.Bars.{no_step}
use Rattle.page.specs.Figures.{last_of, warmed, group_step, sum_of, source_of, sources_of, survey_of, of_farm}
use Rattle.page_sums.specs.Tables.{Bar, groups_of, group_bar, group_bars, farm_bar, source_rows, source_bar, source_bars, sum_by, signed_by}
use Rattle.page_sums.specs.AddsUp.{GroupsAdd, SourcesAdd, GasesAdd, AddsUp}
use Rattle.page_sums.proofs.Columns.{signed-append, signed-plain, grows-sum, grows-signed}
use Rattle.page_sums.proofs.Plain.{plainly, warmed-plain, all_plain, all_most, step-plain, total-plain}
use Rattle.page_sums.proofs.GroupWalk.{last-range, groups-make}
use Rattle.page_sums.proofs.SourceWalk.{seven, Made, sources-make}
use Rattle.page_sums.proofs.SourceBars.{bars_from, gases_of, co2e_by, six_co2e, six-sum, six-grow, till-signed}

abbrev of_co2e : Bar → ℕ
of_co2e b = b.co2e

-- ---- whole numbers that are added in another order

group-total : (w : ℕ) (z : ℤ) → pos w +ℤ (z +ℤ pos 0) ≡ z +ℤ pos w
group-total w z = ap (λ (y : ℤ). pos w +ℤ y) (+ℤ_idr z) ∙ +ℤ_comm (pos w) z

source-total : (a w c t : ℕ) (z : ℤ) → a + w ≡ c + t → pos a +ℤ (pos w +ℤ z +ℤ pos 0) ≡ pos c +ℤ z +ℤ pos t
source-total a w c t z e =
    ap (λ (y : ℤ). pos a +ℤ y) (+ℤ_idr (pos w +ℤ z))
    ∙ sym (+ℤ_assoc (pos a) (pos w) z)
    ∙ ap (λ (n : ℕ). pos n +ℤ z) e
    ∙ +ℤ_assoc (pos c) (pos t) z
    ∙ ap (λ (y : ℤ). pos c +ℤ y) (+ℤ_comm (pos t) z)
    ∙ sym (+ℤ_assoc (pos c) z (pos t))

gas-total : (m o g t : ℕ) (z : ℤ) → m + o + g ≡ t → pos m +ℤ (pos o +ℤ (z +ℤ (pos g +ℤ pos 0))) ≡ z +ℤ pos t
gas-total m o g t z e =
    let f : m + (o + (g + 0)) ≡ t = omega (arith, e) in
    ap (λ (y : ℤ). pos m +ℤ (pos o +ℤ y)) (+ℤ_comm z (pos (g + 0)))
    ∙ ap (λ (y : ℤ). pos m +ℤ y) (sym (+ℤ_assoc (pos o) (pos (g + 0)) z))
    ∙ sym (+ℤ_assoc (pos m) (pos (o + (g + 0))) z)
    ∙ ap (λ (n : ℕ). pos n +ℤ z) f
    ∙ +ℤ_comm (pos t) z

-- ---- of a book

module _ (xs : List ℕ) where
  abbrev last : Account
  last = last_of xs

  abbrev range : AccountInRange last
  range = last-range xs

  abbrev made : Made (λ k. sum_of k xs) last
  made = sources-make xs

  -- the farm has no CO2 where it has no row
  pub none-of-farm : of_farm (survey_of xs) ≡ false → last.sums.co2.0 ≡ 0
  unfolding survey_of sources_of source_of
  none-of-farm t =
      let c = made.carbons in
      let e6 = c.energy-none (or_l (sum_of 6 xs).seen _ t) in
      let e7 = c.soil-none (or_l (sum_of 7 xs).seen _ (or_r (sum_of 6 xs).seen _ t)) in
      let e9 = c.tillage-none (or_r (sum_of 7 xs).seen _ (or_r (sum_of 6 xs).seen _ t)) in
      let none : pos ((sum_of 6 xs).co2 + (sum_of 7 xs).co2) +ℤ signed_of (sum_of 9 xs).co2 ≡ pos 0 = rw (e6, e7, e9) refl in
      sym (word-signed last.sums.co2.0 c.all) ∙ ap word_of (c.sum ∙ none)

  -- ---- the groups

  module _ (e : last.stage ≡ 2) where
    groups-signed : signed_by of_co2e (map group_bar (groups_of xs)) ≡ pos (all_plain last range)
    groups-signed =
        let g = (groups-make xs e).bars in
        let s = grows-sum no_step (map group_bar (groups_of xs)) (group_step last) g in
        let n : sum_by of_co2e (map group_bar (groups_of xs)) ≡ all_plain last range = omega (arith, s, step-plain last range) in
        grows-signed no_step (map group_bar (groups_of xs)) (group_step last) g ∙ ap pos n

    groups-co2e : signed_by of_co2e (group_bars xs) ≡ signed_of (survey_of xs).total
    unfolding survey_of signed_by
    groups-co2e =
        let s = survey_of xs in
        by-test (of_farm s)
        (λ t. rw t
        (signed-append of_co2e (map group_bar (groups_of xs)) (farm_bar s ∷ [])
        ∙ ap (λ (z : ℤ). z +ℤ (signed_of last.sums.co2.0 +ℤ pos 0)) groups-signed
        ∙ group-total (all_plain last range) (signed_of last.sums.co2.0)
        ∙ sym (total-plain last range)))
        (λ t. rw t
        (signed-append of_co2e (map group_bar (groups_of xs)) []
        ∙ ap (λ (z : ℤ). z +ℤ pos 0) groups-signed
        ∙ +ℤ_comm (pos (all_plain last range)) (pos 0)
        ∙ ap (λ (n : ℕ). signed_of n +ℤ pos (all_plain last range)) (sym (none-of-farm t))
        ∙ sym (total-plain last range)))

    groups-add : GroupsAdd xs (survey_of xs)
    unfolding survey_of
    groups-add =
        let g = groups-make xs e in
        record { ch4 = g.ch4; n2o = g.n2o; excreted = g.excreted; land = g.land; grazing = g.grazing; co2e = groups-co2e }

  -- ---- the sources

  abbrev sum : ℕ → Sum
  sum k = sum_of k xs

  sources-co2 : signed_by (λ (x : Source). x.co2) (source_rows (survey_of xs).sources) ≡ signed_of (survey_of xs).co2
  unfolding survey_of sources_of source_of signed_by
  sources-co2 =
      let c = made.carbons in
      let few = range.started.counted.records-most in
      let p6 = signed-plain (sum 6).co2 (omega (arith, c.most, few)) in
      let p7 = signed-plain (sum 7).co2 (omega (arith, c.most, few)) in
      rw (c.enteric, c.cattle, c.pig, c.grazing, p6, p7)
      (plain (sum 6).co2 (sum 7).co2 (signed_of (sum 9).co2) ∙ sym c.sum)
    where
      plain : (m n : ℕ) (z : ℤ) → pos 0 +ℤ (pos 0 +ℤ (pos 0 +ℤ (pos 0 +ℤ (pos m +ℤ (pos n +ℤ (z +ℤ pos 0)))))) ≡ pos (m + n) +ℤ z
      plain m n z =
          let none : (y : ℤ) → pos 0 +ℤ y ≡ y = λ y. +ℤ_comm (pos 0) y ∙ +ℤ_idr y in
          none _ ∙ none _ ∙ none _ ∙ none _
          ∙ ap (λ (y : ℤ). pos m +ℤ (pos n +ℤ y)) (+ℤ_idr z)
          ∙ sym (+ℤ_assoc (pos m) (pos n) z)

  sources-co2e : signed_by of_co2e (source_bars xs) ≡ signed_of (survey_of xs).total
  unfolding survey_of sources_of source_of sum_by signed_by
  sources-co2e =
      let six = bars_from no_step (six_co2e sum last made) in
      signed-append of_co2e six (source_bar (survey_of xs).sources.tillage ∷ [])
      ∙ ap (λ (z : ℤ). z +ℤ (signed_of (co2e_by sum last made 9) +ℤ pos 0)) (grows-signed no_step six _ (six-grow sum last made))
      ∙ ap (λ (z : ℤ). pos (sum_by (λ (n : ℕ). n) (six_co2e sum last made)) +ℤ (z +ℤ pos 0)) (till-signed sum last made)
      ∙ source-total _ (gases_of sum last made 9) ((sum 6).co2 + (sum 7).co2) (all_plain last range) (signed_of (sum 9).co2) (six-sum sum last made)
      ∙ ap (λ (z : ℤ). z +ℤ pos (all_plain last range)) (sym made.carbons.sum)
      ∙ sym (total-plain last range)

  sources-add : SourcesAdd xs (survey_of xs)
  unfolding survey_of sources_of source_of sum_by
  sources-add =
      record {
        ch4 = seven-listed (λ k. (sum k).ch4) made.makes.ch4;
        n2o = seven-listed (λ k. (sum k).n2o) made.makes.n2o;
        co2 = sources-co2;
        co2e = sources-co2e;
      }
    where
      seven-listed : (v : ℕ → ℕ) {t : ℕ} → seven v ≡ t → v 3 + (v 4 + (v 5 + (v 10 + (v 6 + (v 7 + (v 9 + 0)))))) ≡ t
      seven-listed v e = omega (arith, e)

  -- ---- the gases

  gases-add : GasesAdd (survey_of xs)
  unfolding survey_of signed_by
  gases-add =
      let f = last.farm in
      let most = all_most last range in
      let c = f.ch4 * last.sums.ch4 in
      let n = f.n2o * last.sums.n2o.0 in
      let g = last.sums.grazing.0 in
      let first : plainly f last.sums.ch4 0 0 ≡ c = rw (mul-zero f.n2o) (omega arith) in
      let second : plainly f 0 last.sums.n2o.0 0 ≡ n = rw (mul-zero f.ch4) (omega arith) in
      let ch4 : warmed f last.sums.ch4 0 0 ≡ c = warmed-plain f last.sums.ch4 0 0 (rw first (omega (arith, most))) ∙ first in
      let n2o : warmed f 0 last.sums.n2o.0 0 ≡ n = warmed-plain f 0 last.sums.n2o.0 0 (rw second (omega (arith, most))) ∙ second in
      rw (ch4, n2o, signed-plain c (omega (arith, most)), signed-plain n (omega (arith, most)), signed-plain g (omega (arith, most)))
      (gas-total c n g (all_plain last range) (signed_of last.sums.co2.0) refl ∙ sym (total-plain last range))

-- Each table of a closed book's page adds up to the total line.
pub page-adds-up : (xs : List ℕ) → (survey_of xs).closed ≡ true → AddsUp xs
unfolding survey_of
page-adds-up xs closed =
    record { line = refl; groups = groups-add xs (eqb-true _ _ closed); sources = sources-add xs; gases = gases-add xs }
