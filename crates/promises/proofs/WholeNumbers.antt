-- The total in whole numbers: no sum of CO2 and no CO2e of a run from a state in range goes round its word.
-- Assumes nothing.
use Prim.Native.Nat.{ℕ, ◌+◌, ◌*◌, ◌^◌, ◌≤◌, ◌<◌}
use mathlib.Core.Path.{◌≡◌, refl, sym, ap, ◌∙◌}
use mathlib.Core.List.{List, [], ◌∷◌, ◌++◌}
use mathlib.Core.Bool.{Bool, true, false}
use native.Mathlib.Omega.{arith}
use lib.IntN.{ℤ, pos, negsuc, neg_ℤ, nat_abs, ◌+ℤ◌, +ℤ_assoc, +ℤ_idl, +ℤ_idr}
use lib.Dec.{eqb}
use lib.ListN.{length, take}
use Rattle.base.specs.Signed.{word_of}
use Rattle.base.proofs.Signed.{abs-plus, signed-less}
use Rattle.base.specs.Choice.{pick}
use Rattle.base.proofs.Tests.{no_bool, not-false, of-choice, or_l}
use Rattle.codec.specs.Table.{size}
use Rattle.codec.specs.Codec.{bytes_hold, val_at, be, bytes_of}
use Rattle.codec.proofs.BigEndian.{val_at-be}
use Rattle.codec.proofs.EachKind.{row-of-kind}
use Rattle.codec.proofs.Round.{bytes-join}
use Rattle.codec.proofs.Values.{bytes-length}
use Rattle.line_bytes.specs.Lines.{figure_count, total_fields, total_length, line_size, total_bytes}
use Rattle.grams.specs.Farm.{FactorsMost, SumsIn, co2e_of}
use Rattle.grams.specs.Units.{co2_grams, grams_co2, co2_word}
use Rattle.grams.specs.declared.farm.Factors.{Factors}
use Rattle.grams.specs.declared.units.Co2.{Co2}
use Rattle.grams.proofs.Carbon.{plus-grams, within_more}
use Rattle.grams.proofs.farm.Small.{energy-grams, soil-grams, others-most, co2e-grams}
use Rattle.grams.proofs.tillage.Small.{tillage-grams}
use Rattle.account.specs.declared.Account.{Account}
use Rattle.account.specs.declared.Figures.{Figures}
use Rattle.account.specs.declared.Heading.{Heading}
use Rattle.account.specs.declared.sort.Sort.{Sort}
use Rattle.account.specs.declared.sort.Sort.TheVariants.{Opens, Heads, OfGroup, OfFarm, Closes}
use Rattle.account.specs.Sorts.{is_farm, sort_of, by_sort, is_of_group}
use Rattle.account.specs.Figures.{added, listed, figures_of}
use Rattle.account.specs.Line.{co2e_in, total_with, total_of}
use Rattle.account.specs.Range.{AccountInRange}
use Rattle.account.specs.Account.{no_record, factors_of}
use Rattle.account.specs.Judge.{version_of, kind_byte, record_row, values_of, judge}
use Rattle.account.specs.Told.{Small}
use Rattle.account.proofs.Details.{DetailKind}
use Rattle.account.proofs.EachFigure.{figures-small}
use Rattle.account.proofs.EachFigure.Energy.{energy-in}
use Rattle.account.proofs.EachFigure.Soil.{soil-in}
use Rattle.account.proofs.EachFigure.Tillage.{tillage-in}
use Rattle.account.proofs.Keeps.{in-range-judge}
use Rattle.account.proofs.Refusals.{passed, not-refused}
use Rattle.account.proofs.Told.{head-most, total-long}
use Rattle.book.specs.declared.State.{State}
use Rattle.book.specs.State.{held_of, no_record_yet, InRange}
use Rattle.book.specs.Run.{run}
use Rattle.book.proofs.RunLeaves.{run-leaves}
use Rattle.promises.specs.Headings.{accepted_records}
use Rattle.promises.specs.Paper.{sample, credit}
use Rattle.promises.specs.Subtotals.{detail_of, heading_after, farm_after, farm_of, farm}
use Rattle.promises.specs.Totals.{last_of}
use Rattle.promises.specs.WholeNumbers.{Co2Worked, record_co2, co2_sum, whole_co2e, last_signed}
use Rattle.promises.proofs.StaysInRange.{new-in-range}
use Rattle.promises.proofs.Subtotals.{sums-after, sums-of-farm}
use Rattle.promises.proofs.Totals.{ends-with-total}
use Rattle.promises.proofs.WholeLines.{shaped, book_records, next}
use Rattle.promises.proofs.Paper.{sample-lines, credit-lines}
use Rattle.promises.proofs.PigNitrogen.{unrefused}

-- ---- the CO2 of a detail

group-none : (row : ℕ) → is_of_group row ≡ true → (h : Heading) (v : List ℕ) → co2_grams (figures_of h row v).co2 ≡ pos 0
unfolding sort_of figures_of
group-none row g h v =
    of-choice None (eqb row 3) (λ e. refl)
    (λ e3. of-choice None (eqb row 4) (λ e. refl)
    (λ e4. of-choice None (eqb row 5) (λ e. refl)
    (λ e5. of-choice None (eqb row 10) (λ e. refl)
    (λ e10. absurd (not-of-group (is_farm row) (eqb row 2) (eqb row 8) (rw (e3, e4, e5, e10) at g))))))
  where
    None : Figures → Type 0
    None f = co2_grams f.co2 ≡ pos 0

    not-of-group : (a b c : Bool) → by_sort (pick a Opens (pick b Heads (pick c Closes OfFarm))) false false true false false ≡ true → ⊥
    not-of-group true b c e = no_bool e
    not-of-group false true c e = no_bool e
    not-of-group false false true e = no_bool e
    not-of-group false false false e = no_bool e

-- The CO2 of a detail, read as a signed number, is the whole number that its rule works out, whatever its heading.
pub co2-worked : (h : Heading) (v : List ℕ) → Co2Worked h v
unfolding figures_of
co2-worked h v =
    record {
      energy = λ e. energy-grams (energy-in v e);
      soil = λ e. soil-grams (soil-in v e);
      tillage = λ e. tillage-grams (tillage-in v e);
      none = λ row g. group-none row g h v;
    }

-- ---- the sum of CO2

-- a detail that is counted is small
counted-small : (a : Account) (r : List ℕ) → AccountInRange a → (judge a r).account.records ≡ a.records + 1 → DetailKind (record_row r)
    → Small (detail_of a.heading r)
counted-small a r v n d =
    let t = not-refused a r (unrefused a r n) in
    figures-small a.heading (values_of r) (head-most a v) (record_row r) (row-of-kind (version_of r) (kind_byte r) (not-false _ t.kind)) d
    (passed a (record_row r) (values_of r) t.values).ranges (or_l _ _ t.values.together)

-- one record
module _ (a : Account) (r : List ℕ) (v : AccountInRange a) (n : (judge a r).account.records ≡ a.records + 1) where
  detail-adds : DetailKind (record_row r)
      → co2_grams (added a.sums (detail_of a.heading r)).co2 ≡ co2_grams a.sums.co2 +ℤ co2_grams (detail_of a.heading r).co2
  detail-adds d =
      plus-grams a.sums.co2 (detail_of a.heading r).co2 a.records 1 (omega (arith, v.started.counted.records-most)) v.sums.co2
      (counted-small a r v n d).co2

  record-adds : co2_grams (farm_after a.heading a.sums r).co2 ≡ co2_grams a.sums.co2 +ℤ record_co2 a.heading r
  record-adds = go (sort_of (record_row r)) refl
    where
      go : (s : Sort) → sort_of (record_row r) ≡ s
          → co2_grams
          (by_sort s a.sums a.sums (added a.sums (detail_of a.heading r)) (added a.sums (detail_of a.heading r)) a.sums).co2
          ≡ co2_grams a.sums.co2
          +ℤ by_sort s (pos 0) (pos 0) (co2_grams (detail_of a.heading r).co2) (co2_grams (detail_of a.heading r).co2) (pos 0)
      go Opens e = sym (+ℤ_idr _)
      go Heads e = sym (+ℤ_idr _)
      go OfGroup e = detail-adds (rw e refl)
      go OfFarm e = detail-adds (rw e refl)
      go Closes e = sym (+ℤ_idr _)

-- all of them
records-add : (rs : List (List ℕ)) (a : Account) (xs : List ℕ) → AccountInRange a → book_records a xs ≡ rs
    → co2_grams (farm_of a.heading a.sums rs).co2 ≡ co2_grams a.sums.co2 +ℤ co2_sum a.heading rs
unfolding farm_of co2_sum
records-add [] a xs v q = sym (+ℤ_idr _)
records-add (r ∷ rs) a xs v q =
    let n = next a xs r rs v q in
    let j = (judge a r).account in
    let i = records-add rs j n.behind (in-range-judge a r v n.early) n.rest in
    let h : j.heading ≡ heading_after a.heading r = (shaped a r n.grown.counted).heading in
    let s : j.sums ≡ farm_after a.heading a.sums r = sums-after a r v n.grown.counted in
    (rw (h, s) at i)
    ∙ ap (λ (z : ℤ). z +ℤ co2_sum (heading_after a.heading r) rs) (record-adds a r v n.grown.counted)
    ∙ +ℤ_assoc (co2_grams a.sums.co2) (record_co2 a.heading r) (co2_sum (heading_after a.heading r) rs)

-- From a state in range the sum of CO2 reached is, in whole numbers, the one before and the CO2 of the details accepted.
pub co2-in-whole-numbers : (s : State) (xs : List ℕ) → InRange s
    → co2_grams (run s xs).state.account.sums.co2 ≡ co2_grams s.account.sums.co2 +ℤ co2_sum s.account.heading (accepted_records s xs)
unfolding run
co2-in-whole-numbers s xs v =
    ap (λ (f : Figures). co2_grams f.co2) (sums-of-farm s xs v)
    ∙ records-add (accepted_records s xs) s.account (held_of s ++ xs) v.account refl

-- ---- CO2e

-- a number's word is one of 8 bytes
word_fits : (z : ℤ) → nat_abs z < 2 ^ 63 → word_of z < bytes_hold 8
unfolding bytes_hold
word_fits (pos n) h = omega arith
word_fits (negsuc n) h = omega arith

-- CO2e of a total is one
module _ (w : Factors) (f : Figures) (m : FactorsMost w) (i : SumsIn f.co2 f.ch4 f.n2o f.grazing) where
  co2e-fits : co2_word (co2e_of w f.co2 f.ch4 f.n2o f.grazing) < bytes_hold 8
  unfolding co2e_of
  co2e-fits =
      let n : ℕ = w.ch4 * f.ch4 + w.n2o * f.n2o.0 + f.grazing.0 in
      let most : n ≤ 49152 * 10 ^ 13 = others-most m i.ch4-in i.n2o-in i.grazing-in in
      let others = signed-less (pos n) in
      let both = abs-plus (co2_grams f.co2) (co2_grams (grams_co2 (pos n))) in
      word_fits (co2_grams f.co2 +ℤ co2_grams (grams_co2 (pos n))) (omega (arith, i.co2-in, most, others, both))

-- CO2e stands in the last eight bytes of a total line
at-end : (f : Figures) (c : Co2) → co2_word c < bytes_hold 8 → val_at (total_with f c) line_size 8 ≡ co2_word c
unfolding total_bytes total_fields bytes_of size
at-end f c small =
    let front : List ℕ = total_length ∷ 1 ∷ 8 ∷ 0 ∷ listed f in
    let p : List ℕ = bytes_of (take (4 + figure_count) total_fields) front 0 in
    let long : length p ≡ line_size = bytes-length (take (4 + figure_count) total_fields) front 0 in
    rw (bytes-join total_fields front (co2_word c ∷ []) (omega arith)) (rw long at (val_at-be 8 (co2_word c) p [] small))

end-signed : (f : Figures) (c : Co2) → co2_word c < bytes_hold 8 → last_signed (total_with f c) ≡ co2_grams c
end-signed f c small = rw (total-long f c, at-end f c small) refl

-- the total line of an account in range
account-total : (a : Account) → AccountInRange a → last_signed (total_of a) ≡ whole_co2e (factors_of a.farm) (co2_grams a.sums.co2) a.sums
account-total a v =
    let most = v.started.counted.records-most in
    let m : FactorsMost (factors_of a.farm) = record { ch4-most = v.started.farm.ch4.most; n2o-most = v.started.farm.n2o.most } in
    let i : SumsIn a.sums.co2 a.sums.ch4 a.sums.n2o a.sums.grazing =
    record {
      co2-in = within_more a.sums.co2 a.records 4096 most v.sums.co2;
      ch4-in = omega (arith, v.sums.ch4);
      n2o-in = omega (arith, v.sums.n2o);
      grazing-in = omega (arith, v.sums.grazing);
    } in
    end-signed a.sums (co2e_in a) (co2e-fits (factors_of a.farm) a.sums m i) ∙ co2e-grams i (factors_of a.farm) m

-- Where a run from a state in range closes the book, the last eight bytes of its last line, read as a signed number, are CO2 + a × CH4 + b × N2O +
-- grazing in whole numbers: the CO2 before and that of the details accepted, the other figures added up from them, a and b the farm's factors.
pub total-in-whole-numbers : (s : State) (xs : List ℕ) → InRange s → s.account.stage < 2 → (run s xs).state.account.stage ≡ 2
    → last_signed (last_of (run s xs).lines)
    ≡ whole_co2e (factors_of (run s xs).state.account.farm)
    (co2_grams s.account.sums.co2 +ℤ co2_sum s.account.heading (accepted_records s xs))
    (farm_of s.account.heading s.account.sums (accepted_records s xs))
total-in-whole-numbers s xs v k q =
    let b = (run s xs).state.account in
    ap last_signed (ends-with-total s xs v k q)
    ∙ account-total b (run-leaves s xs v).range.account
    ∙ ap (λ (z : ℤ). whole_co2e (factors_of b.farm) z b.sums) (co2-in-whole-numbers s xs v)
    ∙ ap (whole_co2e (factors_of b.farm) (co2_grams s.account.sums.co2 +ℤ co2_sum s.account.heading (accepted_records s xs)))
    (sums-of-farm s xs v)

-- The same of a whole book, which begins with no grams.
pub book-in-whole-numbers : (xs : List ℕ) → (run no_record_yet xs).state.account.stage ≡ 2
    → last_signed (last_of (run no_record_yet xs).lines)
    ≡ whole_co2e (factors_of (run no_record_yet xs).state.account.farm) (co2_sum no_record.heading (accepted_records no_record_yet xs)) (farm xs)
book-in-whole-numbers xs q =
    total-in-whole-numbers no_record_yet xs new-in-range (omega arith) q
    ∙ ap (λ (z : ℤ). whole_co2e (factors_of (run no_record_yet xs).state.account.farm) z (farm xs))
    (+ℤ_idl (co2_sum no_record.heading (accepted_records no_record_yet xs)))

-- Worked: the sample book, and the one that closes below zero.
pub totals-worked : (last_signed (last_of (run no_record_yet sample).lines) ≡ pos 18241034)
    × (last_signed (last_of (run no_record_yet credit).lines) ≡ neg_ℤ (pos 13559333333))
unfolding last_of val_at be bytes_of size total_fields total_bytes
totals-worked = (rw sample-lines refl, rw credit-lines refl)
