-- Theorem: the figures in the row of a closed book are those of the last line of its run, its total, as a sheet has them; and each is a word.
-- Assumes nothing.
use Rattle.std.proofs.Common.{◌≡◌, ℕ, zero, suc, ◌+◌, ◌^◌, ◌<◌, ◌≤◌, Bool, true, ◌&&◌, leb, List, [], ◌∷◌, ◌++◌, get_or, drop, replicate, sym, refl}
use Rattle.std.proofs.Common.{ap, ◌∙◌, arith, get_or-drop, eq-eqb, leb-true}
use Rattle.base.proofs.Tests.{and_l, and_r}
use Rattle.codec.specs.declared.Field.{Field}
use Rattle.codec.specs.Codec.{bytes_hold, val_at, be, values_at, bytes_of, Bytes}
use Rattle.codec.proofs.BigEndian.{val_at-lt}
use Rattle.codec.proofs.Values.{bytes-bytes}
use Rattle.line_bytes.specs.Lines.{total_fields, total_bytes, is_total, total_values}
use Rattle.line_rows.specs.declared.Form.TheVariants.{Sheet}
use Rattle.line_rows.specs.Rows.{line_numbers, column_text, columns_text, row_text, line_row}
use Rattle.printing.specs.Ascii.{ascii}
use Rattle.printing.specs.Decimal.{digits_by, decimal}
use Rattle.grams.specs.Units.{co2_word}
use Rattle.grams.specs.declared.units.Co2.{Co2}
use Rattle.account.specs.declared.Figures.{Figures}
use Rattle.account.specs.Figures.{listed}
use Rattle.account.specs.Line.{co2e_in, total_with, total_of}
use Rattle.book.specs.State.{no_record_yet}
use Rattle.book.specs.Run.{run}
use Rattle.promises.specs.Totals.{last_of}
use Rattle.promises.proofs.StaysInRange.{new-in-range}
use Rattle.promises.proofs.Totals.{ends-with-total}
use Rattle.table.specs.Seen.{end_of, seen_of}
use Rattle.table.specs.Rows.{cells_text, figures_text}
use Rattle.table.proofs.Ends.{total-kind}

-- ---- the numbers of a total line

-- the numbers of a total line are those of its fields after the first two
total-numbers : (f : Figures) (c : Co2) → line_numbers (total_with f c) ≡ drop 2 (values_at total_fields (total_with f c) 0)
unfolding line_numbers
total-numbers f c = rw (total-kind f c) refl

front-two : (l : List ℕ) → drop 2 (values_at total_fields l 0) ≡ val_at l 3 1 ∷ (val_at l 4 2 ∷ drop 2 (drop 2 (values_at total_fields l 0)))
unfolding total_fields values_at
front-two l = refl

kind-group : (f : Figures) (c : Co2) → (val_at (total_with f c) 3 1 ≡ 8) × (val_at (total_with f c) 4 2 ≡ 0)
unfolding total_bytes total_fields bytes_of be val_at
kind-group f c = (refl, refl)

total-front : (f : Figures) (c : Co2) → line_numbers (total_with f c) ≡ 8 ∷ (0 ∷ drop 2 (line_numbers (total_with f c)))
total-front f c =
    let l = total_with f c in
    let k = kind-group f c in
    rw (total-numbers f c)
    (front-two l ∙ ap (λ (n : ℕ). n ∷ (val_at l 4 2 ∷ drop 2 (drop 2 (values_at total_fields l 0)))) k.0
    ∙ ap (λ (n : ℕ). 8 ∷ (n ∷ drop 2 (drop 2 (values_at total_fields l 0)))) k.1)

-- ---- the row

cells_are : (k : ℕ) (vs : List ℕ) → cells_text true k vs ≡ columns_text Sheet k vs
unfolding cells_text columns_text
cells_are k [] = refl
cells_are k (v ∷ vs) = ap (λ (t : List ℕ). (44 ∷ column_text k v) ++ t) (cells_are (suc k) vs)

-- a row that begins with kind 8 and group 0
row_of : (vs : List ℕ) → row_text Sheet true (8 ∷ (0 ∷ vs)) ≡ ascii "8,0" ++ (columns_text Sheet 2 vs ++ ascii "\r\n")
unfolding row_text columns_text decimal digits_by
row_of vs = refl

total-row : (f : Figures) (c : Co2)
    → line_row Sheet (total_with f c) ≡ ascii "8,0" ++ (cells_text true 2 (drop 2 (line_numbers (total_with f c))) ++ ascii "\r\n")
unfolding line_row
total-row f c =
    let vs = drop 2 (line_numbers (total_with f c)) in
    let total : is_total (total_with f c) ≡ true = eq-eqb _ _ (total-kind f c) in
    ap (λ (b : Bool). row_text Sheet b (line_numbers (total_with f c))) total
    ∙ ap (row_text Sheet true) (total-front f c)
    ∙ row_of vs
    ∙ ap (λ (t : List ℕ). ascii "8,0" ++ (t ++ ascii "\r\n")) (sym (cells_are 2 vs))

module _ (xs : List ℕ) (q : (end_of xs).stage ≡ 2) where
  last-is : total_of (end_of xs) ≡ last_of (run no_record_yet xs).lines
  last-is = sym (ends-with-total no_record_yet xs new-in-range (omega arith) q)

  -- The numbers that are shown of a closed book, and summed, are those of the last line of its run.
  pub numbers-last : (seen_of xs).numbers ≡ line_numbers (last_of (run no_record_yet xs).lines)
  unfolding seen_of
  numbers-last = ap line_numbers last-is

  -- The figures of its row, after kind 8 and group 0, are that line's row in a sheet.
  pub table-rows : ascii "8,0" ++ figures_text (seen_of xs) ≡ line_row Sheet (last_of (run no_record_yet xs).lines)
  unfolding seen_of
  table-rows = rw (eq-eqb _ _ q) (sym (total-row _ _) ∙ ap (line_row Sheet) last-is)

-- ---- each number is a word

narrow : List Field → Bool
narrow [] = true
narrow (f ∷ fs) = leb f.0 8 && narrow fs

holds : (w : ℕ) → w ≤ 8 → bytes_hold w ≤ 2 ^ 64
unfolding bytes_hold
holds zero h = omega arith
holds (suc zero) h = omega arith
holds (suc (suc zero)) h = omega arith
holds (suc (suc (suc zero))) h = omega arith
holds (suc (suc (suc (suc zero)))) h = omega arith
holds (suc (suc (suc (suc (suc zero))))) h = omega arith
holds (suc (suc (suc (suc (suc (suc zero)))))) h = omega arith
holds (suc (suc (suc (suc (suc (suc (suc zero))))))) h = omega arith
holds (suc (suc (suc (suc (suc (suc (suc (suc zero)))))))) h = omega arith
holds (suc (suc (suc (suc (suc (suc (suc (suc (suc w))))))))) h = absurd (omega arith)

values-small : (fs : List Field) → narrow fs ≡ true → (s : List ℕ) → Bytes s → (at i : ℕ) → get_or (values_at fs s at) i 0 < 2 ^ 64
unfolding values_at narrow
values-small [] n s b at i = omega arith
values-small (f ∷ fs) n s b at zero =
    let w = leb-true f.0 8 (and_l _ _ n) in omega (arith, val_at-lt s b at f.0, holds f.0 w)
values-small (f ∷ fs) n s b at (suc i) = values-small fs (and_r (leb f.0 8) _ n) s b (at + f.0) i

total-narrow : narrow total_fields ≡ true
unfolding narrow total_fields
total-narrow = refl

total-bytes : (f : Figures) (c : Co2) → Bytes (total_with f c)
unfolding total_bytes
total-bytes f c = bytes-bytes total_fields (total_values (listed f) (co2_word c)) 0

pub numbers-small : (xs : List ℕ) (j : ℕ) → get_or (seen_of xs).numbers j 0 < 2 ^ 64
unfolding seen_of
numbers-small xs j =
    let a = end_of xs in
    let l = total_of a in
    rw (total-numbers a.sums (co2e_in a), get_or-drop 2 (values_at total_fields l 0) j 0)
    (values-small total_fields total-narrow l (total-bytes a.sums (co2e_in a)) 0 (2 + j))

pub zeros-small : (n j : ℕ) → get_or (replicate n 0) j 0 < 2 ^ 64
zeros-small zero j = omega arith
zeros-small (suc n) zero = omega arith
zeros-small (suc n) (suc j) = zeros-small n j
