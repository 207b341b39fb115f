-- Theorem: the texts tell the truth. What is expected of a field, read as it would be typed, is its range in the book's table, and each table
-- has a text for each field.
use Prim.Native.Nat.{ℕ, suc, ◌<◌, ◌≤◌, min}
use native.Mathlib.Omega.{arith}
use mathlib.Core.Path.{◌≡◌, refl, sym, ap, ◌∙◌}
use mathlib.Core.Bool.{Bool, true, false, ◌&&◌}
use mathlib.Core.List.{List, [], ◌∷◌}
use lib.ListN.{length, get_or}
use lib.Dec.{T, ltb, eqb}
use lib.Ieee.Fits.{and_l, and_r}
use borrow.Author.Tests.{ltb-true, ltb-false, eqb-true}
use Rattle.base.specs.Choice.{pick}
use Rattle.base.proofs.Tests.{by-test}
use Rattle.codec.proofs.EachKind.{no_fields}
use Rattle.base.specs.Bytes.{index_of, index_after}
use Rattle.std.specs.Prelude.{Option, Some, None}
use Rattle.typed_words.specs.Words.{nth_part, nth_word, leading_of}
use Rattle.typed_words.specs.Amounts.{number_from, amount_of}
use Rattle.codec.specs.declared.Field.{Field}
use Rattle.codec.specs.Table.{field, table, fields}
use Rattle.names.specs.Names.{table_line, no_row, field_table, field_names, choice_table, expected_table, expected}
use Rattle.names.specs.Names.{decimals_table, decimals_of, decimals_at}
use Rattle.names.proofs.Lines.{all_below, at-below}

-- word n of what is expected of a field, as a number with the field's decimals
abbrev pub told : ℕ → ℕ → ℕ → Option ℕ
told k i n = amount_of (decimals_at k i) (nth_word n (expected k i))

abbrev pub field_at : ℕ → ℕ → Field
field_at k i = get_or (fields k) i (field 0 0 0)

unfoldable is_whole : Option ℕ → ℕ → Bool
is_whole None n = false
is_whole (Some w) n = eqb w n

passed : (b : Bool) → T b → b ≡ true
passed true t = refl
passed false t = absurd t

is-whole : (w : Option ℕ) (n : ℕ) → T (is_whole w n) → w ≡ Some n
unfolding is_whole
is-whole None n t = absurd t
is-whole (Some w) n t = ap (λ (x : ℕ). Some x) (eqb-true w n (passed (eqb w n) t))

abbrev range_told : ℕ → ℕ → Bool
range_told k i = is_whole (told k i 0) (field_at k i).1 && is_whole (told k i 2) (field_at k i).2

abbrev kind_told : ℕ → Bool
kind_told k = all_below (length (fields k)) (range_told k)

all_told : T (all_below no_row kind_told)
unfolding all_below is_whole amount_of number_from nth_part nth_word leading_of index_of index_after table choice_table expected_table decimals_table
all_told = tt

pub ranges-true : (k i : ℕ) → i < length (fields k) → (told k i 0 ≡ Some (field_at k i).1) × (told k i 2 ≡ Some (field_at k i).2)
ranges-true k i h =
    let low = is_whole (told k i 0) (field_at k i).1 in
    let high = is_whole (told k i 2) (field_at k i).2 in
    by-test (ltb k no_row)
    (λ e. let t = at-below (length (fields k)) (range_told k) (at-below no_row kind_told all_told k (ltb-true k no_row e)) i h in
    (is-whole (told k i 0) (field_at k i).1 (and_l low high t), is-whole (told k i 2) (field_at k i).2 (and_r low high t)))
    (λ e. absurd (omega (arith, ap length (no_fields k (ltb-false k no_row e)))))

-- how many times sep stands in s
unfoldable pub times_in : ℕ → List ℕ → ℕ
times_in sep [] = 0
times_in sep (b ∷ s) = pick (eqb b sep) (suc (times_in sep s)) (times_in sep s)

-- how many pieces s has between its separators; none where it is empty
unfoldable pub pieces : ℕ → List ℕ → ℕ
pieces sep [] = 0
pieces sep (b ∷ s) = suc (times_in sep (b ∷ s))

abbrev count_told : ℕ → Bool
count_told k =
    eqb (pieces 44 (nth_part 10 k field_table)) (length (fields k))
    && (eqb (pieces 59 (nth_part 10 k expected_table)) (length (fields k)) && eqb (length (nth_part 10 k decimals_table)) (length (fields k)))

all-counted : T (all_below (suc no_row) count_told)
unfolding all_below pieces times_in nth_part index_of index_after table field_table expected_table decimals_table
all-counted = tt

same-fields : (k : ℕ) → fields (min k no_row) ≡ fields k
same-fields k =
    by-test (ltb k no_row)
    (λ e. let h : k < no_row = ltb-true k no_row e in let m : min k no_row ≡ k = omega arith in rw m)
    (λ e. let h : no_row ≤ k = ltb-false k no_row e in no_fields (min k no_row) (omega arith) ∙ sym (no_fields k h))

pub record Counted (k : ℕ) : Type 0 where
  pub names : pieces 44 (field_names k) ≡ length (fields k)
  pub texts : pieces 59 (table_line no_row k expected_table) ≡ length (fields k)
  pub digits : length (decimals_of k) ≡ length (fields k)

pub counts-true : (k : ℕ) → Counted k
counts-true k =
    let t = at-below (suc no_row) count_told all-counted (min k no_row) (omega arith) in
    let n = length (fields (min k no_row)) in
    let names = eqb (pieces 44 (field_names k)) n in
    let texts = eqb (pieces 59 (table_line no_row k expected_table)) n in
    let digits = eqb (length (decimals_of k)) n in
    let count : n ≡ length (fields k) = ap length (same-fields k) in
    record {
      names = eqb-true (pieces 44 (field_names k)) n (passed names (and_l names (texts && digits) t)) ∙ count;
      texts = eqb-true (pieces 59 (table_line no_row k expected_table)) n (passed texts (and_l texts digits (and_r names (texts && digits) t)))
          ∙ count;
      digits = eqb-true (length (decimals_of k)) n (passed digits (and_r texts digits (and_r names (texts && digits) t))) ∙ count;
    }
