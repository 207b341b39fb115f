-- The columns are those of line_bytes' fields: a line from its columns is line_bytes' line, and its row is line_rows' row.
-- Assumes nothing.
use Prim.Native.Nat.{ℕ, zero, suc, ◌+◌, ◌-◌, ◌<◌}
use native.Mathlib.Omega.{arith}
use native.Mathlib.Nat.{zero-add, add-zero}
use mathlib.Core.Bool.{true, false}
use mathlib.Core.Path.{◌≡◌, refl, sym, ap, ◌∙◌}
use mathlib.Core.List.{List, [], ◌∷◌, ◌++◌, append_assoc}
use lib.ListN.{length, get_or, drop, replicate}
use lib.Seq.{drop-drop, get_or-drop}
use lib.Dec.{eqb}
use borrow.Author.Tests.{eq-eqb, ne_eqb}
use Rattle.base.proofs.Tests.{by-test}
use Rattle.codec.specs.declared.Field.{Field}
use Rattle.codec.specs.Table.{field}
use Rattle.codec.specs.Codec.{val_at, be, values_at, bytes_of}
use Rattle.codec.proofs.BigEndian.{val_at-same}
use Rattle.codec.proofs.Values.{values_length}
use Rattle.line_bytes.specs.Lines.{figure, figure_count, subtotal_kind, line_fields, total_fields, line_length, total_length}
use Rattle.line_bytes.specs.Lines.{line_bytes_lem, total_bytes, numbers_bytes}
use Rattle.line_rows.specs.declared.Form.TheVariants.{Sheet}
use Rattle.line_rows.specs.Rows.{line_numbers, column_text, columns_text, line_row, ending}
use Rattle.line_rows.specs.Rows.{row_text as row_of}
use Rattle.sheet.specs.declared.rows.Column.{Column}
use Rattle.sheet.specs.Rows.{column_count, column_of, columns_from, empty, columns, column_end}
use Rattle.sheet.proofs.AsColumns.{kind_at, bytes, values, line_of, cell_text, row_text}

-- ---- the columns of the close's line, and of any other

module _ (kind : ℕ) where
  total-columns : eqb kind 8 ≡ true → columns kind ≡ columns_from 0 (drop 2 total_fields)
  unfolding columns line_fields total_fields
  total-columns e = rw e refl

  detail-columns : eqb kind 8 ≡ false → columns kind ≡ columns_from 0 (drop 2 line_fields) ++ (empty ∷ [])
  unfolding columns
  detail-columns e = rw e refl

-- ---- as bytes

fields-bytes : (fs : List Field) (j i : ℕ) (vs ws : List ℕ) → ((k : ℕ) → get_or vs k 0 ≡ get_or ws (i + k) 0)
    → bytes (columns_from j fs) vs ≡ bytes_of fs ws i
unfolding bytes bytes_of
fields-bytes [] j i vs ws h = refl
fields-bytes (f ∷ fs) j i vs ws h =
    let first : get_or vs 0 0 ≡ get_or ws i 0 = h 0 ∙ ap (λ (k : ℕ). get_or ws k 0) (add-zero i) in
    rw (first, fields-bytes fs (suc j) (suc i) (drop 1 vs) ws later)
  where
    later : (k : ℕ) → get_or (drop 1 vs) k 0 ≡ get_or ws (suc i + k) 0
    later k = let e : i + (1 + k) ≡ suc i + k = omega arith in get_or-drop 1 vs k 0 ∙ h (1 + k) ∙ ap (λ (n : ℕ). get_or ws n 0) e

empty-bytes : (cs : List Column) (vs : List ℕ) → bytes (cs ++ (empty ∷ [])) vs ≡ bytes cs vs
unfolding bytes be
empty-bytes [] vs = refl
empty-bytes (c ∷ cs) vs = ap (λ (l : List ℕ). be c.width (get_or vs 0 0) ++ l) (empty-bytes cs (drop 1 vs))

past_two : (len : ℕ) (vs : List ℕ) (k : ℕ) → get_or vs k 0 ≡ get_or (len ∷ 1 ∷ vs) (2 + k) 0
past_two len vs k = let e : 2 + k ≡ suc (suc k) = omega arith in rw e refl

-- a line from its columns is line_bytes' line
pub line-bytes : (kind : ℕ) (vs : List ℕ) → numbers_bytes kind vs ≡ line_of kind vs
unfolding numbers_bytes line_of line_fields total_fields bytes_of be
line-bytes kind vs =
    by-test (eqb kind 8)
    (λ t. rw (total-columns kind t, t)
    (ap (λ (l : List ℕ). be 2 total_length ++ (1 ∷ l))
    (sym (fields-bytes (drop 2 total_fields) 0 2 vs (total_length ∷ 1 ∷ vs) (past_two total_length vs)))))
    (λ f. rw (detail-columns kind f, empty-bytes (columns_from 0 (drop 2 line_fields)) vs, f)
    (ap (λ (l : List ℕ). be 2 line_length ++ (1 ∷ l)) (sym (fields-bytes (drop 2 line_fields) 0 2 vs (line_length ∷ 1 ∷ vs) (past_two line_length vs)))))

-- the lines that a book gives are such: a detail's or a subtotal's, whatever stands in its empty column, and the close's
pub detail-line : (kind group : ℕ) (figures : List ℕ) → (kind ≡ 8 → ⊥) → numbers_bytes kind (kind ∷ group ∷ figures) ≡ line_bytes_lem kind group figures
unfolding numbers_bytes line_bytes_lem
detail-line kind group figures h = rw (ne_eqb kind 8 h) refl

pub total-line : (sums : List ℕ) (co2e : ℕ) → numbers_bytes 8 (8 ∷ 0 ∷ (sums ++ (co2e ∷ []))) ≡ total_bytes sums co2e
unfolding numbers_bytes total_bytes
total-line sums co2e = refl

-- ---- as text

value-dropped : (s : List ℕ) (at w : ℕ) → val_at (drop at s) 0 w ≡ val_at s at w
value-dropped s at w = val_at-same (drop at s) s 0 at w (λ k l. rw (zero-add k) (get_or-drop at s k 0))

fields-values : (fs : List Field) (j at : ℕ) (s : List ℕ) → values (columns_from j fs) (drop at s) ≡ values_at fs s at
unfolding values values_at
fields-values [] j at s = refl
fields-values (f ∷ fs) j at s =
    rw (value-dropped s at f.0, drop-drop f.0 at s, fields-values fs (suc j) (at + f.0) s)

empty-values : (cs : List Column) (s : List ℕ) → values (cs ++ (empty ∷ [])) s ≡ values cs s ++ (0 ∷ [])
unfolding values val_at
empty-values [] s = refl
empty-values (c ∷ cs) s = ap (λ (l : List ℕ). val_at s 0 c.width ∷ l) (empty-values cs (drop c.width s))

-- each has bytes
abbrev Wide : List Field → Type 0
Wide [] = Unit
Wide (f ∷ fs) = (f.0 ≡ 0 → ⊥) × Wide fs

cell-text : (j v : ℕ) (f : Field) → (f.0 ≡ 0 → ⊥) → cell_text (column_of j f) v ≡ column_text j v
unfolding cell_text
cell-text j v f n = rw (ne_eqb f.0 0 n) refl

-- the numbers of some columns, each with a comma after it, up to what ends the row
more-text : (j v w : ℕ) (vs e : List ℕ)
    → column_text j v ++ ((44 ∷ []) ++ (column_text (suc j) w ++ (columns_text Sheet (suc (suc j)) vs ++ e)))
    ≡ column_text j v ++ (columns_text Sheet (suc j) (w ∷ vs) ++ e)
unfolding columns_text
more-text j v w vs e =
    ap (λ (l : List ℕ). column_text j v ++ (44 ∷ l)) (sym (append_assoc (column_text (suc j) w) (columns_text Sheet (suc (suc j)) vs) e))

comma-after : (j : ℕ) → (j ≡ column_count - 1 → ⊥) → column_end (eqb j (column_count - 1)) ≡ 44 ∷ []
comma-after j n = rw (ne_eqb j (column_count - 1) n) refl

end_after : (j : ℕ) → j ≡ column_count - 1 → column_end (eqb j (column_count - 1)) ≡ 13 ∷ 10 ∷ []
end_after j e = rw (eq-eqb j (column_count - 1) e) refl

detail-text : (f : Field) (fs : List Field) (j v : ℕ) (vs : List ℕ) → Wide (f ∷ fs) → length vs ≡ length fs → j + suc (length fs) < column_count
    → row_text (columns_from j (f ∷ fs) ++ (empty ∷ [])) ((v ∷ vs) ++ (0 ∷ [])) ≡ column_text j v ++ (columns_text Sheet (suc j) vs ++ ending Sheet false)
unfolding row_text columns_text cell_text
detail-text f [] j v [] o e l = rw (cell-text j v f o.0, comma-after j (λ q. omega arith)) refl
detail-text f [] j v (w ∷ vs) o e l = absurd (omega arith)
detail-text f (g ∷ fs) j v [] o e l = absurd (omega arith)
detail-text f (g ∷ fs) j v (w ∷ vs) o e l =
    rw (cell-text j v f o.0, comma-after j (λ q. omega arith), detail-text g fs (suc j) w vs o.1 (omega arith) (omega arith))
    (more-text j v w vs (ending Sheet false))

total-text : (f : Field) (fs : List Field) (j v : ℕ) (vs : List ℕ) → Wide (f ∷ fs) → length vs ≡ length fs → j + suc (length fs) ≡ column_count
    → row_text (columns_from j (f ∷ fs)) (v ∷ vs) ≡ column_text j v ++ (columns_text Sheet (suc j) vs ++ ending Sheet true)
unfolding row_text columns_text
total-text f [] j v [] o e l = rw (cell-text j v f o.0, end_after j (omega arith)) refl
total-text f [] j v (w ∷ vs) o e l = absurd (omega arith)
total-text f (g ∷ fs) j v [] o e l = absurd (omega arith)
total-text f (g ∷ fs) j v (w ∷ vs) o e l =
    rw (cell-text j v f o.0, comma-after j (λ q. omega arith), total-text g fs (suc j) w vs o.1 (omega arith) (omega arith))
    (more-text j v w vs (ending Sheet true))

wide-figures : (n : ℕ) → Wide (replicate n figure)
wide-figures zero = tt
wide-figures (suc n) = (λ e. omega arith, wide-figures n)

total-row : (s : List ℕ)
    → row_text (columns_from 0 (drop 2 total_fields)) (values_at (drop 2 total_fields) s 3) ≡ row_of Sheet true (drop 2 (values_at total_fields s 0))
unfolding total_fields values_at row_of
total-row s =
    let fs : List Field = field 2 0 0 ∷ replicate (figure_count + 1) figure in
    total-text (field 1 8 8) fs 0 (val_at s 3 1) (values_at fs s 4)
    (λ e. omega arith, (λ e. omega arith, wide-figures (figure_count + 1))) (values_length fs s 4) refl

detail-row : (s : List ℕ)
    → row_text (columns_from 0 (drop 2 line_fields) ++ (empty ∷ [])) (values_at (drop 2 line_fields) s 3 ++ (0 ∷ []))
    ≡ row_of Sheet false (drop 2 (values_at line_fields s 0))
unfolding line_fields values_at row_of
detail-row s =
    let fs : List Field = field 2 0 65535 ∷ replicate figure_count figure in
    detail-text (field 1 3 subtotal_kind) fs 0 (val_at s 3 1) (values_at fs s 4)
    (λ e. omega arith, (λ e. omega arith, wide-figures figure_count)) (values_length fs s 4) (omega arith)

-- its row is line_rows' row
pub row-columns : (s : List ℕ) → line_row Sheet s ≡ row_text (columns (kind_at s)) (values (columns (kind_at s)) (drop 3 s))
unfolding line_row line_numbers
row-columns s =
    by-test (eqb (kind_at s) 8)
    (λ t. rw (total-columns (kind_at s) t, fields-values (drop 2 total_fields) 0 3 s, t) (sym (total-row s)))
    (λ f.
    rw (
      detail-columns (kind_at s) f,
      empty-values (columns_from 0 (drop 2 line_fields)) (drop 3 s),
      fields-values (drop 2 line_fields) 0 3 s,
      f,
    ) (sym (detail-row s)))
