-- Laws of the cells and rows of a table.
-- Assumes nothing.
use Prim.Native.Nat.{ℕ, ◌+◌, ◌-◌, ◌≤◌, ◌<◌}
use native.Mathlib.Omega.{arith}
use mathlib.Core.Path.{◌≡◌, refl, sym, ap, ◌∙◌}
use mathlib.Core.List.{List, [], ◌∷◌, ◌++◌, append-nil, append_assoc}
use lib.ListN.{length, get_or, take, drop}
use lib.Seq.{take_all, get_or-drop}
use borrow.Author.Tests.{lt-ltb, le-ltb, eq-eqb, ne_eqb, le-leb, lt-leb}
use Rattle.base.proofs.Tests.{and-false}
use Rattle.printing.specs.Ascii.{ascii}
use Rattle.printing.specs.Decimal.{decimal, Put}
use Rattle.printing.specs.Said.{Said}
use Rattle.names.specs.Names.{kind_name}
use Rattle.codec.specs.Table.{last_row}
use Rattle.codec.specs.Codec.{values_at}
use Rattle.line_bytes.specs.Lines.{line_fields, total_fields, line_size, subtotal_kind, front_size}
use Rattle.line_rows.specs.declared.Form.TheVariants.{Sheet}
use Rattle.line_rows.specs.Rows.{line_numbers, columns_text}
use Rattle.retype.proofs.Tables.{name-short}
use Rattle.records.specs.Table.{subtotal_size, subtotal_in, own_in, empty_text, figures_text, group_in, Row, row_text, subtotal_row, after_subtotal, text_of}

-- a text by another name
pub put_as : {xs zs s t : List ℕ} {at r : ℕ} → s ≡ t → Put xs zs at s r → Put xs zs at t r
put_as e p = rw (← e) p

-- ---- the figures of a line

module _ (line : List ℕ) where
  pub figures-none : length line < front_size line → figures_text line ≡ empty_text
  unfolding figures_text
  figures-none h = rw (lt-ltb _ _ h) refl

  module _ (h : front_size line ≤ length line) {v : List ℕ} where
    pub figures-total : get_or line 3 0 ≡ 8 → v ≡ drop 2 (values_at total_fields line 0)
        → figures_text line ≡ columns_text Sheet 2 (drop 2 v) ++ ascii "\r\n"
    unfolding figures_text line_numbers
    figures-total k e = rw (le-ltb _ _ h, e, eq-eqb _ _ k) refl

    pub figures-detail : (get_or line 3 0 ≡ 8 → ⊥) → v ≡ drop 2 (values_at line_fields line 0)
        → figures_text line ≡ columns_text Sheet 2 (drop 2 v) ++ ascii ",\r\n"
    unfolding figures_text line_numbers
    figures-detail k e = rw (le-ltb _ _ h, e, ne_eqb _ _ k) refl

  -- ---- the group of a line

  pub group-none : length line < line_size → group_in line ≡ []
  unfolding group_in
  group-none h = rw (lt-ltb _ _ h) refl

  pub group-some : line_size ≤ length line → {v : List ℕ} → v ≡ drop 2 (values_at line_fields line 0) → group_in line ≡ decimal (get_or v 1 0)
  unfolding group_in
  group-some h e = rw (le-ltb _ _ h, e, get_or-drop 2 (values_at line_fields line 0) 1 0) refl

-- ---- the lines of a record

module _ (lines : List ℕ) where
  pub size-short : length lines < line_size → 0 ≡ subtotal_size lines
  unfolding subtotal_size
  size-short h = rw (lt-leb _ _ h) refl

  pub size-subtotal : line_size ≤ length lines → get_or lines 3 0 ≡ subtotal_kind → line_size ≡ subtotal_size lines
  unfolding subtotal_size
  size-subtotal h k = rw (le-leb _ _ h, eq-eqb _ _ k) refl

  pub size_none : (get_or lines 3 0 ≡ subtotal_kind → ⊥) → 0 ≡ subtotal_size lines
  unfolding subtotal_size
  size_none k = rw (ne_eqb _ _ k, and-false) refl

-- ---- the name

module _ (row : ℕ) (least : 1 ≤ row) (most : row ≤ last_row) where
  pub name-put : {out out' : List ℕ} {at r : ℕ} → at + 7 ≤ length out → Said out out' at (kind_name row) r → Put out out' at (kind_name row) r
  name-put {out} {out'} {at} h s = rw (take_all (length out - at) (kind_name row) (omega (arith, name-short row least most))) at s.put

  pub name-end : {out out' : List ℕ} {at r : ℕ} → Put out out' at (kind_name row) r → r ≤ at + 7
  name-end p = omega (arith, p.next, name-short row least most)

-- ---- rows

pub own-text : (p n g t f : List ℕ)
    → p ++ ((44 ∷ (n ++ (44 ∷ []))) ++ (g ++ ((44 ∷ []) ++ (t ++ f)))) ≡ p ++ (44 ∷ (n ++ (44 ∷ (g ++ (44 ∷ (t ++ f))))))
own-text p n g t f = ap (λ (l : List ℕ). p ++ (44 ∷ l)) (append_assoc n (44 ∷ []) (g ++ (44 ∷ (t ++ f))))

-- the rows of a record that gives these lines, n bytes of which are a subtotal's
module _ (lines : List ℕ) (row : List ℕ → Row) {n : ℕ} (e : n ≡ subtotal_size lines) where
  pub entry-none : n ≡ 0 → {own : List ℕ} → own ≡ drop n lines → row_text (row own) ≡ text_of (after_subtotal lines (row (own_in lines)))
  unfolding after_subtotal text_of
  entry-none z o = rw (o, e, eq-eqb _ _ (sym e ∙ z)) (sym (append-nil (row_text (row (drop (subtotal_size lines) lines)))))

  pub entry-some : (n ≡ 0 → ⊥) → {own subtotal : List ℕ} → own ≡ drop n lines → subtotal ≡ take n lines
      → row_text (subtotal_row subtotal) ++ row_text (row own) ≡ text_of (after_subtotal lines (row (own_in lines)))
  unfolding after_subtotal text_of
  entry-some z o s =
      let k : subtotal_size lines ≡ 0 → ⊥ = λ q. z (e ∙ q) in
      rw (o, s, e, ne_eqb _ _ k)
      (ap (λ (l : List ℕ). row_text (subtotal_row (subtotal_in lines)) ++ l) (sym (append-nil (row_text (row (own_in lines))))))
