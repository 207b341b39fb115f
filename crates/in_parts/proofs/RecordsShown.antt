-- Theorem: the line of each row of a book's table is none or a whole line; of a whole line the cells are those of its row in a sheet, after kind and
-- group.
-- Assumes nothing.
use Prim.Native.Nat.{ℕ, suc, ◌+◌, ◌≤◌}
use native.Mathlib.Omega.{arith}
use mathlib.Core.Path.{◌≡◌, refl, sym, ap, ◌∙◌}
use mathlib.Core.Bool.{Bool, true, false, not}
use mathlib.Core.Logic.{◌⊎◌, inl, inr}
use mathlib.Core.List.{List, [], ◌∷◌, ◌++◌, append-nil, append_assoc}
use borrow.Author.Tests.{le-ltb, eqb-false, not-false}
use lib.Dec.{eqb, ltb}
use lib.ListN.{length, get_or, drop, length-append, length-drop, get_or-append}
use lib.Seq.{take_at, drop_at}
use Rattle.base.proofs.Tests.{by-test, of-choice, and_r}
use Rattle.codec.specs.declared.Field.{Field}
use Rattle.codec.specs.Table.{last_row}
use Rattle.codec.specs.Codec.{values_at}
use Rattle.codec.proofs.Values.{values_length}
use Rattle.codec.proofs.EachKind.{row-least, row-most, row-of-kind}
use Rattle.line_bytes.specs.Lines.{figure_count, line_fields, total_fields, line_size, subtotal_kind, is_total, front_size}
use Rattle.line_rows.specs.declared.Form.TheVariants.{Sheet}
use Rattle.line_rows.specs.Rows.{line_numbers, column_text, columns_text, ending, row_text, line_row}
use Rattle.account.specs.declared.Account.{Account}
use Rattle.account.specs.declared.Figures.{Figures}
use Rattle.account.specs.Account.{no_record}
use Rattle.account.specs.Sorts.{sort_of, by_sort}
use Rattle.account.specs.Line.{line_with, subtotals, co2e_in, total_of, joined}
use Rattle.account.specs.Judge.{version_of, kind_byte, record_row, values_of, Step, accepted, judge}
use Rattle.account.proofs.Sorts.{by-sort, other-kind}
use Rattle.account.proofs.Refusals.{judged-passes}
use Rattle.account.proofs.Details.{judge-accepted}
use Rattle.account.proofs.Told.{line-long}
use Rattle.book.specs.WholeRecords.{records_of}
use Rattle.walk.specs.Walk.{accepts, lines_of, entries_from}
use Rattle.promises.proofs.EachLine.{LineKind}
use Rattle.records.specs.Table.{subtotal_size, subtotal_in, own_in, figures_text, Row, after_subtotal, own_row, rows_from, table_of}
use Rattle.records.proofs.Texts.{size-subtotal, size_none}
use Rattle.in_parts.specs.Records.{AllShown}
use Rattle.in_parts.proofs.Rows.{Whole, line-kind, total-kind, line-whole, total-whole}

-- ---- the lines of a record that is accepted

-- some bytes are no line or a whole one
abbrev NoneOrWhole : List ℕ → Type 0
NoneOrWhole l = (l ≡ []) ⊎ Whole l

-- perhaps a subtotal, then perhaps its own line
record Shape (lines : List ℕ) : Type 0 where
  before : NoneOrWhole (subtotal_in lines)
  own : NoneOrWhole (own_in lines)

shape-none : Shape []
unfolding subtotal_size
shape-none = record { before = inl refl; own = inl refl }

-- its own line alone
shape-own : (l : List ℕ) → Whole l → (get_or l 3 0 ≡ subtotal_kind → ⊥) → Shape (l ++ [])
shape-own l w n =
    let z = sym (size_none l n) in
    rw append-nil (record { before = inl (rw z refl); own = inr (rw z w) })

-- a subtotal first
shape-subtotal : (g : ℕ) (f : Figures) (ys : List ℕ) → NoneOrWhole ys → Shape (line_with subtotal_kind g f ++ ys)
shape-subtotal g f ys w =
    let l = line_with subtotal_kind g f in
    let long = line-long subtotal_kind g f in
    let kind = get_or-append l ys 0 3 (omega (arith, long)) ∙ line-kind subtotal_kind g f in
    let size = sym (size-subtotal (l ++ ys) (omega (arith, length-append l ys, long)) kind) in
    let k : LineKind subtotal_kind = record { shown = inr refl; no-total = λ q. omega (arith, q) } in
    record {
      before = inr (rw (size, take_at l ys line_size long) (line-whole subtotal_kind g f k));
      own = rw (size, drop_at l ys line_size long) w;
    }

total_shape : (a : Account) → Shape (joined (total_of a ∷ []))
total_shape a = shape-own (total_of a) (total-whole a.sums (co2e_in a)) (λ q. omega (arith, q, total-kind a.sums (co2e_in a)))

-- what stands after the subtotal of the group that ends
subtotals-shape : (a : Account) (ls : List (List ℕ)) → Shape (joined ls) → NoneOrWhole (joined ls) → Shape (joined (subtotals a ++ ls))
subtotals-shape a ls s w =
    of-choice (λ (ks : List (List ℕ)). Shape (joined (ks ++ ls))) (eqb a.heading.group 0) (λ e. s)
    (λ e. shape-subtotal a.heading.group _ (joined ls) w)

-- a detail's line
detail-shape : (a : Account) (row g : ℕ) (f : Figures) → 1 ≤ row → row ≤ last_row → by_sort (sort_of row) false false true true false ≡ true
    → Shape (joined (line_with row g f ∷ []))
unfolding sort_of
detail-shape a row g f least most d =
    let one = eqb-false row 1 (other-kind row 1 d refl) in
    let two = eqb-false row 2 (other-kind row 2 d refl) in
    let last = eqb-false row last_row (other-kind row last_row d refl) in
    let k : LineKind row =
    record { shown = inl (omega arith, omega arith); no-total = eqb-false row 8 (other-kind row 8 d refl) } in
    shape-own (line_with row g f) (line-whole row g f k) (λ q. omega (arith, q, line-kind row g f, most))

accepted-shape : (a : Account) (row : ℕ) (v : List ℕ) → 1 ≤ row → row ≤ last_row → Shape (joined (accepted a row v).lines)
unfolding accepted
accepted-shape a row v least most =
    by-sort (λ (s : Step). Shape (joined s.lines)) (sort_of row)
    (λ e. shape-none)
    (λ e. rw append-nil at (subtotals-shape a [] shape-none (inl refl)))
    (λ e. detail-shape a row _ _ least most (rw e refl))
    (λ e. detail-shape a row _ _ least most (rw e refl))
    (λ e. subtotals-shape a (total_of a ∷ []) (total_shape a) (inr (rw append-nil (total-whole a.sums (co2e_in a)))))

lines-shape : (a : Account) (r : List ℕ) → ((judge a r).account.stage ≡ 3 → ⊥) → Shape (lines_of a r)
lines-shape a r h =
    let t = judged-passes a r h in
    let row = row-of-kind (version_of r) (kind_byte r) (not-false _ t.kind) in
    rw (judge-accepted a r t) (accepted-shape a (record_row r) (values_of r) (row-least (record_row r) row) (row-most (record_row r) row))

-- ---- the rows

shown-both : (xs ys : List Row) → AllShown xs → AllShown ys → AllShown (xs ++ ys)
shown-both [] ys p q = q
shown-both (x ∷ xs) ys p q = (p.0, shown-both xs ys p.1 q)

shown-one : (lines : List ℕ) (x : Row) → x.line ≡ own_in lines → Shape lines → AllShown (after_subtotal lines x)
unfolding after_subtotal
shown-one lines x q s =
    of-choice AllShown (eqb (subtotal_size lines) 0) (λ t. (rw q s.own, tt)) (λ t. (s.before, (rw q s.own, tt)))

entries-shown : (number first : ℕ) (a : Account) (rs : List (List ℕ)) → AllShown (rows_from number first (entries_from a rs))
unfolding rows_from entries_from
entries-shown number first a [] = tt
entries-shown number first a (r ∷ rs) =
    by-test (accepts a r)
    (λ t.
    let h = eqb-false _ _ (is-not _ (and_r (ltb a.stage 2) (not (eqb (judge a r).account.stage 3)) t)) in
    rw t (shown-both (after_subtotal (lines_of a r) (own_row number first r (own_in (lines_of a r)))) _
    (shown-one (lines_of a r) (own_row number first r (own_in (lines_of a r))) refl (lines-shape a r h))
    (entries-shown (suc number) (first + length r) (judge a r).account rs)))
    (λ t. rw t tt)
  where
    is-not : (b : Bool) → not b ≡ true → b ≡ false
    is-not true e = sym e
    is-not false e = refl

-- The theorem: each row of a book's table shows a whole line or none.
pub records-shown : (xs : List ℕ) → AllShown (table_of xs)
unfolding table_of
records-shown xs = entries-shown 0 0 no_record (records_of xs)

-- a row by its first two columns
two-columns : (total : Bool) (vs : List ℕ) → 2 ≤ length vs
    → row_text Sheet total vs
    ≡ column_text 0 (get_or vs 0 0) ++ (44 ∷ (column_text 1 (get_or vs 1 0) ++ (columns_text Sheet 2 (drop 2 vs) ++ ending Sheet total)))
unfolding row_text columns_text
two-columns total [] h = absurd (omega arith)
two-columns total (v ∷ []) h = absurd (omega arith)
two-columns total (v ∷ w ∷ vs) h =
    ap (λ (t : List ℕ). column_text 0 v ++ (44 ∷ t)) (append_assoc (column_text 1 w) (columns_text Sheet 2 vs) (ending Sheet total))

-- a line has a kind and a group
numbers-two : (line : List ℕ) → 2 ≤ length (line_numbers line)
unfolding line_numbers line_fields total_fields
numbers-two line =
    of-choice (λ (fs : List Field). 2 ≤ length (drop 2 (values_at fs line 0))) (is_total line)
    (λ e. by total_fields (suc figure_count) refl) (λ e. by line_fields figure_count refl)
  where
    by : (fs : List Field) (n : ℕ) → length fs ≡ 4 + n → 2 ≤ length (drop 2 (values_at fs line 0))
    by fs n h = omega (arith, length-drop 2 (values_at fs line 0), values_length fs line 0, h)

-- The cells of a whole line are those of its row in a sheet, after its kind and group.
pub figures-shown : (line : List ℕ) → Whole line
    → line_row Sheet line ≡ column_text 0 (get_or (line_numbers line) 0 0) ++ (44 ∷ (column_text 1 (get_or (line_numbers line) 1 0) ++ figures_text line))
unfolding figures_text line_row
figures-shown line w =
    rw (le-ltb (length line) (front_size line) (omega (arith, w))) (two-columns (is_total line) (line_numbers line) (numbers-two line))
