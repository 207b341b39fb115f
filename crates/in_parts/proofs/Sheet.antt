-- Theorem: however a book is cut into parts and whatever room its lines have, the header and the rows of all calls are the export of its lines.
-- Assumes nothing.
use Prim.Native.Nat.{ℕ, zero, suc, ◌+◌, ◌-◌, ◌<◌, ◌≤◌}
use native.Mathlib.Omega.{arith}
use mathlib.Core.Path.{◌≡◌, refl, sym, ap, ◌∙◌}
use mathlib.Core.Bool.{true}
use mathlib.Core.Logic.{⊎_elim}
use mathlib.Core.List.{List, [], ◌∷◌, ◌++◌}
use borrow.Author.Tests.{le-leb, eq-eqb}
use lib.ListN.{length, get_or, length-append, get_or-append}
use lib.Seq.{drop-append_seam}
use Rattle.codec.specs.Table.{last_kind}
use Rattle.codec.specs.Codec.{val_at, be, bytes_of}
use Rattle.line_bytes.specs.Lines.{subtotal_kind, line_fields, total_fields, line_length, total_length, line_bytes_lem, total_bytes}
use Rattle.line_bytes.specs.Lines.{front_size, is_line_kind, is_line}
use Rattle.line_rows.specs.declared.Form.TheVariants.{Sheet}
use Rattle.line_rows.specs.Rows.{line_row, rows_text, header}
use Rattle.line_rows.proofs.Texts.{size-least, size-total, size-detail}
use Rattle.grams.specs.declared.units.Co2.{Co2}
use Rattle.account.specs.declared.Figures.{Figures}
use Rattle.account.specs.Line.{line_with, total_with, joined}
use Rattle.book.specs.declared.State.{State}
use Rattle.book.specs.State.{no_record_yet}
use Rattle.book.specs.Run.{run}
use Rattle.book.specs.Call.{call}
use Rattle.book.specs.Way.{Part, way, Ended}
use Rattle.promises.proofs.StaysInRange.{new-in-range}
use Rattle.promises.proofs.EachLine.{LineKind, kind-small, Each, run-each, call-each}
use Rattle.sheet.specs.Sheets.{item, made, each_by, line_item, rows_of, export_of}
use Rattle.sheet.proofs.Runs.{each-one}
use Rattle.sheet.proofs.RoundTrip.{is-line}
use Rattle.lister.specs.Listing.{text_of, rows_on_lem}
use Rattle.in_parts.specs.Sheet.{sheet_of}
use Rattle.in_parts.proofs.Rows.{Whole, Wholes, line-kind, total-kind, line-whole, total-whole, same_size, same_row, rows_all, rows-in-parts}

-- ---- one line, whatever stands after it

record OneLine (l : List ℕ) : Type 0 where
  line : is_line l ≡ true
  whole : Whole l

front-value : (s ys : List ℕ) (at w : ℕ) → at + w ≤ length s → val_at (s ++ ys) at w ≡ val_at s at w
unfolding val_at
front-value s ys at zero h = refl
front-value s ys at (suc w) h = rw (front-value s ys at w (omega arith), get_or-append s ys 0 (at + w) (omega arith))

module _ (l ys : List ℕ) (o : OneLine l) where
  long-enough : 4 ≤ length l
  long-enough = omega (arith, o.whole, size-least l)

  still-line : is_line (l ++ ys) ≡ true
  unfolding is_line
  still-line =
      let i = is-line l o.line in
      let n = same_size l ys o.whole in
      let len : val_at (l ++ ys) 0 2 ≡ front_size (l ++ ys) - 2 =
      front-value l ys 0 2 (omega (arith, long-enough)) ∙ i.counted ∙ ap (λ (k : ℕ). k - 2) (o.whole ∙ sym n) in
      let version : get_or (l ++ ys) 2 0 ≡ 1 = get_or-append l ys 0 2 (omega (arith, long-enough)) ∙ i.version in
      let kind : is_line_kind (get_or (l ++ ys) 3 0) ≡ true = ap is_line_kind (get_or-append l ys 0 3 (omega (arith, long-enough))) ∙ i.kind in
      rw (
        le-leb (front_size (l ++ ys)) (length (l ++ ys)) (omega (arith, n, length-append l ys)),
        eq-eqb _ _ len,
        eq-eqb _ _ version,
        kind,
      )

  item_on : line_item (l ++ ys) ≡ item (line_row Sheet l) ys
  unfolding line_item
  item_on = rw (still-line, same_row l ys o.whole Sheet, same_size l ys o.whole, drop-append_seam l ys)

-- ---- lines one after the other

each_row : (ls : List (List ℕ)) (n row : ℕ) → Each OneLine ls → length (joined ls) < n → each_by line_item n row (joined ls) ≡ made (text_of Sheet ls)
unfolding each_by text_of
each_row ls zero row o h = absurd (omega arith)
each_row [] (suc n) row o h = refl
each_row (l ∷ ls) (suc n) row o h =
    let some = long-enough l [] o.0 in
    let all = length-append l (joined ls) in
    each-one line_item n row (l ++ joined ls) (line_row Sheet l) (joined ls) (text_of Sheet (l ∷ ls)) (text_of Sheet ls) (omega arith)
    (item_on l (joined ls) o.0) (each_row ls n (suc row) o.1 (omega arith)) refl

rows-of : (ls : List (List ℕ)) → Each OneLine ls → rows_of (joined ls) ≡ made (text_of Sheet ls)
unfolding rows_of
rows-of ls o = rw (each_row ls (suc (length (joined ls))) 0 o (omega arith))

-- ---- what a record gives are such lines

is-kind : (k : ℕ) → LineKind k → is_line_kind k ≡ true
is-kind k o =
    ⊎_elim (λ (h : (3 ≤ k) × (k ≤ last_kind)). rw (le-leb 3 k h.0, le-leb k last_kind h.1)) (λ (h : k ≡ subtotal_kind). rw h refl) o.shown

line-start : (k g : ℕ) (f : Figures) → (val_at (line_with k g f) 0 2 ≡ line_length) × (get_or (line_with k g f) 2 0 ≡ 1)
unfolding line_bytes_lem line_fields bytes_of be val_at
line-start k g f = (refl, refl)

total-start : (f : Figures) (c : Co2) → (val_at (total_with f c) 0 2 ≡ total_length) × (get_or (total_with f c) 2 0 ≡ 1)
unfolding total_bytes total_fields bytes_of be val_at
total-start f c = (refl, refl)

one_line : (l : List ℕ) (k n : ℕ) → get_or l 3 0 ≡ k → is_line_kind k ≡ true → Whole l → front_size l ≡ n
    → val_at l 0 2 ≡ n - 2 → get_or l 2 0 ≡ 1 → OneLine l
unfolding is_line
one_line l k n e i w s len version =
    let kind : is_line_kind (get_or l 3 0) ≡ true = ap is_line_kind e ∙ i in
    let counted : val_at l 0 2 ≡ front_size l - 2 = len ∙ ap (λ (m : ℕ). m - 2) (sym s) in
    record { line = rw (le-leb (front_size l) (length l) (omega (arith, w)), eq-eqb _ _ counted, eq-eqb _ _ version, kind); whole = w }

line-one : (k g : ℕ) (f : Figures) → LineKind k → OneLine (line_with k g f)
line-one k g f o =
    let small = kind-small k o in
    let l = line_with k g f in
    let e : get_or l 3 0 ≡ k = line-kind k g f ∙ omega arith in
    let s = size-detail l (λ q. o.no-total (omega (arith, q, line-kind k g f))) in
    one_line l k _ e (is-kind k o) (line-whole k g f o) s (line-start k g f).0 (line-start k g f).1

total-one : (f : Figures) (c : Co2) → OneLine (total_with f c)
total-one f c =
    one_line (total_with f c) 8 _ (total-kind f c) refl (total-whole f c) (size-total (total_with f c) (total-kind f c)) (total-start f c).0
    (total-start f c).1

wholes : (ls : List (List ℕ)) → Each OneLine ls → Wholes ls
wholes [] o = tt
wholes (l ∷ ls) o = (o.0.whole, wholes ls o.1)

-- ---- the theorems

-- The lines of a call are never refused by 23, and their rows are those that the call prints.
pub call_rows : (s : State) (xs : List ℕ) (room : ℕ) → rows_of (call s xs room).bytes ≡ made (rows_text Sheet (call s xs room).bytes)
call_rows s xs room =
    let o = call-each OneLine line-one total-one s xs room in
    rw o.joins (rows-of o.lines o.each ∙ ap made (sym (rows_all Sheet o.lines (wholes o.lines o.each))))

-- However a book is cut, the header and the rows of its parts are its sheet.
pub sheet-in-parts : (book : List ℕ) (ps : List Part) → Ended (way no_record_yet book ps)
    → sheet_of book ≡ made (header Sheet ++ rows_on_lem Sheet no_record_yet book ps)
unfolding sheet_of export_of
sheet-in-parts book ps e =
    rw (
      rows-of (run no_record_yet book).lines (run-each OneLine line-one total-one no_record_yet book),
      rows-in-parts Sheet no_record_yet book ps new-in-range e,
    ) refl
