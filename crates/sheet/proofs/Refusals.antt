-- THE PROMISES of document 02, W13, on refusals: the first row that is wrong, 20 before 21 in a row, 23, 16 last, each writing nothing.
use Prim.Native.Nat.{ℕ, zero, suc, ◌+◌, ◌<◌}
use native.Mathlib.Omega.{arith}
use mathlib.Core.Bool.{true, false, ◌&&◌}
use mathlib.Core.Path.{◌≡◌, refl, sym, ap, subst}
use mathlib.Core.Logic.{◌⊎◌, inl, inr}
use mathlib.Core.List.{List, [], ◌∷◌}
use lib.ListN.{length, drop, length-append, length-drop}
use lib.Dec.{leb}
use borrow.Author.Tests.{leb-false}
use Rattle.base.proofs.Tests.{of-choice, by-test, and_l}
use Rattle.line_bytes.specs.Lines.{front_size, is_line_kind, is_line}
use Rattle.line_rows.specs.declared.Form.TheVariants.{Sheet}
use Rattle.line_rows.specs.Rows.{header}
use Rattle.line_rows.proofs.Texts.{size-least}
use Rattle.std.specs.Prelude.{Result, Ok, Err}
use Rattle.sheet.specs.declared.Refusal.{Refusal}
use Rattle.sheet.specs.declared.Refusal.TheVariants.{Full, WrongForm, OutsideField, NoLines}
use Rattle.sheet.specs.declared.Refused.{Refused}
use Rattle.sheet.specs.Rows.{columns, starts_with, kind_in, row_in}
use Rattle.sheet.specs.Sheets.{code_of, Item, item, wrong, Made, made, refused, before, goes_on_lem, each_by, each, line_item, no_row, rows_of, export_of}
use Rattle.sheet.specs.Sheets.{row_item, import_of, no_room, answer, buffer}
use Rattle.sheet.specs.Refusals.{is_right, past, Right, behind, FirstWrong, NoRoom}
use Rattle.sheet.proofs.AsColumns.{row_text}
use Rattle.sheet.proofs.Columns.{row_reads}
use Rattle.sheet.proofs.Runs.{not_made}
use Rattle.sheet.proofs.RoundTrip.{sounds, row-some, other, is-line}

-- ---- the numbers

-- the paper's number of each: 20 where it is not of the form, 21 for a number outside its field, 23 for no whole line, 16 for no room
pub paper-codes : (code_of WrongForm ≡ 20) × (code_of OutsideField ≡ 21) × (code_of NoLines ≡ 23) × (code_of Full ≡ 16)
paper-codes = (refl, refl, refl, refl)

-- ---- the first wrong item

passes_on : (p : List ℕ) (y : Made) (why : Refusal) (r : ℕ) → before p y ≡ refused why r → y ≡ refused why r
passes_on p (made t) why r e = not_made (sym e)
passes_on p (refused c n) why r e = e

module _ (f : List ℕ → Item) (shrinks : (s p r : List ℕ) → f s ≡ item p r → length r < length s) where
  here : (s : List ℕ) (why : Refusal) → 0 < length s → f s ≡ wrong why → FirstWrong f s 0 why
  unfolding Right behind
  here s why h e = record { before = tt; some = h; there = e }

  later : (s p q : List ℕ) (why : Refusal) (k : ℕ) → f s ≡ item p q → FirstWrong f q k why → FirstWrong f s (suc k) why
  unfolding Right behind
  later s p q why k e w =
      let rest : q ≡ past (f s) s = sym (ap (λ (x : Item). past x s) e) in
      record {
        before = (ap is_right e, subst (Right f k) rest w.before);
        some = subst (λ (t : List ℕ). 0 < length (behind f k t)) rest w.some;
        there = subst (λ (t : List ℕ). f (behind f k t) ≡ wrong why) rest w.there;
      }

  -- item k of those from this row on is the first wrong one, and its row is r
  record At (s : List ℕ) (row : ℕ) (why : Refusal) (r : ℕ) : Type 0 where
    place : ℕ
    counted : r ≡ row + place
    stops : FirstWrong f s place why

  by-item : (s : List ℕ) (row : ℕ) (why : Refusal) (r : ℕ) (next : List ℕ → Made) (x : Item) → 0 < length s → f s ≡ x
      → ((p q : List ℕ) → f s ≡ item p q → next q ≡ refused why r → At q (suc row) why r) → goes_on_lem x row next ≡ refused why r → At s row why r
  by-item s row why r next (wrong c) h o more g =
      let same : c ≡ why = cc in
      let row_is : row ≡ r = cc in
      record { place = 0; counted = omega arith; stops = here s why h (rw same at o) }
  by-item s row why r next (item p q) h o more g =
      let w = more p q o (passes_on p (next q) why r g) in
      record { place = suc w.place; counted = omega (arith, w.counted); stops = later s p q why w.place o w.stops }

  first-wrong : (n row : ℕ) (s : List ℕ) (why : Refusal) (r : ℕ) → length s < n → each_by f n row s ≡ refused why r → At s row why r
  unfolding each_by
  first-wrong zero row s why r l e = absurd (omega arith)
  first-wrong (suc n) row [] why r l e = not_made (sym e)
  first-wrong (suc n) row (b ∷ s) why r l e =
      by-item (b ∷ s) row why r (each_by f n (suc row)) (f (b ∷ s)) (omega arith) refl
      (λ p q o g. first-wrong n (suc row) q why r (omega (arith, shrinks (b ∷ s) p q o)) g) e

-- ---- a row

-- 20 before 21: a row with 20 is not of the form; one with 21 is, and a number of it is outside its field
pub wrong_row : (s : List ℕ) (why : Refusal) → row_item s ≡ wrong why
    → ((why ≡ WrongForm) × ((row_in s).good ≡ false)) ⊎ ((why ≡ OutsideField) × ((row_in s).good ≡ true) × (((row_in s).fits && is_line_kind (kind_in s)) ≡ false))
unfolding row_item
wrong_row s why =
    of-choice
    (λ (x : Item). x ≡ wrong why → ((why ≡ WrongForm) × ((row_in s).good ≡ false))
    ⊎ ((why ≡ OutsideField) × ((row_in s).good ≡ true) × (((row_in s).fits && is_line_kind (kind_in s)) ≡ false)))
    (row_in s).good
    (λ g.
    of-choice
    (λ (x : Item). x ≡ wrong why → ((why ≡ WrongForm) × ((row_in s).good ≡ false))
    ⊎ ((why ≡ OutsideField) × ((row_in s).good ≡ true) × (((row_in s).fits && is_line_kind (kind_in s)) ≡ false)))
    ((row_in s).fits && is_line_kind (kind_in s))
    (λ f e. other (sym e))
    (λ f e. inr (cc, g, f)))
    (λ g e. inl (cc, g))

row-shrinks : (s l r : List ℕ) → row_item s ≡ item l r → length r < length s
unfolding row_item
row-shrinks s l r =
    let k = kind_in s in
    let w = row_in s in
    of-choice (λ (x : Item). x ≡ item l r → length r < length s) w.good
    (λ g.
    of-choice (λ (x : Item). x ≡ item l r → length r < length s) (w.fits && is_line_kind k)
    (λ f e.
    let o = row_reads (columns k) s (sounds k) g (and_l _ _ f) in
    let rest : w.rest ≡ r = cc in
    omega (arith, ap length o.text, length-append (row_text (columns k) w.values) w.rest, row-some k w.values, ap length rest))
    (λ f e. other e))
    (λ g e. other e)

-- ---- the refusals of a text

-- a refused text has no header, or a first row that is wrong: the rows before it are right, and it has the row's number, the header's being 1
pub import-refused : (text : List ℕ) (why : Refusal) (row : ℕ) → import_of text ≡ refused why row
    → ((starts_with (header Sheet) text ≡ false) × (why ≡ WrongForm) × (row ≡ 1))
    ⊎ ((starts_with (header Sheet) text ≡ true) × ((k : ℕ) × (row ≡ 2 + k) × FirstWrong row_item (drop (length (header Sheet)) text) k why))
unfolding import_of
import-refused text why row =
    of-choice
    (λ (m : Made). m ≡ refused why row → ((starts_with (header Sheet) text ≡ false) × (why ≡ WrongForm) × (row ≡ 1))
    ⊎ ((starts_with (header Sheet) text ≡ true) × ((k : ℕ) × (row ≡ 2 + k) × FirstWrong row_item (drop (length (header Sheet)) text) k why)))
    (starts_with (header Sheet) text)
    (λ t e. let u = drop (length (header Sheet)) text in let w = first-wrong row_item row-shrinks (suc (length u)) 2 u why row (omega arith) e in
    inr (t, (w.place, w.counted, w.stops)))
    (λ f e. inl (f, cc, cc))

-- ---- the refusals of lines

line-shrinks : (s t r : List ℕ) → line_item s ≡ item t r → length r < length s
unfolding line_item
line-shrinks s t r =
    of-choice (λ (x : Item). x ≡ item t r → length r < length s) (is_line s)
    (λ g e.
    let rest : drop (front_size s) s ≡ r = cc in
    omega (arith, ap length rest, length-drop (front_size s) s, size-least s, (is-line s g).long))
    (λ g e. other e)

wrong-line : (s : List ℕ) (why : Refusal) → line_item s ≡ wrong why → why ≡ NoLines
unfolding line_item
wrong-line s why = of-choice (λ (x : Item). x ≡ wrong why → why ≡ NoLines) (is_line s) (λ g e. other (sym e)) (λ g e. cc)

unnumbered : (m : Made) (why : Refusal) (row : ℕ) → before (header Sheet) (no_row m) ≡ refused why row → (row ≡ 0) × ((r : ℕ) × (m ≡ refused why r))
unnumbered (made t) why row e = not_made (sym e)
unnumbered (refused c r) why row e = (cc, (r, cc))

-- lines are refused by 23 alone, which has no row: some first of them is no whole line
pub export-refused : (lines : List ℕ) (why : Refusal) (row : ℕ) → export_of lines ≡ refused why row
    → (why ≡ NoLines) × (row ≡ 0) × ((k : ℕ) × FirstWrong line_item lines k NoLines)
unfolding export_of rows_of
export-refused lines why row e =
    let u = unnumbered (each line_item 0 lines) why row e in
    let w = first-wrong line_item line-shrinks (suc (length lines)) 0 lines why u.1.0 (omega arith) u.1.1 in
    let n = wrong-line (behind line_item w.place lines) why w.stops.there in
    (n, u.0, (w.place, subst (FirstWrong line_item lines w.place) n w.stops))

-- ---- the room, and the buffer

same-refused : (a b : Refused) → ◌≡◌ {A = Result ℕ Refused} (Err a) (Err b) → (a.why ≡ b.why) × (a.row ≡ b.row)
same-refused a b e = let q : a ≡ b = cc in (ap (λ (x : Refused). x.why) q, ap (λ (x : Refused). x.row) q)

-- 16 is last: it is answered only where nothing else is wrong
pub room-last : (m : Made) (room : ℕ) (why : Refusal) (row : ℕ) → answer m room ≡ Err (record { why = why; row = row })
    → (m ≡ refused why row) ⊎ ((why ≡ Full) × (row ≡ 0) × NoRoom m room)
unfolding answer
room-last (refused c r) room why row =
    λ e. let q = same-refused (record { why = c; row = r }) (record { why = why; row = row }) e in inl (rw (q.0, q.1))
room-last (made t) room why row =
    of-choice (λ (a : Result ℕ Refused). a ≡ Err (record { why = why; row = row }) → (made t ≡ refused why row)
    ⊎ ((why ≡ Full) × (row ≡ 0) × NoRoom (made t) room)) (leb (length t) room)
    (λ b e. cc)
    (λ b e. let q = same-refused no_room (record { why = why; row = row }) e in
    inr (sym q.0, sym q.1, record { text = t; all = refl; less = leb-false (length t) room b }))

-- a refusal writes nothing
pub writes_nothing : (m : Made) (out : List ℕ) (why : Refusal) (row : ℕ) → answer m (length out) ≡ Err (record { why = why; row = row }) → buffer m out ≡ out
unfolding answer buffer
writes_nothing (made t) out why row =
    by-test (leb (length t) (length out))
    (λ b e. let x : Ok (length t) ≡ Err (record { why = why; row = row }) = rw b at e in cc)
    (λ b e. rw b)
writes_nothing (refused c r) out why row = λ e. refl
