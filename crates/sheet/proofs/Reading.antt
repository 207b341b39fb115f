-- A row as the code reads it, from an index on.
use Prim.Native.Nat.{ℕ, zero, suc, ◌+◌, ◌-◌, ◌<◌, ◌≤◌}
use native.Mathlib.Omega.{arith}
use native.Mathlib.Numerals.{add-one}
use native.Mathlib.Nat.{add-zero}
use mathlib.Core.Bool.{Bool, true, false, not, ◌&&◌}
use mathlib.Core.Path.{◌≡◌, refl, sym, ap, ◌∙◌}
use mathlib.Core.List.{List, [], ◌∷◌, ◌++◌, append_assoc, append-nil}
use lib.ListN.{length, get_or, take, drop, set, replicate, drop_of_length-le, length-set}
use lib.Seq.{drop-cons, take-suc-set, take_all}
use lib.Dec.{eqb, leb}
use lib.Pointwise.{pointwise}
use borrow.Author.Tests.{eqb-true, eqb-false, not-true, not-false}
use Rattle.base.specs.Choice.{pick}
use Rattle.codec.specs.declared.Field.{Field}
use Rattle.line_bytes.specs.Lines.{figure, figure_count, line_fields, total_fields, number_width}
use Rattle.line_bytes.proofs.AnyLine.{figure-width}
use Rattle.line_rows.specs.Rows.{is_signed}
use Rattle.base.proofs.Tests.{by-test, and_l, and_r}
use Rattle.std.specs.Prelude.{Result, is_ok}
use Rattle.std.specs.Result.{result_unwrap_or}
use Rattle.sheet.specs.declared.numbers.CellFault.{CellFault}
use Rattle.sheet.specs.declared.numbers.CellFault.TheVariants.{Malformed, Outside}
use Rattle.sheet.specs.declared.numbers.Read.{Read}
use Rattle.sheet.specs.declared.rows.Column.{Column}
use Rattle.sheet.specs.Numbers.{half, full, first, Number, Cell, positive, unsigned, in_field, unsigned_cell, signed_cell}
use Rattle.sheet.specs.Rows.{column, highest_of, column_count, column_of, columns_from, empty, columns}
use Rattle.sheet.specs.Rows.{starts_with, read_cell, read_column, Row, read_row}
use Rattle.sheet.specs.Code.{result_of, number_of, is_formed, IsRead, IsRowRead, IsWhole, IsBadRow}
use Rattle.std.proofs.Math.Bool.{and_assoc, and-true}

-- ---- the columns by their place

pub count : (kind : ℕ) → length (columns kind) ≡ column_count
unfolding columns line_fields
count kind = refl

figures-at : (n j k : ℕ) (cs : List Column) → k < n → get_or (columns_from j (replicate n figure) ++ cs) k empty ≡ column_of (j + k) figure
figures-at zero j k cs h = absurd (omega arith)
figures-at (suc n) j zero cs h = rw (add-zero j)
figures-at (suc n) j (suc k) cs h =
    let e : suc j + k ≡ j + suc k = omega arith in rw (← e) (figures-at n (suc j) k cs (omega arith))

-- a column by its place: that of the field with its width
of_width : (j : ℕ) (f : Field) (w : ℕ) → w ≡ f.0 → column_of j f ≡ column w (highest_of (is_signed j) w) (is_signed j) (eqb j (column_count - 1))
of_width j f w e = rw e refl

before_last : (kind j : ℕ) → j < column_count - 1
    → get_or (columns kind) j empty ≡ column (number_width j) (highest_of (is_signed j) (number_width j)) (is_signed j) (eqb j (column_count - 1))
unfolding columns line_fields total_fields
before_last kind zero h = refl
before_last kind (suc zero) h = refl
before_last kind (suc (suc k)) h =
    let e : 2 + k ≡ suc (suc k) = omega arith in
    figures-at figure_count 2 k (pick (eqb kind 8) (column_of (column_count - 1) figure) empty ∷ []) (omega arith)
    ∙ rw e (of_width (suc (suc k)) figure _ (sym (figure-width (suc (suc k)) (λ z. omega arith) (λ z. omega arith))))

the_last : (kind j : ℕ) → j ≡ column_count - 1 → get_or (columns kind) j empty ≡ pick (eqb kind 8) (column_of (column_count - 1) figure) empty
unfolding columns line_fields
the_last kind j e = rw e refl

pub column-at : (kind j w : ℕ) → j < column_count → w ≡ number_width j → (eqb j (column_count - 1) && not (eqb kind 8)) ≡ false
    → get_or (columns kind) j empty ≡ column w (highest_of (is_signed j) w) (is_signed j) (eqb j (column_count - 1))
column-at kind j w h e o =
    by-test (eqb j (column_count - 1))
    (λ t.
    let i = eqb-true j (column_count - 1) t in
    let k : eqb kind 8 ≡ true = not-false (eqb kind 8) (rw t at o) in
    the_last kind j i ∙ ap (λ (b : Bool). pick b (column_of (column_count - 1) figure) empty) k ∙ ap (λ (n : ℕ). column_of n figure) (sym i)
    ∙ of_width j figure w (e ∙ sym (figure-width j (λ z. omega arith) (λ z. omega arith))))
    (λ f. let i = eqb-false j (column_count - 1) f in before_last kind j (omega arith) ∙ rw (← e) refl)

pub empty-at : (kind j : ℕ) → (eqb j (column_count - 1) && not (eqb kind 8)) ≡ true → get_or (columns kind) j empty ≡ empty
empty-at kind j o =
    let i = eqb-true j (column_count - 1) (and_l _ _ o) in
    let k : eqb kind 8 ≡ false = not-true (eqb kind 8) (and_r (eqb j (column_count - 1)) _ o) in
    the_last kind j i ∙ rw k refl

pub empty-column : (kind j : ℕ) → (eqb j (column_count - 1) && not (eqb kind 8)) ≡ true
    → column 0 0 false (eqb j (column_count - 1)) ≡ get_or (columns kind) j empty
empty-column kind j o = rw (and_l (eqb j (column_count - 1)) (not (eqb kind 8)) o) (sym (empty-at kind j o))

-- as the code finds it
pub column-is : (kind j w h : ℕ) (s : Bool) → j < column_count → w ≡ number_width j → s ≡ is_signed j → h ≡ highest_of s w
    → (eqb j (column_count - 1) && not (eqb kind 8)) ≡ false → column w h s (eqb j (column_count - 1)) ≡ get_or (columns kind) j empty
column-is kind j w h s l e d g o = rw (g, d) (sym (column-at kind j w l e o))

pub fair-highest : (s : Bool) (w h : ℕ) → h ≡ highest_of s w → s ≡ true → h < half
unfolding highest_of
fair-highest s w h e t = rw (e, t) (omega arith)

-- ---- a word after a number

-- as std's starts_with says it
pub starts-as : (e s : List ℕ) → starts_with e s ≡ pointwise eqb e (take (length e) s)
unfolding starts_with
starts-as [] s = refl
starts-as (x ∷ e) [] = refl
starts-as (x ∷ e) (b ∷ s) = rw (starts-as e s)

-- ---- column by column

-- what the code finds of a column
formed-good : (g f : Bool) (v : ℕ) → is_formed (result_of g f v) ≡ g
formed-good true true v = refl
formed-good true false v = refl
formed-good false f v = refl

pub formed_is : {text : List ℕ} {m : Cell} {k : Read} → IsRead text m k → is_formed k.number ≡ m.good
formed_is {text} {m} o = ap is_formed o.number ∙ formed-good m.good m.fits m.value

-- a cell that tells by its number alone whether it fits, and its value
record Plain (m : Cell) : Type 0 where
  fits : is_ok (number_of m) ≡ m.fits
  value : result_unwrap_or (number_of m) 0 ≡ m.value

plain-by : (g b : Bool) (v : ℕ) (s : List ℕ) → Plain (record { good = g; fits = g && b; value = pick (g && b) v 0; rest = s })
plain-by true true v s = record { fits = refl; value = refl }
plain-by true false v s = record { fits = refl; value = refl }
plain-by false b v s = record { fits = refl; value = refl }

plain-field : (n : Number) (h v : ℕ) → Plain (in_field n h v)
plain-field n h v = plain-by n.good (leb n.value h) v n.rest

plain-pick : (b : Bool) (m n : Cell) → Plain m → Plain n → Plain (pick b m n)
plain-pick true m n p q = p
plain-pick false m n p q = q

plain-cell : (c : Column) (s : List ℕ) → Plain (read_cell c s)
unfolding read_cell signed_cell unsigned_cell
plain-cell c s =
    let h = c.highest in
    let u = plain-field (unsigned s) h (unsigned s).value in
    let p = positive (drop 1 s) in
    plain-pick (eqb c.width 0) _ _ (record { fits = refl; value = refl })
    (plain-pick c.signed _ _ (plain-pick (eqb (first s) 45) _ _ (plain-field p (h + 1) (full - p.value)) u) u)

-- what was read of a row before the rest r
abbrev pub with_rest : Bool → Bool → List ℕ → Row → Row
with_rest g f vs r = record { good = g && r.good; fits = f && r.fits; values = vs ++ r.values; rest = r.rest }

-- the row from the start, by its first j columns and those from index i of the text on
pub record SoFar (text : List ℕ) (kind : ℕ) (row : Row) (good fits : Bool) (values : List ℕ) (i j : ℕ) : Type 0 where
  pub inside : i ≤ length text
  pub few : j ≤ column_count
  pub all : length values ≡ column_count
  pub same : row ≡ with_rest good fits (take j values) (read_row (drop j (columns kind)) (drop i text))

step : (text : List ℕ) (c : Column) (cs : List Column) (g f : Bool) (vs us : List ℕ) (i : ℕ) (cell k : Read)
    → IsRead text (read_cell c (drop i text)) cell → IsRead text (read_column c (drop i text)) k → us ≡ vs ++ (result_unwrap_or cell.number 0 ∷ [])
    → with_rest g f vs (read_row (c ∷ cs) (drop i text))
    ≡ with_rest (g && is_formed k.number) (f && is_ok cell.number) us (read_row cs (drop k.end text))
unfolding read_row
step text c cs g f vs us i cell k o p e =
    let r = read_row cs (drop k.end text) in
    let m = read_cell c (drop i text) in
    let plain = plain-cell c (drop i text) in
    let good : is_formed k.number ≡ (read_column c (drop i text)).good = formed_is p in
    let fits : is_ok cell.number ≡ m.fits = ap is_ok o.number ∙ plain.fits in
    let value : result_unwrap_or cell.number 0 ≡ m.value = ap (λ (n : Result ℕ CellFault). result_unwrap_or n 0) o.number ∙ plain.value in
    rw (
      ← good,
      ← fits,
      ← value,
      ← p.rest,
      e,
      and_assoc g (is_formed k.number) r.good,
      and_assoc f (is_ok cell.number) r.fits,
      append_assoc vs (result_unwrap_or cell.number 0 ∷ []) r.values,
    )

pub one_more : (text : List ℕ) (kind : ℕ) (row : Row) (good fits : Bool) (values : List ℕ) (i j : ℕ) (c : Column) (cell k : Read)
    → SoFar text kind row good fits values i j → j < column_count → c ≡ get_or (columns kind) j empty
    → IsRead text (read_cell c (drop i text)) cell → IsRead text (read_column c (drop i text)) k
    → SoFar text kind row (good && is_formed k.number) (fits && is_ok cell.number) (set values j (result_unwrap_or cell.number 0)) k.end (j + 1)
one_more text kind row good fits values i j c cell k s l e o p =
    let v = result_unwrap_or cell.number 0 in
    let more : j < length values = omega (arith, s.all) in
    let cs : drop j (columns kind) ≡ c ∷ drop (suc j) (columns kind) = rw e (drop-cons (columns kind) j empty (omega (arith, count kind))) in
    record {
      inside = p.inside;
      few = omega arith;
      all = simp length-set s.all;
      same = rw (add-one j)
          (rw cs at s.same ∙ step text c (drop (suc j) (columns kind)) good fits (take j values) (take (suc j) (set values j v)) i cell k o p
          (take-suc-set values j v more));
    }

finished : (g f : Bool) (vs q : List ℕ)
    → with_rest g f vs (record { good = true; fits = true; values = []; rest = q }) ≡ record { good = g; fits = f; values = vs; rest = q }
finished g f vs q = rw (and-true g, and-true f, append-nil vs)

-- a row is read
module _ (text : List ℕ) (kind : ℕ) (row : Row) (good fits : Bool) (values : List ℕ) (i j : ℕ) (s : SoFar text kind row good fits values i j)
    (h : column_count ≤ j) where
  all_read : row ≡ record { good = good; fits = fits; values = values; rest = drop i text }
  unfolding read_row
  all_read =
      let done : drop j (columns kind) ≡ [] = drop_of_length-le (columns kind) {i = j} (omega (arith, count kind)) in
      let whole : take j values ≡ values = take_all j values (omega (arith, s.all)) in
      s.same ∙ rw (done, whole) (finished good fits values (drop i text))

  is-read : IsRowRead text kind row (record { kind = kind; values = values; end = i })
  is-read = rw all_read (record { kinds = refl; values = refl; rest = refl; inside = s.inside })

  pub row-malformed : good ≡ false
      → IsBadRow text kind row (record { fault = Malformed; fits = fits; read = record { kind = kind; values = values; end = i } })
  row-malformed g = record { fault = ap (λ (r : Row). r.good) all_read ∙ g; fits = sym (ap (λ (r : Row). r.fits) all_read); read = is-read }

  pub row-outside : good ≡ true → fits ≡ false
      → IsBadRow text kind row (record { fault = Outside; fits = fits; read = record { kind = kind; values = values; end = i } })
  row-outside g f =
      record {
        fault = (ap (λ (r : Row). r.good) all_read ∙ g, ap (λ (r : Row). r.fits) all_read ∙ f);
        fits = sym (ap (λ (r : Row). r.fits) all_read);
        read = is-read;
      }

  pub row-whole : good ≡ true → fits ≡ true → IsWhole text kind row (record { kind = kind; values = values; end = i })
  row-whole g f = record { good = ap (λ (r : Row). r.good) all_read ∙ g; fits = ap (λ (r : Row). r.fits) all_read ∙ f; read = is-read }
