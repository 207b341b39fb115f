-- THE PROMISES of document 02, W13: "Line to text to line gives the same bytes, and accepted text comes back the same."
use Prim.Native.Nat.{ℕ, zero, suc, ◌+◌, ◌-◌, ◌%◌, ◌<◌, ◌≤◌}
use native.Mathlib.Omega.{arith}
use mathlib.Core.Bool.{true, false, ◌&&◌}
use mathlib.Core.Path.{◌≡◌, refl, sym, ap, ◌∙◌}
use mathlib.Core.List.{List, [], ◌∷◌, ◌++◌, append_assoc}
use lib.ListN.{length, get_or, take, drop, replicate, length-append, length-drop, take-append-drop}
use lib.Seq.{take-add, drop-cons, drop_at, drop-append_seam, get_or-drop}
use lib.Dec.{leb, eqb}
use borrow.Author.Tests.{leb-true, eqb-true, le-leb, eq-eqb}
use Rattle.base.specs.Choice.{pick}
use Rattle.codec.specs.Codec.{bytes_hold, val_at, be}
use Rattle.codec.specs.Codec.{Bytes}
use Rattle.codec.proofs.BigEndian.{be-length, val_at-be, be-val_at, one_byte}
use Rattle.printing.specs.Decimal.{decimal}
use Rattle.sheet.specs.declared.rows.Column.{Column}
use Rattle.sheet.specs.Numbers.{Cell}
use Rattle.codec.specs.declared.Field.{Field}
use Rattle.line_bytes.specs.Lines.{figure, figure_count, line_fields, size_of_kind, front_size, is_line_kind, is_line}
use Rattle.line_rows.specs.declared.Form.TheVariants.{Sheet}
use Rattle.line_rows.specs.Rows.{is_signed, line_row, header}
use Rattle.sheet.specs.Rows.{highest_of, column_count, column_of, columns_from, empty, columns, starts_with, read_cell, read_row, kind_in}
use Rattle.sheet.proofs.AsColumns.{kind_at, bytes, values, line_of, cell_text, row_text}
use Rattle.sheet.proofs.ByFields.{line-bytes, row-columns}
use Rattle.sheet.specs.declared.Refusal.{Refusal}
use Rattle.sheet.specs.Sheets.{Item, item, wrong, Made, made, refused, before, each, line_item, no_row, rows_of, export_of, row_as, row_item}
use Rattle.sheet.specs.Sheets.{import_of}
use Rattle.base.proofs.Tests.{of-choice, by-test, no_bool, and_l, and_r}
use Rattle.sheet.proofs.Cells.{Sound, unsigned-cell, starts-text, starts-back}
use Rattle.sheet.proofs.Columns.{Sounds, Within, widths, bytes-length, values_length, drop-bytes, values-within, values-bytes, bytes-values}
use Rattle.sheet.proofs.Columns.{row_reads, row_back}
use Rattle.sheet.proofs.Runs.{not_made, Back, run-back}

-- ---- the columns themselves

-- the column of a field is sound where it is unsigned, or the field is a figure
some_bytes : (w : ℕ) → 1 ≤ bytes_hold w
unfolding bytes_hold
some_bytes zero = omega arith
some_bytes (suc w) = omega (arith, some_bytes w)

unsigned-sound : (j : ℕ) (f : Field) → is_signed j ≡ false → Sound (column_of j f)
unfolding highest_of
unsigned-sound j f e = rw e (record { eight = no_bool; half-way = no_bool; top = λ x. omega (arith, some_bytes f.0) })

figure-sound : (j : ℕ) → Sound (column_of j figure)
unfolding highest_of
figure-sound j =
    by-test (is_signed j)
    (λ t. rw t (record { eight = λ e. refl; half-way = λ e. refl; top = λ e. no_bool (sym e) }))
    (λ f. unsigned-sound j figure f)

empty-sound : Sound empty
unfolding bytes_hold
empty-sound = record { eight = no_bool; half-way = no_bool; top = λ e. refl }

-- figures, and a last column
figures-sound : (n j : ℕ) (cs : List Column) → Sounds cs → Sounds (columns_from j (replicate n figure) ++ cs)
figures-sound zero j cs o = o
figures-sound (suc n) j cs o = (figure-sound j, figures-sound n (suc j) cs o)

pub sounds : (kind : ℕ) → Sounds (columns kind)
unfolding columns line_fields
sounds kind =
    let last = of-choice Sound (eqb kind 8) (λ t. figure-sound (column_count - 1)) (λ f. empty-sound) in
    let cs : List Column = pick (eqb kind 8) (column_of (column_count - 1) figure) empty ∷ [] in
    let fs : List Field = drop 2 line_fields in
    (unsigned-sound 0 (get_or fs 0 figure) refl, (unsigned-sound 1 (get_or fs 1 figure) refl, figures-sound figure_count 2 cs (last, tt)))

pub columns-widths : (kind : ℕ) → widths (columns kind) + 3 ≡ size_of_kind kind
unfolding columns line_fields
columns-widths kind = by-test (eqb kind 8) (λ t. rw t) (λ f. rw f)

-- the first column is the kind
kind-back : (k : ℕ) (vs q : List ℕ) → get_or vs 0 0 < 256 → kind_in (row_text (columns k) vs ++ q) ≡ get_or vs 0 0
unfolding row_text columns line_fields cell_text bytes_hold
kind-back k vs q h =
    let t = decimal (get_or vs 0 0) in
    let u : List ℕ = 44 ∷ row_text (drop 1 (columns k)) (drop 1 vs) in
    rw (append_assoc t u q) (ap (λ (c : Cell). c.value) (unsigned-cell 255 (get_or vs 0 0) (u ++ q) (omega arith) (omega arith)))

pub row-some : (k : ℕ) (vs : List ℕ) → 0 < length (row_text (columns k) vs)
unfolding row_text columns line_fields cell_text
row-some k vs = let t = decimal (get_or vs 0 0) in rw (length-append t) (omega arith)

-- ---- a line to its row, and back

pub other : {P : Type 0} {c : Refusal} {t r : List ℕ} → wrong c ≡ item t r → P
other e = cc

pub record Line (s : List ℕ) : Type 0 where
  pub long : front_size s ≤ length s
  pub counted : val_at s 0 2 ≡ front_size s - 2
  pub version : get_or s 2 0 ≡ 1
  pub kind : is_line_kind (kind_at s) ≡ true

pub is-line : (s : List ℕ) → is_line s ≡ true → Line s
unfolding is_line
is-line s e =
    let k = kind_at s in
    let l = leb (front_size s) (length s) in
    let c = eqb (val_at s 0 2) (front_size s - 2) in
    let v = eqb (get_or s 2 0) 1 in
    let lcv = and_l ((l && c) && v) (is_line_kind k) e in
    let lc = and_l (l && c) v lcv in
    record {
      long = leb-true _ _ (and_l l c lc);
      counted = eqb-true _ _ (and_r l c lc);
      version = eqb-true _ _ (and_r (l && c) v lcv);
      kind = and_r ((l && c) && v) (is_line_kind k) e;
    }

-- the value of the first column is the kind
first-value : (s : List ℕ) → get_or (values (columns (kind_at s)) (drop 3 s)) 0 0 ≡ kind_at s
unfolding values columns line_fields
first-value s = sym (one_byte (drop 3 s) 0 (kind_at s) (sym (get_or-drop 3 s 0 0)))

-- a line's bytes from its values
line-again : (s : List ℕ) → Bytes s → Line s → line_of (kind_at s) (values (columns (kind_at s)) (drop 3 s)) ≡ take (front_size s) s
unfolding line_of
line-again s b o =
    let k = kind_at s in
    let cs = columns k in
    let m = widths cs in
    let w = columns-widths k in
    let long = o.long in
    let e2 : be 2 (size_of_kind k - 2) ≡ take 2 s = ap (be 2) (sym o.counted) ∙ be-val_at s b 0 2 (omega arith) in
    let body : bytes cs (values cs (drop 3 s)) ≡ take m (drop 3 s) = values-bytes cs (drop 3 s) (drop-bytes 3 s b)
    (rw (length-drop 3 s) (omega arith)) in
    let all : size_of_kind k ≡ 2 + suc m = omega arith in
    rw (e2, body, all, take-add 2 (suc m) s, drop-cons s 2 0 (omega arith), o.version)

line-back : (s t r : List ℕ) → Bytes s → line_item s ≡ item t r → Back row_item s t r
unfolding line_item row_item
line-back s t r b =
    of-choice (λ (x : Item). x ≡ item t r → Back row_item s t r) (is_line s)
    (λ g e.
    let k = kind_at s in
    let vs = values (columns k) (drop 3 s) in
    let o = is-line s g in
    let row : line_row Sheet s ≡ t = cc in
    let text : row_text (columns k) vs ≡ t = sym (row-columns s) ∙ row in
    let rest : drop (front_size s) s ≡ r = cc in
    let first : get_or vs 0 0 ≡ k = first-value s in
    let small : get_or vs 0 0 < 256 = rw first (b 3) in
    record {
      own = take (front_size s) s;
      front = rw (← rest) (sym (take-append-drop (front_size s) s));
      some = rw (← text) (row-some k vs);
      again = λ q.
          let kind : kind_in (t ++ q) ≡ k = rw (← text) (kind-back k vs q small ∙ first) in
          let row = row_back (columns k) vs q (sounds k) (values-within (columns k) (drop 3 s) (drop-bytes 3 s b))
          (values_length (columns k) (drop 3 s)) in
          let read : read_row (columns k) (t ++ q) ≡ record { good = true; fits = true; values = vs; rest = q } = rw (← text) row in
          rw kind (ap (row_as k) read ∙ rw (o.kind, line-bytes k vs, line-again s b o));
    })
    (λ g e. other e)

lines_keep : (s t r : List ℕ) → Bytes s → line_item s ≡ item t r → Bytes r
unfolding line_item
lines_keep s t r b =
    of-choice (λ (x : Item). x ≡ item t r → Bytes r) (is_line s)
    (λ g e. let rest : drop (front_size s) s ≡ r = cc in rw rest at (drop-bytes (front_size s) s b))
    (λ g e. other e)

-- ---- a row to its line, and back

version-at : (n : ℕ) (s : List ℕ) → get_or (be 2 n ++ (1 ∷ s)) 2 0 ≡ 1
unfolding be
version-at n s = refl

past-version : (n : ℕ) (s : List ℕ) → drop 3 (be 2 n ++ (1 ∷ s)) ≡ s
unfolding be
past-version n s = refl

line-some : (k : ℕ) (vs : List ℕ) → 0 < length (line_of k vs)
unfolding line_of be
line-some k vs = omega arith

-- the first value of a row is its kind
row-kind : (s : List ℕ) → get_or (read_row (columns (kind_in s)) s).values 0 0 ≡ kind_in s
unfolding read_row columns line_fields read_cell highest_of bytes_hold
row-kind s = refl

-- a line of values in their fields, whatever stands behind it
module _ (k : ℕ) (vs q : List ℕ) (first : get_or vs 0 0 ≡ k) (within : Within (columns k) vs) (count : length vs ≡ length (columns k))
    (kind : is_line_kind k ≡ true) where
  line : List ℕ
  line = line_of k vs ++ q

  body : List ℕ
  body = bytes (columns k) vs ++ q

  small : k < 256
  unfolding columns line_fields bytes_hold
  small = rw first at within.0

  line-starts : line ≡ be 2 (size_of_kind k - 2) ++ (1 ∷ body)
  unfolding line_of line body
  line-starts = append_assoc (be 2 (size_of_kind k - 2)) (1 ∷ bytes (columns k) vs) q

  line-kind : kind_at line ≡ k
  unfolding be bytes columns line_fields body
  line-kind = let m : k % 256 ≡ k = omega (arith, small) in rw (line-starts, first, m)

  body-length : length body ≡ widths (columns k) + length q
  unfolding body
  body-length = rw (length-append (bytes (columns k) vs) q, bytes-length (columns k) vs)

  line-length : length line ≡ size_of_kind k + length q
  line-length =
      rw line-starts
      (omega (arith, length-append (be 2 (size_of_kind k - 2)) (1 ∷ body), be-length 2 (size_of_kind k - 2), body-length, columns-widths k))

  length-small : size_of_kind k - 2 < bytes_hold 2
  unfolding bytes_hold
  length-small = of-choice (λ (n : ℕ). n - 2 < 65536) (eqb k 8) (λ t. omega arith) (λ f. omega arith)

  line-is : is_line line ≡ true
  unfolding is_line
  line-is =
      let len : val_at line 0 2 ≡ size_of_kind k - 2 = rw line-starts (val_at-be 2 (size_of_kind k - 2) [] (1 ∷ body) length-small) in
      let version : get_or line 2 0 ≡ 1 = rw line-starts (version-at (size_of_kind k - 2) body) in
      rw (line-kind, le-leb (size_of_kind k) (length line) (omega (arith, line-length)), eq-eqb _ _ len, eq-eqb _ _ version, kind)

  body-values : values (columns k) body ≡ vs
  unfolding body
  body-values = bytes-values (columns k) vs q within count

  line-rest : drop (size_of_kind k) line ≡ q
  unfolding line
  line-rest = drop_at (line_of k vs) q (size_of_kind k) (omega (arith, line-length, length-append (line_of k vs) q))

  line-item : line_item (line_of k vs ++ q) ≡ item (row_text (columns k) vs) q
  unfolding line_item line
  line-item =
      let past : drop 3 line ≡ body = rw line-starts (past-version (size_of_kind k - 2) body) in
      rw (line-is, row-columns line, line-kind, past, body-values, line-rest)

row-again : (s l r : List ℕ) → Unit {0} → row_item s ≡ item l r → Back line_item s l r
unfolding row_item
row-again s l r u =
    let k = kind_in s in
    let w = read_row (columns k) s in
    of-choice (λ (x : Item). x ≡ item l r → Back line_item s l r) w.good
    (λ g.
    of-choice (λ (x : Item). x ≡ item l r → Back line_item s l r) (w.fits && is_line_kind k)
    (λ f e.
    let o = row_reads (columns k) s (sounds k) g (and_l _ _ f) in
    let made-line : line_of k w.values ≡ l = sym (line-bytes k w.values) ∙ cc in
    let rest : w.rest ≡ r = cc in
    record {
      own = row_text (columns k) w.values;
      front = rw (← rest) o.text;
      some = rw (← made-line) (line-some k w.values);
      again = λ q. rw (← made-line) (line-item k w.values q (row-kind s) o.within o.count (and_r w.fits _ f));
    })
    (λ f e. other e))
    (λ g e. other e)

-- ---- whole sheets

export-made : (m : Made) (t : List ℕ) → before (header Sheet) (no_row m) ≡ made t → (u : List ℕ) × (m ≡ made u) × (t ≡ header Sheet ++ u)
export-made (made u) t e = (u, refl, cc)
export-made (refused c n) t e = not_made e

-- line to text to line gives the same bytes
pub line-text-line : (lines text : List ℕ) → Bytes lines → export_of lines ≡ made text → import_of text ≡ made lines
unfolding export_of rows_of import_of
line-text-line lines text b e =
    let x = export-made (each line_item 0 lines) text e in
    let u = x.0 in
    let back = run-back line_item row_item Bytes line-back lines_keep (suc (length lines)) (suc (length u)) 0 2 lines u b x.1 (omega arith) in
    rw (x.2, starts-back (header Sheet) u, drop-append_seam (header Sheet) u) back

-- accepted text comes back the same
pub text-line-text : (text lines : List ℕ) → import_of text ≡ made lines → export_of lines ≡ made text
unfolding export_of rows_of import_of
text-line-text text lines =
    of-choice (λ (m : Made). m ≡ made lines → export_of lines ≡ made text) (starts_with (header Sheet) text)
    (λ t e.
    let u = drop (length (header Sheet)) text in
    let back = run-back row_item line_item (λ s. Unit {0}) row-again (λ s p r o i. tt) (suc (length u)) (suc (length lines)) 2 0 u lines tt e
    (omega arith) in
    rw (back) (ap made (sym (starts-text (header Sheet) text t))))
    (λ f e. not_made e)
