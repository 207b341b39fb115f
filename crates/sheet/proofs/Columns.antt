-- A row of columns, both as text and as bytes: what is read is what would be written, and what is written is read.
use Prim.Native.Nat.{ℕ, suc, ◌+◌, ◌<◌, ◌≤◌}
use native.Mathlib.Omega.{arith}
use mathlib.Core.Bool.{true}
use mathlib.Core.Path.{◌≡◌, refl, ap, ◌∙◌}
use mathlib.Core.List.{List, [], ◌∷◌, ◌++◌, append_assoc}
use lib.ListN.{length, get_or, take, drop, length-append, length-drop}
use lib.Seq.{take-add, drop_at, get_or-drop}
use Rattle.codec.specs.Codec.{bytes_hold, be}
use Rattle.codec.specs.Codec.{Bytes}
use Rattle.codec.proofs.BigEndian.{val_at-lt, be-length, val_at-be, be-val_at}
use Rattle.sheet.specs.declared.rows.Column.{Column}
use Rattle.sheet.specs.Numbers.{Cell}
use Rattle.sheet.specs.Rows.{column_end, read_column, Row, and_then, read_row}
use Rattle.sheet.proofs.AsColumns.{bytes, values, cell_text, row_text}
use Rattle.base.proofs.Tests.{and_l, and_r}
use Rattle.sheet.proofs.Cells.{right, Sound, column-reads, column-back}

abbrev pub Sounds : List Column → Type 0
Sounds [] = Unit
Sounds (c ∷ cs) = Sound c × Sounds cs

-- each value fits the bytes of its column
abbrev pub Within : List Column → List ℕ → Type 0
Within [] vs = Unit
Within (c ∷ cs) vs = (get_or vs 0 0 < bytes_hold c.width) × Within cs (drop 1 vs)

abbrev pub widths : List Column → ℕ
widths [] = 0
widths (c ∷ cs) = c.width + widths cs

-- ---- as bytes

pub bytes-length : (cs : List Column) (vs : List ℕ) → length (bytes cs vs) ≡ widths cs
unfolding bytes
bytes-length [] vs = refl
bytes-length (c ∷ cs) vs =
    omega (arith, length-append (be c.width (get_or vs 0 0)) (bytes cs (drop 1 vs)), be-length c.width (get_or vs 0 0), bytes-length cs (drop 1 vs))

pub values_length : (cs : List Column) (s : List ℕ) → length (values cs s) ≡ length cs
unfolding values
values_length [] s = refl
values_length (c ∷ cs) s = ap suc (values_length cs (drop c.width s))

pub drop-bytes : (n : ℕ) (s : List ℕ) → Bytes s → Bytes (drop n s)
drop-bytes n s b i = rw (get_or-drop n s i 0) (b (n + i))

pub values-within : (cs : List Column) (s : List ℕ) → Bytes s → Within cs (values cs s)
unfolding values
values-within [] s b = tt
values-within (c ∷ cs) s b = (val_at-lt s b 0 c.width, values-within cs (drop c.width s) (drop-bytes c.width s b))

-- bytes read, and written again
pub values-bytes : (cs : List Column) (s : List ℕ) → Bytes s → widths cs ≤ length s → bytes cs (values cs s) ≡ take (widths cs) s
unfolding bytes values
values-bytes [] s b h = refl
values-bytes (c ∷ cs) s b h =
    let w = c.width in
    rw (be-val_at s b 0 w (omega arith), take-add w (widths cs) s, values-bytes cs (drop w s) (drop-bytes w s b) (rw (length-drop w s) (omega arith)))

-- values written, and read again
pub bytes-values : (cs : List Column) (vs q : List ℕ) → Within cs vs → length vs ≡ length cs → values cs (bytes cs vs ++ q) ≡ vs
unfolding bytes values
bytes-values [] [] q i e = refl
bytes-values [] (v ∷ vs) q i e = absurd (omega arith)
bytes-values (c ∷ cs) [] q i e = absurd (omega arith)
bytes-values (c ∷ cs) (v ∷ vs) q i e =
    let w = c.width in
    rw (
      append_assoc (be w v) (bytes cs vs) q,
      val_at-be w v [] (bytes cs vs ++ q) i.0,
      drop_at (be w v) (bytes cs vs ++ q) w (be-length w v),
      bytes-values cs vs q i.1 (omega arith),
    )

-- ---- as text

-- s is the text of the row and what stands behind it
pub record Whole (cs : List Column) (s : List ℕ) (r : Row) : Type 0 where
  pub text : s ≡ row_text cs r.values ++ r.rest
  pub within : Within cs r.values
  pub count : length r.values ≡ length cs

-- a text read, and written again
pub row_reads : (cs : List Column) (s : List ℕ) → Sounds cs → (read_row cs s).good ≡ true → (read_row cs s).fits ≡ true → Whole cs s (read_row cs s)
unfolding read_row row_text
row_reads [] s o g f = record { text = refl; within = tt; count = refl }
row_reads (c ∷ cs) s o g f =
    let k = read_column c s in
    let r = read_row cs k.rest in
    let one = column-reads c o.0 s (and_l _ _ g) (and_l _ _ f) in
    let all = row_reads cs k.rest o.1 (and_r k.good _ g) (and_r k.fits _ f) in
    let t = cell_text c k.value in
    let e = column_end c.last in
    let u = row_text cs r.values in
    record {
      text = one.text ∙ ap (λ (l : List ℕ). (t ++ e) ++ l) all.text ∙ simp append_assoc;
      within = (one.small, all.within);
      count = ap suc all.count;
    }

-- values written, and read again
pub row_back : (cs : List Column) (vs q : List ℕ) → Sounds cs → Within cs vs → length vs ≡ length cs
    → read_row cs (row_text cs vs ++ q) ≡ record { good = true; fits = true; values = vs; rest = q }
unfolding read_row row_text
row_back [] [] q o i e = refl
row_back [] (v ∷ vs) q o i e = absurd (omega arith)
row_back (c ∷ cs) [] q o i e = absurd (omega arith)
row_back (c ∷ cs) (v ∷ vs) q o i e =
    let t = cell_text c v in
    let d = column_end c.last in
    let u = row_text cs vs in
    let a : (t ++ (d ++ u)) ++ q ≡ t ++ (d ++ (u ++ q)) = simp append_assoc in
    ap (read_row (c ∷ cs)) a
    ∙ ap (λ (k : Cell). and_then k (read_row cs k.rest)) (column-back c o.0 v (u ++ q) i.0)
    ∙ ap (and_then (right v (u ++ q))) (row_back cs vs q o.1 i.1 (omega arith))
