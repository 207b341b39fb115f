-- A row as an item, by what the code read of it.
use Prim.Native.Nat.{ℕ, ◌+◌, ◌-◌, ◌≤◌}
use native.Mathlib.Omega.{arith}
use mathlib.Core.Bool.{true, false}
use mathlib.Core.Path.{◌≡◌, sym, ap, ◌∙◌}
use mathlib.Core.List.{List, ◌∷◌, append_assoc}
use lib.ListN.{length, take, drop, length-append}
use lib.Seq.{sets, sets-eq}
use lib.Dec.{eqb}
use Rattle.codec.specs.Table.{size}
use Rattle.codec.proofs.Values.{bytes-length}
use Rattle.line_bytes.specs.Lines.{size_of_kind, fields_of_kind, is_line_kind, numbers_bytes}
use Rattle.line_bytes.proofs.Rows.{sizes}
use Rattle.printing.specs.Decimal.{Put}
use Rattle.sheet.specs.declared.rows.RowRead.{RowRead}
use Rattle.sheet.specs.Rows.{columns, read_row, kind_in, row_in}
use Rattle.sheet.specs.Sheets.{item, wrong, row_item}
use Rattle.sheet.specs.Code.{IsFault, IsWhole, IsLine, IsLineRow, refusal_of}
use Rattle.std.specs.Prelude.{Result, Ok, Err, IsOk}
use Rattle.sheet.specs.declared.numbers.CellFault.{CellFault}
use Rattle.sheet.specs.declared.numbers.CellFault.TheVariants.{Malformed, Outside}
use Rattle.sheet.specs.declared.Refusal.{Refusal}
use Rattle.sheet.specs.declared.Refusal.TheVariants.{OutsideField}
use borrow.Author.Rules.{rules}
use Rattle.base.proofs.Tests.{by-test}
use Rattle.sheet.proofs.AsColumns.{row_text}
use Rattle.sheet.proofs.Columns.{row_reads}
use Rattle.sheet.proofs.RoundTrip.{sounds, row-some, other}

pub line-length : (k : ℕ) (vs : List ℕ) → length (numbers_bytes k vs) ≡ size_of_kind k
unfolding numbers_bytes
line-length k vs =
    bytes-length (fields_of_kind k) ((size_of_kind k - 2) ∷ 1 ∷ vs) 0
    ∙ by-test {P = size (fields_of_kind k) ≡ size_of_kind k} (eqb k 8) (λ t. rw t sizes.1) (λ f. rw f sizes.0)

-- a line stored, and the index past it
pub stored-put : (k : ℕ) (vs xs ys : List ℕ) (at n : ℕ) → n ≡ size_of_kind k → at + length (numbers_bytes k vs) ≤ length xs
    → ys ≡ sets xs at (numbers_bytes k vs) → Put xs ys at (numbers_bytes k vs) (at + n)
stored-put k vs xs ys at n e h d =
    let bs = numbers_bytes k vs in
    let m : at + n ≡ at + length bs = omega (arith, line-length k vs) in
    record { next = m; room = omega (arith, m); text = rw m (d ∙ sets-eq bs xs at h ∙ append_assoc (take at xs) bs (drop (at + length bs) xs)) }

module _ (text : List ℕ) (i : ℕ) where
  pub row-wrong : (e : CellFault) → IsFault (row_in (drop i text)) e → row_item (drop i text) ≡ wrong (refusal_of e)
  unfolding row_item
  row-wrong Malformed o = rw o
  row-wrong Outside o = rw (o.0, o.1)

  module _ (r : RowRead) (o : IsWhole text (kind_in (drop i text)) (read_row (columns (kind_in (drop i text))) (drop i text)) r) where
    pub row_field : is_line_kind r.kind ≡ false → row_item (drop i text) ≡ wrong OutsideField
    unfolding row_item
    row_field f = let k : is_line_kind (kind_in (drop i text)) ≡ false = rw o.read.kinds at f in rw (o.good, o.fits, k)

    pub row-right : is_line_kind r.kind ≡ true → IsLine text (drop i text) r
    unfolding row_item
    row-right t =
        let kind = kind_in (drop i text) in
        let k : is_line_kind kind ≡ true = rw o.read.kinds at t in
        let all = read_row (columns kind) (drop i text) in
        let w = row_reads (columns kind) (drop i text) (sounds kind) o.good o.fits in
        record {
          line = rw (o.good, o.fits, k, o.read.kinds, o.read.values, o.read.rest);
          inside = o.read.inside;
          shorter = omega (
            arith,
            ap length w.text,
            length-append (row_text (columns kind) all.values) all.rest,
            row-some kind all.values,
            ap length o.read.rest,
          );
        }

-- a row that is right is read
pub line-ok : (text s p q : List ℕ) (x : Result RowRead Refusal) → IsLineRow text s x → row_item s ≡ item p q → IsOk x
line-ok text s p q (Ok r) o e = search rules
line-ok text s p q (Err why) o e = other (sym o ∙ e)

-- and its line is the item
pub line-piece : {text s p q : List ℕ} {r : RowRead} → IsLine text s r → row_item s ≡ item p q
    → (numbers_bytes r.kind r.values ≡ p) × (drop r.end text ≡ q)
line-piece {text} {s} {p} {q} {r} o e =
    let x : item (numbers_bytes r.kind r.values) (drop r.end text) ≡ item p q = sym o.line ∙ e in (cc, cc)
