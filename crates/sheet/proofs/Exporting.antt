-- Lines written as rows: what the code finds of each line, and how the rows go on behind each other.
use Prim.Native.Nat.{ℕ, suc, ◌+◌, ◌<◌, ◌≤◌}
use native.Mathlib.Omega.{arith}
use mathlib.Core.Bool.{true, false}
use mathlib.Core.Path.{◌≡◌, refl, ap, ◌∙◌}
use mathlib.Core.List.{List, ◌++◌}
use lib.ListN.{length, drop, length-append, length-drop}
use lib.Seq.{drop-drop}
use Rattle.base.proofs.Tests.{of-choice}
use Rattle.printing.specs.Decimal.{Put}
use Rattle.printing.proofs.Puts.{and-then}
use native.Mathlib.Nat.{zero-add}
use Rattle.std.specs.Prelude.{Option, Some, Result, Err}
use Rattle.sheet.specs.declared.Refusal.TheVariants.{NoLines}
use Rattle.sheet.specs.declared.Refused.{Refused}
use Rattle.line_bytes.specs.Lines.{line_size, total_size, is_total, front_size, is_line}
use Rattle.line_rows.specs.declared.Form.TheVariants.{Sheet}
use Rattle.line_rows.specs.Rows.{line_row, header}
use Rattle.line_rows.proofs.Texts.{size-least}
use Rattle.sheet.specs.Sheets.{Item, item, wrong, Made, made, refused, before, each, line_item, no_row, rows_of, export_of, answer}
use Rattle.sheet.specs.Code.{total_of, more_bytes, answer_after, made_of}
use Rattle.sheet.proofs.Runs.{not_made}
use Rattle.sheet.proofs.RoundTrip.{other, is-line}
use Rattle.sheet.proofs.Plans.{total-more, sized, Planned, plan-wrong, plan-more, Promised}
use Rattle.sheet.proofs.Writing.{Run, writes-all}

-- ---- one line

pub front-there : (s : List ℕ) → is_line s ≡ true → front_size s ≤ length s
front-there s e = (is-line s e).long

pub long-enough : (s : List ℕ) → is_line s ≡ true → line_size ≤ length s
long-enough s e = omega (arith, front-there s e, size-least s)

pub front-most : (s : List ℕ) → front_size s ≤ total_size
front-most s = of-choice (λ (n : ℕ). n ≤ total_size) (is_total s) (λ e. omega arith) (λ e. omega arith)

pub no_line : (s : List ℕ) → is_line s ≡ false → line_item s ≡ wrong NoLines
unfolding line_item
no_line s e = rw e

-- what a line is, where it is one
pub record Is (s p r : List ℕ) : Type 0 where
  pub line : is_line s ≡ true
  pub row : line_row Sheet s ≡ p
  pub rest : drop (front_size s) s ≡ r

pub line-is : (s p r : List ℕ) → line_item s ≡ item p r → Is s p r
unfolding line_item
line-is s p r =
    of-choice (λ (x : Item). x ≡ item p r → Is s p r) (is_line s)
    (λ t e. record { line = t; row = cc; rest = cc })
    (λ f e. other e)

-- the line that the lines go on with at index i, of n bytes
module _ (lines : List ℕ) (i : ℕ) (s : List ℕ) (n : ℕ) (e : s ≡ drop i lines) (t : is_line s ≡ true) (o : n ≡ front_size s) where
  pub line-next : line_item (drop i lines) ≡ item (line_row Sheet s) (drop (i + n) lines)
  unfolding line_item
  line-next =
      let d : drop (front_size s) s ≡ drop (i + n) lines = rw (← o) (ap (drop n) e ∙ drop-drop n i lines) in
      rw (← e, t, d)

  pub line-ahead : i ≤ length lines → i + n ≤ length lines
  line-ahead h = omega (arith, (is-line s t).long, o, ap length e, length-drop i lines)

  pub line-more : i < i + n
  line-more = omega (arith, o, size-least s)

-- ---- the answer

-- the answer, by the lines that are left
pub record Going (whole : Result ℕ Refused) (room : ℕ) (total : Option ℕ) (left : List ℕ) : Type 0 where
  pub row : ℕ
  pub plan : Planned line_item (λ n. 0) whole room total left row

unseen : (k room : ℕ) (m : Made) → answer_after k (no_row m) room ≡ sized (λ n. 0) k m room
unseen k room (made t) = refl
unseen k room (refused c r) = refl

pub going : (lines : List ℕ) (room k : ℕ) (start : Option ℕ) → start ≡ total_of room k → Going (answer_after k (rows_of lines) room) room start lines
unfolding rows_of
going lines room k start e =
    record {
      row = 0;
      plan = record {
        sum = k;
        fuel = suc (length lines);
        holds = e;
        enough = omega arith;
        same = unseen k room
            (each line_item 0 lines);
      };
    }

module _ (lines : List ℕ) (i : ℕ) {whole : Result ℕ Refused} {room : ℕ} {total : Option ℕ} (g : Going whole room total (drop i lines)) (h : i < length lines) where
  some : 0 < length (drop i lines)
  some = omega (arith, length-drop i lines)

  pub going-wrong : (s : List ℕ) → s ≡ drop i lines → is_line s ≡ false → whole ≡ Err (record { why = NoLines; row = 0 })
  going-wrong s e f = plan-wrong g.plan NoLines some (rw (← e) (no_line s f))

  pub going_on : (s : List ℕ) (n size : ℕ) (t : Option ℕ) → s ≡ drop i lines → is_line s ≡ true → n ≡ front_size s → size ≡ length (line_row Sheet s)
      → t ≡ more_bytes total size room → Going whole room t (drop (i + n) lines)
  going_on s n size t e l o z add =
      let p = g.plan in
      let ahead = line-ahead lines i s n e l o (omega arith) in
      let fewer : length (drop (i + n) lines) < length (drop i lines) = omega
      (arith, length-drop i lines, length-drop (i + n) lines, line-more lines i s n e l o) in
      let sum : t ≡ total_of room (p.sum + length (line_row Sheet s)) =
      add ∙ total-more total room p.sum p.holds size ∙ ap (λ (m : ℕ). total_of room (p.sum + m)) z in
      record {
        row = g.row + 1;
        plan = plan-more p (line_row Sheet s) (drop (i + n) lines) t (g.row + 1) some
            (line-next lines i s n e l o) fewer sum refl;
      }

-- the header comes before the rows
header-after : (m : Made) (room : ℕ) → answer_after (length (header Sheet)) m room ≡ answer (before (header Sheet) m) room
unfolding answer
header-after (made t) room = rw (length-append (header Sheet) t)
header-after (refused c r) room = refl

pub after-header : (lines : List ℕ) (room : ℕ) → answer_after (length (header Sheet)) (rows_of lines) room ≡ answer (export_of lines) room
unfolding export_of
after-header lines room = header-after (rows_of lines) room

-- the plan, behind the header
pub planned : (lines : List ℕ) (room size : ℕ) (start : Option ℕ) (plan : Result ℕ Refused) → size ≡ length (header Sheet)
    → start ≡ more_bytes (Some 0) size room
    → ((k : ℕ) → start ≡ total_of room k → plan ≡ answer_after k (rows_of lines) room)
    → plan ≡ answer (export_of lines) room
planned lines room size start plan e s p =
    p size (s ∙ ap (λ (n : ℕ). total_of room n) (zero-add size)) ∙ ap (λ (n : ℕ). answer_after n (rows_of lines) room) e ∙ after-header lines room

-- ---- the rows

all_made : (m : Made) (t : List ℕ) → no_row m ≡ made t → m ≡ made t
all_made (made u) t e = e
all_made (refused c r) t e = not_made e

pub rows_start : (lines out : List ℕ) (from : ℕ) → rows_of lines ≡ made (made_of (rows_of lines)) → from + length (made_of (rows_of lines)) ≤ length out
    → Run line_item out from (made_of (rows_of lines)) out from lines
unfolding rows_of
rows_start lines out from e h =
    let t = made_of (no_row (each line_item 0 lines)) in
    record { fuel = suc (length lines); row = 0; others = t; makes = all_made (each line_item 0 lines) t e; puts = writes-all out from t h }

-- ---- the header and the rows

before-all : (m : Made) → before (header Sheet) m ≡ made (made_of (before (header Sheet) m)) → m ≡ made (made_of m)
before-all (made t) e = refl
before-all (refused c r) e = not_made e

before-made : (p : List ℕ) (m : Made) → m ≡ made (made_of m) → made_of (before p m) ≡ p ++ made_of m
before-made p (made t) e = refl
before-made p (refused c r) e = not_made e

module _ (lines : List ℕ) (room : ℕ) (p : Promised (export_of lines) room) where
  pub rows_all : rows_of lines ≡ made (made_of (rows_of lines))
  unfolding export_of
  rows_all = before-all (rows_of lines) p.all

  whole : made_of (export_of lines) ≡ header Sheet ++ made_of (rows_of lines)
  unfolding export_of
  whole = before-made (header Sheet) (rows_of lines) rows_all

  pub sheet-put : {xs ys zs : List ℕ} {q r : ℕ} → Put xs ys 0 (header Sheet) q → Put ys zs q (made_of (rows_of lines)) r
      → Put xs zs 0 (made_of (export_of lines)) r
  sheet-put a b = rw whole (and-then a b)
