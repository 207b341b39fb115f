-- Theorem: however a book is cut into parts and whatever room its lines have, the rows of all calls are those of the whole book, in either form.
-- Assumes nothing.
use Prim.Native.Nat.{ℕ, ◌%◌, ◌+◌, ◌<◌}
use native.Mathlib.Omega.{arith}
use mathlib.Core.Path.{◌≡◌, refl, sym, ap, ◌∙◌}
use mathlib.Core.Bool.{Bool, true, false}
use mathlib.Core.List.{List, [], ◌∷◌, ◌++◌, append_assoc, append-nil}
use lib.ListN.{length, get_or, take, drop, length-append, get_or-append}
use lib.Seq.{drop-append_seam}
use lib.Dec.{eqb}
use Rattle.base.specs.Choice.{pick}
use Rattle.codec.specs.Table.{size}
use Rattle.codec.specs.Codec.{be, bytes_of, values_at}
use Rattle.codec.proofs.Values.{values_same}
use Rattle.line_bytes.specs.Lines.{line_fields, total_fields, line_size, total_size, is_total, line_bytes_lem, total_bytes, front_size, front_fields}
use Rattle.line_bytes.proofs.Rows.{sizes}
use Rattle.line_rows.specs.declared.Form.{Form}
use Rattle.line_rows.specs.Rows.{line_numbers, row_text, line_row, rows_text}
use Rattle.line_rows.proofs.Texts.{size-least, text-none, text-some, size-total, size-detail}
use Rattle.grams.specs.declared.units.Co2.{Co2}
use Rattle.account.specs.declared.Figures.{Figures}
use Rattle.account.specs.Line.{line_with, total_with, joined}
use Rattle.account.proofs.Told.{line-long, total-long}
use Rattle.book.specs.declared.State.{State}
use Rattle.book.specs.State.{InRange}
use Rattle.book.specs.Run.{run, Outcome}
use Rattle.book.specs.Call.{call}
use Rattle.book.specs.Way.{Part, way, Ended}
use Rattle.promises.proofs.EachLine.{LineKind, kind-small, Each, run-each, OfLines, call-each}
use Rattle.promises.proofs.RuleThree.{way-is-run}
use Rattle.lister.specs.Listing.{text_of, rows_on_lem}

-- ---- a line is as long as its kind says

abbrev pub Whole : List ℕ → Type 0
Whole l = front_size l ≡ length l

abbrev pub Wholes : List (List ℕ) → Type 0
Wholes = Each Whole

pub line-kind : (k g : ℕ) (f : Figures) → get_or (line_with k g f) 3 0 ≡ k % 256
unfolding line_bytes_lem line_fields bytes_of be
line-kind k g f = refl

pub total-kind : (f : Figures) (c : Co2) → get_or (total_with f c) 3 0 ≡ 8
unfolding total_bytes total_fields bytes_of be
total-kind f c = refl

pub line-whole : (k g : ℕ) (f : Figures) → LineKind k → Whole (line_with k g f)
line-whole k g f o =
    let small = kind-small k o in
    size-detail (line_with k g f) (λ q. o.no-total (omega (arith, q, line-kind k g f))) ∙ sym (line-long k g f)

pub total-whole : (f : Figures) (c : Co2) → Whole (total_with f c)
total-whole f c = size-total (total_with f c) (total-kind f c) ∙ sym (total-long f c)

pub run-whole : (s : State) (xs : List ℕ) → Wholes (run s xs).lines
run-whole = run-each Whole line-whole total-whole

-- ---- the rows of whole lines, one after the other

module _ (l ys : List ℕ) (w : Whole l) where
  front-byte : (k : ℕ) → k < front_size l → get_or (l ++ ys) k 0 ≡ get_or l k 0
  front-byte k h = get_or-append l ys 0 k (omega (arith, w))

  same_kind : get_or (l ++ ys) 3 0 ≡ get_or l 3 0
  same_kind = front-byte 3 (omega (arith, size-least l))

  pub same_size : front_size (l ++ ys) ≡ length l
  same_size = ap (λ (k : ℕ). pick (eqb k 8) total_size line_size) same_kind ∙ w

  same_numbers : values_at (front_fields l) (l ++ ys) 0 ≡ values_at (front_fields l) l 0
  same_numbers = values_same (front_fields l) (l ++ ys) l 0 0 (λ k h. front-byte (0 + k) (omega (arith, h, fields-size (is_total l))))
    where
      fields-size : (b : Bool) → size (pick b total_fields line_fields) ≡ pick b total_size line_size
      fields-size true = sizes.1
      fields-size false = sizes.0

  module _ (form : Form) where
    pub same_row : line_row form (l ++ ys) ≡ line_row form l
    unfolding line_row line_numbers
    same_row =
        ap (λ (k : ℕ). row_text form (eqb k 8) (drop 2 (values_at (pick (eqb k 8) total_fields line_fields) (l ++ ys) 0))) same_kind
        ∙ ap (λ (vs : List ℕ). row_text form (is_total l) (drop 2 vs)) same_numbers

    row_on : rows_text form (l ++ ys) ≡ line_row form l ++ rows_text form ys
    row_on =
        text-some form (l ++ ys) (rw same_size (omega (arith, length-append l ys)))
        ∙ rw (same_row, same_size, drop-append_seam l ys) refl

module _ (form : Form) where
  rows_on : (ls : List (List ℕ)) (ys : List ℕ) → Wholes ls → rows_text form (joined ls ++ ys) ≡ text_of form ls ++ rows_text form ys
  unfolding text_of
  rows_on [] ys w = refl
  rows_on (l ∷ ls) ys w =
      ap (rows_text form) (append_assoc l (joined ls) ys) ∙ row_on l (joined ls ++ ys) w.0 form
      ∙ ap (λ (t : List ℕ). line_row form l ++ t) (rows_on ls ys w.1)
      ∙ sym (append_assoc (line_row form l) (text_of form ls) (rows_text form ys))

  pub rows_all : (ls : List (List ℕ)) → Wholes ls → rows_text form (joined ls) ≡ text_of form ls
  rows_all ls w =
      ap (rows_text form) (sym (append-nil (joined ls))) ∙ rows_on ls [] w
      ∙ ap (λ (t : List ℕ). text_of form ls ++ t) (text-none form [] (omega (arith, size-least []))) ∙ append-nil (text_of form ls)

-- ---- calls

-- the bytes of a call are whole lines
abbrev pub WholeLines : List ℕ → Type 0
WholeLines = OfLines Whole line-whole total-whole

pub call-lines : (s : State) (xs : List ℕ) (room : ℕ) → WholeLines (call s xs room).bytes
call-lines = call-each Whole line-whole total-whole

module _ (form : Form) where
  texts-on : (xs ys : List ℕ) → WholeLines xs → rows_text form (xs ++ ys) ≡ rows_text form xs ++ rows_text form ys
  texts-on xs ys o =
      rw o.joins
      (rows_on form o.lines ys o.each ∙ ap (λ (t : List ℕ). t ++ rows_text form ys) (sym (rows_all form o.lines o.each)))

  -- the rows of the calls are those of all their lines
  rows-way : (s : State) (xs : List ℕ) (ps : List Part) → rows_on_lem form s xs ps ≡ rows_text form (way s xs ps).bytes
  unfolding rows_on_lem way
  rows-way s xs [] = rw (text-none form [] (omega (arith, size-least []))) refl
  rows-way s xs (p ∷ ps) =
      let c = call s (take p.offered xs) p.room in
      let o = way c.state (drop c.taken xs) ps in
      ap (λ (t : List ℕ). rows_text form c.bytes ++ t) (rows-way c.state (drop c.taken xs) ps)
      ∙ sym (texts-on c.bytes o.bytes (call-lines s _ _))

  -- A series of calls from a state in range that is at its end gives the rows of the uncut run.
  pub rows-in-parts : (s : State) (xs : List ℕ) (ps : List Part) → InRange s → Ended (way s xs ps)
      → rows_on_lem form s xs ps ≡ text_of form (run s xs).lines
  rows-in-parts s xs ps v e =
      rows-way s xs ps
      ∙ ap (λ (o : Outcome). rows_text form o.bytes) (way-is-run s xs ps v e)
      ∙ rows_all form (run s xs).lines (run-whole s xs)
