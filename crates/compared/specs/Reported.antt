-- What becomes of each record when two books are compared: it is the same in both, with the same line, or the text that is printed names it.
-- Assumes nothing.
use Rattle.std.specs.Prelude.{ℕ, ◌+◌, ◌≤◌, ◌<◌, ◌≡◌, List, [], ◌∷◌, ◌++◌, Bool, true, false, length, get_or, drop}
use Rattle.base.specs.Choice.{pick}
use Rattle.walk.specs.Walk.{Entry}
use Rattle.printing.specs.Ascii.{ascii}
use Rattle.line_bytes.specs.Lines.{figure_count}
use Rattle.compare.specs.Places.{closes, no_group, group_at, after_group, subtotal_of, last_line_lem}
use Rattle.compare.specs.Figures.{sum_text}
use Rattle.compare.specs.Values.{own_line_lem, alone_text, changed_text}
use Rattle.compare.specs.Sections.{moved_text, others_text}

-- ---- records, and pieces of a text

abbrev pub no_entry : Entry
no_entry = record { bytes = []; lines = [] }

-- entry number m, counted from 0
abbrev pub entry_at : List Entry → ℕ → Entry
entry_at es m = get_or es m no_entry

-- the piece stands in the text
pub record Prints (text piece : List ℕ) : Type 0 where
  pub before : List ℕ
  pub after : List ℕ
  pub is : text ≡ before ++ (piece ++ after)

-- the same record, with the same line of its own: its kind, its group and its figures
pub record SameRecord (e n : Entry) : Type 0 where
  pub bytes : e.bytes ≡ n.bytes
  pub line : own_line_lem e.bytes e.lines ≡ own_line_lem n.bytes n.lines

-- record i, which is e, and record j of the other book, which is n, with the values and figures that changed; new is whether e is the new book's
abbrev pub change_text : Bool → ℕ → Entry → ℕ → Entry → List ℕ
change_text new i e j n =
    pick new (changed_text j n.bytes n.lines i e.bytes e.lines) (changed_text i e.bytes e.lines j n.bytes n.lines)

-- so many records from i on, which stand from j on in the other book
abbrev pub order_text : Bool → Bool → ℕ → ℕ → ℕ → List ℕ
order_text new under i j many = pick new (moved_text under j i many) (moved_text under i j many)

-- ---- one record

-- e is record i of a book, the new one or the old one; the records ns of the other book are those from number j on
pub data Fate (new : Bool) (text : List ℕ) (i : ℕ) (e : Entry) (j : ℕ) (ns : List Entry) : Type 0 where
  -- it is in the other book too
  kept : (m : ℕ) → m < length ns → SameRecord e (entry_at ns m) → Fate new text i e j ns
  -- it is there too, and gives another line: how many do so is printed
  counted : (m many : ℕ) → m < length ns → e.bytes ≡ (entry_at ns m).bytes → 0 < many → Prints text (others_text many) → Fate new text i e j ns
  -- its changed values and figures are printed, with both numbers
  changed : (m : ℕ) → m < length ns → Prints text (change_text new i e (j + m) (entry_at ns m)) → Fate new text i e j ns
  -- it is printed by itself, with its number, its values and its figures
  alone : Prints text (alone_text new i e.bytes e.lines) → Fate new text i e j ns
  -- it is in the other book too, and is one of so many that are printed as being only in another order
  moved : (m : ℕ) (under : Bool) (first other many : ℕ) → m < length ns → e.bytes ≡ (entry_at ns m).bytes
      → first ≤ i → i < first + many → Prints text (order_text new under first other many) → Fate new text i e j ns
  -- it is the close: its lines are the last subtotal and the total, and its count is that of the records
  close : closes e ≡ true → Fate new text i e j ns

-- ---- all records

-- of each record of either book: of the old book es, from number i on, and of the new one ns, from number j on
pub record Reported (text : List ℕ) (i : ℕ) (es : List Entry) (j : ℕ) (ns : List Entry) : Type 0 where
  pub old : (m : ℕ) → m < length es → Fate false text (i + m) (entry_at es m) j ns
  pub new : (m : ℕ) → m < length ns → Fate true text (j + m) (entry_at ns m) i es

-- ---- sums

-- the subtotal of the group whose heading is entry m: the first line that the record after the group gives
abbrev pub subtotal_at : List Entry → ℕ → List ℕ
subtotal_at es m = subtotal_of true (after_group (drop m es))

-- the total: the last line of the close
unfoldable pub total_of : List Entry → List ℕ
total_of [] = []
total_of (e ∷ es) = pick (closes e) (last_line_lem e.lines) (total_of es)

-- the figures of a subtotal s that differ from those of t in the other book, or all where there is none; nothing where they are the same
abbrev pub subtotals_text : Bool → List ℕ → List ℕ → List ℕ
subtotals_text new s t = pick new (sum_text (ascii "subtotal") figure_count t s) (sum_text (ascii "subtotal") figure_count s t)

-- s is the subtotal of the group g of a book, ns are the records of the other
pub data SumFate (new : Bool) (text : List ℕ) (g : ℕ) (s : List ℕ) (ns : List Entry) : Type 0 where
  -- the other book has the group
  both : (m : ℕ) → m < length ns → group_at (drop m ns) ≡ g → Prints text (subtotals_text new s (subtotal_at ns m)) → SumFate new text g s ns
  -- it is printed by itself
  single : Prints text (subtotals_text new s []) → SumFate new text g s ns

-- of each group of either book, and of the total
pub record SumsReported (text : List ℕ) (es ns : List Entry) : Type 0 where
  pub old : (m : ℕ) → group_at (drop m es) < no_group → SumFate false text (group_at (drop m es)) (subtotal_at es m) ns
  pub new : (m : ℕ) → group_at (drop m ns) < no_group → SumFate true text (group_at (drop m ns)) (subtotal_at ns m) es
  pub total : Prints text (sum_text (ascii "total") (figure_count + 1) (total_of es) (total_of ns))
