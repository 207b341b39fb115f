-- A text that arrives in parts, as document 02's typed text does: the lines that the cutter finds in them.
use Rattle.std.specs.Prelude.{ℕ, zero, suc, List, [], ◌∷◌, ◌++◌, length, take, drop}
use Rattle.base.specs.Choice.{pick, one_more_lem}
use Rattle.text_lines.specs.Lines.{next_of, cutting_of, cut_in}
use Rattle.text_lines.specs.declared.Cut.{Cut}

-- a line's number, and what is kept of it
pub record Numbered : Type 0 where
  pub number : ℕ
  pub bytes : List ℕ

-- lines with the numbers from n on
unfoldable pub numbered : ℕ → List (List ℕ) → List Numbered
numbered n [] = []
numbered n (line ∷ lines) = record { number = n; bytes = line } ∷ numbered (one_more_lem n) lines

-- the cutter: its buffer, and the line being read
pub record Cutter : Type 0 where
  pub line : List ℕ
  pub cut : Cut

-- the line being read
abbrev pub in_hand : Cutter → Numbered
in_hand c = record { number = c.cut.number; bytes = take c.cut.len c.line }

-- the lines finished, and the cutter afterwards
pub record Found : Type 0 where
  pub finished : List Numbered
  pub last : Cutter

-- one more finished line, in front
abbrev pub finishing : Numbered → Found → Found
finishing line found = record { finished = line ∷ found.finished; last = found.last }

-- a part's beginning is cut off
abbrev pub cut_once : Cutter → List ℕ → Cutter
cut_once c part = record { line = cut_in c.line c.cut part; cut = (cutting_of (length c.line) c.cut part).cut }

-- behind a finished line
abbrev pub next_line : Cutter → Cutter
next_line c = record { line = c.line; cut = next_of c.cut }

-- a part, line after line; it has fewer than the first number of lines
unfoldable pub cut_part : ℕ → Cutter → List ℕ → Found
cut_part zero c part = record { finished = []; last = c }
cut_part (suc n) c part =
    let r = cutting_of (length c.line) c.cut part in
    pick r.ended
    (finishing (in_hand (cut_once c part)) (cut_part n (next_line (cut_once c part)) (drop r.taken part)))
    (record { finished = []; last = cut_once c part })

-- the parts of a text, one after the other
unfoldable pub cut_all : Cutter → List (List ℕ) → Found
cut_all c [] = record { finished = []; last = c }
cut_all c (part ∷ parts) =
    let found = cut_part (suc (length part)) c part in
    let others = cut_all found.last parts in
    record { finished = found.finished ++ others.finished; last = others.last }

-- the text that the parts make
unfoldable pub together : List (List ℕ) → List ℕ
together [] = []
together (part ∷ parts) = part ++ together parts

-- all lines: the finished ones, and the unfinished one behind them
abbrev pub all_found_lem : Found → List Numbered
all_found_lem found = found.finished ++ (in_hand found.last ∷ [])
