-- The lines of document 02's typed text (W1: "Advisers now type a book into one program"): where a line ends, and what is kept of it.
use Rattle.std.specs.Prelude.{ℕ, ◌+◌, ◌-◌, min, Bool, false, ◌&&◌, ◌||◌, List, [], ◌∷◌, ◌++◌, length, get_or, take, drop, eqb, ltb}
use Rattle.base.specs.Choice.{pick, one_more_lem}
use Rattle.base.specs.Bytes.{index_of}
use Rattle.text_lines.specs.declared.Cut.{Cut}
use Rattle.text_lines.specs.declared.Cutting.{Cutting}

-- ---- a text's lines

-- b in front of the first line
abbrev pub on_first : ℕ → List (List ℕ) → List (List ℕ)
on_first b [] = (b ∷ []) ∷ []
on_first b (line ∷ lines) = (b ∷ line) ∷ lines

-- the pieces between line feeds; what stands behind the last line feed is a line too, perhaps an empty one
unfoldable pub lines_of : List ℕ → List (List ℕ)
lines_of [] = [] ∷ []
lines_of (b ∷ text) = pick (eqb b 10) ([] ∷ lines_of text) (on_first b (lines_of text))

-- ---- what is kept of a line

-- what stands before the first b: all of s where there is none
abbrev pub before : ℕ → List ℕ → List ℕ
before b s = take (index_of b s) s

-- there is a b in s
abbrev pub has : ℕ → List ℕ → Bool
has b s = ltb (length (before b s)) (length s)

-- what stands before the first #
abbrev pub uncommented : List ℕ → List ℕ
uncommented line = before 35 line

-- 1,024 bytes and the three of a byte order mark
abbrev pub most : ℕ
most = 1027

-- what is kept of a line
abbrev pub kept : List ℕ → List ℕ
kept line = take most (uncommented line)

-- k is kept of a line, and ys comes behind: the Bool says that the line's # has come
abbrev pub keep_more : List ℕ → Bool → List ℕ → List ℕ
keep_more k comment ys = k ++ take (most - length k) (pick comment [] (uncommented ys))

-- whether its # has come behind ys
abbrev pub comment_after : Bool → List ℕ → Bool
comment_after comment ys = comment || has 35 ys

-- a line begins with a byte order mark
abbrev pub is_marked : List ℕ → Bool
is_marked line = (eqb (get_or line 0 0) 239 && eqb (get_or line 1 0) 187) && eqb (get_or line 2 0) 191

-- the first line without its byte order mark; other lines as they are
unfoldable pub unmarked : ℕ → List ℕ → List ℕ
unmarked number line = pick (eqb number 1 && is_marked line) (drop 3 line) line

-- ---- the cutter: a buffer of any length, and the line being read

abbrev pub first_cut : Cut
first_cut = record { number = 1; len = 0; comment = false }

abbrev pub next_of : Cut → Cut
next_of from = record { number = one_more_lem from.number; len = 0; comment = false }

-- how many bytes still go into a buffer of size bytes behind its first len
abbrev pub room : ℕ → ℕ → ℕ
room size len = min most size - len

-- what the part has of the line
abbrev pub line_in : List ℕ → List ℕ
line_in part = before 10 part

-- what of it goes into the buffer
abbrev pub added : ℕ → Cut → List ℕ → List ℕ
added size from ys = take (room size from.len) (pick from.comment [] (uncommented ys))

-- the buffer with ys behind its first len bytes
abbrev pub stored : List ℕ → ℕ → List ℕ → List ℕ
stored line len ys = take len line ++ (ys ++ drop (len + length ys) line)

-- the line behind ys
abbrev pub cut_after : ℕ → Cut → List ℕ → Cut
cut_after size from ys =
    record { number = from.number; len = from.len + length (added size from ys); comment = comment_after from.comment ys }

-- the part is taken up to its first line feed and with it, or whole where it has none
unfoldable pub cutting_of : ℕ → Cut → List ℕ → Cutting
cutting_of size from part =
    record {
      cut = cut_after size from (line_in part);
      taken = pick (has 10 part) (length (line_in part) + 1) (length (line_in part));
      ended = has 10 part;
    }

-- the buffer afterwards
unfoldable pub cut_in : List ℕ → Cut → List ℕ → List ℕ
cut_in line from part = stored line from.len (added (length line) from (line_in part))
