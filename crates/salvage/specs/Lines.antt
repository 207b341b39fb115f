-- What a person is told of each record that was dropped, on standard error: a line "record N: dropped CODE: " and words. A damaged book is gone
-- through once more for them, some records at a time.
-- Assumes nothing.
use Rattle.std.specs.Prelude.{ℕ, zero, suc, ◌+◌, ◌≡◌, List, [], ◌∷◌, ◌++◌, Bool, true, false, ◌&&◌, ◌⊎◌, length, drop, ltb, leb, eqb}
use Rattle.base.specs.Choice.{pick}
use Rattle.printing.specs.Ascii.{ascii}
use Rattle.printing.specs.Decimal.{decimal, Put}
use Rattle.names.specs.Names.{sentence}
use Rattle.account.specs.Sorts.{is_of_group}
use Rattle.account.specs.Judge.{kind_byte}
use Rattle.account.specs.Range.{account_in_range}
use Rattle.book.specs.Front.{need, front}
use Rattle.walk.specs.Walk.{record_at}
use Rattle.salvage.specs.declared.Reading.{Reading}
use Rattle.salvage.specs.declared.lines.Reported.{Reported}
use Rattle.salvage.specs.Salvage.{dropped_by, ends, reading_after, Entry}
use Rattle.salvage.specs.HowFar.{goes_on_lem}

-- ---- one line

-- a dropped record: its number in the damaged book, the number that dropped it, and words
unfoldable pub dropped_text : ℕ → ℕ → List ℕ → List ℕ
dropped_text number code words =
    ascii "record " ++ (decimal number ++ (ascii ": dropped " ++ (decimal code ++ (ascii ": " ++ (words ++ ascii "\n")))))

-- of a detail that was dropped with its heading, the record of that number
unfoldable pub heading_text : ℕ → List ℕ
heading_text heading = ascii "its heading, record " ++ (decimal heading ++ ascii ", was dropped")

-- the words for a record of that kind byte and code: it was dropped with its heading, a detail that is listed with 6 while the last record of kind
-- byte 2 was dropped; or the code's sentence
unfoldable pub words_for : Reading → ℕ → ℕ → List ℕ
words_for s kind code = pick (s.lost && (is_of_group kind && eqb code 6)) (heading_text s.heading) (sentence code)

-- its line; none with code 0, where it was kept
unfoldable pub line_for : Reading → ℕ → ℕ → List ℕ
line_for s kind code = pick (eqb code 0) [] (dropped_text s.number code (words_for s kind code))

abbrev pub line_of : Reading → List ℕ → List ℕ
line_of s r = line_for s (kind_byte r) (dropped_by s r)

-- ---- all of them

-- the lines of the records rs up to where the reading ends, going on from s
unfoldable pub lines_from : Reading → List (List ℕ) → List ℕ
lines_from s [] = []
lines_from s (r ∷ rs) = pick (ends s r) [] (line_of s r ++ lines_from (reading_after s r) rs)

-- the words for each that is dropped
unfoldable pub words_from : Reading → List (List ℕ) → List (List ℕ)
words_from s [] = []
words_from s (r ∷ rs) =
    let others = words_from (reading_after s r) rs in
    pick (ends s r) [] (pick (eqb (dropped_by s r) 0) others (words_for s (kind_byte r) (dropped_by s r) ∷ others))

-- a line for each entry of a list, in order, with its number, its code and its words: what the lines are proved to be
unfoldable pub entries_text : List Entry → List (List ℕ) → List ℕ
entries_text [] ws = []
entries_text (e ∷ es) [] = []
entries_text (e ∷ es) (w ∷ ws) = dropped_text e.number e.code w ++ entries_text es ws

-- an entry of the list has the number n
abbrev pub Listed : ℕ → List Entry → Type 0
Listed n [] = ⊥
Listed n (e ∷ es) = (e.number ≡ n) ⊎ Listed n es

-- wherever a heading may be named in the reading of the records rs, going on from s, it is listed: while the last record of kind byte 2 was dropped,
-- the list all has its number
abbrev pub HeadingsListed : List Entry → Reading → List (List ℕ) → Type 0
HeadingsListed all s [] = Unit {0}
HeadingsListed all s (r ∷ rs) = ends s r ≡ false → (s.lost ≡ true → Listed s.heading all) × HeadingsListed all (reading_after s r) rs

-- ---- some records at a time

-- some records: the reading after them, their bytes, their lines, and whether there may be more
pub record Telling : Type 0 where
  pub reading : Reading
  pub taken : ℕ
  pub text : List ℕ
  pub more : Bool

-- the end
abbrev pub stopped : Reading → Telling
stopped s = record { reading = s; taken = 0; text = []; more = false }

-- so many bytes and their text first, then others
abbrev pub behind : ℕ → List ℕ → Telling → Telling
behind n text t = record { reading = t.reading; taken = n + t.taken; text = text ++ t.text; more = t.more }

-- at most n records of xs, going on from s
unfoldable pub tell_by : ℕ → Reading → List ℕ → Telling
tell_by zero s xs = record { reading = s; taken = 0; text = []; more = true }
tell_by (suc n) s xs =
    pick (goes_on_lem (front xs) s xs) (behind (need xs) (line_of s (record_at xs)) (tell_by n (reading_after s (record_at xs)) (drop (need xs) xs)))
    (stopped s)

-- s is a reading of an open book, with its last heading before it, and the records of xs can be numbered on
abbrev pub usable : Reading → List ℕ → Bool
usable s xs =
    account_in_range s.account
    && (ltb s.account.stage 2 && (leb s.heading s.number && ltb (s.number + length xs) 18446744073709551615))

-- any other is that of no damaged book, and nothing is told
unfoldable pub told_by : ℕ → Reading → List ℕ → Telling
told_by n s xs = pick (usable s xs) (tell_by n s xs) (stopped s)

-- a series of calls, each for so many records at most, on the reading and the bytes that the one before left; none after the end
unfoldable pub series : List ℕ → Reading → List ℕ → Telling
series [] s xs = record { reading = s; taken = 0; text = []; more = true }
series (n ∷ ns) s xs =
    let t = told_by n s xs in
    pick t.more (behind t.taken t.text (series ns t.reading (drop t.taken xs))) t

-- r is that, with its text in the buffer from index at on
pub record Tells (x : Telling) (out out' : List ℕ) (at : ℕ) (r : Reported) : Type 0 where
  pub reading : r.reading ≡ x.reading
  pub taken : r.taken ≡ x.taken
  pub more : r.more ≡ x.more
  pub put : Put out out' at x.text r.written

-- a line has at most so many bytes
abbrev pub line_most : ℕ
line_most = 256
