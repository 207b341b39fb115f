-- Rule 2. Document 01, "What each answer is held to": "What rule 2 gives for a run from a state is defined over the records that the held
-- bytes and the run make together, going on from the state's fields, the unfinished rest being held; in stages 2 and 3 it takes nothing.
-- It knows no calls, parts or line buffers."
use Rattle.std.specs.Prelude.{ℕ, zero, suc, List, [], ◌++◌, length, take, drop, ltb}
use Rattle.base.specs.Choice.{pick}
use Rattle.account.specs.declared.Account.{Account}
use Rattle.account.specs.Account.{refused}
use Rattle.account.specs.Judge.{judge}
use Rattle.account.specs.Line.{joined}
use Rattle.book.specs.declared.State.{State}
use Rattle.book.specs.Front.{Front, unfinished, bad_length, whole, need, front}
use Rattle.book.specs.State.{held_of, holding}

-- what a run gives: the state after it, the lines, and the bytes behind the book's end, which are not taken
pub record Run : Type 0 where
  pub state : State
  pub lines : List (List ℕ)
  pub left : List ℕ

-- the lines ls, and then what r gives
abbrev pub then : List (List ℕ) → Run → Run
then ls r = record { state = r.state; lines = ls ++ r.lines; left = r.left }

-- a closed or refused book takes nothing
abbrev pub ended : Account → List ℕ → Run
ended a xs = record { state = holding a []; lines = []; left = xs }

-- what the front of xs does: an unfinished record is held, a bad length is refusal 1 and takes two bytes, a whole record is judged,
-- and then goes what the bytes behind it give
abbrev pub by_front_lem : Front → Account → List ℕ → Run → Run
by_front_lem unfinished a xs behind = record { state = holding a xs; lines = []; left = [] }
by_front_lem bad_length a xs behind = record { state = holding (refused a 1 0) []; lines = []; left = drop 2 xs }
by_front_lem whole a xs behind = then (judge a (take (need xs) xs)).lines behind

-- at most n records of xs, one after the other, while the book is open
unfoldable pub book_by : ℕ → Account → List ℕ → Run
book_by zero a xs = ended a xs
book_by (suc n) a xs =
    pick (ltb a.stage 2)
    (by_front_lem (front xs) a xs (book_by n (judge a (take (need xs) xs)).account (drop (need xs) xs)))
    (ended a xs)

-- all records of xs: there are no more of them than bytes
unfoldable pub book : Account → List ℕ → Run
book a xs = book_by (suc (length xs)) a xs

-- rule 2: the records that the held bytes and the run xs make together
unfoldable pub run : State → List ℕ → Run
run s xs = book s.account (held_of s ++ xs)

-- what has come of some bytes: the state after them, the bytes of the lines, and the bytes not taken
pub record Outcome : Type 0 where
  pub state : State
  pub bytes : List ℕ
  pub left : List ℕ

-- a run, with the bytes of its lines one after the other
abbrev pub outcome : Run → Outcome
outcome r = record { state = r.state; bytes = joined r.lines; left = r.left }
