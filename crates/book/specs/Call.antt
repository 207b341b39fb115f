-- A call. Document 01, "Lines, calls and state": "A call takes a state, bytes and a line buffer, and hands the new state back with the counts
-- of bytes taken and written and one answer. Lines go from the buffer's start; its bytes past those written stay. More: all input taken.
-- Full: the next record is complete and right but its line doesn't fit; its last byte isn't taken."
use Rattle.std.specs.Prelude.{ℕ, zero, suc, ◌-◌, List, [], ◌∷◌, ◌++◌, Bool, length, take, drop, ltb, leb, eqb}
use Rattle.base.specs.Choice.{pick}
use Rattle.account.specs.declared.Account.{Account}
use Rattle.account.specs.Line.{joined}
use Rattle.book.specs.declared.State.{State}
use Rattle.book.specs.declared.Fed.{Fed}
use Rattle.book.specs.declared.Answer.{Answer}
use Rattle.book.specs.declared.Answer.TheVariants.{More, Full, Closed, Refused}
use Rattle.book.specs.State.{in_range}
use Rattle.book.specs.Run.{Run, run}

-- this paper's number and values for each answer: the herd desk's code, and for a refusal its number, records accepted and field
abbrev pub numbers : Answer → List ℕ
numbers Closed = 0 ∷ []
numbers Full = 16 ∷ []
numbers More = 17 ∷ []
numbers (Refused r) = r.code ∷ r.accepted ∷ r.field ∷ []

-- what a call gives: the state handed back, the count of bytes taken, the bytes written, and the answer
pub record Call : Type 0 where
  pub state : State
  pub taken : ℕ
  pub bytes : List ℕ
  pub answer : Answer

-- the largest number from 0 to n that is ok, 0 where none is
unfoldable pub longest : (ℕ → Bool) → ℕ → ℕ
longest ok zero = zero
longest ok (suc n) = pick (ok (suc n)) (suc n) (longest ok n)

-- the lines of the first n bytes fit the buffer
abbrev pub fits : State → List ℕ → ℕ → ℕ → Bool
fits s xs room n = leb (length (joined (run s (take n xs)).lines)) room

-- Closed or Refused by the account reached; while the book is open, More where all n bytes are taken, else Full
unfoldable pub answer_of : Account → ℕ → ℕ → Answer
answer_of a taken n = pick (ltb a.stage 2) (pick (eqb taken n) More Full) (pick (eqb a.stage 2) Closed (Refused a.refusal))

-- the answer to n bytes, of which the first k were run
abbrev pub reply : ℕ → ℕ → Run → Call
reply n k r =
    record {
      state = r.state;
      taken = k - length r.left;
      bytes = joined r.lines;
      answer = answer_of r.state.account (k - length r.left) n;
    }

-- refusal 13: the state is outside the ranges; state handed back as given, nothing taken or written
abbrev pub outside : State → Call
outside s = record { state = s; taken = 0; bytes = []; answer = Refused (record { code = 13; accepted = 0; field = 0 }) }

-- 13 is tried first; else the longest beginning of the bytes whose lines fit the buffer is run
unfoldable pub call : State → List ℕ → ℕ → Call
call s xs room =
    pick (in_range s)
    (reply (length xs) (longest (fits s xs room) (length xs)) (run s (take (longest (fits s xs room) (length xs)) xs)))
    (outside s)

-- the new state, the counts of bytes taken and written, and the answer
abbrev pub fed_of : Call → Fed
fed_of c = record { state = c.state; taken = c.taken; written = length c.bytes; answer = c.answer }

-- the buffer after a call: lines go from its start; its bytes past those written stay
abbrev pub lines_laid : Call → List ℕ → List ℕ
lines_laid c out = c.bytes ++ drop (length c.bytes) out
