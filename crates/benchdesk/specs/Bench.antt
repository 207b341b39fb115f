-- A book read in parts for the bench: calls one after the other, each offered at most so many of the bytes left, and the room left of one line
-- buffer, up to the first answer that is not More, to the last byte, or to as many calls as there are bytes. They are a way of rule 3.
-- Assumes nothing.
use Rattle.std.specs.Prelude.{ℕ, zero, suc, ◌+◌, ◌-◌, ◌*◌, ◌%◌, Bool, ◌||◌, not, List, [], ◌++◌, length, get_or, take, drop, eqb}
use Rattle.base.specs.Choice.{pick}
use Rattle.book.specs.declared.State.{State}
use Rattle.book.specs.declared.Answer.{Answer}
use Rattle.book.specs.State.{no_record_yet}
use Rattle.book.specs.Call.{numbers, Call, call}

-- what the calls give: the last one's number, and the bytes of all their lines
pub record Bench : Type 0 where
  pub code : ℕ
  pub bytes : List ℕ

-- the number of an answer: the first of its numbers
abbrev pub bench_code : Answer → ℕ
bench_code a = get_or (numbers a) 0 0

-- some lines, and then those of the calls after them
abbrev pub and_then : List ℕ → Bench → Bench
and_then bytes b = record { code = b.code; bytes = bytes ++ b.bytes }

-- a call over xs is the last: its answer is not More (17), or it takes all that is left
abbrev pub last : Call → List ℕ → Bool
last c xs = not (eqb (bench_code c.answer) 17) || eqb c.taken (length xs)

-- at most n calls over xs from a state
unfoldable pub bench_by : ℕ → State → List ℕ → ℕ → ℕ → Bench
bench_by zero s xs part room = record { code = 17; bytes = [] }
bench_by (suc n) s xs part room =
    pick (last (call s (take part xs) room) xs)
    (record { code = bench_code (call s (take part xs) room).answer; bytes = (call s (take part xs) room).bytes })
    (and_then (call s (take part xs) room).bytes
    (bench_by n (call s (take part xs) room).state (drop (call s (take part xs) room).taken xs) part
    (room - length (call s (take part xs) room).bytes)))

-- a whole book
abbrev pub benched : List ℕ → ℕ → ℕ → Bench
benched book part room = bench_by (length book) no_record_yet book part room

-- code × 2^32 + bytes written
abbrev pub number_of : Bench → ℕ
number_of b = b.code * 4294967296 + length b.bytes % 4294967296

-- the buffer after the calls
abbrev pub laid_by : Bench → List ℕ → List ℕ
laid_by b out = b.bytes ++ drop (length b.bytes) out
