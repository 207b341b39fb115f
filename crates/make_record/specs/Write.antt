-- Document 02, W1: "given a record's field values in order, and a state, it writes the record and hands back the reader's next state, or gives
-- the number the reader would give, writes nothing and keeps the state".
use Rattle.std.specs.Prelude.{ℕ, ◌+◌, ◌≤◌, ◌<◌, ◌≡◌, List, [], ◌∷◌, ◌++◌, Bool, ◌&&◌, ◌||◌, not, length, drop, ltb, eqb, Result, Ok, Err}
use Rattle.base.specs.Choice.{pick}
use Rattle.codec.specs.Table.{fields, last_kind, last_row, length_of}
use Rattle.codec.specs.Codec.{record_bytes}
use Rattle.account.specs.declared.Account.{Account}
use Rattle.account.specs.declared.Refusal.{Refusal}
use Rattle.account.specs.Judge.{weigh}
use Rattle.book.specs.declared.State.{State}
use Rattle.book.specs.State.{InRange, holding, in_range}
use Rattle.make_record.specs.declared.Written.{Written}

-- the writer's answer: the record is written, or refused
abbrev pub Answer : Type 0
Answer = Result (Unit {0}) Refusal

-- this paper's number and values for each answer: none where the record is written; for a refusal its number, records accepted and field
abbrev pub numbers : Answer → List ℕ
numbers (Ok u) = []
numbers (Err r) = r.code ∷ r.accepted ∷ r.field ∷ []

-- what the writer gives: the state handed back, the bytes written, and the answer
pub record Write : Type 0 where
  pub state : State
  pub bytes : List ℕ
  pub answer : Answer

-- a number that has no field, after so many records
abbrev pub refusal_by : ℕ → ℕ → Refusal
refusal_by code records = record { code = code; accepted = records; field = 0 }

-- the row of the table that so many values of a kind are of: four of a farm record are version 2's, any other count version 1's
abbrev pub row_for : ℕ → ℕ → ℕ
row_for kind count = pick (eqb kind 1 && eqb count 4) last_row kind

-- the reader's account after values v of a row
abbrev pub next : State → ℕ → List ℕ → Account
next s row v = (weigh s.account row v).account

-- the refusals of values v of a kind, which are of this row, for a buffer of room bytes, in the order they are tried
unfoldable pub refusals : State → ℕ → ℕ → List ℕ → ℕ → List (Bool × Refusal)
refusals s kind row v room =
    -- 13: the state is outside the ranges
    (not (in_range s), refusal_by 13 0)
    -- a refused state gives its own number
    ∷ (eqb s.account.stage 3, s.account.refusal)
    -- 22: the state is closed or holds bytes
    ∷ (eqb s.account.stage 2 || not (eqb s.count 0), refusal_by 22 s.account.records)
    -- 3: no such kind
    ∷ (ltb kind 1 || ltb last_kind kind, refusal_by 3 s.account.records)
    -- 4: a wrong count of values
    ∷ (not (eqb (length v) (length (fields row))), refusal_by 4 s.account.records)
    -- 5 to 12 as the reader, which would be refused with this record; a value too big for its bytes is out of its range, and so 7
    ∷ (eqb (next s row v).stage 3, (next s row v).refusal)
    -- 16: the buffer is short
    ∷ (ltb room (2 + length_of row), refusal_by 16 s.account.records)
    ∷ []

-- by the first test that holds; where none does, the record is written
unfoldable pub answer_of : List (Bool × Refusal) → Answer
answer_of [] = Ok tt
answer_of (t ∷ ts) = pick t.0 (Err t.1) (answer_of ts)

-- a refusal writes nothing and keeps the state
abbrev pub refusing : State → Refusal → Write
refusing s r = record { state = s; bytes = []; answer = Err r }

-- the record, and the reader's next state, which holds no bytes
abbrev pub writing : State → ℕ → List ℕ → Write
writing s row v = record { state = holding (next s row v) []; bytes = record_bytes row v; answer = Ok tt }

abbrev pub by_answer : Answer → State → ℕ → List ℕ → Write
by_answer (Ok u) s row v = writing s row v
by_answer (Err r) s row v = refusing s r

-- what writing values v of a kind and of this row after the state s gives, for a buffer of room bytes
unfoldable pub write_row : State → ℕ → ℕ → List ℕ → ℕ → Write
write_row s kind row v room = by_answer (answer_of (refusals s kind row v room)) s row v

-- the row goes by the kind and the count of values
abbrev pub write : State → ℕ → List ℕ → ℕ → Write
write s kind v room = write_row s kind (row_for kind (length v)) v room

-- the state, the count of bytes written, and the answer
abbrev pub written_of : Write → Written
written_of w = record { state = w.state; written = length w.bytes; answer = w.answer }

-- the buffer after it: the record goes at its start; its bytes past those written stay
abbrev pub record_laid : Write → List ℕ → List ℕ
record_laid w out = w.bytes ++ drop (length w.bytes) out

-- ---- what the promises say it with

-- a state that can be written to: in range, open, and holding no bytes
pub record Ready (s : State) : Type 0 where
  pub range : InRange s
  pub early : s.account.stage < 2
  pub none : s.count ≡ 0

-- v are values of a kind, as many as the fields of their row
pub record OfKind (kind row : ℕ) (v : List ℕ) : Type 0 where
  pub least : 1 ≤ kind
  pub most : kind ≤ last_kind
  pub count : length v ≡ length (fields row)

-- what the reader says by the account that it reaches
abbrev pub saying : Account → Answer
saying a = pick (eqb a.stage 3) (Err a.refusal) (Ok tt)
