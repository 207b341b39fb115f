-- For the contracts of the inner functions of src/front, bytes, turns and records, in parts. A reader of the promises can pass this file over: no
-- public contract cites it.
use Rattle.std.specs.Prelude.{ℕ, ◌+◌, ◌-◌, ◌≤◌, ◌<◌, ◌≡◌, List, [], ◌++◌, Bool, true, false, ◌||◌, length, take, drop, ltb}
use Rattle.std.proofs.Math.Seq.{paste}
use Rattle.base.specs.Choice.{pick}
use Rattle.codec.specs.Table.{length_most_lem, record_most}
use Rattle.codec.specs.Codec.{val_at}
use Rattle.account.specs.declared.Account.{Account}
use Rattle.account.specs.Account.{refused}
use Rattle.account.specs.Judge.{judge}
use Rattle.account.specs.Line.{joined}
use Rattle.book.specs.declared.State.{State}
use Rattle.book.specs.declared.Fed.{Fed}
use Rattle.book.specs.declared.front.Front.{Front as Code}
use Rattle.book.specs.declared.front.Front.TheVariants.{Unfinished, BadLength, Whole}
use Rattle.book.specs.declared.turns.Turn.{Turn}
use Rattle.book.specs.Front.{Front, unfinished, bad_length, whole, need, front}
use Rattle.book.specs.State.{held_of, InRange, holding}
use Rattle.book.specs.Run.{Run, outcome, run}
use Rattle.book.specs.Call.{answer_of}

-- the number of a front
abbrev pub front_number : Front → ℕ
front_number unfinished = 0
front_number bad_length = 1
front_number whole = 2

-- a front as the code has it
abbrev pub told : Front → Code
told unfinished = Unfinished
told bad_length = BadLength
told whole = Whole

-- what n bytes of the length l are at their front, where there are two at least
abbrev pub by_length_lem : ℕ → ℕ → Front
by_length_lem l n = pick (ltb l 4 || ltb length_most_lem l) bad_length (pick (ltb n (l + 2)) unfinished whole)

-- k bytes of src stand in rec' behind the first n of rec, up to goal bytes or the end of src
pub record Filled (rec rec' : List ℕ) (n goal : ℕ) (src : List ℕ) (k : ℕ) : Type 0 where
  pub inside : k ≤ length src
  pub bound : n + k ≤ record_most
  pub array : length rec' ≡ record_most
  pub bytes : rec' ≡ paste rec n src k
  pub upto : n ≤ goal → n + k ≤ goal
  pub end : n + k < goal → k ≡ length src

-- the first n bytes of rec are those held and the next of xs, one at least; all of them where they leave the record unfinished
pub record Gathered (held xs rec : List ℕ) (n : ℕ) : Type 0 where
  pub least : length held < n
  pub array : n ≤ length rec
  pub places : length rec ≡ record_most
  pub inside : n - length held ≤ length xs
  pub bytes : take n rec ≡ held ++ take (n - length held) xs
  pub end : front (take n rec) ≡ unfinished → n - length held ≡ length xs

-- i bytes of the input are read and w bytes of lines written, from the state s₀ to s: what rule 2 gives for those i bytes
pub record Reading (input out₀ : List ℕ) (s₀ : State) (out : List ℕ) (s : State) (i w : ℕ) : Type 0 where
  pub within : i ≤ length input
  pub fits : w ≤ length out
  pub long : length out ≡ length out₀
  pub first : InRange s₀
  pub range : InRange s
  pub rest : drop w out ≡ drop w out₀
  pub so_far : outcome (run s₀ (take i input)) ≡ record { state = s; bytes = take w out; left = [] }

-- the whole records of src up to at are read; none, where there is none or the first one's lines do not fit
pub record Ran (a₀ : Account) (src out₀ out : List ℕ) (a : Account) (at w : ℕ) : Type 0 where
  pub reading : Reading src out₀ (holding a₀ []) out (holding a []) at w
  pub least : 0 < at → need src ≤ at
  pub none : at ≡ 0 → front src ≡ whole → length out₀ < length (joined (judge a₀ (take (need src) src)).lines)

-- an open state has bytes of the input left from i on, which do not leave its record unfinished
pub record Offered (s : State) (input : List ℕ) (i : ℕ) : Type 0 where
  pub range : InRange s
  pub early : s.account.stage < 2
  pub more : i < length input
  pub finished : front (held_of s ++ drop i input) ≡ unfinished → ⊥

-- src begins with the bytes that an open state holds, and has more, which do not leave the record unfinished
pub record Begins (s : State) (src : List ℕ) : Type 0 where
  pub range : InRange s
  pub early : s.account.stage < 2
  pub held : take s.count src ≡ held_of s
  pub more : s.count < length src
  pub finished : front src ≡ unfinished → ⊥

-- t is one turn over at most so many bytes, of which the first n give what gives says, with its lines at the front of the buffer;
-- where it is full, the lines of one byte more do not fit
pub record Turned (gives : ℕ → Run) (most : ℕ) (out out' : List ℕ) (t : Turn) : Type 0 where
  pub range : InRange t.state
  pub inside : t.written ≤ length out
  pub long : length out' ≡ length out
  pub rest : drop t.written out' ≡ drop t.written out
  pub within : t.taken ≤ most
  pub is : outcome (gives t.taken) ≡ record { state = t.state; bytes = take t.written out'; left = [] }
  pub some : t.full ≡ false → 0 < t.taken
  pub full : t.full ≡ true → (t.taken < most) × (t.written ≡ 0) × (length out < length (joined (gives (t.taken + 1)).lines))

-- what a turn leaves of src, of which count bytes were held before, where it judges no record: a bad length is refused, and a record whose lines do
-- not fit is held but for its last byte
abbrev pub left_by : Bool → Account → ℕ → List ℕ → Turn
left_by true a count src = record { state = holding (refused a 1 0) []; taken = 2 - count; written = 0; full = false }
left_by false a count src = record { state = holding a (take (val_at src 0 2 + 1) src); taken = val_at src 0 2 + 1 - count; written = 0; full = true }

-- the answer to n bytes, with so many taken and written
abbrev pub fed : State → ℕ → ℕ → ℕ → Fed
fed s taken written n = record { state = s; taken = taken; written = written; answer = answer_of s.account taken n }
