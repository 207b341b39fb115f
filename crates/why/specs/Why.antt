-- Document 02, W6: "a tool that, for a refused book, names the record's first and last byte (for 1 its second), the rule, the field's value and the
-- limit it crossed, ..". All of it is said over rule 2's result for the book, its whole records, and what the reader's own tests compare.
-- Assumes nothing.
use Rattle.std.specs.Prelude.{ℕ, ◌+◌, ◌-◌, List, [], ◌∷◌, Option, Some, None, length, take, drop, ltb, eqb}
use Rattle.base.specs.Choice.{pick}
use Rattle.account.specs.declared.Account.{Account}
use Rattle.account.specs.declared.Refusal.{Refusal}
use Rattle.account.specs.Judge.{kind_byte, record_row}
use Rattle.account.specs.Line.{joined}
use Rattle.account.specs.Compared.{Compared, compared}
use Rattle.book.specs.declared.State.{State}
use Rattle.book.specs.Front.{need}
use Rattle.book.specs.WholeRecords.{records_of}
use Rattle.book.specs.State.{held_of, no_record_yet}
use Rattle.book.specs.Run.{run}
use Rattle.why.specs.declared.Numbers.{Numbers}
use Rattle.why.specs.declared.Reason.{Reason}
use Rattle.why.specs.declared.Verdict.{Verdict}
use Rattle.why.specs.declared.Verdict.TheVariants.{Accepted, Missing, NextLength, Refused}

-- ---- a refused book

-- the first byte behind the first n whole records of xs
abbrev pub first_byte : ℕ → List ℕ → ℕ
first_byte n xs = length (joined (take n (records_of xs)))

-- two numbers that are compared, where there are any, as the code has them
abbrev pub told : Compared → Option Numbers
told x = pick x.some (Some (record { value = x.value; limit = x.limit })) None

-- what the number code says of the bytes r, which begin at the byte first, after so many records whose account is a; the group is the heading's there
abbrev pub reason : ℕ → ℕ → ℕ → ℕ → Account → List ℕ → Reason
reason code number field first a r =
    record {
      code = code;
      number = number;
      first = first;
      last = first + length r - 1;
      field = field;
      kind = kind_byte r;
      row = record_row r;
      group = a.heading.group;
      compares = told (compared code a r);
    }

-- how many bytes at the front of rest are told: of the record, or for 1 the two of its length
abbrev pub told_bytes : ℕ → List ℕ → ℕ
told_bytes code rest = pick (eqb code 1) 2 (need rest)

-- the reason of rule 2's refusal f of the book xs: the record behind those accepted, after the account that rule 2 gives for the bytes before it
abbrev pub reason_of : Refusal → List ℕ → Reason
reason_of f xs =
    let first = first_byte f.accepted xs in
    let rest = drop first xs in
    reason f.code f.accepted f.field first (run no_record_yet (take first xs)).state.account (take (told_bytes f.code rest) rest)

-- ---- an unfinished book

-- "how many bytes are still missing from the last record, or that the next length isn't known yet": h are the bytes of it that are there
abbrev pub unfinished_by : List ℕ → Verdict
unfinished_by h = pick (ltb (length h) 2) NextLength (Missing (need h - length h))

-- ---- any book

-- this paper's number and values for each verdict: 0 and the first byte after the close; 17 and the bytes missing, where they are known; or the
-- refusal's number, the record, its first and last byte, the field, the value and the limit, both 0 where no numbers are compared
abbrev pub value_told : Option Numbers → ℕ
value_told (Some n) = n.value
value_told None = 0

abbrev pub limit_told : Option Numbers → ℕ
limit_told (Some n) = n.limit
limit_told None = 0

abbrev pub numbers : Verdict → List ℕ
numbers (Accepted end more) = 0 ∷ end ∷ []
numbers (Missing n) = 17 ∷ n ∷ []
numbers NextLength = 17 ∷ []
numbers (Refused w) = w.code ∷ w.number ∷ w.first ∷ w.last ∷ w.field ∷ value_told w.compares ∷ limit_told w.compares ∷ []

-- a closed book: the first byte after the close, and whether there is one, by the bytes that rule 2 leaves
abbrev pub accepted_by : List ℕ → List ℕ → Verdict
accepted_by left xs = Accepted (length xs - length left) (ltb 0 (length left))

-- by the state that rule 2 leaves, and the bytes
unfoldable pub why_by : State → List ℕ → List ℕ → Verdict
why_by s left xs =
    pick (ltb s.account.stage 2) (unfinished_by (held_of s))
    (pick (eqb s.account.stage 2) (accepted_by left xs) (Refused (reason_of s.account.refusal xs)))

unfoldable pub why_of : List ℕ → Verdict
why_of xs = why_by (run no_record_yet xs).state (run no_record_yet xs).left xs
