-- A book of document 01 as typed lines: its accepted records up to the first that is not, as the walk finds them, a line for each.
use Rattle.std.specs.Prelude.{ℕ, ◌+◌, ◌*◌, ◌≤◌, ◌≡◌, Bool, true, false, ◌&&◌, not, List, [], ◌∷◌, ◌++◌, length, take, drop, leb, eqb}
use Rattle.base.specs.Choice.{pick}
use Rattle.printing.specs.Ascii.{ascii}
use Rattle.printing.specs.Decimal.{Put}
use Rattle.printing.specs.Decimal as printing
use Rattle.names.specs.Names.{sentence}
use Rattle.codec.specs.Table.{fields, length_of, last_row}
use Rattle.codec.specs.Codec.{first_bad}
use Rattle.account.specs.declared.Account.{Account}
use Rattle.account.specs.declared.Refusal.{Refusal}
use Rattle.account.specs.Account.{no_record}
use Rattle.account.specs.Range.{account_in_range}
use Rattle.account.specs.Line.{joined}
use Rattle.account.specs.Judge.{record_row, values_of}
use Rattle.walk.specs.Walk.{next_of, records_in, entries_after}
use Rattle.retype.specs.declared.Retyped.{Retyped}
use Rattle.retype.specs.Typed.{text_typed, account_behind}

-- ---- the text of a book

-- the accepted records that the bytes xs begin with after the account a
abbrev pub accepted_after : Account → List ℕ → List (List ℕ)
accepted_after a xs = records_in (entries_after a xs)

-- those of a book
abbrev pub accepted_in : List ℕ → List (List ℕ)
accepted_in xs = accepted_after no_record xs

-- ---- some of its lines

-- what some records give: the account after them, the bytes that they have, their typed lines, and whether all that were asked for were there
pub record Retyping : Type 0 where
  pub account : Account
  pub taken : ℕ
  pub text : List ℕ
  pub more : Bool

-- nothing yet
abbrev pub nothing_yet_lem : Account → Retyping
nothing_yet_lem a = record { account = a; taken = 0; text = []; more = true }

-- some records, and then others after them
abbrev pub and_then : Retyping → Retyping → Retyping
and_then x y = record { account = y.account; taken = x.taken + y.taken; text = x.text ++ y.text; more = y.more }

-- the first n accepted records of xs after the account a; where there are fewer, what stands after them changes the account: it may be refused
unfoldable pub typed_by : ℕ → Account → List ℕ → Retyping
typed_by n a xs =
    let rs = take n (accepted_after a xs) in
    let more = leb n (length (accepted_after a xs)) in
    let after = account_behind a rs in
    record {
      account = pick more after (next_of after (drop (length (joined rs)) xs)).account;
      taken = length (joined rs);
      text = text_typed rs;
      more = more;
    }

-- an account outside its ranges is that of no book, and nothing is typed after it
abbrev pub retyped_by : ℕ → Account → List ℕ → Retyping
retyped_by n a xs = pick (account_in_range a) (typed_by n a xs) (record { account = a; taken = 0; text = []; more = false })

-- r is that, with its text in the buffer from index at on
pub record Retypes (x : Retyping) (out out' : List ℕ) (at : ℕ) (r : Retyped) : Type 0 where
  pub account : r.account ≡ x.account
  pub taken : r.taken ≡ x.taken
  pub more : r.more ≡ x.more
  pub put : Put out out' at x.text r.written

-- a value has at most 20 bytes, and a blank before it
abbrev pub value_most : ℕ
value_most = 21

-- a line has at most a name of 7 bytes, 12 values and the line feed
abbrev pub line_most : ℕ
line_most = 7 + 12 * value_most + 1

-- r is a record whose row is one of the table, with the length of its row, and each value in its range
pub record Typable (r : List ℕ) : Type 0 where
  pub least : 1 ≤ record_row r
  pub most : record_row r ≤ last_row
  pub long : length r ≡ length_of (record_row r) + 2
  pub ranges : first_bad (fields (record_row r)) (values_of r) 0 ≡ 0

-- ---- the end

-- a refusal: its number, the records accepted before it, its field, and the number's sentence
abbrev pub refused_text : Refusal → List ℕ
refused_text r = ascii "refused " ++ (printing.joined (r.code ∷ r.accepted ∷ r.field ∷ []) ++ (ascii ": " ++ (sentence r.code ++ ascii "\n")))

-- the last word, to a person: none where the book is closed and nothing stands after its close
unfoldable pub end_text : Account → Bool → List ℕ
end_text a behind =
    pick (eqb a.stage 3) (refused_text a.refusal)
    (pick (eqb a.stage 2) (pick behind (sentence 18 ++ ascii "\n") []) (ascii "unfinished\n"))

-- `0` where the book is closed and nothing stands after its close, all of it was read and everything was written, else `1`
abbrev pub status_byte : Account → Bool → Bool → Bool → ℕ
status_byte a behind read written = pick ((eqb a.stage 2 && not behind) && (read && written)) 48 49
