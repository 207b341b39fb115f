-- The typed lines of a book, the way back from document 02's W1: "Advisers now type a book into one program". A record is typed as its kind's
-- name and its values, with one blank between: a choice by its word, a number in the unit that people say, with all its decimals.
use Rattle.std.specs.Prelude.{ℕ, suc, ◌<◌, ◌≡◌, List, [], ◌∷◌, ◌++◌, None}
use Rattle.codec.specs.Codec.{Bytes}
use Rattle.names.specs.Names.{kind_name, value_text}
use Rattle.account.specs.declared.Account.{Account}
use Rattle.account.specs.Judge.{WholeRecord, record_row, values_of, judge}
use Rattle.account.specs.Line.{joined}
use Rattle.book.specs.declared.State.{State}
use Rattle.book.specs.State.{holding}
use Rattle.writer.specs.Typist.{beginning}
use Rattle.writer.specs.Text.{text_lines}
use Rattle.writer.specs.Parts.{Output, whole}

-- the values of a row, from field i on, with a blank before each
unfoldable pub values_typed : ℕ → ℕ → List ℕ → List ℕ
values_typed row i [] = []
values_typed row i (v ∷ vs) = 32 ∷ (value_text row i v ++ values_typed row (suc i) vs)

-- the line of a record of the row k with the values v, and its line feed
abbrev pub line_typed : ℕ → List ℕ → List ℕ
line_typed k v = kind_name k ++ (values_typed k 0 v ++ (10 ∷ []))

-- the text of some records: their lines, one after the other
unfoldable pub text_typed : List (List ℕ) → List ℕ
text_typed [] = []
text_typed (r ∷ rs) = line_typed (record_row r) (values_of r) ++ text_typed rs

-- r is a whole record of bytes that is accepted after the account a, while the book is open
pub record Accepted (a : Account) (r : List ℕ) : Type 0 where
  pub early : a.stage < 2
  pub whole : WholeRecord r
  pub bytes : Bytes r
  pub taken : (judge a r).account.stage ≡ 3 → ⊥

-- the records rs are accepted one after the other; a close can only be the last of them
unfoldable pub AllAccepted : Account → List (List ℕ) → Type 0
AllAccepted a [] = Unit {0}
AllAccepted a (r ∷ rs) = Accepted a r × AllAccepted (judge a r).account rs

-- the account after them
unfoldable pub account_behind : Account → List (List ℕ) → Account
account_behind a [] = a
account_behind a (r ∷ rs) = account_behind (judge a r).account rs

-- what a text gives that is typed after the records of a state: its lines, and then its end, where a close that waited is written
abbrev pub typed_whole : State → List ℕ → Output
typed_whole s text = whole (beginning s) (text_lines text)

-- what typing their text gives: the records' own bytes and the reader's account; no line failed, and none is told of
pub record SameBytes (a : Account) (rs : List (List ℕ)) (x : Output) : Type 0 where
  pub bytes : x.bytes ≡ joined rs
  pub state : x.typist.state ≡ holding (account_behind a rs) []
  pub failed : x.typist.failed ≡ None
  pub told : x.typist.counts.told ≡ 0
