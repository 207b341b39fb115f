-- Document 02, W6: "It is proved to speak the truth: the rule named is broken in that record, every rule tried earlier holds there, and all records
-- before it are accepted." The words of these promises.
-- Assumes nothing.
use Rattle.std.specs.Prelude.{ℕ, ◌+◌, ◌-◌, ◌<◌, ◌≡◌, List, [], ◌∷◌, ◌++◌, Bool, Option, Some, None, length, take, drop, ltb}
use Rattle.codec.specs.Table.{length_most_lem}
use Rattle.codec.specs.Codec.{val_at}
use Rattle.account.specs.declared.Account.{Account}
use Rattle.account.specs.Account.{no_record, refused}
use Rattle.account.specs.Judge.{NotRefused, RefusedBy, judge}
use Rattle.account.specs.Line.{joined}
use Rattle.account.specs.Compared.{Compared, no_numbers, numbers, BeyondEnd, ComparesWrongly}
use Rattle.book.specs.Front.{unfinished, whole, front}
use Rattle.book.specs.WholeRecords.{records_of}
use Rattle.book.specs.State.{held_of, no_record_yet}
use Rattle.book.specs.Run.{run}
use Rattle.why.specs.declared.Numbers.{Numbers}
use Rattle.why.specs.declared.Reason.{Reason}
use Rattle.why.specs.declared.Verdict.{Verdict}
use Rattle.why.specs.declared.Verdict.TheVariants.{Accepted, Missing, NextLength, Refused}

-- the account behind the records rs, judged one after the other
unfoldable pub behind : Account → List (List ℕ) → Account
behind a [] = a
behind a (r ∷ rs) = behind (judge a r).account rs

-- each of the records rs is accepted after those before it
abbrev pub AllAccepted : Account → List (List ℕ) → Type 0
AllAccepted a [] = Unit {0}
AllAccepted a (r ∷ rs) = NotRefused a r × AllAccepted (judge a r).account rs

-- the bytes that are told of, first to last
abbrev pub bytes_told : Reason → List ℕ → List ℕ
bytes_told w xs = take (w.last + 1 - w.first) (drop w.first xs)

-- the records before
abbrev pub records_before : Reason → List ℕ → List (List ℕ)
records_before w xs = take w.number (records_of xs)

abbrev pub account_before : Reason → List ℕ → Account
account_before w xs = behind no_record (records_before w xs)

-- two numbers that are compared, or none
abbrev pub as_compared : Option Numbers → Compared
as_compared (Some n) = numbers n.value n.limit
as_compared None = no_numbers

abbrev pub numbers_told : Reason → Compared
numbers_told w = as_compared w.compares

-- refused by 1: the two bytes of a length that no record has
pub record BrokenLength (w : Reason) (xs : List ℕ) : Type 0 where
  pub field : w.field ≡ 0
  pub last : w.last ≡ w.first + 1
  pub value : (numbers_told w).value ≡ val_at (bytes_told w xs) 0 2
  pub beyond : BeyondEnd 4 length_most_lem (numbers_told w)

-- refused by another: a whole record, which breaks the rule named and none that is tried before it
pub record BrokenRecord (w : Reason) (xs : List ℕ) : Type 0 where
  pub next : drop w.number (records_of xs) ≡ bytes_told w xs ∷ records_of (drop (w.last + 1) xs)
  pub judged : (judge (account_before w xs) (bytes_told w xs)).account ≡ refused (account_before w xs) w.code w.field
  pub broken : RefusedBy w.code (account_before w xs) (bytes_told w xs)
  pub compares : ComparesWrongly w.code (account_before w xs) (bytes_told w xs) (numbers_told w)

-- what is told of the refused book xs is true
pub record Truth (w : Reason) (xs : List ℕ) : Type 0 where
  -- the records before it are as many as its number, and make the bytes before its first
  pub many : length (records_before w xs) ≡ w.number
  pub bytes : joined (records_before w xs) ≡ take w.first xs
  pub accepted : AllAccepted no_record (records_before w xs)
  -- and the account behind them is that of rule 2
  pub account : (run no_record_yet (take w.first xs)).state.account ≡ account_before w xs
  -- whose heading has the group that is told
  pub group : w.group ≡ (account_before w xs).heading.group
  pub length : w.code ≡ 1 → BrokenLength w xs
  pub other : (w.code ≡ 1 → ⊥) → BrokenRecord w xs

-- the bytes of the unfinished book xs that are held behind its whole records: the beginning of its last record
abbrev pub begun : List ℕ → List ℕ
begun xs = held_of (run no_record_yet xs).state

-- n bytes are missing: with so many more, whatever they are, its last record is whole, with fewer it is not
pub record MissingExact (n : ℕ) (xs : List ℕ) : Type 0 where
  pub enough : (ys : List ℕ) → length ys ≡ n → front (begun xs ++ ys) ≡ whole
  pub fewer : (ys : List ℕ) → length ys < n → front (begun xs ++ ys) ≡ unfinished

-- bytes stand after the close, or none do: those from the byte end on, which rule 2 leaves
pub record AfterClose (end : ℕ) (more : Bool) (xs : List ℕ) : Type 0 where
  pub closed : (run no_record_yet xs).state.account.stage ≡ 2
  pub left : drop end xs ≡ (run no_record_yet xs).left
  pub some : more ≡ ltb end (length xs)

-- said to be accepted
abbrev pub IsAccepted : Verdict → Type 0
IsAccepted (Accepted end more) = Unit {0}
IsAccepted (Missing n) = ⊥
IsAccepted NextLength = ⊥
IsAccepted (Refused w) = ⊥

-- said to be unfinished
abbrev pub Unfinished : Verdict → Type 0
Unfinished (Accepted end more) = ⊥
Unfinished (Missing n) = Unit {0}
Unfinished NextLength = Unit {0}
Unfinished (Refused w) = ⊥
