-- What the code knows of an accepted record, beside its lines.
-- Assumes nothing.
use Rattle.std.specs.Prelude.{ℕ, ◌+◌, ◌-◌, ◌≡◌, List, length}
use Rattle.account.specs.declared.Account.{Account}
use Rattle.account.specs.Judge.{record_row}
use Rattle.records.specs.declared.Accepted.{Accepted}

-- x is the record r that stands at index at, with the accounts before and after it
pub record Describes (before : Account) (at : ℕ) (r : List ℕ) (after : Account) (x : Accepted) : Type 0 where
  pub number : x.number ≡ before.records
  pub first : x.first ≡ at
  pub last : x.last ≡ at + length r - 1
  pub row : x.row ≡ record_row r
  pub group : x.group ≡ after.heading.group
