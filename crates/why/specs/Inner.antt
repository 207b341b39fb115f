-- For the contracts of the inner functions of src/compared, lib and field_values, in parts. A reader of the promises can pass this file over: no
-- public contract cites it.
-- Assumes nothing.
use Rattle.std.specs.Prelude.{ℕ, ◌+◌, ◌≤◌, ◌≡◌, List, ◌⊎◌, Option, length, take, ltb, eqb}
use Rattle.base.specs.Choice.{pick}
use Rattle.codec.specs.Table.{last_row, length_of}
use Rattle.account.specs.declared.Account.{Account}
use Rattle.account.specs.Judge.{WholeRecord, version_of, kind_byte, record_row, values_of, RefusedBy}
use Rattle.account.specs.Compared.{numbers, outside, bad_field, shares_of, parts_of, grazed_with}
use Rattle.book.specs.Front.{Front, unfinished, bad_length, whole}
use Rattle.why.specs.declared.Verdict.{Verdict}
use Rattle.why.specs.declared.Verdict.TheVariants.{Accepted, NextLength, Refused}
use Rattle.why.specs.declared.Numbers.{Numbers}
use Rattle.why.specs.Why.{told, reason, unfinished_by}

-- r is a record of a row of the table, with the length of its row
pub record Sized (r : List ℕ) : Type 0 where
  pub least : 1 ≤ record_row r
  pub most : record_row r ≤ last_row
  pub long : length r ≡ length_of (record_row r) + 2

-- a kind whose shares, parts or fractions are compared
abbrev pub Parted : ℕ → Type 0
Parted k = (k ≡ 4) ⊎ ((k ≡ 5) ⊎ (k ≡ 10))

-- what is compared of them, with the fraction grazed before
abbrev pub parts_told : ℕ → ℕ → List ℕ → Option Numbers
parts_told g k v = told (pick (eqb k 4) (numbers (shares_of v) 10000) (pick (eqb k 5) (numbers (parts_of v) 1000) (numbers (grazed_with g v) 10000)))

-- what is compared of a version: that of a farm record is 1 or 2, any other is 1
abbrev pub version_told : List ℕ → Option Numbers
version_told r = told (pick (eqb (kind_byte r) 1) (outside 1 2 (version_of r)) (numbers (version_of r) 1))

-- the whole record r is refused by the number code, with that field
pub record Faulty (a : Account) (r : List ℕ) (code field : ℕ) : Type 0 where
  pub whole : WholeRecord r
  pub broken : RefusedBy code a r
  pub some : 2 ≤ code
  pub most : code ≤ 12
  pub position : field ≡ pick (eqb code 7) (bad_field (record_row r) (values_of r)) 0

-- the answer where no whole record stands at the front of rest, which begins at the byte at, behind the account a
abbrev pub unread : Front → Account → ℕ → List ℕ → Verdict
unread unfinished a at rest = unfinished_by rest
unread bad_length a at rest = Refused (reason 1 a.records 0 at a (take 2 rest))
unread whole a at rest = NextLength

-- the answer where the record r, at the byte at behind the account a, leaves a book of so many bytes that has ended with the account next
abbrev pub ended : Account → ℕ → List ℕ → Account → ℕ → Verdict
ended a at r next many =
    pick (eqb next.stage 2) (Accepted (at + length r) (ltb (at + length r) many))
    (Refused (reason next.refusal.code a.records next.refusal.field at a r))
