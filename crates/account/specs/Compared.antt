-- Document 02, W6: "the field's value and the limit it crossed, or for 8, 9, 10 and 12 both numbers compared, none for 5, 6 and 11": what each test
-- of specs/Judge.antt compares, over the same parts of the record and the account that the test itself has.
-- Assumes nothing.
use Rattle.std.specs.Prelude.{ℕ, ◌+◌, ◌-◌, ◌≤◌, ◌<◌, ◌≡◌, List, Bool, true, false, ◌⊎◌, get_or, ltb, eqb}
use Rattle.base.specs.Choice.{pick}
use Rattle.codec.specs.declared.Field.{Field}
use Rattle.codec.specs.Table.{field, fields, length_of, length_most_lem, last_kind}
use Rattle.codec.specs.Codec.{val_at, first_bad}
use Rattle.account.specs.declared.Account.{Account}
use Rattle.account.specs.declared.Used.{Used}
use Rattle.account.specs.Judge.{version_of, kind_byte, record_row, values_of}

-- two numbers that are compared, where there are any: the value and the limit
pub record Compared : Type 0 where
  pub some : Bool
  pub value : ℕ
  pub limit : ℕ

abbrev pub no_numbers : Compared
no_numbers = record { some = false; value = 0; limit = 0 }

abbrev pub numbers : ℕ → ℕ → Compared
numbers value limit = record { some = true; value = value; limit = limit }

-- a value outside lowest..highest, and the end of it that it crossed
abbrev pub outside : ℕ → ℕ → ℕ → Compared
outside lowest highest value = numbers value (pick (ltb value lowest) lowest highest)

-- the first field out of its range, of values v of a row: its position from 1, its range and its value
abbrev pub bad_field : ℕ → List ℕ → ℕ
bad_field row v = first_bad (fields row) v 0

abbrev pub range_of : ℕ → ℕ → Field
range_of row position = get_or (fields row) (position - 1) (field 0 0 0)

abbrev pub value_at : List ℕ → ℕ → ℕ
value_at v position = get_or v (position - 1) 0

-- the days of the row 3, 4 or 5, with so many more
abbrev pub days_with : Used → ℕ → ℕ → ℕ
days_with u row more = pick (eqb row 3) (u.enteric + more) (pick (eqb row 4) (u.nitrogen + more) (u.pig + more))

-- cattle shares together; a pig's parts together
abbrev pub shares_of : List ℕ → ℕ
shares_of v = get_or v 6 0 + get_or v 7 0 + get_or v 8 0

abbrev pub parts_of : List ℕ → ℕ
parts_of v = get_or v 8 0 + get_or v 10 0

-- the grazed fractions with this record's
abbrev pub grazed_with : ℕ → List ℕ → ℕ
grazed_with grazed v = grazed + get_or v 3 0

-- what the test with the number c compares, of values v of a row
unfoldable pub values_compared : ℕ → Account → ℕ → List ℕ → Compared
values_compared c a row v =
    pick (eqb c 7) (outside (range_of row (bad_field row v)).1 (range_of row (bad_field row v)).2 (value_at v (bad_field row v)))
    (pick (eqb c 8) (numbers (get_or v 0 0) a.heading.group)
    (pick (eqb c 9) (numbers (days_with a.used row (get_or v 0 0)) 366)
    (pick (eqb c 10) (pick (eqb row 4) (numbers (shares_of v) 10000)
    (pick (eqb row 5) (numbers (parts_of v) 1000) (numbers (grazed_with a.used.grazed v) 10000)))
    (pick (eqb c 12) (numbers (get_or v 0 0) a.records) no_numbers))))

-- what the test with the number c compares, of the bytes r of a record; for 1 its length is enough
unfoldable pub compared : ℕ → Account → List ℕ → Compared
compared c a r =
    pick (eqb c 1) (outside 4 length_most_lem (val_at r 0 2))
    (pick (eqb c 2) (pick (eqb (kind_byte r) 1) (outside 1 2 (version_of r)) (numbers (version_of r) 1))
    (pick (eqb c 3) (outside 1 last_kind (kind_byte r))
    (pick (eqb c 4) (numbers (val_at r 0 2) (length_of (record_row r)))
    (values_compared c a (record_row r) (values_of r)))))

-- ---- compared wrongly

-- unequal; above the limit; not above it
abbrev pub Unequal : Compared → Type 0
Unequal x = x.value ≡ x.limit → ⊥

abbrev pub Above : Compared → Type 0
Above x = x.limit < x.value

abbrev pub NotAbove : Compared → Type 0
NotAbove x = x.value ≤ x.limit

-- beyond one end of lowest..highest, and the limit is that end
abbrev pub BeyondEnd : ℕ → ℕ → Compared → Type 0
BeyondEnd lowest highest x = ((x.limit ≡ lowest) × (x.value < lowest)) ⊎ ((x.limit ≡ highest) × (highest < x.value))

-- x is what the test with the number c compares of the record r after the account a, and it compares wrongly
pub record ComparesWrongly (c : ℕ) (a : Account) (r : List ℕ) (x : Compared) : Type 0 where
  pub version : c ≡ 2
      → ((kind_byte r ≡ 1) × (x.some ≡ true) × (x.value ≡ version_of r) × BeyondEnd 1 2 x)
      ⊎ ((kind_byte r ≡ 1 → ⊥) × (x ≡ numbers (version_of r) 1) × Unequal x)
  pub kind : c ≡ 3 → (x.some ≡ true) × (x.value ≡ kind_byte r) × BeyondEnd 1 last_kind x
  pub long : c ≡ 4 → (x ≡ numbers (val_at r 0 2) (length_of (record_row r))) × Unequal x
  pub room : c ≡ 5 → x ≡ no_numbers
  pub place : c ≡ 6 → x ≡ no_numbers
  pub in_range : c ≡ 7
      → let position = bad_field (record_row r) (values_of r) in
      (x.some ≡ true)
      × (x.value ≡ value_at (values_of r) position)
      × BeyondEnd (range_of (record_row r) position).1 (range_of (record_row r) position).2 x
  pub rising : c ≡ 8 → (record_row r ≡ 2) × (x ≡ numbers (get_or (values_of r) 0 0) a.heading.group) × NotAbove x
  pub days : c ≡ 9 → (x ≡ numbers (days_with a.used (record_row r) (get_or (values_of r) 0 0)) 366) × Above x
  pub together : c ≡ 10
      → ((record_row r ≡ 4) × (x ≡ numbers (shares_of (values_of r)) 10000) × Unequal x)
      ⊎ (((record_row r ≡ 5) × (x ≡ numbers (parts_of (values_of r)) 1000) × Above x)
      ⊎ ((record_row r ≡ 10) × (x ≡ numbers (grazed_with a.used.grazed (values_of r)) 10000) × Above x))
  pub feed : c ≡ 11 → x ≡ no_numbers
  pub count : c ≡ 12 → (record_row r ≡ 8) × (x ≡ numbers (get_or (values_of r) 0 0) a.records) × Unequal x
