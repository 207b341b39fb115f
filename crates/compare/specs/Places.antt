-- A walk over a book's accepted records: where it stands, what is left from there, and how a book is cut into parts. Before the first heading, then
-- each heading with what follows it up to the next heading or the close; the close is in no part.
-- Assumes nothing.
use Rattle.std.specs.Prelude.{ℕ, zero, suc, ◌+◌, ◌-◌, List, [], ◌∷◌, Bool, ◌&&◌, ◌||◌, length, get_or, take, drop, eqb, leb}
use Rattle.base.specs.Choice.{pick}
use Rattle.line_bytes.specs.Lines.{line_size, total_size}
use Rattle.account.specs.declared.Account.{Account}
use Rattle.account.specs.Account.{no_record}
use Rattle.account.specs.Range.{account_in_range}
use Rattle.account.specs.Judge.{kind_byte}
use Rattle.walk.specs.Walk.{Entry, next_of, entries_after}
use Rattle.compare.specs.declared.places.Place.{Place}
use Rattle.compare.specs.Records.{values_in}

-- ---- where a walk stands

-- before the first record
abbrev pub start : Place
start = record { account = no_record; at = 0; number = 0 }

-- the accepted records that are left
abbrev pub left_of : List ℕ → Place → List Entry
left_of xs p = entries_after p.account (drop p.at xs)

-- there is no next record, or it is refused
abbrev pub stops_at : Account → List ℕ → Bool
stops_at a xs = eqb (next_of a xs).size 0 || eqb (next_of a xs).account.stage 3

-- after the next record, where there is one
abbrev pub one_on_lem : List ℕ → Place → Place
one_on_lem xs p =
    let t = next_of p.account (drop p.at xs) in
    pick (stops_at p.account (drop p.at xs)) p (record { account = t.account; at = p.at + t.size; number = p.number + 1 })

-- after the next k, or after all that there are
unfoldable pub onward : ℕ → List ℕ → Place → Place
onward zero xs p = p
onward (suc k) xs p = onward k xs (one_on_lem xs p)

-- it is a place of the book xs: no more records than bytes are passed, and the account is one that a book can have
abbrev pub stands_in : List ℕ → Place → Bool
stands_in xs p = account_in_range p.account && (leb p.number p.at && leb p.at (length xs))

-- ---- the parts

abbrev pub heads : Entry → Bool
heads e = eqb (kind_byte e.bytes) 2

abbrev pub closes : Entry → Bool
closes e = eqb (kind_byte e.bytes) 8

-- what a part ends before
abbrev pub ends : Entry → Bool
ends e = heads e || closes e

-- the first part
unfoldable pub part_of : List Entry → List Entry
part_of [] = []
part_of (e ∷ es) = pick (ends e) [] (e ∷ part_of es)

-- what follows it
unfoldable pub after_part : List Entry → List Entry
after_part [] = []
after_part (e ∷ es) = pick (ends e) (e ∷ es) (after_part es)

-- above every group's number: there is no heading
abbrev pub no_group : ℕ
no_group = 65536

-- the number of the group whose heading comes next
abbrev pub group_at : List Entry → ℕ
group_at [] = no_group
group_at (e ∷ es) = pick (heads e) (get_or (values_in e.bytes) 0 0) no_group

-- how many records the next group has, its heading among them
abbrev pub group_size : List Entry → ℕ
group_size es = suc (length (part_of (drop 1 es)))

abbrev pub after_group : List Entry → List Entry
after_group es = after_part (drop 1 es)

-- the bytes of the next record
abbrev pub first_bytes : List Entry → List ℕ
first_bytes [] = []
first_bytes (e ∷ es) = e.bytes

-- where the part after a place ends
abbrev pub part_end_lem : List ℕ → Place → Place
part_end_lem xs p = onward (length (part_of (left_of xs p))) xs p

-- ---- sums

-- the subtotal of a group: the first line that the record after its part gives
unfoldable pub subtotal_of : Bool → List Entry → List ℕ
subtotal_of grouped [] = []
subtotal_of grouped (e ∷ es) = pick grouped (take line_size e.lines) []

-- the lines of the close
unfoldable pub close_lines : List Entry → List ℕ
close_lines [] = []
close_lines (e ∷ es) = pick (closes e) e.lines []

-- the last of them
abbrev pub last_line_lem : List ℕ → List ℕ
last_line_lem l = drop (length l - total_size) l
