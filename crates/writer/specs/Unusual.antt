-- Values that are unusual go in and are told. By class or column; a close, a heading and the farm's own records have none.
use Rattle.std.specs.Prelude.{ℕ, zero, suc, Bool, false, ◌&&◌, not, List, [], ◌++◌, length, get_or, eqb, leb, Option, Some, None}
use Rattle.base.specs.Choice.{pick, one_more_lem}
use Rattle.codec.specs.Table.{fields}
use Rattle.printing.specs.Ascii.{ascii}
use Rattle.printing.specs.Decimal.{decimal}
use Rattle.names.specs.declared.usual.Usual.{Usual}
use Rattle.names.specs.Names.{kind_name, field_name, unit_text, value_text}
use Rattle.names.specs.Usual.{usual_of, usual_text}
use Rattle.account.specs.declared.Account.{Account}
use Rattle.writer.specs.declared.typed_line.Entry.{Entry}

-- by what a range goes: grazing by its column, all others by the heading's class
abbrev pub who_for : Account → Entry → ℕ
who_for a e = pick (eqb e.kind 10) (get_or e.values 1 0) a.heading.class

-- milk protein is looked at only where there is milk
abbrev pub is_looked_at : Entry → ℕ → Bool
is_looked_at e i = not ((eqb e.kind 4 && eqb i 4) && eqb (get_or e.values 3 0) 0)

-- nothing is outside where no values are usual
abbrev pub outside : Option Usual → ℕ → Bool
outside None v = false
outside (Some u) v = not (leb u.low v && leb v u.high)

-- the value of field i, counted from 0, is unusual
unfoldable pub is_unusual : ℕ → Entry → ℕ → Bool
is_unusual who e i = is_looked_at e i && outside (usual_of e.kind i who) (get_or e.values i 0)

-- so many values were unusual up to the first of n fields from i on; how many are after them
unfoldable pub unusual_from : ℕ → ℕ → ℕ → Entry → ℕ → ℕ
unusual_from zero i who e count = count
unusual_from (suc n) i who e count = unusual_from n (suc i) who e (pick (is_unusual who e i) (one_more_lem count) count)

-- how many there are after the entry e, a being the account before it
abbrev pub unusual_after : Account → Entry → ℕ → ℕ
unusual_after a e count = unusual_from (length (fields e.kind)) 0 (who_for a e) e count

-- ---- as they are told

-- the value of field i, with the names of kind and field, and its unit
abbrev pub what_text : Entry → ℕ → List ℕ
what_text e i =
    kind_name e.kind
    ++ (ascii "," ++ (field_name e.kind i ++ (ascii " " ++ (value_text e.kind i (get_or e.values i 0) ++ unit_text e.kind i))))

-- it stands in line n
unfoldable pub value_remark : ℕ → ℕ → Entry → ℕ → List ℕ
value_remark n who e i =
    ascii "line "
    ++ (decimal n ++ (ascii ": unusual: " ++ (what_text e i ++ (ascii ": " ++ (usual_text e.kind i who ++ ascii "\n")))))

-- the first 20 are told
abbrev pub one_remark : ℕ → ℕ → Entry → ℕ → ℕ → List ℕ
one_remark n who e i count = pick (is_unusual who e i && not (leb 20 count)) (value_remark n who e i) []

unfoldable pub remarks_from : ℕ → ℕ → ℕ → ℕ → Entry → ℕ → List ℕ
remarks_from zero i n who e count = []
remarks_from (suc m) i n who e count = one_remark n who e i count
    ++ remarks_from m (suc i) n who e (pick (is_unusual who e i) (one_more_lem count) count)

-- what is told of the entry e in line n
abbrev pub unusual_remarks : ℕ → Account → Entry → ℕ → List ℕ
unusual_remarks n a e count = remarks_from (length (fields e.kind)) 0 n (who_for a e) e count
