-- Document 01, "The book": big-endian numbers, a record's values from its bytes, its bytes from its values, the first value out of
-- its range. All of it goes by the fields of specs/Table.antt.
-- Assumes nothing.
use Rattle.std.specs.Prelude.{ℕ, zero, suc, ◌+◌, ◌-◌, ◌*◌, ◌/◌, ◌%◌, ◌<◌, ◌≡◌, ◌⊎◌, List, [], ◌∷◌, ◌++◌, get_or, length, replicate, leb, Option, None, Some}
use Rattle.base.specs.Choice.{pick}
use Rattle.codec.specs.declared.Field.{Field}
use Rattle.codec.specs.Table.{fields, row_version, row_kind, length_of}

-- how many values w bytes can hold
unfoldable pub bytes_hold : ℕ → ℕ
bytes_hold zero = 1
bytes_hold (suc w) = bytes_hold w * 256

-- the number in the w bytes of s from at, big-endian
unfoldable pub val_at : List ℕ → ℕ → ℕ → ℕ
val_at s at zero = 0
val_at s at (suc w) = val_at s at w * 256 + get_or s (at + w) 0

-- a number has one byte, two, four or eight
abbrev pub IsWidth : ℕ → Type 0
IsWidth w = (w ≡ 1) ⊎ ((w ≡ 2) ⊎ ((w ≡ 4) ⊎ (w ≡ 8)))

-- every element is a byte
abbrev pub Bytes : List ℕ → Type 0
Bytes s = (i : ℕ) → get_or s i 0 < 256

-- the w bytes of the number v, big-endian
unfoldable pub be : ℕ → ℕ → List ℕ
be zero v = []
be (suc w) v = be w (v / 256) ++ (v % 256 ∷ [])

-- the values of the fields fs, one after the other in the bytes of s from at
unfoldable pub values_at : List Field → List ℕ → ℕ → List ℕ
values_at [] s at = []
values_at (f ∷ fs) s at = val_at s at f.0 ∷ values_at fs s (at + f.0)

-- the values of a record in twelve places, zeros behind; no record has more
abbrev pub in_twelve : List ℕ → List ℕ
in_twelve v = v ++ replicate (12 - length v) 0

-- the bytes of the fields fs, whose values stand in vs from i
unfoldable pub bytes_of : List Field → List ℕ → ℕ → List ℕ
bytes_of [] vs i = []
bytes_of (f ∷ fs) vs i = be f.0 (get_or vs i 0) ++ bytes_of fs vs (suc i)

-- the position, counted from 1, of the first value out of its range, of those from i on; 0 where there is none
unfoldable pub first_bad : List Field → List ℕ → ℕ → ℕ
first_bad [] vs i = 0
first_bad (f ∷ fs) vs i =
    pick (leb f.1 (get_or vs i 0)) (pick (leb (get_or vs i 0) f.2) (first_bad fs vs (suc i)) (suc i)) (suc i)

-- a position counted from 1 as an answer: none for 0
abbrev pub as_position : ℕ → Option ℕ
as_position zero = None
as_position (suc i) = Some (suc i)

-- each value from i fits the bytes of its field
abbrev pub Fit : List Field → List ℕ → ℕ → Type 0
Fit [] vs i = Unit
Fit (f ∷ fs) vs i = (get_or vs i 0 < bytes_hold f.0) × Fit fs vs (suc i)

-- a record of a row: its length, its version, its kind, its fields
unfoldable pub record_bytes : ℕ → List ℕ → List ℕ
record_bytes row vs = be 2 (length_of row) ++ (be 1 (row_version row) ++ (be 1 (row_kind row) ++ bytes_of (fields row) vs 0))
