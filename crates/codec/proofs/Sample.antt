-- The first enteric record of document 01's sample book, computed; and the length of each row.
-- Assumes nothing.
use mathlib.Core.Path.{◌≡◌, refl}
use mathlib.Core.List.{List, [], ◌∷◌, map}
use Prim.Native.Nat.{ℕ}
use Rattle.codec.specs.Table.{table, fields, size, length_of}
use Rattle.codec.specs.Codec.{val_at, be, values_at, bytes_of, first_bad, record_bytes}

-- 000A0103001F00007530028A
abbrev pub enteric : List ℕ
enteric = 0 ∷ 10 ∷ 1 ∷ 3 ∷ 0 ∷ 31 ∷ 0 ∷ 0 ∷ 117 ∷ 48 ∷ 2 ∷ 138 ∷ []

pub read : values_at (fields 3) enteric 4 ≡ 31 ∷ 30000 ∷ 650 ∷ []
unfolding values_at val_at table
read = refl

pub written : record_bytes 3 (31 ∷ 30000 ∷ 650 ∷ []) ≡ enteric
unfolding record_bytes bytes_of be table size
written = refl

-- days 366 pass, 0 and 367 are field 1, Ym 2001 is field 3
pub tested :
    first_bad (fields 3) (366 ∷ 0 ∷ 2000 ∷ []) 0 ∷ first_bad (fields 3) (0 ∷ 0 ∷ 0 ∷ []) 0 ∷ first_bad (fields 3) (367 ∷ 0 ∷ 0 ∷ []) 0
    ∷ first_bad (fields 3) (1 ∷ 0 ∷ 2001 ∷ []) 0 ∷ []
    ≡ 0 ∷ 1 ∷ 1 ∷ 3 ∷ []
unfolding first_bad table
tested = refl

-- the lengths of document 01, kinds 1 to 8, of change requests W7 and W10, kinds 9 and 10, and of W11
pub lengths : map length_of (1 ∷ 2 ∷ 3 ∷ 4 ∷ 5 ∷ 6 ∷ 7 ∷ 8 ∷ 9 ∷ 10 ∷ 11 ∷ []) ≡ 9 ∷ 7 ∷ 10 ∷ 20 ∷ 26 ∷ 11 ∷ 6 ∷ 4 ∷ 11 ∷ 8 ∷ 12 ∷ []
unfolding table size
lengths = refl
