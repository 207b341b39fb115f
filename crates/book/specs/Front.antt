-- Where a record ends. Document 01, "The book": "A record is: length (2 bytes, counting what follows it), version byte 1, kind byte,
-- fields", and of refusal 1: "length outside 4..26, as soon as two bytes are in".
use Rattle.std.specs.Prelude.{ℕ, ◌+◌, List, Bool, ◌||◌, length, ltb}
use Rattle.base.specs.Choice.{pick}
use Rattle.codec.specs.Table.{length_most_lem}
use Rattle.codec.specs.Codec.{val_at}

-- what some bytes are at their front: the beginning of a record, a length that no record has, or a whole record
pub data Front : Type 0 where
  unfinished : Front
  bad_length : Front
  whole : Front

-- the bytes of a record, the two of its length among them
abbrev pub need : List ℕ → ℕ
need xs = val_at xs 0 2 + 2

-- length outside 4..26
abbrev pub bad : List ℕ → Bool
bad xs = ltb (val_at xs 0 2) 4 || ltb length_most_lem (val_at xs 0 2)

-- with fewer than two bytes there is no length yet; with two it is judged; a record is whole when its length is fulfilled
unfoldable pub front : List ℕ → Front
front xs =
    pick (ltb (length xs) 2) unfinished
    (pick (bad xs) bad_length
    (pick (ltb (length xs) (need xs)) unfinished whole))
