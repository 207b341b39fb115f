-- The records that some bytes make. Document 01, "The book": "A record is: length (2 bytes, counting what follows it), ..": one stands behind the
-- other, up to an unfinished one or a length that no record has. There is no state, no call and no line in it.
-- Assumes nothing.
use Rattle.std.specs.Prelude.{ℕ, zero, suc, ◌<◌, ◌≡◌, List, [], ◌∷◌, length, take, drop}
use Rattle.book.specs.Front.{Front, unfinished, bad_length, whole, need, front}

-- the first n bytes of xs are a record; with n zero there is none
pub record Ready (xs : List ℕ) (n : ℕ) : Type 0 where
  pub some : 0 < n → (front xs ≡ whole) × (n ≡ need xs)
  pub none : n ≡ 0 → front xs ≡ whole → ⊥

-- a whole record at the front of xs, and then others
abbrev pub begins_with : Front → List ℕ → List (List ℕ) → List (List ℕ)
begins_with unfinished xs others = []
begins_with bad_length xs others = []
begins_with whole xs others = take (need xs) xs ∷ others

-- at most n records of xs
unfoldable pub records_by : ℕ → List ℕ → List (List ℕ)
records_by zero xs = []
records_by (suc n) xs = begins_with (front xs) xs (records_by n (drop (need xs) xs))

-- the whole records of xs, one after the other, up to an unfinished one or a length that no record has
unfoldable pub records_of : List ℕ → List (List ℕ)
records_of xs = records_by (suc (length xs)) xs
