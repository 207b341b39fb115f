-- A state as bytes. Change request W12: "Lay the state out at fixed offsets in a lent image of one stated length, held bytes first". The 27
-- held bytes, zeros behind them, stand first; behind them one byte says how many are held; then the account's numbers, each big-endian in the bytes
-- that account's specs/Account gives it.
-- Assumes nothing.
use Rattle.std.specs.Prelude.{ℕ, ◌+◌, ◌^◌, ◌<◌, List, [], ◌∷◌, ◌++◌, Bool, ◌&&◌, length, take, drop, eqb}
use Rattle.std.proofs.lemmas.List.Edits.{sets}
use Rattle.codec.specs.Table.{size}
use Rattle.codec.specs.Codec.{val_at, values_at, be, bytes_of}
use Rattle.grams.specs.Units.{co2_word}
use Rattle.account.specs.declared.Account.{Account}
use Rattle.account.specs.Account.{account_fields, start_numbers, heading_numbers, used_numbers, numbers_of, account_of}
use Rattle.book.specs.declared.State.{State}
use Rattle.book.specs.State.{InRange, in_range}

-- the one length
abbrev pub image_size : ℕ
image_size = 28 + size account_fields

-- where the account's number i lies
abbrev pub place_of : ℕ → ℕ
place_of i = 28 + size (take i account_fields)

-- runs of the account's numbers, the first from one on, stored over an image each at its place
abbrev pub stored : List (List ℕ) → ℕ → List ℕ → List ℕ
stored [] from image = image
stored (u ∷ us) from image = stored us (from + length u) (sets image (place_of from) (bytes_of (take (length u) (drop from account_fields)) u 0))

-- the numbers before the subtotal
abbrev pub front_numbers : Account → List ℕ
front_numbers a = start_numbers a ++ (heading_numbers a.heading ++ used_numbers a.used)

-- the image of a state
unfoldable pub image_of : State → List ℕ
image_of s = s.held ++ (be 1 s.count ++ bytes_of account_fields (numbers_of s.account) 0)

-- the state that an image tells
unfoldable pub state_in : List ℕ → State
state_in image = record { account = account_of (values_at account_fields image 28); held = take 27 image; count = val_at image 27 1 }

-- a state that there can be: inside the ranges, its CO2 sum a word of 64 bits, as each value of that type is
pub record Possible (s : State) : Type 0 where
  pub range : InRange s
  pub word : co2_word s.account.sums.co2 < 2 ^ 64

-- the image is a state's: of the one length, and what it tells is inside the ranges
unfoldable pub is_image : List ℕ → Bool
is_image image = eqb (length image) image_size && in_range (state_in image)
