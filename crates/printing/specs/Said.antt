-- Text that goes into a buffer as far as there is room: what people are told beside document 01's lines.
use Rattle.std.specs.Prelude.{ℕ, ◌-◌, ◌≡◌, List, length, take}
use Rattle.printing.specs.Decimal.{Put}

-- zs is the buffer xs with the text s from index at on, cut off where the buffer ends; r is the index past it
pub record Said (xs zs : List ℕ) (at : ℕ) (s : List ℕ) (r : ℕ) : Type 0 where
  pub put : Put xs zs at (take (length xs - at) s) r
  pub long : length zs ≡ length xs
