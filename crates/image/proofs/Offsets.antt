-- The one length of an image and its offsets, worked out: the table of docs/FORMAT.md.
-- Assumes nothing.
use mathlib.Core.Path.{◌≡◌, refl}
use mathlib.Core.List.{[], ◌∷◌, map}
use Rattle.codec.specs.Table.{size}
use Rattle.account.specs.Account.{account_fields}
use Rattle.image.specs.Image.{image_size, place_of}

pub image-size : image_size ≡ 132
unfolding size account_fields
image-size = refl

-- the first number of each part: stage, CH4 factor, group, days of kind 3, subtotal, sums, refusal
pub offsets : map place_of (0 ∷ 2 ∷ 4 ∷ 7 ∷ 11 ∷ 15 ∷ 21 ∷ []) ≡ 28 ∷ 31 ∷ 35 ∷ 40 ∷ 48 ∷ 80 ∷ 128 ∷ []
unfolding size account_fields
offsets = refl
