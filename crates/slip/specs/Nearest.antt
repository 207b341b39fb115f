-- Document 01, "The what-if slip": "55.65 the nearest double". How near a double is to 5565 / 100, told in whole numbers.
-- Assumes nothing.
use Rattle.std.specs.Prelude.{ℕ, ◌+◌, ◌-◌, ◌*◌, ◌≤◌, true, false, Float}
use Rattle.std.specs.Float.{nan, inf, fin}
use Rattle.std.specs.Float.Ieee.{up, down}
use Rattle.std.specs.Float.Ieee.Positive.{den}

-- the distance of two numbers
abbrev pub gap : ℕ → ℕ → ℕ
gap a b = (a - b) + (b - a)

-- |y - 5565 / 100| is far y / (100 * den y), for a finite y
abbrev pub far : Float → ℕ
far nan = 0
far (inf s) = 0
far (fin false n d) = gap (100 * (n * up d)) (5565 * down d)
far (fin true n d) = 100 * (n * up d) + 5565 * down d

-- of two finite values x and y, x is as near to 5565 / 100 as y, or nearer
abbrev pub NoFarther : Float → Float → Type 0
NoFarther x y = far x * den y ≤ far y * den x
