-- Document 01, "What the build covers", as document 02, W8, changes it: round(n/d) is the nearest whole number, a half going to the even one.
-- Assumes nothing.
use Rattle.std.specs.Prelude.{◌≡◌, ℕ, ◌+◌, ◌*◌, ◌/◌, ◌%◌, ◌≤◌, ◌==◌, nat_lt}
use Rattle.base.specs.Choice.{pick}

-- the nearest whole number to n / d: down below a half, up above it, and a half to the even number
unfoldable pub round_div : ℕ → ℕ → ℕ
round_div n d =
    let whole = n / d in
    let rest = n % d in
    pick (nat_lt (2 * rest) d) whole
    (pick (nat_lt d (2 * rest)) (whole + 1)
    (pick (whole % 2 == 0) whole (whole + 1)))

-- the same without a division: r is at most half off, and even where it is half off
pub record Rounded (n d r : ℕ) : Type 0 where
  pub low : 2 * (d * r) ≤ 2 * n + d
  pub high : 2 * n ≤ 2 * (d * r) + d
  pub half-above : 2 * (d * r) ≡ 2 * n + d → r % 2 ≡ 0
  pub half-below : 2 * n ≡ 2 * (d * r) + d → r % 2 ≡ 0
