-- A signed number in a word of 64 bits, in two's complement. Assumes nothing.
use Rattle.std.specs.Prelude.{ℕ, suc, ◌-◌, ◌^◌, ltb, ℤ, pos, negsuc}
use Rattle.base.specs.Choice.{pick}

-- the word of a number from −2^63 to 2^63 − 1; `negsuc n` is −(n + 1)
abbrev pub word_of : ℤ → ℕ
word_of (pos n) = n
word_of (negsuc n) = 2 ^ 64 - suc n

-- the number that a word stands for
abbrev pub signed_of : ℕ → ℤ
signed_of w = pick (ltb w (2 ^ 63)) (pos w) (negsuc (2 ^ 64 - suc w))
