-- A double that equals itself is a number, and has a bit pattern.
use mathlib.Core.Path.{◌≡◌, sym}
use mathlib.Core.Bool.{true, not, true≢false}
use lib.Dec.{T}
use lib.Ieee.{Float, nan, inf, fin, eq, is_nan}

pub number : (x : Float) → eq x x ≡ true → T (not (is_nan x))
unfolding eq is_nan
number nan e = absurd (true≢false (sym e))
number (inf s) e = tt
number (fin s m n) e = tt
