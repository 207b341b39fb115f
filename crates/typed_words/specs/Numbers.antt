-- The numbers that a person types for document 01's what-if slip, and their values: whole numbers, and decimals read as double precision.
use Rattle.std.specs.Prelude.{ℕ, ◌+◌, ◌-◌, ◌*◌, ◌^◌, Bool, true, false, ◌&&◌, List, [], ◌∷◌, length, take, drop, leb, ltb, pos, Float}
use Rattle.std.specs.Prelude.{Option, Some, None, option_map, option_and_then}
use Rattle.std.specs.Float.{fin, binary64}
use Rattle.std.specs.Float.Ieee.{round}
use Rattle.base.specs.Bytes.{index_of}

-- b is a digit, and v has at most 14, so that one more makes at most 15
abbrev pub takes : ℕ → ℕ → Bool
takes v b = (leb 48 b && leb b 57) && ltb v 100000000000000

-- w where the test passes, else none
abbrev pub goes_on_lem : {A : Type 0} → Bool → Option A → Option A
goes_on_lem true w = w
goes_on_lem false w = None

-- the number of the digits of s, going on from v; at most 15 digits, leading zeros not counted
unfoldable pub digits_from : ℕ → List ℕ → Option ℕ
digits_from v [] = Some v
digits_from v (b ∷ s) = goes_on_lem (takes v b) (digits_from (v * 10 + (b - 48)) s)

-- a whole number: one or more digits
abbrev pub whole_of : List ℕ → Option ℕ
whole_of s = goes_on_lem (ltb 0 (length s)) (digits_from 0 s)

-- the double nearest to a / b
abbrev pub double : ℕ → ℕ → Float
double a b = round binary64 false a b

-- what stands before the first point
abbrev pub before_point : List ℕ → List ℕ
before_point s = take (index_of 46 s) s

-- what stands behind it: nothing where there is no point
abbrev pub behind_point : List ℕ → List ℕ
behind_point s = drop (index_of 46 s + 1) s

-- a decimal has one or more digits, and perhaps a point with up to 15 digits behind it
abbrev pub is_decimal : List ℕ → Bool
is_decimal s = ltb 0 (index_of 46 s) && leb (length (behind_point s)) 15

-- all its digits as one number, those behind the point going on from those before it
abbrev pub all_digits_of : List ℕ → Option ℕ
all_digits_of s = option_and_then (λ whole. digits_from whole (behind_point s)) (digits_from 0 (before_point s))

-- the positive zero
abbrev pub +0 : Float
+0 = fin false 0 (pos 0)

-- its value: all its digits over the power of ten of those behind the point, rounded once
unfoldable pub decimal_of : List ℕ → Option Float
decimal_of s = goes_on_lem (is_decimal s) (option_map (λ all. double all (10 ^ length (behind_point s))) (all_digits_of s))
