-- What every definition uses: a choice by a test, and counts that stay when they are full. Assumes nothing.
use Rattle.std.specs.Prelude.{ℕ, ◌+◌, Bool, true, false, ltb}

-- the first where the test holds, else the second
abbrev pub pick : {A : Type 0} → Bool → A → A → A
pick true a b = a
pick false a b = b

-- one more; a count that is full stays
abbrev pub one_more_lem : ℕ → ℕ
one_more_lem n = pick (ltb n 18446744073709551615) (n + 1) n
