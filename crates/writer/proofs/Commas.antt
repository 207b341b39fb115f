-- Nothing stands after a comma that is not there.
-- Assumes nothing.
use Prim.Native.Nat.{ℕ, ◌+◌, ◌≤◌}
use native.Mathlib.Omega.{arith}
use mathlib.Core.Path.{◌≡◌, sym, ◌∙◌}
use mathlib.Core.List.{List}
use lib.ListN.{length, drop, drop_of_length-le}

pub no-comma : (s : List ℕ) (p q : ℕ) → p ≡ q → p ≡ length s → drop p s ≡ drop (q + 1) s
no-comma s p q e l =
    let at : length s ≤ p = omega arith in
    let past : length s ≤ q + 1 = omega arith in
    drop_of_length-le s at ∙ sym (drop_of_length-le s past)
