use Prim.Native.Nat.{ℕ, ◌≤◌}
use mathlib.Core.Path.{◌≡◌}
use mathlib.Core.List.{List}
use lib.ListN.{length, drop}
use Rattle.std.specs.Prelude.{Option}
use Rattle.sheet.specs.Numbers.{digits}
use Rattle.sheet.specs.Code.{held}
use Rattle.sheet.proofs.numbers.go_on.Given as goal

-- the number so far, and the digits that are left make the whole
pub record SoFar (text : List ℕ) (at v : ℕ) (number : Option ℕ) (i : ℕ) : Type 0 where
  pub sum : ℕ
  pub inside : i ≤ length text
  pub amount : number ≡ held sum
  pub same : digits v (drop at text) ≡ digits sum (drop i text)

abbrev pub invariant-loop-i : goal.invariant-loop-i
invariant-loop-i l = SoFar l.text l.at l.v l.number l.i
