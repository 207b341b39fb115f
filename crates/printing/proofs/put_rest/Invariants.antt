use Prim.Native.Nat.{ℕ, ◌+◌, ◌*◌, ◌≤◌}
use mathlib.Core.Path.{◌≡◌}
use mathlib.Core.List.{List}
use lib.ListN.{length, drop}
use Rattle.printing.specs.Decimal.{spaced, Put}
use Rattle.printing.proofs.put_rest.Given as goal

-- there is room for what is left, and putting it makes the whole
pub record SoFar (out₀ : List ℕ) (at : ℕ) (values out : List ℕ) (end k : ℕ) : Type 0 where
  pub same : length out ≡ length out₀
  pub room : end + 21 * length values ≤ length out + 21 * k
  pub small : end ≤ at + 21 * k
  pub rest : (zs : List ℕ) (q : ℕ) → Put out zs end (spaced (drop k values)) q → Put out₀ zs at (spaced values) q

abbrev pub invariant-loop-v : goal.invariant-loop-v
invariant-loop-v l = SoFar l.initial.out l.at l.values l.out l.end l.v-index
