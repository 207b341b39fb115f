-- The choices between two steps are the standard library's.
-- Assumes nothing.
use Rattle.std.specs.Prelude.{min, max}
use Rattle.std.specs.Int.{abs_diff}
use Rattle.std.proofs.Common.{◌≡◌, ℕ, ◌-◌, ltb, arith, ltb-false, ltb-true}
use Rattle.base.proofs.Tests.{by-test}
use Rattle.page.specs.Bars.{lesser, greater}

module _ (a b : ℕ) where
  pub min-lesser : min a b ≡ lesser a b
  min-lesser =
      by-test (ltb a b) (λ t. let h = ltb-true a b t in rw t (omega (arith, h)))
      (λ t. let h = ltb-false a b t in rw t (omega (arith, h)))

  pub max-greater : max a b ≡ greater a b
  max-greater =
      by-test (ltb a b) (λ t. let h = ltb-true a b t in rw t (omega (arith, h)))
      (λ t. let h = ltb-false a b t in rw t (omega (arith, h)))

  pub diff-apart : abs_diff a b ≡ greater a b - lesser a b
  diff-apart =
      by-test (ltb a b) (λ t. let h = ltb-true a b t in rw t (omega (arith, h)))
      (λ t. let h = ltb-false a b t in rw t (omega (arith, h)))
