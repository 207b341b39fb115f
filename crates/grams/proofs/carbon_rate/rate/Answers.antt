-- `grams::carbon_rate::rate` meets its contract. Assumes nothing.
use Rattle.std.proofs.Common.{◌≡◌, ℕ, ◌-◌, ◌*◌, ◌^◌, ◌≤◌}
use Rattle.grams.specs.Round.{round_div}
use Rattle.grams.specs.CarbonRate.{scale, exp_of, rate_of, RateIn}
use Rattle.grams.proofs.Bounds.{◌⊗◌, less, fits, figure}
use Rattle.grams.proofs.carbon_rate.Small.{rate-most}
use Rattle.grams.proofs.carbon_rate.rate.Goals as goal

module _ {lum k y : ℕ} (p : RateIn lum k y) where
  before-room : k * (y - 1) ≤ 40300
  before-room = p.k-in ⊗ less 1 p.y-in.1

  after-room : k * y ≤ 40300
  after-room = p.k-in ⊗ p.y-in.1

-- the product reaches 1.57 × 10^15
fall-room : {lum b f : ℕ} (a : ℕ) → lum ≤ 1570 → b ≤ scale → f ≡ b - a → lum * f ≤ 1570 * 10 ^ 12
fall-room a p q e = rw e (p ⊗ less a q)

-- the steps of the code, put together
rate-is : (lum k y b a f r : ℕ) → b ≡ exp_of (k * (y - 1)) → a ≡ exp_of (k * y) → f ≡ b - a → r ≡ round_div (lum * f) (10 ^ 9) → r ≡ rate_of lum k y
unfolding rate_of
rate-is lum k y b a f r e₁ e₂ e₃ e₄ = cc

pub overflow_mul-k : goal.overflow_mul-k
overflow_mul-k c = fits (before-room c.requires) tt

pub exp_neg-before-requires : goal.exp_neg-before-requires
exp_neg-before-requires c = before-room c.requires

pub overflow_mul-k-2 : goal.overflow_mul-k-2
overflow_mul-k-2 c = fits (after-room c.requires) tt

pub exp_neg-after-requires : goal.exp_neg-after-requires
exp_neg-after-requires c = after-room c.requires

pub overflow_mul-lum : goal.overflow_mul-lum
overflow_mul-lum c = fits (fall-room _ c.requires.lum-in c.exp_neg-before.ensures.small c.less.ensures) tt

pub returns : goal.returns
returns c = let s = c in
    let a = s.args in
    figure (rate-most s.requires.lum-in a.k a.years)
    (rate-is a.lum a.k a.years _ _ _ _ s.exp_neg-before.ensures.exact c.exp_neg-after.ensures.exact
    c.less.ensures c.round_div.ensures)
