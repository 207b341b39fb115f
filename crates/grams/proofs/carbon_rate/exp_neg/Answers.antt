-- `grams::carbon_rate::exp_neg` meets its contract. The loop's invariant: the steps that are left make the rule's value. Assumes nothing.
use Rattle.std.proofs.Common.{◌≡◌, ◌-◌, sym, ◌∙◌, arith}
use Rattle.grams.specs.CarbonRate.{exp_of}
use Rattle.grams.proofs.Bounds.{◌⊗◌, fits}
use Rattle.grams.proofs.carbon_rate.Steps.{turn, ended}
use Rattle.grams.proofs.carbon_rate.exp_neg.Goals as goal

pub loop-i-preserved : goal.loop-i-preserved
loop-i-preserved c = let l = c.loop-i in
    (omega arith, omega arith, rw c.less-e.ensures (sym (turn c.args.x (l.i - 1) l.e (omega arith)) ∙ l.invariant.2))

pub returns : goal.returns
unfolding exp_of
returns c = let l = c.loop-i in
    let done : l.i ≡ 1 = omega arith in
    record { exact = sym (ended _ _) ∙ rw done at l.invariant.2; small = l.invariant.1 }

pub first_steps-e-requires : goal.first_steps-e-requires
first_steps-e-requires c = c.requires

pub loop-i-init : goal.loop-i-init
loop-i-init c = (omega arith, c.first_steps-e.ensures.1, c.first_steps-e.ensures.0)

pub overflow_mul-e : goal.overflow_mul-e
overflow_mul-e c = fits (c.loop-i.invariant.1 ⊗ c.requires) tt
