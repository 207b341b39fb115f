-- `grams::carbon_rate::first_steps` meets its contract: the steps that are left make the rule's value. Assumes nothing.
use Rattle.std.proofs.Common.{◌≡◌, ◌-◌, sym, refl, ◌∙◌, arith}
use Rattle.grams.specs.CarbonRate.{exp_of}
use Rattle.grams.proofs.Bounds.{◌⊗◌, fits}
use Rattle.grams.proofs.carbon_rate.Steps.{turn, less-than-all}
use Rattle.grams.proofs.carbon_rate.first_steps.Goals as goal

pub loop-i-init : goal.loop-i-init
unfolding exp_of
loop-i-init c = (omega arith, omega arith, refl)

pub loop-i-preserved : goal.loop-i-preserved
loop-i-preserved c = let l = c.loop-i in
    (omega arith, omega arith, sym (turn c.args.x (l.i - 1) l.e (omega arith)) ∙ l.invariant.2)

pub returns : goal.returns
returns c = let l = c.loop-i in
    let done : l.i ≡ 5 = omega arith in
    (rw done at l.invariant.2, l.invariant.1)

pub overflow_mul-e : goal.overflow_mul-e
overflow_mul-e c = fits (c.loop-i.invariant.1 ⊗ c.requires) tt

pub overflow_sub-e : goal.overflow_sub-e
overflow_sub-e c = less-than-all _ _ _ c.requires c.loop-i.invariant.1 (omega arith)
