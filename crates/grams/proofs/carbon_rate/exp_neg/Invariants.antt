-- `grams::carbon_rate::exp_neg` meets its contract. The loop's invariant: the steps that are left make the rule's value. Assumes nothing.
use Rattle.std.proofs.Common.{◌≡◌, ◌≤◌, ◌-◌}
use Rattle.grams.specs.CarbonRate.{scale, steps, exp_of}
use Rattle.grams.proofs.carbon_rate.exp_neg.Given as goal

-- the loop's own number is one above the next step
abbrev pub invariant-loop-i : goal.invariant-loop-i
invariant-loop-i l = (1 ≤ l.i) × (l.e ≤ scale) × (steps l.x (l.i - 1) l.e ≡ exp_of l.x)
