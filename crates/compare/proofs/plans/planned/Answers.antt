-- Assumes nothing.
use mathlib.Core.Path.{sym, ◌∙◌}
use native.Mathlib.Omega.{arith}
use lib.ListN.{take}
use Rattle.compare.proofs.Pairs.{runs-least, front-least, others-fit, plan-is}
use lib.Seq.{length-take-le}
use Rattle.compare.specs.Places.{left_of}
use Rattle.compare.specs.Plans.{no_runs}
use Rattle.compare.proofs.plans.planned.Goals as goal

pub runs-first-requires : goal.runs-first-requires
runs-first-requires c = c.requires.valid

pub overflow_sub-least : goal.overflow_sub-least
overflow_sub-least c = front-least (take c.args.n (left_of c.args.old.now c.args.p)) (take c.args.m (left_of c.args.new.now c.args.q)) _ _ _ _
    (sym (length-take-le _ _ c.requires.n_in_bounds.0)) (sym (length-take-le _ _ c.requires.n_in_bounds.1))
    (c.runs-first.ensures
    ∙ (rw (← c.least-least.ensures) at (runs-least c.args.n c.args.m no_runs (left_of c.args.old.now c.args.p) (left_of c.args.new.now c.args.q))))
    c.least-least.ensures

pub back_runs-last-requires : goal.back_runs-last-requires
back_runs-last-requires c = let l = c.least-least.ensures in
    record { valid = c.requires.valid; n_in_bounds = (c.requires.n_in_bounds.0, c.requires.n_in_bounds.1, omega (arith, l), omega (arith, l)) }

pub moved-same-requires : goal.moved-same-requires
moved-same-requires c = record { valid = c.requires.valid; n_in_bounds = c.requires.n_in_bounds }

pub others_of-others-requires : goal.others_of-others-requires
others_of-others-requires c = let f = others-fit (take c.args.n (left_of c.args.old.now c.args.p)) (take c.args.m (left_of c.args.new.now c.args.q)) _
    _ _ _ (sym (length-take-le _ _ c.requires.n_in_bounds.0)) (sym (length-take-le _ _ c.requires.n_in_bounds.1))
    (c.runs-first.ensures
    ∙ (rw (← c.least-least.ensures) at (runs-least c.args.n c.args.m no_runs (left_of c.args.old.now c.args.p) (left_of c.args.new.now c.args.q))))
    c.least-least.ensures _ c.back_runs-last.ensures in omega (arith, f, c.least-least.ensures, c.ranges)

pub returns : goal.returns
returns c = plan-is (take c.args.n (left_of c.args.old.now c.args.p)) (take c.args.m (left_of c.args.new.now c.args.q)) _ _ _ _
    (sym (length-take-le _ _ c.requires.n_in_bounds.0)) (sym (length-take-le _ _ c.requires.n_in_bounds.1))
    (c.runs-first.ensures
    ∙ (rw (← c.least-least.ensures) at (runs-least c.args.n c.args.m no_runs (left_of c.args.old.now c.args.p) (left_of c.args.new.now c.args.q))))
    c.least-least.ensures _ c.back_runs-last.ensures _ _ c.moved-same.ensures c.others_of-others.ensures
