-- Assumes nothing.
use native.Mathlib.Omega.{arith}
use Rattle.compare.proofs.Pairs.{last_of}
use Rattle.compare.proofs.plans.back_runs.Goals as goal

pub overflow_sub-n : goal.overflow_sub-n
overflow_sub-n c = omega (arith, c.requires.n_in_bounds.2)

pub reach-s-requires : goal.reach-s-requires
reach-s-requires c = c.requires.valid.0

pub overflow_sub-m : goal.overflow_sub-m
overflow_sub-m c = omega (arith, c.requires.n_in_bounds.3)

pub reach-t-requires : goal.reach-t-requires
reach-t-requires c = c.requires.valid.1

pub runs-requires : goal.runs-requires
runs-requires c = (c.reach-s.ensures.1, c.reach-t.ensures.1)

pub returns : goal.returns
returns c = let s = c in
    rw (
      last_of _ s.args.p _ s.args.n s.args.most s.requires.valid.0 c.reach-s.ensures.0 s.requires.n_in_bounds.2,
      last_of _ s.args.q _ s.args.m s.args.most s.requires.valid.1 c.reach-t.ensures.0 s.requires.n_in_bounds.3,
    ) at c.runs.ensures
