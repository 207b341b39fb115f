-- Assumes nothing.
use native.Mathlib.Omega.{arith}
use Rattle.compare.proofs.Walks.{passed-inside, passed_on, passed-valid}
use Rattle.compare.proofs.places.after.Goals as goal

pub overflow_add-result : goal.overflow_add-result
overflow_add-result c = omega (arith, passed-inside c.args.book.now c.args.p c.requires.0 c.args.t c.requires.1 c.requires.2, c.well_formed)

pub overflow_add-result-2 : goal.overflow_add-result-2
overflow_add-result-2 c = omega (
  arith,
  passed-inside c.args.book.now c.args.p c.requires.0 c.args.t c.requires.1 c.requires.2,
  c.requires.0.few,
  c.requires.2,
  c.well_formed,
)

pub returns : goal.returns
returns c = (
  passed_on c.args.book.now c.args.p c.requires.0 c.args.t c.requires.1 c.requires.2,
  passed-valid c.args.book.now c.args.p c.requires.0 c.args.t c.requires.1 c.requires.2,
)
