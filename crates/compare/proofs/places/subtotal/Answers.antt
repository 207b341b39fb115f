-- Assumes nothing.
use mathlib.Core.Bool.{not}
use mathlib.Core.Path.{ap}
use native.Mathlib.Omega.{arith}
use Rattle.compare.proofs.Sums.{subtotal-none, subtotal-is}
use Rattle.compare.proofs.places.subtotal.Goals as goal

pub returns-then-not-grouped : goal.returns-then-not-grouped
returns-then-not-grouped c = record { lines_after = subtotal-none c.args.grouped _ (ap not c.if-not-grouped.true); upper_bound = omega arith }

pub rest_of-requires : goal.rest_of-requires
rest_of-requires c = c.requires.0.inside

pub turn-t-requires : goal.turn-t-requires
turn-t-requires c = (c.requires.0.range, c.requires.1)

pub returns : goal.returns
returns c = record {
  lines_after = subtotal-is c.args.grouped _ _ _ _ _ (rw c.rest_of.ensures at c.turn-t.ensures.turned)
      (rw c.rest_of.ensures at c.turn-t.ensures.written) (ap not c.if-not-grouped.false) c.least.ensures;
  upper_bound = omega (arith, c.least.ensures, c.turn-t.ensures.written.inside);
}
