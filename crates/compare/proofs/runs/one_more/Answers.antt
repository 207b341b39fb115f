-- Assumes nothing.
use mathlib.Core.Path.{refl}
use native.Mathlib.Omega.{arith}
use Rattle.compare.proofs.Pairs.{anew-is, lasting-is}
use Rattle.compare.proofs.runs.one_more.Goals as goal

pub one_if-leading-requires : goal.one_if-leading-requires
one_if-leading-requires c = omega (arith, c.requires.leading)

pub one_if-trailing-requires : goal.one_if-trailing-requires
one_if-trailing-requires c = omega (arith, c.requires.trailing, c.kept.ensures.most)

pub one_if-first-requires : goal.one_if-first-requires
one_if-first-requires c = omega (arith, c.requires.first)

pub one_if-last-requires : goal.one_if-last-requires
one_if-last-requires c = omega (arith, c.requires.last, c.kept-2.ensures.most)

pub one_if-others-requires : goal.one_if-others-requires
one_if-others-requires c = omega (arith, c.requires.others)

pub overflow_add-result : goal.overflow_add-result
overflow_add-result c = omega (arith, c.requires.pairs)

pub returns : goal.returns
returns c = rw (
  c.one_if-leading.ensures,
  c.one_if-trailing.ensures,
  c.kept.ensures.value,
  c.one_if-first.ensures,
  c.one_if-last.ensures,
  c.kept-2.ensures.value,
  c.one_if-others.ensures,
  anew-is,
  lasting-is,
) refl
