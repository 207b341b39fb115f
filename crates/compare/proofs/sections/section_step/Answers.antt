-- Assumes nothing.
use borrow.Author.Rules.{rules}
use borrow.Author.Tests.{eq-eqb, ne_eqb}
use Rattle.compare.specs.Steps.{section_step}
use Rattle.compare.proofs.Pieces.{section-pair, section-old}
use Rattle.compare.proofs.sections.section_step.Goals as goal

pub tail_step-requires : goal.tail_step-requires
unfolding section_step
tail_step-requires c = c.requires

pub shape_of-out-then-second-eq0 : goal.shape_of-out-then-second-eq0
unfolding section_step
shape_of-out-then-second-eq0 c = search rules

pub returns-then-second-eq0 : goal.returns-then-second-eq0
unfolding section_step
returns-then-second-eq0 c = rw (eq-eqb _ _ c.if-first-eq0.true, eq-eqb _ _ c.if-second-eq0.true) c.tail_step.ensures

pub new_step-requires : goal.new_step-requires
unfolding section_step
new_step-requires c = c.requires.1

pub shape_of-out-then-first-eq0 : goal.shape_of-out-then-first-eq0
unfolding section_step
shape_of-out-then-first-eq0 c = search rules

pub returns-then-first-eq0 : goal.returns-then-first-eq0
unfolding section_step
returns-then-first-eq0 c = rw (eq-eqb _ _ c.if-first-eq0.true, ne_eqb _ _ c.if-second-eq0.false) c.new_step.ensures

pub pair_step-requires : goal.pair_step-requires
unfolding section_step
pair_step-requires c = c.requires

pub shape_of-out-then-c : goal.shape_of-out-then-c
unfolding section_step
shape_of-out-then-c c = search rules

pub returns-then-c : goal.returns-then-c
unfolding section_step
returns-then-c c = section-pair _ _ c.args.c _ _ _ c.if-first-eq0.false c.if-c.true c.pair_step.ensures

pub old_step-requires : goal.old_step-requires
unfolding section_step
old_step-requires c = c.requires.0

pub shape_of-out : goal.shape_of-out
unfolding section_step
shape_of-out c = search rules

pub returns : goal.returns
unfolding section_step
returns c = section-old _ c.args.new.now c.args.c _ _ _ c.if-first-eq0.false c.if-c.false c.old_step.ensures
