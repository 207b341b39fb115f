-- Refused by 5, 6 or 7, or by 8; else a new heading, with nothing used yet. Assumes nothing.
use mathlib.Core.Path.{refl}
use native.Mathlib.Omega.{arith}
use borrow.Author.Tests.{le-leb, lt-leb}
use Rattle.account.specs.Sorts.{sort_of}
use Rattle.account.specs.Judge.{in_place_lem, first, accepted}
use Rattle.account.proofs.Ranges.{heading-in}
use Rattle.account.proofs.Told.{tells-heading, told_in, Passes, passes, stops, refuses, accepts}
use Rattle.rules.proofs.heading.weigh.Goals as goal

pub returns-then-code-ne0 : goal.returns-then-code-ne0
unfolding in_place_lem sort_of
returns-then-code-ne0 c = stops _ 2 _ _ _ _ c.begun.ensures c.first_bad-bad.ensures
    c.barred-code.ensures _ _ c.if-code-ne0.true c.stopped.ensures

pub returns-then-group-last : goal.returns-then-group-last
unfolding first in_place_lem sort_of
returns-then-group-last c =
    let passed : Passes c.args.a 2 c.args.v = passes _ 2 _ _ _ _ c.begun.ensures c.first_bad-bad.ensures c.barred-code.ensures c.if-code-ne0.false in
    refuses _ 2 _ (passed) _ 8 _ (rw (le-leb _ _ c.if-group-last.true)) refl refl c.wrong.ensures

pub returns : goal.returns
unfolding first accepted sort_of in_place_lem
returns c =
    let passed : Passes c.args.a 2 c.args.v = passes _ 2 _ _ _ _ c.begun.ensures c.first_bad-bad.ensures c.barred-code.ensures c.if-code-ne0.false in
    told_in _ _ _ _ _ c.headed.ensures
    (rw (accepts _ 2 _ (passed) (rw (lt-leb _ _ c.if-group-last.false)))
    (tells-heading c.args.a _ _ _))

pub overflow_cast-group : goal.overflow_cast-group
unfolding in_place_lem sort_of
overflow_cast-group c =
    let passed : Passes c.args.a 2 c.args.v = passes _ 2 _ _ _ _ c.begun.ensures c.first_bad-bad.ensures c.barred-code.ensures c.if-code-ne0.false in
    omega (arith, (heading-in _ (passed).ranges).group-most)

pub overflow_cast-h : goal.overflow_cast-h
unfolding in_place_lem sort_of
overflow_cast-h c =
    let passed : Passes c.args.a 2 c.args.v = passes _ 2 _ _ _ _ c.begun.ensures c.first_bad-bad.ensures c.barred-code.ensures c.if-code-ne0.false in
    omega (arith, (heading-in _ (passed).ranges).class-most)

pub overflow_cast-h-2 : goal.overflow_cast-h-2
unfolding in_place_lem sort_of
overflow_cast-h-2 c =
    let passed : Passes c.args.a 2 c.args.v = passes _ 2 _ _ _ _ c.begun.ensures c.first_bad-bad.ensures c.barred-code.ensures c.if-code-ne0.false in
    omega (arith, (heading-in _ (passed).ranges).head-most)

pub headed-requires : goal.headed-requires
unfolding in_place_lem sort_of
headed-requires c =
    let passed : Passes c.args.a 2 c.args.v = passes _ 2 _ _ _ _ c.begun.ensures c.first_bad-bad.ensures c.barred-code.ensures c.if-code-ne0.false in
    (passed).room
