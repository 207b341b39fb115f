-- Refused by 5, 6 or 7, or by 12; else the total. Assumes nothing.
use mathlib.Core.Path.{refl}
use borrow.Author.Tests.{eq-eqb, ne_eqb}
use Rattle.account.specs.Sorts.{sort_of}
use Rattle.account.specs.Judge.{in_place_lem, first, accepted}
use Rattle.account.proofs.Told.{sums-most, tells-close, told_in, Passes, passes, stops, refuses, accepts}
use Rattle.rules.proofs.close.weigh.Goals as goal

pub returns-then-code-ne0 : goal.returns-then-code-ne0
unfolding in_place_lem sort_of
returns-then-code-ne0 c = stops _ 8 _ _ _ _ c.begun.ensures c.first_bad-bad.ensures
    c.barred-code.ensures _ _ c.if-code-ne0.true c.stopped.ensures

pub returns-then-v-a : goal.returns-then-v-a
unfolding first in_place_lem sort_of
returns-then-v-a c =
    let passed : Passes c.args.a 8 c.args.v = passes _ 8 _ _ _ _ c.begun.ensures c.first_bad-bad.ensures c.barred-code.ensures c.if-code-ne0.false in
    refuses _ 8 _ (passed) _ 12 _ (rw (ne_eqb _ _ c.if-v-a.true)) refl refl c.wrong.ensures

pub totalled-requires : goal.totalled-requires
unfolding in_place_lem sort_of
totalled-requires c =
    let passed : Passes c.args.a 8 c.args.v = passes _ 8 _ _ _ _ c.begun.ensures c.first_bad-bad.ensures c.barred-code.ensures c.if-code-ne0.false in
    let f = c.requires.0 in
    ((passed).room, sums-most _ f, record { ch4-most = f.started.farm.ch4.most; n2o-most = f.started.farm.n2o.most })

pub returns : goal.returns
unfolding first accepted sort_of in_place_lem
returns c =
    let passed : Passes c.args.a 8 c.args.v = passes _ 8 _ _ _ _ c.begun.ensures c.first_bad-bad.ensures c.barred-code.ensures c.if-code-ne0.false in
    told_in _ _ _ _ _ c.totalled.ensures
    (rw (accepts _ 8 _ (passed) (rw (eq-eqb _ _ c.if-v-a.false)))
    (tells-close c.args.a))
