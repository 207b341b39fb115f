-- Assumes nothing.
use mathlib.Core.Path.{refl, sym}
use native.Mathlib.Omega.{arith}
use Rattle.compare.specs.Places.{no_group}
use Rattle.compare.proofs.GroupNumbers.{some-number, no-number}
use Rattle.compare.proofs.NextGroups.{group-removed, group-added, group-last, group-both}
use Rattle.compare.proofs.groups.group_step.Goals as goal

pub returns-in-None-None : goal.returns-in-None-None
returns-in-None-None c =
    let g = no-number _ _ c.group_at.ensures.none c.in-None-None.is-0 in
    let h = no-number _ _ c.group_at-2.ensures.none c.in-None-None.is-1 in
    group-last _ _ _ c.args.p c.args.q _ _ _ no_group no_group (sym g) (sym h) (omega arith) (omega arith) refl c.last_step.ensures

pub returns-in-Some-None : goal.returns-in-Some-None
returns-in-Some-None c =
    let g = some-number _ _ c.in-Some-None.g c.group_at.ensures.some c.in-Some-None.is-0 in
    let h = no-number _ _ c.group_at-2.ensures.none c.in-Some-None.is-1 in
    group-removed _ _ _ c.args.p c.args.q _ _ _ _ no_group g.0 (sym h) g.1 c.removed_step.ensures

pub returns-in-None-Some : goal.returns-in-None-Some
returns-in-None-Some c =
    let g = no-number _ _ c.group_at.ensures.none c.in-None-Some.is-0 in
    let h = some-number _ _ c.in-None-Some.h c.group_at-2.ensures.some c.in-None-Some.is-1 in
    group-added _ _ _ c.args.p c.args.q _ _ _ no_group _ (sym g) h.0 (omega (arith, h.1)) h.1 c.added_step.ensures

pub returns-then-g-h : goal.returns-then-g-h
returns-then-g-h c =
    let g = some-number _ _ c.in-Some-Some.g c.group_at.ensures.some c.in-Some-Some.is-0 in
    let h = some-number _ _ c.in-Some-Some.h c.group_at-2.ensures.some c.in-Some-Some.is-1 in
    group-removed _ _ _ c.args.p c.args.q _ _ _ _ _ g.0 h.0 c.if-g-h.true c.removed_step-then-g-h.ensures

pub returns-then-h-g : goal.returns-then-h-g
returns-then-h-g c =
    let g = some-number _ _ c.in-Some-Some.g c.group_at.ensures.some c.in-Some-Some.is-0 in
    let h = some-number _ _ c.in-Some-Some.h c.group_at-2.ensures.some c.in-Some-Some.is-1 in
    group-added _ _ _ c.args.p c.args.q _ _ _ _ _ g.0 h.0 c.if-g-h.false c.if-h-g.true c.added_step-then-h-g.ensures

pub returns-else-h-g : goal.returns-else-h-g
returns-else-h-g c =
    let g = some-number _ _ c.in-Some-Some.g c.group_at.ensures.some c.in-Some-Some.is-0 in
    let h = some-number _ _ c.in-Some-Some.h c.group_at-2.ensures.some c.in-Some-Some.is-1 in
    group-both _ _ _ c.args.p c.args.q _ _ _ _ _ g.0 h.0 c.if-g-h.false c.if-h-g.false (λ z. absurd (omega (arith, z, g.1))) c.both_step.ensures
