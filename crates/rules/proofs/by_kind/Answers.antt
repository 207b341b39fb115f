-- What the kind's own function tells. Assumes nothing.
use mathlib.Core.Path.{refl, sym, ◌∙◌}
use borrow.Author.Rules.{rules}
use Rattle.base.proofs.Tests.{no_bool}
use Rattle.codec.proofs.EachKind.{no_kind, NoneOf}
use Rattle.codec.specs.Table.{table, size, last_kind}
use Rattle.rules.proofs.ByKind.{there, by-kind}
use Rattle.rules.proofs.by_kind.Goals as goal

pub read-requires : goal.read-requires
unfolding table size
read-requires c = let p = c.requires in there p.2 1 (sym p.3 ∙ c.in-1.is) 11 refl

pub weigh-requires : goal.weigh-requires
unfolding table size
weigh-requires c = let p = c.requires in (p.0, p.1)

pub read-requires-in-2 : goal.read-requires-in-2
unfolding table size
read-requires-in-2 c = let p = c.requires in there p.2 2 (sym p.3 ∙ c.in-2.is) 9 refl

pub weigh-requires-in-2 : goal.weigh-requires-in-2
unfolding table size
weigh-requires-in-2 c = let p = c.requires in (p.0, p.1)

pub read-requires-in-3 : goal.read-requires-in-3
unfolding table size
read-requires-in-3 c = let p = c.requires in there p.2 3 (sym p.3 ∙ c.in-3.is) 12 refl

pub weigh-requires-in-3 : goal.weigh-requires-in-3
unfolding table size
weigh-requires-in-3 c = let p = c.requires in (p.0, p.1)

pub read-requires-in-4 : goal.read-requires-in-4
unfolding table size
read-requires-in-4 c = let p = c.requires in there p.2 4 (sym p.3 ∙ c.in-4.is) 22 refl

pub weigh-requires-in-4 : goal.weigh-requires-in-4
unfolding table size
weigh-requires-in-4 c = let p = c.requires in (p.0, p.1)

pub read-requires-in-5 : goal.read-requires-in-5
unfolding table size
read-requires-in-5 c = let p = c.requires in there p.2 5 (sym p.3 ∙ c.in-5.is) 28 refl

pub weigh-requires-in-5 : goal.weigh-requires-in-5
unfolding table size
weigh-requires-in-5 c = let p = c.requires in (p.0, p.1)

pub read-requires-in-6 : goal.read-requires-in-6
unfolding table size
read-requires-in-6 c = let p = c.requires in there p.2 6 (sym p.3 ∙ c.in-6.is) 13 refl

pub weigh-requires-in-6 : goal.weigh-requires-in-6
unfolding table size
weigh-requires-in-6 c = let p = c.requires in (p.0, p.1)

pub read-requires-in-7 : goal.read-requires-in-7
unfolding table size
read-requires-in-7 c = let p = c.requires in there p.2 7 (sym p.3 ∙ c.in-7.is) 8 refl

pub weigh-requires-in-7 : goal.weigh-requires-in-7
unfolding table size
weigh-requires-in-7 c = let p = c.requires in (p.0, p.1)

pub read-requires-in-8 : goal.read-requires-in-8
unfolding table size
read-requires-in-8 c = let p = c.requires in there p.2 8 (sym p.3 ∙ c.in-8.is) 6 refl

pub weigh-requires-in-8 : goal.weigh-requires-in-8
unfolding table size
weigh-requires-in-8 c = let p = c.requires in (p.0, p.1)

pub read-requires-in-9 : goal.read-requires-in-9
unfolding table size
read-requires-in-9 c = let p = c.requires in there p.2 9 (sym p.3 ∙ c.in-9.is) 13 refl

pub weigh-requires-in-9 : goal.weigh-requires-in-9
unfolding table size
weigh-requires-in-9 c = let p = c.requires in (p.0, p.1)

pub read-requires-in-10 : goal.read-requires-in-10
unfolding table size
read-requires-in-10 c = let p = c.requires in there p.2 10 (sym p.3 ∙ c.in-10.is) 10 refl

pub weigh-requires-in-10 : goal.weigh-requires-in-10
unfolding table size
weigh-requires-in-10 c = let p = c.requires in (p.0, p.1)

pub wrong-requires : goal.wrong-requires
unfolding table size
wrong-requires c = tt

pub returns-in-1 : goal.returns-in-1
unfolding table size
returns-in-1 c = let p = c.requires in
    by-kind p.2 1 (sym p.3 ∙ c.in-1.is) _ _ _ _ c.read.ensures c.weigh.ensures

pub returns-in-2 : goal.returns-in-2
unfolding table size
returns-in-2 c = let p = c.requires in
    by-kind p.2 2 (sym p.3 ∙ c.in-2.is) _ _ _ _ c.read-in-2.ensures c.weigh-in-2.ensures

pub returns-in-3 : goal.returns-in-3
unfolding table size
returns-in-3 c = let p = c.requires in
    by-kind p.2 3 (sym p.3 ∙ c.in-3.is) _ _ _ _ c.read-in-3.ensures c.weigh-in-3.ensures

pub returns-in-4 : goal.returns-in-4
unfolding table size
returns-in-4 c = let p = c.requires in
    by-kind p.2 4 (sym p.3 ∙ c.in-4.is) _ _ _ _ c.read-in-4.ensures c.weigh-in-4.ensures

pub returns-in-5 : goal.returns-in-5
unfolding table size
returns-in-5 c = let p = c.requires in
    by-kind p.2 5 (sym p.3 ∙ c.in-5.is) _ _ _ _ c.read-in-5.ensures c.weigh-in-5.ensures

pub returns-in-6 : goal.returns-in-6
unfolding table size
returns-in-6 c = let p = c.requires in
    by-kind p.2 6 (sym p.3 ∙ c.in-6.is) _ _ _ _ c.read-in-6.ensures c.weigh-in-6.ensures

pub returns-in-7 : goal.returns-in-7
unfolding table size
returns-in-7 c = let p = c.requires in
    by-kind p.2 7 (sym p.3 ∙ c.in-7.is) _ _ _ _ c.read-in-7.ensures c.weigh-in-7.ensures

pub returns-in-8 : goal.returns-in-8
unfolding table size
returns-in-8 c = let p = c.requires in
    by-kind p.2 8 (sym p.3 ∙ c.in-8.is) _ _ _ _ c.read-in-8.ensures c.weigh-in-8.ensures

pub returns-in-9 : goal.returns-in-9
unfolding table size
returns-in-9 c = let p = c.requires in
    by-kind p.2 9 (sym p.3 ∙ c.in-9.is) _ _ _ _ c.read-in-9.ensures c.weigh-in-9.ensures

pub returns-in-10 : goal.returns-in-10
unfolding table size
returns-in-10 c = let p = c.requires in
    by-kind p.2 10 (sym p.3 ∙ c.in-10.is) _ _ _ _ c.read-in-10.ensures c.weigh-in-10.ensures

pub returns-in_default : goal.returns-in_default
unfolding table size
returns-in_default c =
    let p = c.requires in
    let rest : NoneOf last_kind c.args.row = search rules in
    absurd (no_bool (sym (no_kind _ rest) ∙ rw p.3 p.2.kinds))
