use mathlib.Core.Path.{◌≡◌, refl}
use native.Mathlib.Omega.{arith}
use borrow.Author.Rules.{rules}
use Rattle.why.proofs.Faults.{sized, position-is, days-small}
use Rattle.why.proofs.ValuesFound.{by-seven, by-eight, by-nine, by_ten, by-twelve, by-other}
use Rattle.why.proofs.compared.of_values.Goals as goal

pub out_of_range-requires : goal.out_of_range-requires
out_of_range-requires c = let p = c.requires in
    let q = position-is p.0 c.in-7.is in
    (sized p.0 p.1, c.row_of-row.ensures, q.1, q.2)

pub days_with-requires : goal.days_with-requires
days_with-requires c = let p = c.requires in omega (arith, c.value_at-first.ensures, days-small p.0 c.in-9.is)

pub returns-in-7 : goal.returns-in-7
returns-in-7 c = let p = c.requires in
    by-seven _ _ _ c.in-7.is (position-is p.0 c.in-7.is).0 (rw (c.row_of-row.ensures) at c.out_of_range.ensures)

pub returns-in-8 : goal.returns-in-8
returns-in-8 c = by-eight _ _ _ c.in-8.is c.value_at-first.ensures c.both.ensures

pub returns-in-9 : goal.returns-in-9
returns-in-9 c = by-nine _ _ _ c.in-9.is c.value_at-first.ensures (rw (c.row_of-row.ensures) at c.days_with.ensures) c.both-in-9.ensures

pub returns-in-10 : goal.returns-in-10
returns-in-10 c = by_ten _ _ _ c.in-10.is (rw (c.row_of-row.ensures) at c.together.ensures)

pub returns-in-12 : goal.returns-in-12
returns-in-12 c = by-twelve _ _ _ c.in-12.is c.value_at-first.ensures c.both-in-12.ensures

pub returns-in_default : goal.returns-in_default
returns-in_default c =
    let n7 : c.args.code ≡ 7 → ⊥ = search rules in
    let n8 : c.args.code ≡ 8 → ⊥ = search rules in
    let n9 : c.args.code ≡ 9 → ⊥ = search rules in
    let n10 : c.args.code ≡ 10 → ⊥ = search rules in
    let n12 : c.args.code ≡ 12 → ⊥ = search rules in
    by-other _ _ _ n7 n8 n9 n10 n12 refl
