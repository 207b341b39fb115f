use mathlib.Core.Path.{◌≡◌}
use borrow.Author.Rules.{rules}
use Rattle.why.proofs.ValuesFound.{by_two, by_three, by-four, by_values, past-four}
use Rattle.why.proofs.compared.compared.Goals as goal

pub returns-in-2 : goal.returns-in-2
returns-in-2 c = by_two _ _ c.in-2.is c.version.ensures

pub returns-in-3 : goal.returns-in-3
returns-in-3 c = by_three _ _ c.in-3.is c.be8.ensures c.outside.ensures

pub returns-in-4 : goal.returns-in-4
returns-in-4 c = by-four _ _ c.in-4.is c.be16.ensures (rw c.row_of.ensures at c.length_of.ensures) c.both.ensures

pub returns-in_default : goal.returns-in_default
returns-in_default c =
    let n2 : c.args.code ≡ 2 → ⊥ = search rules in
    let n3 : c.args.code ≡ 3 → ⊥ = search rules in
    let n4 : c.args.code ≡ 4 → ⊥ = search rules in
    by_values _ _ (past-four c.requires.some n2 n3 n4) c.of_values.ensures
