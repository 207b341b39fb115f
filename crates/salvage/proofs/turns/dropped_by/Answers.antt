use mathlib.Core.Path.{◌≡◌}
use borrow.Author.Tests.{ne_eqb}
use Rattle.base.proofs.Tests.{no_bool}
use Rattle.account.specs.Judge.{first}
use Rattle.salvage.proofs.turns.dropped_by.Goals as goal

pub returns-then-code : goal.returns-then-code
unfolding first
returns-then-code c =
    let some : c.args.code ≡ 0 → ⊥ = λ z. no_bool (rw z at c.if-code.true) in
    rw (c.if-code.true, ne_eqb _ _ some)

pub returns-then-lost-is_of_group : goal.returns-then-lost-is_of_group
unfolding first
returns-then-lost-is_of_group c =
    let under = rw c.is_of_group.ensures at c.if-lost-is_of_group.true in
    rw (c.if-code.false, under)

pub returns-then-code-2 : goal.returns-then-code-2
unfolding first
returns-then-code-2 c =
    let some : c.args.code ≡ 0 → ⊥ = λ z. no_bool (rw z at c.if-code-2.true) in
    let under = rw c.is_of_group.ensures at c.if-lost-is_of_group.false in
    rw (c.if-code.false, under, c.if-code-2.true, ne_eqb _ _ some)

pub returns : goal.returns
unfolding first
returns c =
    let under = rw c.is_of_group.ensures at c.if-lost-is_of_group.false in
    rw (c.if-code.false, under, c.if-code-2.false)
