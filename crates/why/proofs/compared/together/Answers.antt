use native.Mathlib.Omega.{arith}
use Rattle.account.specs.Judge.{values_of}
use Rattle.why.proofs.ValuesFound.{shares-small, parts-small, fraction-small, last-part}
use Rattle.why.proofs.compared.together.Goals as goal

pub overflow_add-value_at : goal.overflow_add-value_at
overflow_add-value_at c = let s = c in
    let m = shares-small (values_of s.args.r.now) c.if-kind.true s.requires.2 in
    omega (arith, c.value_at-then-kind.ensures, c.value_at.ensures, m.0, m.1)

pub overflow_add-value_at-then-kind : goal.overflow_add-value_at-then-kind
overflow_add-value_at-then-kind c = let s = c in
    let m = shares-small (values_of s.args.r.now) c.if-kind.true s.requires.2 in
    omega (arith, c.value_at-then-kind-2.ensures, c.value_at-then-kind.ensures, c.value_at.ensures, m.0, m.1, m.2)

pub overflow_add-value_at-then-kind-2 : goal.overflow_add-value_at-then-kind-2
overflow_add-value_at-then-kind-2 c = let s = c in
    let m = parts-small (values_of s.args.r.now) c.if-kind-2.true s.requires.2 in
    omega (arith, c.value_at-then-kind-2-3.ensures, c.value_at-then-kind-2-2.ensures, m.0, m.1)

pub overflow_add-grazed : goal.overflow_add-grazed
overflow_add-grazed c = let t = c in
    let s = t in
    let m = fraction-small (values_of s.args.r.now) (last-part s.requires.3 t.if-kind.false t.if-kind-2.false) s.requires.2 in
    omega (arith, c.value_at-2.ensures, m)
