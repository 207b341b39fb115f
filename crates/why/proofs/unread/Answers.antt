use mathlib.Core.Path.{sym, ◌∙◌}
use native.Mathlib.Omega.{arith}
use Rattle.why.proofs.ValuesFound.{says-short, says-bad, says-missing, front-begun}
use Rattle.why.proofs.unread.Goals as goal

pub returns-then-rest-lt2 : goal.returns-then-rest-lt2
returns-then-rest-lt2 c = says-short _ _ _ c.if-rest-lt2.true

pub returns-then-bad_length : goal.returns-then-bad_length
returns-then-bad_length c = let b = c in
    says-bad _ _ _ b.if-rest-lt2.false (rw b.be16-n.ensures at (sym b.bad_length.ensures ∙ c.if-bad_length.true))
    c.broken_length.ensures

pub overflow_sub-result : goal.overflow_sub-result
overflow_sub-result c = let b = c in
    let s = b in
    let f = front-begun _ b.if-rest-lt2.false (rw b.be16-n.ensures at (sym b.bad_length.ensures ∙ c.if-bad_length.false)) s.requires.0 in
    omega (arith, f.0, b.be16-n.ensures)

pub returns : goal.returns
returns c = let b = c in
    says-missing _ _ _ b.if-rest-lt2.false (rw b.be16-n.ensures at (sym b.bad_length.ensures ∙ c.if-bad_length.false))
    b.requires.0 b.be16-n.ensures
