use native.Mathlib.Omega.{arith}
use Rattle.book.proofs.OneTurn.{whole-count, turned_left, turned-told}
use Rattle.book.proofs.State.turn.Goals as goal

pub judge_all-r-requires : goal.judge_all-r-requires
judge_all-r-requires c = let p = c.requires in (p.range.account, p.early)

pub left-requires : goal.left-requires
left-requires c = c.requires

pub shape_of-out-then-r-eq0 : goal.shape_of-out-then-r-eq0
shape_of-out-then-r-eq0 c = c.judge_all-r.ensures.reading.long

pub returns-then-r-eq0 : goal.returns-then-r-eq0
returns-then-r-eq0 c = let j = c in
    turned_left j.requires j.judge_all-r.ensures c.if-r-eq0.true c.left.ensures

pub overflow_sub-result : goal.overflow_sub-result
overflow_sub-result c = let j = c in
    let l = j.judge_all-r.ensures.least (omega (arith, c.if-r-eq0.false)) in
    omega (arith, whole-count j.requires, l)

pub shape_of-out : goal.shape_of-out
shape_of-out c = c.judge_all-r.ensures.reading.long

pub returns : goal.returns
returns c = let j = c in
    turned-told j.requires j.judge_all-r.ensures (omega (arith, c.if-r-eq0.false)) c.idle-s.ensures
