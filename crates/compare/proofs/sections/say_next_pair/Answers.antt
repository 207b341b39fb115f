-- Assumes nothing.
use borrow.Author.Rules.{rules}
use Rattle.printing.proofs.Texts.{says-none}
use Rattle.compare.proofs.Pieces.{pair-none, pair-some}
use Rattle.compare.proofs.Walks.{passed-left}
use Rattle.compare.proofs.Pairs.{left-some, right-some}
use Rattle.compare.proofs.sections.say_next_pair.Goals as goal

pub rest_of-xs-requires : goal.rest_of-xs-requires
rest_of-xs-requires c = c.requires.0.inside

pub rest_of-ys-requires : goal.rest_of-ys-requires
rest_of-ys-requires c = c.requires.1.inside

pub turn-t-requires : goal.turn-t-requires
turn-t-requires c = (c.requires.0.range, search rules)

pub turn-u-requires : goal.turn-u-requires
turn-u-requires c = (c.requires.1.range, search rules)

pub returns-then-t-u : goal.returns-then-t-u
returns-then-t-u c = rw (pair-none c.args.p.number _ _ _ _ _ _ c.args.q.number (rw c.rest_of-xs.ensures at c.turn-t.ensures.turned)
    (rw c.rest_of-ys.ensures at c.turn-u.ensures.turned) c.if-t-u.true) says-none

pub first_of-requires : goal.first_of-requires
first_of-requires c = c.turn-t.ensures.turned.inside

pub first_of-requires-2 : goal.first_of-requires-2
first_of-requires-2 c = c.turn-t.ensures.written.inside

pub first_of-requires-3 : goal.first_of-requires-3
first_of-requires-3 c = c.turn-u.ensures.turned.inside

pub first_of-requires-4 : goal.first_of-requires-4
first_of-requires-4 c = c.turn-u.ensures.written.inside

pub say_pair-requires : goal.say_pair-requires
say_pair-requires c = let i = c.if-t-u.false in
    let p = c.turn-t.ensures.turned in
    let q = c.turn-u.ensures.turned in (
      rw c.first_of.ensures (p.readable (left-some _ _ _ _ _ _ p q i)),
      rw c.first_of-3.ensures (q.readable (right-some _ _ _ _ _ _ p q i)),
    )

pub returns : goal.returns
returns c = let i = c.if-t-u.false in
    let p = c.turn-t.ensures.turned in
    let q = c.turn-u.ensures.turned in
    let k = left-some _ _ _ _ _ _ p q i in
    let l = right-some _ _ _ _ _ _ p q i in
    rw (pair-some c.args.p.number c.args.q.number _ _ _ _ _ _ (passed-left _ _ c.requires.0 _ (rw c.rest_of-xs.ensures at c.turn-t.ensures.turned) k)
    (passed-left _ _ c.requires.1 _ (rw c.rest_of-ys.ensures at c.turn-u.ensures.turned) l))
    (rw (
      c.first_of.ensures,
      c.first_of-2.ensures,
      c.first_of-3.ensures,
      c.first_of-4.ensures,
      c.turn-t.ensures.written.are k,
      c.turn-u.ensures.written.are l,
      c.rest_of-xs.ensures,
      c.rest_of-ys.ensures,
    ) at c.say_pair.ensures)
