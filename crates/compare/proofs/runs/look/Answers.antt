-- Assumes nothing.
use mathlib.Core.Path.{◌∙◌}
use borrow.Author.Rules.{rules}
use Rattle.compare.proofs.Pairs.{looked-none, left-some, right-some, looked-on, lines_same}
use Rattle.compare.proofs.runs.look.Goals as goal

pub turn-t-requires : goal.turn-t-requires
turn-t-requires c = (c.requires.0, search rules)

pub turn-u-requires : goal.turn-u-requires
turn-u-requires c = (c.requires.1, search rules)

pub returns-then-t-u : goal.returns-then-t-u
returns-then-t-u c = looked-none _ _ _ _ _ _ c.turn-t.ensures.turned c.turn-u.ensures.turned c.requires.0 c.requires.1 c.if-t-u.true

pub alike-records-requires : goal.alike-records-requires
alike-records-requires c = (c.turn-t.ensures.turned.inside, c.turn-u.ensures.turned.inside)

pub alike-lines-requires : goal.alike-lines-requires
alike-lines-requires c = (c.turn-t.ensures.written.inside, c.turn-u.ensures.written.inside)

pub returns : goal.returns
returns c = let p = c.turn-t.ensures in
    let q = c.turn-u.ensures in
    let i = c.if-t-u.false in
    looked-on _ _ _ _ _ _ p.turned q.turned i _ _ c.alike-records.ensures
    (c.alike-lines.ensures ∙ lines_same _ _ _ _ _ _ _ _ p.written q.written (left-some _ _ _ _ _ _ p.turned q.turned i)
    (right-some _ _ _ _ _ _ p.turned q.turned i))
