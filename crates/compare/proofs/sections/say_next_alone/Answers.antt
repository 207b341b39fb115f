-- Assumes nothing.
use Prim.Native.Nat.{◌<◌}
use native.Mathlib.Omega.{arith}
use borrow.Author.Rules.{rules}
use Rattle.printing.proofs.Texts.{says-none}
use Rattle.compare.proofs.Pieces.{alone-none, alone-some}
use Rattle.compare.proofs.Walks.{passed-left}
use Rattle.compare.proofs.sections.say_next_alone.Goals as goal

pub rest_of-rest-requires : goal.rest_of-rest-requires
rest_of-rest-requires c = c.requires.inside

pub turn-t-requires : goal.turn-t-requires
turn-t-requires c = (c.requires.range, search rules)

pub returns-then-t-eq0 : goal.returns-then-t-eq0
returns-then-t-eq0 c = rw (alone-none c.args.new c.args.p.number _ ((rw c.rest_of-rest.ensures at c.turn-t.ensures.turned).ended c.if-t-eq0.true))
    says-none

pub first_of-requires : goal.first_of-requires
first_of-requires c = c.turn-t.ensures.turned.inside

pub first_of-requires-2 : goal.first_of-requires-2
first_of-requires-2 c = c.turn-t.ensures.written.inside

pub say_alone-requires : goal.say_alone-requires
say_alone-requires c = rw c.first_of.ensures (c.turn-t.ensures.turned.readable (omega (arith, c.if-t-eq0.false)))

pub returns : goal.returns
returns c = let k : 0 < c.turn-t.result.n = omega (arith, c.if-t-eq0.false) in
    rw (alone-some c.args.new c.args.p.number _ _ _ (passed-left _ _ c.requires _ (rw c.rest_of-rest.ensures at c.turn-t.ensures.turned) k))
    (rw (c.first_of.ensures, c.first_of-2.ensures, c.turn-t.ensures.written.are k, c.rest_of-rest.ensures) at c.say_alone.ensures)
