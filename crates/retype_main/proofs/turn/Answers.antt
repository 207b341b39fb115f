-- Assumes nothing.
use Rattle.std.proofs.Common.{arith}
use Rattle.retype_main.proofs.Turns.{turned, turned-inside}
use Rattle.retype_main.proofs.turn.Goals as goal

pub overflow_add-w : goal.overflow_add-w
overflow_add-w g c =
    let i = turned-inside c.args.book.now c.args.w _ c.requires c.retype-r.ensures.taken_in_bounds in
    omega (arith, i)

pub returns : goal.returns
returns g c =
    let e = c.retype-r.ensures in
    record {
      turned = turned c.args.book.now c.args.w _ _ e.retypes;
      at_in_bounds = turned-inside c.args.book.now c.args.w _ c.requires e.taken_in_bounds;
    }
