-- One call. Assumes nothing.
use Rattle.std.proofs.Common.{arith}
use Rattle.records_main.proofs.Turns.{turned}
use Rattle.records_main.proofs.turn.Goals as goal

pub returns : goal.returns
returns g c =
    let e = c.rows-r.ensures in
    record { turned = turned c.args.book.now c.args.w _ _ e.retypes; at_in_bounds = omega (arith, c.requires, e.taken_in_bounds) }
