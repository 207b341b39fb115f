-- The close that waits, and what is said of the end. Assumes nothing.
use Rattle.writer.proofs.Calls.{end-typed}
use Rattle.writer.proofs.type_end.Goals as goal

pub returns : goal.returns
returns c = let args = c.args in
    let m = end-typed args.good args.t args.out.now c.end-e.ensures.result c.end-e.ensures.buffer c.say_end_remark-told.ensures
    in record { typist = m.0; written = m.1.0; «record» = m.1.1.0; remark = m.1.1.1 }
