-- By the answer. Assumes nothing.
use Rattle.writer.proofs.Fates.{closes, stays_open}
use Rattle.writer.proofs.enter.close_book.Goals as goal

pub returns-in-Ok : goal.returns-in-Ok
returns-in-Ok c = let m = closes c.args.t
    c.args.out.now
    c.write_entry-w.ensures.result
    c.write_entry-w.ensures.buffer c.in-Ok.is c.written_as.ensures
    in record { result = m.0; buffer = m.1 }

pub returns-in-Err : goal.returns-in-Err
returns-in-Err c = let m = stays_open c.args.t
    c.args.out.now
    c.write_entry-w.ensures.result c.write_entry-w.ensures.buffer
    c.in-Err.is
    in record { result = m.0; buffer = m.1 }
