-- By the answer. Assumes nothing.
use Rattle.writer.proofs.Fates.{close-right, close-refused}
use Rattle.writer.proofs.enter.enter_close.Goals as goal

pub returns-in-Ok : goal.returns-in-Ok
returns-in-Ok c = close-right _ _ _ c.write_entry-w.ensures.result c.in-Ok.is c.waits.ensures

pub returns-in-Err : goal.returns-in-Err
returns-in-Err c = close-refused _ _ _ c.write_entry-w.ensures.result
    c.in-Err.is c.refused_at.ensures
