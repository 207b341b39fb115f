-- The line in the buffer. Assumes nothing.
use Rattle.writer.proofs.type_last.Goals as goal

pub returns : goal.returns
returns c = let q = c.type_line.ensures in
    record {
      typist = rw c.whole.ensures at q.typist;
      written = rw c.whole.ensures at q.bytes;
      «record» = rw c.whole.ensures at q.record;
      remark = rw c.whole.ensures at q.remark;
    }
