-- By what the line says. Assumes nothing.
use mathlib.Core.Path.{refl}
use Rattle.writer.proofs.enter.enter.Goals as goal

pub returns-in-Nothing : goal.returns-in-Nothing
returns-in-Nothing c = record { result = rw c.in-Nothing.is refl; buffer = rw c.in-Nothing.is refl }

pub returns-in-Wrong : goal.returns-in-Wrong
returns-in-Wrong c = record {
  result = rw (c.in-Wrong.is, c.not_read.ensures, c.run_ended.ensures, c.met.ensures) refl;
  buffer = rw c.in-Wrong.is refl;
}

pub returns-in-Record : goal.returns-in-Record
returns-in-Record c =
    let q = c.enter_record.ensures in
    record {
      result = rw c.in-Record.is (rw c.met-in-Record.ensures at q.result);
      buffer = rw c.in-Record.is (rw c.met-in-Record.ensures at q.buffer);
    }
