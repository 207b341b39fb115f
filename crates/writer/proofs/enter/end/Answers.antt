-- Whether a close waits. Assumes nothing.
use mathlib.Core.Path.{refl}
use Rattle.writer.proofs.Fates.{gives_same, end-closing, end-open}
use Rattle.writer.proofs.enter.end.Goals as goal

pub returns-then-good-is_some : goal.returns-then-good-is_some
returns-then-good-is_some c = let m = gives_same _ _ _ (end-closing _ _ _ (rw c.is_some.ensures at c.if-good-is_some.true)) (
  rw c.run_ended-ended.ensures at
      c.close_book.ensures.result,
  rw c.run_ended-ended.ensures at c.close_book.ensures.buffer,
)
    in record { result = m.0; buffer = m.1 }

pub returns : goal.returns
returns c = let m = gives_same _ _ _ (end-open _ _ _ (rw c.is_some.ensures at c.if-good-is_some.false)) (rw c.run_ended-ended.ensures refl, refl)
    in record { result = m.0; buffer = m.1 }
