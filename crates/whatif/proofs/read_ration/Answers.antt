-- The words one after the other. Assumes nothing.
use Rattle.std.proofs.Common.{sym, ◌∙◌}
use Rattle.whatif.specs.Asked.{ration_read}
use Rattle.whatif.proofs.Asking.{faulted}
use Rattle.whatif.proofs.read_ration.Goals as goal

pub returns-in_err-ge : goal.returns-in_err-ge
unfolding ration_read
returns-in_err-ge c = faulted c.from_residual.result c.from_residual.ensures.1 ∙ sym (rw (← c.number_at.ensures, c.in_err-ge.was))

pub returns-in_err-ym : goal.returns-in_err-ym
unfolding ration_read
returns-in_err-ym c =
    faulted c.from_residual-in_err-ym.result c.from_residual-in_err-ym.ensures.1
    ∙ sym (rw (← c.number_at.ensures, c.in_ok-ge.was, ← c.number_at-2.ensures, c.in_err-ym.was))

pub returns-in_err-head : goal.returns-in_err-head
unfolding ration_read
returns-in_err-head c =
    faulted c.from_residual-in_err-head.result c.from_residual-in_err-head.ensures.1
    ∙ sym (rw (← c.number_at.ensures, c.in_ok-ge.was, ← c.number_at-2.ensures, c.in_ok-ym.was, ← c.number_at-3.ensures, c.in_err-head.was))

pub returns-in_err-days : goal.returns-in_err-days
unfolding ration_read
returns-in_err-days c =
    faulted c.from_residual-in_err-days.result c.from_residual-in_err-days.ensures.1
    ∙ sym (rw (
      ← c.number_at.ensures,
      c.in_ok-ge.was,
      ← c.number_at-2.ensures,
      c.in_ok-ym.was,
      ← c.number_at-3.ensures,
      c.in_ok-head.was,
      ← c.read_days.ensures,
      ← c.ok_or.ensures.value,
      c.in_err-days.was,
    ))

pub returns : goal.returns
unfolding ration_read
returns c =
    sym (rw (
      ← c.number_at.ensures,
      c.in_ok-ge.was,
      ← c.number_at-2.ensures,
      c.in_ok-ym.was,
      ← c.number_at-3.ensures,
      c.in_ok-head.was,
      ← c.read_days.ensures,
      ← c.ok_or.ensures.value,
      c.in_ok-days.was,
    ))
