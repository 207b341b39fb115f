-- The change, its number, and what stands behind. Assumes nothing.
use Rattle.std.proofs.Common.{sym, ◌∙◌, eq-eqb, ne_eqb}
use Rattle.whatif.specs.Asked.{change_read}
use Rattle.whatif.proofs.Asking.{faulted}
use Rattle.whatif.proofs.read_change.Goals as goal

pub returns-in_err-change : goal.returns-in_err-change
unfolding change_read
returns-in_err-change c =
    faulted c.from_residual.result c.from_residual.ensures.1
    ∙ sym (rw (← c.change_in.ensures, ← c.ok_or.ensures.value, c.in_err-change.was))

pub returns-in_err-_x : goal.returns-in_err-_x
unfolding change_read
returns-in_err-_x c =
    faulted c.from_residual-in_err-_x.result c.from_residual-in_err-_x.ensures.1
    ∙ sym (rw (← c.change_in.ensures, ← c.ok_or.ensures.value, c.in_ok-change.was, ← c.number_at.ensures, c.in_err-_x.was))

pub returns-then-word-ne0 : goal.returns-then-word-ne0
unfolding change_read
returns-then-word-ne0 c =
    sym (rw (
      ← c.change_in.ensures,
      ← c.ok_or.ensures.value,
      c.in_ok-change.was,
      ← c.number_at.ensures,
      c.in_ok-_x.was,
      ← c.word.ensures,
      ne_eqb _ _ c.if-word-ne0.true,
    ))

pub returns : goal.returns
unfolding change_read
returns c =
    sym (rw (
      ← c.change_in.ensures,
      ← c.ok_or.ensures.value,
      c.in_ok-change.was,
      ← c.number_at.ensures,
      c.in_ok-_x.was,
      ← c.word.ensures,
      eq-eqb _ _ c.if-word-ne0.false,
    ))
