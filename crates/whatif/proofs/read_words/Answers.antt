-- The ration and then the change. Assumes nothing.
use Rattle.std.proofs.Common.{sym, ap, ◌∙◌, eq-eqb, ne_eqb}
use Rattle.std.specs.Result.{result_err}
use Rattle.whatif.specs.Asked.{words_read}
use Rattle.whatif.proofs.Asking.{faulted}
use Rattle.whatif.proofs.read_words.Goals as goal

pub returns-then-word-eq0-clause-value : goal.returns-then-word-eq0-clause-value
unfolding words_read
returns-then-word-eq0-clause-value c = sym (rw (← c.word.ensures, eq-eqb _ _ c.if-word-eq0.true))

pub returns-in_err-ration-clause-value : goal.returns-in_err-ration-clause-value
unfolding words_read
returns-in_err-ration-clause-value c =
    faulted c.from_residual.result c.from_residual.ensures.1
    ∙ sym (rw (← c.word.ensures, ne_eqb _ _ c.if-word-eq0.false, ← c.read_ration.ensures, c.in_err-ration.was))

pub returns-in_err-change-clause-value : goal.returns-in_err-change-clause-value
unfolding words_read
returns-in_err-change-clause-value c =
    faulted c.from_residual-in_err-change.result c.from_residual-in_err-change.ensures.1
    ∙ sym (rw (
      ← c.word.ensures,
      ne_eqb _ _ c.if-word-eq0.false,
      ← c.read_ration.ensures,
      c.in_ok-ration.was,
      ← c.read_change.ensures,
      c.in_err-change.was,
    ))

pub returns-clause-value : goal.returns-clause-value
unfolding words_read
returns-clause-value c =
    sym (rw (
      ← c.word.ensures,
      ne_eqb _ _ c.if-word-eq0.false,
      ← c.read_ration.ensures,
      c.in_ok-ration.was,
      ← c.read_change.ensures,
      c.in_ok-change.was,
    ))

pub returns-then-word-eq0-clause-fault : goal.returns-then-word-eq0-clause-fault
returns-then-word-eq0-clause-fault c = ap result_err (returns-then-word-eq0-clause-value c)

pub returns-in_err-ration-clause-fault : goal.returns-in_err-ration-clause-fault
returns-in_err-ration-clause-fault c = ap result_err (returns-in_err-ration-clause-value c)

pub returns-in_err-change-clause-fault : goal.returns-in_err-change-clause-fault
returns-in_err-change-clause-fault c = ap result_err (returns-in_err-change-clause-value c)

pub returns-clause-fault : goal.returns-clause-fault
returns-clause-fault c = ap result_err (returns-clause-value c)
