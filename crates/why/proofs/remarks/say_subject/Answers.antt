use borrow.Author.Tests.{ne_eqb}
use Rattle.why.specs.Remarks.{subject_table}
use Rattle.why.proofs.remarks.say_subject.Goals as goal

pub returns : goal.returns
unfolding subject_table
returns c = rw (ne_eqb _ _ c.if-code-eq7.false)
    (rw (c.part-words.ensures, c.subject.ensures) at
    c.say.ensures)
