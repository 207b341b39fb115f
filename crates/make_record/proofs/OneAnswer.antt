-- One answer: write asks nothing of its caller, and two answers that meet its contract are equal (base, specs/Answers). Assumes nothing.
use mathlib.Core.Path.{sym, ◌∙◌}
use Rattle.base.specs.Answers.{AsksNothing, OneAnswerWith}
use Rattle.make_record.proofs.write.Kinds as writer
use Rattle.make_record.proofs.write.Reads as met

pub write-asks-nothing : AsksNothing writer.ps met.Asked
write-asks-nothing κs args = tt

-- Two answers that meet write's contract are equal: the state, the count of bytes written and the answer (all of Written), and the buffer at
-- the end (the fourth parameter, out).
pub one-write : OneAnswerWith writer.ps writer.r met.Learnt (λ κs e. e.1.1.1.0.now)
one-write κs args f g e e' p q = (p.0 ∙ sym q.0, p.1.0 ∙ sym q.1.0)
