use borrow.Author.Tests.{lt-ltb, le-ltb, eq-eqb, ne_eqb}
use Rattle.book.specs.Call.{answer_of}
use Rattle.book.proofs.answered.Goals as goal

pub returns-then-taken-n : goal.returns-then-taken-n
unfolding answer_of
returns-then-taken-n c = simp (lt-ltb _ _ c.if-account-lt2.true, eq-eqb _ _ c.if-taken-n.true)

pub returns-else-taken-n : goal.returns-else-taken-n
unfolding answer_of
returns-else-taken-n c = simp (lt-ltb _ _ c.if-account-lt2.true, ne_eqb _ _ c.if-taken-n.false)

pub returns-then-account-eq2 : goal.returns-then-account-eq2
unfolding answer_of
returns-then-account-eq2 c = simp (le-ltb _ _ c.if-account-lt2.false, eq-eqb _ _ c.if-account-eq2.true)

pub returns-else-account-eq2 : goal.returns-else-account-eq2
unfolding answer_of
returns-else-account-eq2 c = simp (le-ltb _ _ c.if-account-lt2.false, ne_eqb _ _ c.if-account-eq2.false)
