-- By the test. Assumes nothing.
use Rattle.last_word.proofs.Telling.{all_right, not_right}
use Rattle.last_word.proofs.status.Goals as goal

pub returns-then-account-read : goal.returns-then-account-read
returns-then-account-read c = let a = c.args in all_right a.account a.read a.written c.if-account-read.true

pub returns-else-account-read : goal.returns-else-account-read
returns-else-account-read c = let a = c.args in not_right a.account a.read a.written c.if-account-read.false
