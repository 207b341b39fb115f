-- By the test. Assumes nothing.
use Rattle.retype.proofs.status.Goals as goal

pub returns-then-account-behind : goal.returns-then-account-behind
returns-then-account-behind c = rw c.if-account-behind.true

pub returns-else-account-behind : goal.returns-else-account-behind
returns-else-account-behind c = rw c.if-account-behind.false
