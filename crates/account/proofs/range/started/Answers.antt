-- In stage 1, or in another. Assumes nothing.
use Rattle.account.proofs.Started.{open_started}
use Rattle.account.proofs.range.started.Goals as goal

pub returns-then-stage-eq1 : goal.returns-then-stage-eq1
returns-then-stage-eq1 c = rw c.if-stage-eq1.true (let a = c.args in open_started a.records (record { ch4 = a.ch4; n2o = a.n2o }))

pub returns : goal.returns
returns c = cc
