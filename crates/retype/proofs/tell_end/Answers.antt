-- By the stage. Assumes nothing.
use mathlib.Core.Path.{ap}
use mathlib.Core.Bool.{not}
use Rattle.printing.proofs.Texts.{◌⟫◌}
use Rattle.retype.proofs.Steps.{end_refused, end-unfinished, end-closed, end-behind}
use Rattle.retype.proofs.tell_end.Goals as goal

pub returns-then-account-eq3 : goal.returns-then-account-eq3
returns-then-account-eq3 c = let a = c.args in rw (end_refused a.account a.behind c.if-account-eq3.true) c.say_refusal.ensures

pub returns-then-account-ne2 : goal.returns-then-account-ne2
returns-then-account-ne2 c = let a = c.args in rw (end-unfinished a.account a.behind c.if-account-eq3.false c.if-account-ne2.true) c.say.ensures

pub returns-then-not-behind : goal.returns-then-not-behind
returns-then-not-behind c = let a = c.args in rw
    (end-closed a.account a.behind c.if-account-eq3.false c.if-account-ne2.false (ap not c.if-not-behind.true)) c.say-then-not-behind.ensures

pub returns : goal.returns
returns c = let a = c.args in
    let e = c.say_sentence.ensures in
    rw (end-behind a.account a.behind c.if-account-eq3.false c.if-account-ne2.false (ap not c.if-not-behind.false)) (e ⟫ c.say-2.ensures)
