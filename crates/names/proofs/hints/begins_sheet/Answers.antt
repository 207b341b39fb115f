use Rattle.names.proofs.hints.begins_sheet.Goals as goal

pub returns-then-begins_with : goal.returns-then-begins_with
returns-then-begins_with c = rw (← c.begins_with.ensures, c.if-begins_with.true)

pub returns : goal.returns
returns c = rw (← c.begins_with.ensures, c.if-begins_with.false) c.begins_with-2.ensures
