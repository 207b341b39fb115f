-- Its length, its first word, and what its words say. Assumes nothing.
use Rattle.std.proofs.Common.{sym, ◌∙◌}
use Rattle.whatif.proofs.Asking.{too_long, no_word, estimate}
use Rattle.whatif.proofs.read_line.Goals as goal

pub returns-then-line-ge1024 : goal.returns-then-line-ge1024
returns-then-line-ge1024 c = too_long c.args.line.now c.if-line-ge1024.true

pub returns-then-word-eq0 : goal.returns-then-word-eq0
returns-then-word-eq0 c = no_word c.args.line.now c.if-line-ge1024.false c.word.ensures c.if-word-eq0.true

pub returns-in-Ok : goal.returns-in-Ok
returns-in-Ok c = estimate c.args.line.now c.if-line-ge1024.false c.word.ensures c.if-word-eq0.false (sym c.in-Ok.is ∙ c.read_words.ensures.value)

pub returns-in-Err : goal.returns-in-Err
returns-in-Err c = estimate c.args.line.now c.if-line-ge1024.false c.word.ensures c.if-word-eq0.false (sym c.in-Err.is ∙ c.read_words.ensures.value)
