-- By the kind, and by the words behind it. Assumes nothing.
use Rattle.writer.proofs.TypedLines.{no_row, row-second, row-kind}
use Rattle.writer.proofs.typed_line.row_of_line.Goals as goal

pub returns-then-kind-gt-LAST_KIND : goal.returns-then-kind-gt-LAST_KIND
returns-then-kind-gt-LAST_KIND c = no_row _ _ c.if-kind-gt-LAST_KIND.true

pub returns-then-kind-fourth : goal.returns-then-kind-fourth
returns-then-kind-fourth c = row-second _ _ c.if-kind-gt-LAST_KIND.false c.word-fourth.ensures c.word-fifth.ensures c.if-kind-fourth.true

pub returns : goal.returns
returns c = row-kind _ _ c.if-kind-gt-LAST_KIND.false c.word-fourth.ensures c.word-fifth.ensures c.if-kind-fourth.false
