-- The records before, or the entry as it is. Assumes nothing.
use mathlib.Core.Path.{refl}
use borrow.Author.Rules.{rules}
use Rattle.writer.proofs.TypedLines.{filled, kept}
use Rattle.writer.proofs.typed_line.completed.Goals as goal

pub returns-then-entry : goal.returns-then-entry
returns-then-entry c = let a = c.args in record { value = filled a.entry a.records c.if-entry.true; values_len = refl }

pub returns : goal.returns
returns c = let a = c.args in record { value = kept a.entry a.records c.if-entry.false; values_len = search rules }
