-- What the line says, word by word. Assumes nothing.
use mathlib.Core.Path.{◌∙◌}
use Rattle.writer.proofs.TypedLines.{too_long, says_nothing, wrong-kind, wrong-value, says-record}
use Rattle.writer.proofs.typed_line.read_line.Goals as goal

pub returns-in_default : goal.returns-in_default
returns-in_default c = c.without-in_default.ensures
    ∙ wrong-kind _ c.if-text-ge1024.false c.word-first.ensures c.if-first-eq0.false
    c.read_kind.ensures c.in_default.is

pub returns-then-v-ne0 : goal.returns-then-v-ne0
returns-then-v-ne0 c = c.without-then-v-ne0.ensures
    ∙ wrong-value _ c.if-text-ge1024.false c.word-first.ensures c.if-first-eq0.false c.read_kind.ensures
    c.in-Some.is
    c.row_of_line-row.ensures c.read_values-v.ensures c.if-v-ne0.true

pub returns : goal.returns
returns c = says-record _ c.if-text-ge1024.false c.word-first.ensures c.if-first-eq0.false c.read_kind.ensures
    c.in-Some.is
    c.row_of_line-row.ensures c.read_values-v.ensures c.if-v-ne0.false

pub returns-then-text-ge1024 : goal.returns-then-text-ge1024
returns-then-text-ge1024 c = c.without.ensures ∙ too_long _ c.if-text-ge1024.true

pub returns-then-first-eq0 : goal.returns-then-first-eq0
returns-then-first-eq0 c = c.without-then-first-eq0.ensures ∙ says_nothing _ c.if-text-ge1024.false c.word-first.ensures c.if-first-eq0.true
