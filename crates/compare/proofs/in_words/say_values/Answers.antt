-- Assumes nothing.
use native.Mathlib.Omega.{arith}
use borrow.Author.Rules.{rules}
use Rattle.printing.proofs.Texts.{◌⟫◌}
use Rattle.compare.proofs.Wordings.{kind-there}
use Rattle.compare.specs.Values.{values_text}
use Rattle.codec.proofs.Rows.{fields-few}
use Rattle.compare.proofs.in_words.say_values.Goals as goal

pub row_at-row-requires : goal.row_at-row-requires
unfolding values_text
row_at-row-requires c = kind-there c.args.r.now c.requires.0

pub values_of-n-requires : goal.values_of-n-requires
unfolding values_text
values_of-n-requires c = search rules

pub values-vs-requires : goal.values-vs-requires
unfolding values_text
values-vs-requires c = c.requires.0

pub values-ws-requires : goal.values-ws-requires
unfolding values_text
values-ws-requires c = c.requires.1

pub say_fields-requires : goal.say_fields-requires
unfolding values_text
say_fields-requires c = omega (arith, c.values_of-n.ensures, fields-few c.row_at-row.result)

pub returns : goal.returns
unfolding values_text
returns c = rw (c.values-ws.ensures, c.values-vs.ensures, c.values_of-n.ensures, c.row_at-row.ensures) at (c.say_row.ensures
    ⟫ c.say_fields.ensures ⟫ c.say.ensures)
