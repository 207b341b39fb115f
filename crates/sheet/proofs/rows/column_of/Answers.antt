-- The last column is empty but on kind 8; any other is that of a line's field. Assumes nothing.
use native.Mathlib.Omega.{arith}
use Rattle.base.proofs.Tests.{no_bool}
use Rattle.sheet.proofs.Reading.{empty-column, column-is, fair-highest}
use Rattle.sheet.proofs.rows.column_of.Goals as goal

pub returns-then-last-kind : goal.returns-then-last-kind
returns-then-last-kind c = let a = c.args in
    record { value = empty-column a.kind a.j c.if-last-kind.true; fair = record { narrow = omega arith; lower = no_bool } }

pub returns : goal.returns
returns c = let h = c.highest_of in
    let w = c.number_width-width in
    let s = c.is_signed-signed in
    let a = c.args in record {
      value = column-is a.kind a.j w.result h.result s.result c.requires
          w.ensures.value s.ensures h.ensures
          c.if-last-kind.false;
      fair = record { narrow = w.ensures.upper_bound; lower = fair-highest s.result w.result h.result h.ensures };
    }
