-- Its bytes, and the index past them. Assumes nothing.
use native.Mathlib.Omega.{arith}
use Rattle.sheet.proofs.Items.{line-length, stored-put}
use Rattle.sheet.proofs.lines.put_line.Goals as goal

pub put_numbers-requires : goal.put_numbers-requires
put_numbers-requires c = let a = c.args in
    record { kind_in_bounds = omega (arith, line-length a.kind a.values.now); figure_count_in_bounds = omega arith }

pub returns : goal.returns
returns c = let a = c.args in
    stored-put a.kind a.values.now a.out.now _ a.at c.size_of_kind.result c.size_of_kind.ensures.value c.requires
    c.put_numbers.ensures
