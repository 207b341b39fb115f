-- Assumes nothing.
use native.Mathlib.Omega.{arith}
use borrow.Author.Rules.{rules}
use Rattle.compare.specs.Sections.{total_text}
use Rattle.compare.proofs.groups.say_totals.Goals as goal

pub slice_bounds-close_lines-end : goal.slice_bounds-close_lines-end
unfolding total_text
slice_bounds-close_lines-end c = search rules

pub close_lines-n-requires : goal.close_lines-n-requires
unfolding total_text
close_lines-n-requires c = (c.requires.0, search rules)

pub slice_bounds-close_lines-end-2 : goal.slice_bounds-close_lines-end-2
unfolding total_text
slice_bounds-close_lines-end-2 c = search rules

pub close_lines-m-requires : goal.close_lines-m-requires
unfolding total_text
close_lines-m-requires c = (c.requires.1, search rules)

pub slice_bounds-first_of-end : goal.slice_bounds-first_of-end
unfolding total_text
slice_bounds-first_of-end c = search rules

pub first_of-requires : goal.first_of-requires
unfolding total_text
first_of-requires c = c.close_lines-n.ensures.upper_bound

pub last_line-s-requires : goal.last_line-s-requires
unfolding total_text
last_line-s-requires c = search rules

pub slice_bounds-first_of-end-2 : goal.slice_bounds-first_of-end-2
unfolding total_text
slice_bounds-first_of-end-2 c = search rules

pub first_of-requires-2 : goal.first_of-requires-2
unfolding total_text
first_of-requires-2 c = c.close_lines-m.ensures.upper_bound

pub last_line-t-requires : goal.last_line-t-requires
unfolding total_text
last_line-t-requires c = search rules

pub overflow_add-say_sum : goal.overflow_add-say_sum
unfolding total_text
overflow_add-say_sum c = search rules

pub say_sum-requires : goal.say_sum-requires
unfolding total_text
say_sum-requires c = omega arith

pub returns : goal.returns
unfolding total_text
returns c = rw (
  c.last_line-s.ensures,
  c.first_of.ensures,
  c.close_lines-n.ensures.lines_after,
  c.last_line-t.ensures,
  c.first_of-2.ensures,
  c.close_lines-m.ensures.lines_after,
) at c.say_sum.ensures
