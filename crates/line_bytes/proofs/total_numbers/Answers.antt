-- `line_bytes::total_numbers` meets its contract.
-- Assumes nothing.
use borrow.Author.Rules.{rules}
use Rattle.codec.specs.Codec.{values_at}
use Rattle.line_bytes.specs.Lines.{total_fields}
use Rattle.line_bytes.proofs.total_numbers.Goals as goal

pub slice_bounds-read_numbers-end : goal.slice_bounds-read_numbers-end
unfolding total_fields values_at
slice_bounds-read_numbers-end c = search rules

pub read_numbers-requires : goal.read_numbers-requires
unfolding total_fields values_at
read_numbers-requires c = (search rules, search rules)

pub returns : goal.returns
unfolding total_fields values_at
returns c = c.read_numbers.ensures
