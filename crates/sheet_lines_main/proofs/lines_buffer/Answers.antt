-- By the law, not by counting. Assumes nothing.
use Rattle.std.proofs.Common.{ℕ, ◌+◌, ◌*◌}
use lib.ListN.{length-replicate}
use Rattle.line_bytes.specs.Lines.{line_size, total_size}
use Rattle.sheet_lines_main.proofs.lines_buffer.Goals as goal

pub returns : goal.returns
returns c = length-replicate {A = ℕ} (4094 * line_size + total_size + 1) 0
