-- By the law, not by counting. Assumes nothing.
use Rattle.std.proofs.Common.{ℕ, ◌+◌, ◌*◌}
use lib.ListN.{length-replicate}
use Rattle.line_bytes.specs.Lines.{figure_count}
use Rattle.sheet_lines_main.proofs.sheet_buffer.Goals as goal

pub returns : goal.returns
returns c = length-replicate {A = ℕ} ((14 + 21 * figure_count) * 4096) 0
