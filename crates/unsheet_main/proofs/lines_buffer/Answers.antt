-- By the law, not by counting. Assumes nothing.
use Rattle.std.proofs.Common.{ℕ, ◌*◌, ◌/◌}
use lib.ListN.{length-replicate}
use Rattle.line_bytes.specs.Lines.{total_size}
use Rattle.unsheet_main.proofs.lines_buffer.Goals as goal

pub returns : goal.returns
returns c = length-replicate {A = ℕ} (262144 / 19 * total_size) 0
