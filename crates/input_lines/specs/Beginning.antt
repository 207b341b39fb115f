-- An input of which no line is read yet. The lines that may come are u64's last number, which no input uses up.
-- Assumes nothing.
use Rattle.std.specs.Prelude.{false}
use Rattle.text_lines.specs.Lines.{first_cut}
use Rattle.program.specs.Beginning.{unread}
use Rattle.input_lines.specs.declared.Lines.{Lines}

abbrev pub no_line_lem : Lines
no_line_lem = record { cut = first_cut; ended = false; input = unread; rest = 0; left = 18446744073709551615 }
