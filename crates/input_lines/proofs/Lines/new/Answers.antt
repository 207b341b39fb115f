-- Both parts are those of no line. Assumes nothing.
use mathlib.Core.Bool.{false}
use mathlib.Core.Path.{ap₂}
use Rattle.text_lines.specs.declared.Cut.{Cut}
use Rattle.program.specs.declared.Reading.{Reading}
use Rattle.input_lines.specs.declared.Lines.{Lines}
use Rattle.input_lines.proofs.Lines.new.Goals as goal

abbrev made : Cut → Reading → Lines
made cut input = record { cut = cut; ended = false; input = input; rest = 0; left = 18446744073709551615 }

pub returns : goal.returns
returns c = ap₂ made c.new-cut.ensures c.new-input.ensures
