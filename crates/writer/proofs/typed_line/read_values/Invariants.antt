-- The invariant: so many values are read, and the rest is still to come. Assumes nothing.
use Rattle.writer.proofs.TypedLines.{Reading}
use Rattle.writer.proofs.typed_line.read_values.Given as goal

abbrev pub invariant-loop-count : goal.invariant-loop-count
invariant-loop-count l = Reading l.line l.row l.values l.count
