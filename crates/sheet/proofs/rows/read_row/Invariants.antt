use lib.ListN.{drop}
use Rattle.sheet.specs.Rows.{columns, read_row}
use Rattle.sheet.proofs.Reading.{SoFar}
use Rattle.sheet.proofs.rows.read_row.Given as goal

abbrev pub invariant-loop-j : goal.invariant-loop-j
invariant-loop-j l = SoFar l.text l.kind
    (read_row (columns l.kind) (drop l.at l.text)) l.formed l.fits l.values l.end l.j
