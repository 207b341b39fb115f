-- Document 02, W8: "round(n/d) goes so everywhere": for each figure that can have an exact half, one above an even number and one above an odd one.
-- A row has the figures that a record gives under its heading, and those worked by hand, which the second program says too. A division by 3 has no
-- half, so that soil has none.
-- Assumes nothing.
use Rattle.std.specs.Prelude.{List}
use Rattle.grams.specs.Cases.{Row}
use Rattle.promises.specs.EveryKind.{every_kind_halves}

abbrev pub halves : List Row
halves = every_kind_halves
