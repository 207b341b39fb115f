-- Too few bytes, or the values. Assumes nothing.
use Rattle.std.proofs.Common.{refl, le-ltb, lt-ltb}
use Rattle.codec.specs.Table.{table, size}
use Rattle.table.proofs.farm_values.Goals as goal

pub returns-then-book-lt-FARM_BYTES : goal.returns-then-book-lt-FARM_BYTES
unfolding table size
returns-then-book-lt-FARM_BYTES c = rw (lt-ltb _ _ c.if-book-lt-FARM_BYTES.true) refl

pub returns : goal.returns
unfolding table size
returns c = rw (le-ltb _ _ c.if-book-lt-FARM_BYTES.false) c.read.ensures
