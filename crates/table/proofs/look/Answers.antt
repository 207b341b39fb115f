-- Each part as it is defined. Assumes nothing.
use Rattle.std.proofs.Common.{refl}
use Rattle.table.specs.Seen.{seen_of}
use Rattle.table.proofs.look.Goals as goal

pub returns : goal.returns
unfolding seen_of
returns c = rw (c.total_numbers-numbers.ensures, c.farm_values-f.ensures, c.state_of.ensures, c.end_of-a.ensures.is) refl
