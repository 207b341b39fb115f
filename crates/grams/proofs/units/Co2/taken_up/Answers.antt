-- `grams::units::Co2::taken_up` meets its contract. Assumes nothing.
use Rattle.std.proofs.Common.{ap, rules}
use Rattle.base.proofs.Signed.{word-negated}
use Rattle.grams.proofs.Carbon.{as_word}
use Rattle.grams.proofs.units.Co2.taken_up.Goals as goal

pub returns : goal.returns
returns c = ap as_word (word-negated _ _ (search rules) (search rules) c.wrapping_sub_u64.ensures.value)
