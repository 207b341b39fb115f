-- `grams::units::Co2::plus` meets its contract. Assumes nothing.
use Rattle.std.proofs.Common.{sym, ap, ◌∙◌, rules}
use Rattle.base.proofs.Signed.{words-plus}
use Rattle.grams.proofs.Carbon.{as_word}
use Rattle.grams.proofs.units.Co2.plus.Goals as goal

pub returns : goal.returns
returns c = let a = c.args in
    ap as_word (c.wrapping_add_u64.ensures.value ∙ sym (words-plus a.self.0 a.other.0 (search rules) (search rules)))
