-- `grams::units::Co2::within` meets its contract. Assumes nothing.
use Rattle.std.proofs.Common.{ℕ, ◌*◌, ◌^◌, leb, ap, ◌∙◌, arith, rules}
use Rattle.base.proofs.Signed.{abs-within}
use Rattle.grams.proofs.units.Co2.within.Goals as goal

pub returns : goal.returns
returns c = let a = c.args in
    ap (leb _) (omega arith)
    ∙ ap (λ (w : ℕ). leb w (2 * (a.records * 10 ^ 13))) c.wrapping_add_u64.ensures.value
    ∙ abs-within a.self.0 (a.records * 10 ^ 13) (search rules) (omega arith)
