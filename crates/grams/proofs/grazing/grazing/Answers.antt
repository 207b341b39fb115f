-- `grams::grazing::grazing` meets its contract. Assumes nothing.
use Rattle.std.proofs.Common.{ℕ, ◌*◌, ap, ◌∙◌}
use Rattle.grams.specs.Round.{round_div}
use Rattle.grams.specs.Grazing.{grazing_of}
use Rattle.grams.specs.Units.{grams_grazed}
use Rattle.grams.proofs.Bounds.{◌⊗◌, fits, pasture}
use Rattle.grams.proofs.grazing.Small.{grazing-small}
use Rattle.grams.proofs.grazing.grazing.Goals as goal

pub returns : goal.returns
unfolding grazing_of
returns c = let d = c in
    pasture (grazing-small d.requires) (c.of.ensures ∙ ap grams_grazed
    (c.round_div.ensures ∙ ap (λ (f : ℕ). round_div (f * d.args.weight * d.args.fraction * d.args.head) 1000) d.factor_at-factor.ensures.exact))

pub factor_at-factor-requires : goal.factor_at-factor-requires
factor_at-factor-requires c = (c.requires.region-in.0, c.requires.region-in.1, c.requires.column-in.0, c.requires.column-in.1)

pub overflow_mul-factor : goal.overflow_mul-factor
overflow_mul-factor c = let p = c.requires in fits (c.factor_at-factor.ensures.small ⊗ p.weight-in) tt

pub overflow_mul-factor-2 : goal.overflow_mul-factor-2
overflow_mul-factor-2 c = let p = c.requires in fits (c.factor_at-factor.ensures.small ⊗ p.weight-in ⊗ p.fraction-in) tt

pub overflow_mul-factor-3 : goal.overflow_mul-factor-3
overflow_mul-factor-3 c = let p = c.requires in fits (c.factor_at-factor.ensures.small ⊗ p.weight-in ⊗ p.fraction-in ⊗ p.head_in) tt
