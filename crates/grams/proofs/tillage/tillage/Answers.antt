-- `grams::tillage::tillage` meets its contract. Assumes nothing.
use Rattle.std.proofs.Common.{◌≡◌, ℕ, ◌*◌, ◌<◌, ◌≤◌, pos, neg_ℤ, ap, ◌∙◌}
use Rattle.grams.specs.Round.{round_div}
use Rattle.grams.specs.Units.{grams_co2}
use Rattle.grams.specs.TillageTable.{pair_of}
use Rattle.grams.specs.CarbonRate.{rate_of, RateIn}
use Rattle.grams.specs.Tillage.{TillageIn, tillage_of, entry_of}
use Rattle.grams.specs.declared.tillage_table.Entry.{Entry}
use Rattle.grams.proofs.Bounds.{◌⊗◌, num, fits, carbon}
use Rattle.grams.proofs.tillage_table.Pairs.{less-gains, back-loses, lum-most, k-most}
use Rattle.grams.proofs.tillage.Signs.{gained-is, lost-is}
use Rattle.grams.proofs.tillage.Small.{place_of, tillage-small}
use Rattle.grams.proofs.tillage.tillage.Goals as goal

-- the steps of the code, put together
module _ {zone texture change years area : ℕ} (p : TillageIn zone texture change years area)
    (e : Entry) (t : e ≡ entry_of (pair_of zone texture change)) where
  asked : RateIn e.0 e.1 years
  asked = rw t (record { lum-in = lum-most (place_of p); k-in = k-most (place_of p); y-in = p.years-in })

  module _ (mg grams : ℕ) (f : mg ≡ rate_of e.0 e.1 years) (g : grams ≡ round_div (mg * area * 11) 30) where
    taken-up : change < 4 → grams_co2 (neg_ℤ (pos grams)) ≡ tillage_of zone texture change years area
    unfolding tillage_of
    taken-up h = ap grams_co2 (gained-is _ _ years area mg grams (pair_of zone texture change).lum (rw t at f) g (less-gains (place_of p) h))

    given-off : 4 ≤ change → grams_co2 (pos grams) ≡ tillage_of zone texture change years area
    unfolding tillage_of
    given-off h = ap grams_co2 (lost-is _ _ years area mg grams (pair_of zone texture change).lum (rw t at f) g (back-loses (place_of p) h))

pub entry_at-e-requires : goal.entry_at-e-requires
entry_at-e-requires c = place_of c.requires

pub rate-mg-requires : goal.rate-mg-requires
rate-mg-requires c = asked c.requires _ c.entry_at-e.ensures

pub overflow_mul-mg : goal.overflow_mul-mg
overflow_mul-mg c = fits (c.rate-mg.ensures.small ⊗ c.requires.area_in) tt

pub overflow_mul-mg-2 : goal.overflow_mul-mg-2
overflow_mul-mg-2 c = fits (c.rate-mg.ensures.small ⊗ c.requires.area_in ⊗ num _) tt

pub returns-then-change-lt4 : goal.returns-then-change-lt4
returns-then-change-lt4 c = let s = c in
    carbon (tillage-small s.requires)
    (c.taken_up.ensures
    ∙ taken-up s.requires _ s.entry_at-e.ensures
    _ _ s.rate-mg.ensures.exact c.round_div-grams.ensures c.if-change-lt4.true)

pub returns-else-change-lt4 : goal.returns-else-change-lt4
returns-else-change-lt4 c = let s = c in
    carbon (tillage-small s.requires)
    (c.of.ensures
    ∙ given-off s.requires _ s.entry_at-e.ensures
    _ _ s.rate-mg.ensures.exact c.round_div-grams.ensures c.if-change-lt4.false)
