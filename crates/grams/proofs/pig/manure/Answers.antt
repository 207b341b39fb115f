-- `grams::pig::manure` meets its contract. Assumes nothing.
use Rattle.std.proofs.Common.{◌≡◌, ℕ, ◌+◌, ap, arith, rules}
use Rattle.grams.specs.Units.{grams_n2o}
use Rattle.grams.specs.Pig.{ch4_of, direct_of, indirect_of, land_of, record_solids, record_nitrogen, figures, manure_of}
use Rattle.grams.specs.declared.units.N2o.{N2o}
use Rattle.grams.specs.declared.pig.PigRation.{PigRation}
use Rattle.grams.proofs.pig.manure.Goals as goal

-- the steps of the code, put together
manure-is : (p : PigRation) (head v g n l : ℕ) (a b s : N2o) → v ≡ record_solids p → g ≡ ch4_of v p.mcf head p.days → n ≡ record_nitrogen p head
    → a ≡ direct_of n p.direct → b ≡ indirect_of n p.volatilised p.volatilisedef p.leached p.leachedef → s ≡ grams_n2o (a.0 + b.0)
    → l ≡ land_of n p.volatilised p.leached → figures g s n l ≡ manure_of p head
unfolding manure_of
manure-is p head v g n l a b s e₁ e₂ e₃ e₄ e₅ e₆ e₇ = cc

pub returns : goal.returns
returns c = let at5 = c in
    let at3 = at5 in
    let at1 = at3 in
    record {
      exact =
          manure-is
          at1.args.p
          at1.args.head
          _ _ _ _ _ _ _
          at1.solids-v.ensures.exact
          at3.ch4-methane.ensures.exact
          at3.nitrogen-n.ensures.exact
          at5.direct-straight.ensures.exact
          at5.indirect-later.ensures.exact
          c.plus-gas.ensures
          c.land-left.ensures.exact;
      ch4-small = search rules;
      n2o-small = omega (arith, ap (λ (r : N2o). r.0) c.plus-gas.ensures);
      excreted-small = search rules;
      land-small = search rules;
    }
