-- Document 01, "The arithmetic", as a line uses it: the figures of one detail record, from its heading and its values alone.
-- Assumes nothing.
use Rattle.std.specs.Prelude.{ℕ, ◌+◌, List, [], ◌∷◌, get_or, eqb}
use Rattle.base.specs.Choice.{pick}
use Rattle.grams.specs.Cattle as cattle
use Rattle.grams.specs.Pig as pig
use Rattle.grams.specs.Farm.{energy_of, soil_of}
use Rattle.grams.specs.Tillage.{tillage_of}
use Rattle.grams.specs.Grazing.{grazing_of}
use Rattle.grams.specs.Units.{grams_n2o, no_co2, plus_co2, co2_word, grams_grazed}
use Rattle.grams.specs.declared.units.Co2.{Co2}
use Rattle.grams.specs.declared.units.Grazed.{Grazed}
use Rattle.grams.specs.declared.cattle.CattleRation.{CattleRation}
use Rattle.grams.specs.declared.cattle.CattleManure.{CattleManure}
use Rattle.grams.specs.declared.pig.PigRation.{PigRation}
use Rattle.grams.specs.declared.pig.PigManure.{PigManure}
use Rattle.account.specs.declared.Figures.{Figures}
use Rattle.account.specs.declared.Heading.{Heading}
use Rattle.account.specs.declared.Subtotal.{Subtotal}

-- no grams at all
abbrev pub no_figures : Figures
no_figures = record { ch4 = 0; n2o = grams_n2o 0; co2 = no_co2; excreted = 0; land = 0; grazing = grams_grazed 0 }

-- each figure summed
abbrev pub added : Figures → Figures → Figures
added f g =
    record {
      ch4 = f.ch4 + g.ch4;
      n2o = grams_n2o (f.n2o.0 + g.n2o.0);
      co2 = plus_co2 f.co2 g.co2;
      excreted = f.excreted + g.excreted;
      land = f.land + g.land;
      grazing = grams_grazed (f.grazing.0 + g.grazing.0);
    }

-- in the order of a line: grams, of CO2 the word of signed grams
abbrev pub listed : Figures → List ℕ
listed f = f.ch4 ∷ f.n2o.0 ∷ co2_word f.co2 ∷ f.excreted ∷ f.land ∷ f.grazing.0 ∷ []

-- a group's subtotal: nothing yet
abbrev pub no_subtotal : Subtotal
no_subtotal = record { ch4 = 0; n2o = grams_n2o 0; excreted = 0; land = 0 }

-- with the figures of one record more
abbrev pub grouped : Subtotal → Figures → Subtotal
grouped s f = record { ch4 = s.ch4 + f.ch4; n2o = grams_n2o (s.n2o.0 + f.n2o.0); excreted = s.excreted + f.excreted; land = s.land + f.land }

-- as the figures of a line: a group has no CO2 and no grazing
abbrev pub group_figures : Subtotal → Figures
group_figures s = record { ch4 = s.ch4; n2o = s.n2o; co2 = no_co2; excreted = s.excreted; land = s.land; grazing = grams_grazed 0 }

-- 0 where the rule gives none: enteric CH4 alone, CO2 alone, and CO2e of grazing alone
abbrev pub ch4_alone : ℕ → Figures
ch4_alone g = record { ch4 = g; n2o = grams_n2o 0; co2 = no_co2; excreted = 0; land = 0; grazing = grams_grazed 0 }

abbrev pub co2_alone : Co2 → Figures
co2_alone g = record { ch4 = 0; n2o = grams_n2o 0; co2 = g; excreted = 0; land = 0; grazing = grams_grazed 0 }

abbrev pub grazing_alone : Grazed → Figures
grazing_alone g = record { ch4 = 0; n2o = grams_n2o 0; co2 = no_co2; excreted = 0; land = 0; grazing = g }

-- a cattle nitrogen record's values, by name; the pasture share counts in refusal 10 only
abbrev pub cattle_ration : List ℕ → CattleRation
cattle_ration v =
    record {
      days = get_or v 0 0;
      feed = get_or v 1 0;
      protein = get_or v 2 0;
      milk = get_or v 3 0;
      milkprotein = get_or v 4 0;
      gain = get_or v 5 0;
      solid = get_or v 6 0;
      liquid = get_or v 7 0;
    }

abbrev pub cattle_figures : CattleManure → Figures
cattle_figures m = record { ch4 = 0; n2o = m.n2o; co2 = no_co2; excreted = m.excreted; land = 0; grazing = grams_grazed 0 }

-- a pig record's values, by name
abbrev pub pig_ration : List ℕ → PigRation
pig_ration v =
    record {
      days = get_or v 0 0;
      feed = get_or v 1 0;
      vs = get_or v 2 0;
      vsfactor = get_or v 3 0;
      mcf = get_or v 4 0;
      protein = get_or v 5 0;
      nfactor = get_or v 6 0;
      direct = get_or v 7 0;
      volatilised = get_or v 8 0;
      volatilisedef = get_or v 9 0;
      leached = get_or v 10 0;
      leachedef = get_or v 11 0;
    }

abbrev pub pig_figures : PigManure → Figures
pig_figures m = record { ch4 = m.ch4; n2o = m.n2o; co2 = no_co2; excreted = m.excreted; land = m.land; grazing = grams_grazed 0 }

-- the figures of a detail record of the row (3 to 7, 9, 10) with the values v, under the heading h
unfoldable pub figures_of : Heading → ℕ → List ℕ → Figures
figures_of h row v =
    pick (eqb row 3) (ch4_alone (cattle.enteric_of (get_or v 1 0) (get_or v 2 0) h.head (get_or v 0 0)))
    (pick (eqb row 4) (cattle_figures (cattle.manure_of (cattle_ration v) h.head))
    (pick (eqb row 5) (pig_figures (pig.manure_of (pig_ration v) h.head))
    (pick (eqb row 10) (grazing_alone (grazing_of (get_or v 0 0) (get_or v 1 0) (get_or v 2 0) (get_or v 3 0) h.head))
    (pick (eqb row 6) (co2_alone (energy_of (get_or v 1 0) (get_or v 2 0)))
    (pick (eqb row 7) (co2_alone (soil_of (get_or v 0 0)))
    (co2_alone (tillage_of (get_or v 0 0) (get_or v 1 0) (get_or v 2 0) (get_or v 3 0) (get_or v 4 0))))))))
