-- Document 01, "Figures to meet": P1 to P9 (P2 as document 02, W8, changes it), for each the figures that the rules give and those that are printed.
-- Assumes nothing.
use Rattle.std.specs.Prelude.{ℕ, ◌+◌, Bool, true, false, List, [], ◌∷◌, pos, neg_ℤ, ◌==◌, Option, None, Some}
use Rattle.base.specs.Choice.{pick}
use Rattle.base.specs.Signed.{word_of}
use Rattle.grams.specs.Cattle.{enteric_of, cattle_nitrogen_of}
use Rattle.grams.specs.Pig.{manure_of}
use Rattle.grams.specs.Units.{co2_word}
use Rattle.grams.specs.Farm.{soil_of}
use Rattle.grams.specs.declared.cattle.CattleManure.{CattleManure}
use Rattle.grams.specs.declared.cattle.CattleRation.{CattleRation}
use Rattle.grams.specs.declared.pig.PigRation.{PigRation}
use Rattle.grams.specs.declared.pig.PigManure.{PigManure}

-- the paper's number and values of an answer: 11 where X is below zero, else 0, excreted N and N2O
abbrev pub cattle_figures : Option CattleManure → List ℕ
cattle_figures None = 11 ∷ []
cattle_figures (Some m) = 0 ∷ m.excreted ∷ m.n2o.0 ∷ []

-- CH4, excreted N, N2O, land N
abbrev pub pig_figures : PigManure → List ℕ
pig_figures m = m.ch4 ∷ m.excreted ∷ m.n2o.0 ∷ m.land ∷ []

-- the ration of P6
abbrev p6 : CattleRation
p6 = record { days = 365; feed = 2000; protein = 1600; milk = 3000; milkprotein = 320; gain = 0; solid = 2000; liquid = 8000 }

-- the ration of P7
abbrev p7 : PigRation
p7 =
    record {
      days = 100;
      feed = 200;
      vs = 1000;
      vsfactor = 1000;
      mcf = 200;
      protein = 1800;
      nfactor = 1000;
      direct = 200;
      volatilised = 250;
      volatilisedef = 1000;
      leached = 0;
      leachedef = 0;
    }

pub record Row : Type 0 where
  pub given : List ℕ
  pub printed : List ℕ

abbrev pub row : List ℕ → List ℕ → Row
row given printed = record { given = given; printed = printed }

-- P1 to P9, a row each, P9's pig in a row of its own
abbrev pub cases : List Row
cases =
    row (enteric_of 27824 1 1 1 ∷ []) (0 ∷ [])
    ∷ row (enteric_of 27825 1 1 1 ∷ []) (0 ∷ [])
    ∷ row (enteric_of 27826 1 1 1 ∷ []) (1 ∷ [])
    ∷ row (enteric_of 83475 1 1 1 ∷ []) (2 ∷ [])
    ∷ row (enteric_of 30000 650 1 365 ∷ []) (127898 ∷ [])
    ∷ row (cattle_figures (cattle_nitrogen_of p6 10)) (0 ∷ 1318672 ∷ (16370 + 12392) ∷ [])
    ∷ row (pig_figures (manure_of p7 100)) (128640 ∷ 403200 ∷ (1267 + 1584) ∷ 302400 ∷ [])
    ∷ row (co2_word (soil_of 100) ∷ []) (18333333 ∷ [])
    ∷ row (enteric_of 30000 650 0 365 ∷ cattle_figures (cattle_nitrogen_of p6 0)) (0 ∷ 0 ∷ 0 ∷ 0 ∷ [])
    ∷ row (pig_figures (manure_of p7 0)) (0 ∷ 0 ∷ 0 ∷ 0 ∷ [])
    ∷ []

-- so much above zero, and below
abbrev pub above : ℕ → ℕ
above n = word_of (pos n)

abbrev pub below : ℕ → ℕ
below n = word_of (neg_ℤ (pos n))

-- both tests hold
abbrev pub both : Bool → Bool → Bool
both a b = pick a b false

-- the same numbers in the same order
abbrev pub same : List ℕ → List ℕ → Bool
same [] [] = true
same [] (y ∷ ys) = false
same (x ∷ xs) [] = false
same (x ∷ xs) (y ∷ ys) = both (x == y) (same xs ys)

-- every row gives what is printed
abbrev pub every : List Row → Bool
every [] = true
every (r ∷ rs) = both (same r.given r.printed) (every rs)
