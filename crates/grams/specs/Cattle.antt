-- Document 01, "The arithmetic": enteric CH4 and cattle nitrogen. Assumes nothing.
use Rattle.std.specs.Prelude.{◌≡◌, ℕ, ◌+◌, ◌-◌, ◌*◌, ◌^◌, ◌≤◌, Bool, nat_lt, Option, None, Some}
use Rattle.base.specs.Choice.{pick}
use Rattle.grams.specs.Round.{round_div}
use Rattle.grams.specs.Units.{grams_n2o}
use Rattle.grams.specs.Figure.{Figure}
use Rattle.grams.specs.declared.units.N2o.{N2o}
use Rattle.grams.specs.declared.cattle.CattleRation.{CattleRation}
use Rattle.grams.specs.declared.cattle.CattleManure.{CattleManure}

-- the ranges of an enteric record under its heading, from above
pub record EntericIn (ge ym head days : ℕ) : Type 0 where
  pub ge-in : ge ≤ 100000
  pub ym-in : ym ≤ 2000
  pub head_in : head ≤ 20000
  pub days-in : days ≤ 366

-- CH4 = round(GE × Ym × H × d / 55650)
unfoldable pub enteric_of : ℕ → ℕ → ℕ → ℕ → ℕ
enteric_of ge ym head days = round_div (ge * ym * head * days) 55650

-- for the contract of grams::cattle::enteric: its figure, and how much that can be at most
abbrev pub Enteric : ℕ → ℕ → ℕ → ℕ → ℕ → Type 0
Enteric ge ym head days r = Figure (enteric_of ge ym head days) (10 ^ 11) r

-- the ranges of a cattle nitrogen record under its heading, from above
pub record CattleIn (r : CattleRation) (head : ℕ) : Type 0 where
  pub days-in : r.days ≤ 366
  pub feed-in : r.feed ≤ 5000
  pub protein-in : r.protein ≤ 4000
  pub milk-in : r.milk ≤ 8000
  pub milkprotein-in : r.milkprotein ≤ 800
  pub gain-in : r.gain ≤ 3000
  pub solid-in : r.solid ≤ 10000
  pub liquid-in : r.liquid ≤ 10000
  pub head_in : head ≤ 20000

-- X = 160 × feed × protein − 157 × milk × milk protein − 27000 × gain: what is added
abbrev pub fed_of : CattleRation → ℕ
fed_of r = 160 * r.feed * r.protein

-- and what is taken away
abbrev pub kept_of : CattleRation → ℕ
kept_of r = 157 * r.milk * r.milkprotein + 27000 * r.gain

-- X is below zero
unfoldable pub below_zero : CattleRation → Bool
below_zero r = nat_lt (fed_of r) (kept_of r)

-- Excreted N = round(X × H × d / 1000000)
abbrev pub excreted_of : ℕ → ℕ → ℕ → ℕ
excreted_of x head days = round_div (x * head * days) 1000000

-- Table 2.4.2 is in grams of nitrogen, so that 44/28 leads to N2O: direct = round(excreted × 79 × (solid + liquid) × 11 / 700000000)
abbrev pub direct_of : ℕ → ℕ → ℕ → N2o
direct_of n solid liquid = grams_n2o (round_div (n * 79 * (solid + liquid) * 11) 700000000)

-- and indirect = round(excreted × (47 × solid + 63 × liquid) × 11 / 700000000)
abbrev pub indirect_of : ℕ → ℕ → ℕ → N2o
indirect_of n solid liquid = grams_n2o (round_div (n * (47 * solid + 63 * liquid) * 11) 700000000)

-- the line's N2O is their sum
abbrev pub storage_of : ℕ → ℕ → ℕ → N2o
storage_of n solid liquid = grams_n2o ((direct_of n solid liquid).0 + (indirect_of n solid liquid).0)

-- n grams excreted, with their N2O
abbrev pub stored_of : ℕ → CattleRation → CattleManure
stored_of n r = record { excreted = n; n2o = storage_of n r.solid r.liquid }

-- the figures of a record whose X is not below zero
unfoldable pub manure_of : CattleRation → ℕ → CattleManure
manure_of r head = stored_of (excreted_of (fed_of r - kept_of r) head r.days) r

-- no figures where X is below zero
abbrev pub cattle_nitrogen_of : CattleRation → ℕ → Option CattleManure
cattle_nitrogen_of r head = pick (below_zero r) None (Some (manure_of r head))

-- the figures, where there are any, are within their bounds
abbrev pub CattleSmall : Option CattleManure → Type 0
CattleSmall None = Unit {0}
CattleSmall (Some m) = (m.excreted ≤ 10 ^ 11) × (m.n2o.0 ≤ 10 ^ 10)

-- for the contract of grams::cattle::nitrogen: its figures, and how much they can be at most
pub record Nitrogen (r : CattleRation) (head : ℕ) (a : Option CattleManure) : Type 0 where
  pub exact : a ≡ cattle_nitrogen_of r head
  pub small : CattleSmall a
