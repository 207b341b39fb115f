-- Document 01, "The arithmetic": pig manure. Assumes nothing.
use Rattle.std.specs.Prelude.{◌≡◌, ℕ, ◌+◌, ◌-◌, ◌*◌, ◌^◌, ◌≤◌}
use Rattle.grams.specs.Round.{round_div}
use Rattle.grams.specs.Units.{grams_n2o}
use Rattle.grams.specs.declared.units.N2o.{N2o}
use Rattle.grams.specs.declared.pig.PigRation.{PigRation}
use Rattle.grams.specs.declared.pig.PigManure.{PigManure}

-- the ranges of a pig record under its heading, from above
pub record PigIn (p : PigRation) (head : ℕ) : Type 0 where
  pub days-in : p.days ≤ 366
  pub feed-in : p.feed ≤ 1000
  pub vs-in : p.vs ≤ 5000
  pub vsfactor-in : p.vsfactor ≤ 2000
  pub mcf-in : p.mcf ≤ 1000
  pub protein-in : p.protein ≤ 4000
  pub nfactor-in : p.nfactor ≤ 2000
  pub direct-in : p.direct ≤ 10000
  pub volatilisedef-in : p.volatilisedef ≤ 10000
  pub leachedef-in : p.leachedef ≤ 10000
  pub parts_in : p.volatilised + p.leached ≤ 1000
  pub head_in : head ≤ 20000

-- V = round(feed × VS excretion × VS factor / 1000) mg
abbrev pub solids_of : ℕ → ℕ → ℕ → ℕ
solids_of feed vs vsfactor = round_div (feed * vs * vsfactor) 1000

-- CH4 = round(V × MCF × H × d × 201 / 625000000)
abbrev pub ch4_of : ℕ → ℕ → ℕ → ℕ → ℕ
ch4_of v mcf head days = round_div (v * mcf * head * days * 201) 625000000

-- Excreted N = round(feed × protein × N factor × H × d × 7 / 62500000)
abbrev pub pig_nitrogen_of : ℕ → ℕ → ℕ → ℕ → ℕ → ℕ
pig_nitrogen_of feed protein nfactor head days = round_div (feed * protein * nfactor * head * days * 7) 62500000

-- Direct N2O = round(N × direct EF × 11 / 700000)
abbrev pub direct_of : ℕ → ℕ → N2o
direct_of n ef = grams_n2o (round_div (n * ef * 11) 700000)

-- Indirect = round(N × (volatilised × its EF + leached × its EF) × 11 / 700000000)
abbrev pub indirect_of : ℕ → ℕ → ℕ → ℕ → ℕ → N2o
indirect_of n volatilised volatilisedef leached leachedef =
    grams_n2o (round_div (n * (volatilised * volatilisedef + leached * leachedef) * 11) 700000000)

-- Land N = round(N × (1000 − volatilised − leached) / 1000)
abbrev pub land_of : ℕ → ℕ → ℕ → ℕ
land_of n volatilised leached = round_div (n * (1000 - volatilised - leached)) 1000

-- volatilised nitrogen, which no line bears: round(N × volatilised / 1000)
abbrev pub volatilised_of : ℕ → ℕ → ℕ
volatilised_of n volatilised = round_div (n * volatilised) 1000

-- leached nitrogen, which no line bears: round(N × leached / 1000)
abbrev pub leached_of : ℕ → ℕ → ℕ
leached_of n leached = round_div (n * leached) 1000

-- the record's V
abbrev pub record_solids : PigRation → ℕ
record_solids p = solids_of p.feed p.vs p.vsfactor

-- the record's N
abbrev pub record_nitrogen : PigRation → ℕ → ℕ
record_nitrogen p head = pig_nitrogen_of p.feed p.protein p.nfactor head p.days

-- N2O is the sum of direct and indirect
abbrev pub record_n2o : ℕ → PigRation → N2o
record_n2o n p = grams_n2o ((direct_of n p.direct).0 + (indirect_of n p.volatilised p.volatilisedef p.leached p.leachedef).0)

-- four figures as the record's answer
abbrev pub figures : ℕ → N2o → ℕ → ℕ → PigManure
figures ch4 n2o excreted land = record { ch4 = ch4; n2o = n2o; excreted = excreted; land = land }

-- the figures of a pig record
unfoldable pub manure_of : PigRation → ℕ → PigManure
manure_of p head =
    let n = record_nitrogen p head in
    figures (ch4_of (record_solids p) p.mcf head p.days) (record_n2o n p) n (land_of n p.volatilised p.leached)

-- for the contract of grams::pig::manure: its figures, and how much they can be at most
pub record Manure (p : PigRation) (head : ℕ) (r : PigManure) : Type 0 where
  pub exact : r ≡ manure_of p head
  pub ch4-small : r.ch4 ≤ 10 ^ 11
  pub n2o-small : r.n2o.0 ≤ 10 ^ 10
  pub excreted-small : r.excreted ≤ 10 ^ 11
  pub land-small : r.land ≤ 10 ^ 11

-- of the figures m of a pig record: volatilised, leached and land nitrogen, each rounded for itself from the excreted grams
abbrev pub nitrogen_parts : PigRation → PigManure → ℕ
nitrogen_parts p m = volatilised_of m.excreted p.volatilised + leached_of m.excreted p.leached + m.land

-- they add up to within 1 g of the excreted grams
pub record AddUp (p : PigRation) (m : PigManure) : Type 0 where
  pub low : m.excreted ≤ nitrogen_parts p m + 1
  pub high : nitrogen_parts p m ≤ m.excreted + 1
