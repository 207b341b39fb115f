-- Document 01, "A state holds": the ranges of a state's fields but for its held bytes, in parts and as the test that decides them.
-- Assumes nothing.
use Rattle.std.specs.Prelude.{ℕ, ◌*◌, ◌^◌, ◌≤◌, ◌≡◌, Bool, ◌&&◌, ◌||◌, not, ◌⊎◌, leb, eqb}
use Rattle.grams.specs.Units.{Co2Within, co2_within}
use Rattle.account.specs.declared.Account.{Account}
use Rattle.account.specs.declared.Farm.{Farm}
use Rattle.account.specs.declared.Heading.{Heading}
use Rattle.account.specs.declared.Figures.{Figures}
use Rattle.account.specs.declared.Subtotal.{Subtotal}
use Rattle.account.specs.declared.Refusal.{Refusal}
use Rattle.account.specs.declared.Used.{Used}

-- ---- in parts

-- records accepted: 0 in stage 0, from 1 in stage 1, from 2 in stage 2
pub record Counted (stage records : ℕ) : Type 0 where
  pub stage-most : stage ≤ 3
  pub records-most : records ≤ 4096
  pub in-zero : stage ≡ 0 → records ≡ 0
  pub in_one : stage ≡ 1 → 1 ≤ records
  pub in_two : stage ≡ 2 → 2 ≤ records

-- a warming factor: 1..1000, 0 exactly with no records
pub record FactorIn (factor records : ℕ) : Type 0 where
  pub most : factor ≤ 1000
  pub none : factor ≡ 0 → records ≡ 0
  pub some : records ≡ 0 → factor ≡ 0

-- what the farm record set
pub record FarmIn (f : Farm) (records : ℕ) : Type 0 where
  pub ch4 : FactorIn f.ch4 records
  pub n2o : FactorIn f.n2o records

-- stage and records with it
pub record Started (stage records : ℕ) (f : Farm) : Type 0 where
  pub counted : Counted stage records
  pub farm : FarmIn f records

-- what is used under a heading: three day sums of 0..366, a grazed fraction of 0..10000
pub record UsedMost (u : Used) : Type 0 where
  pub enteric : u.enteric ≤ 366
  pub nitrogen : u.nitrogen ≤ 366
  pub pig : u.pig ≤ 366
  pub grazed : u.grazed ≤ 10000

-- all zero
pub record Unused (u : Used) : Type 0 where
  pub enteric : u.enteric ≡ 0
  pub nitrogen : u.nitrogen ≡ 0
  pub pig : u.pig ≡ 0
  pub grazed : u.grazed ≡ 0

-- a heading, its three fields in their ranges; never with fewer than 2 records
pub record Headed (h : Heading) (u : Used) (records : ℕ) : Type 0 where
  pub group-least : 1 ≤ h.group
  pub group-most : h.group ≤ 65535
  pub class-least : 1 ≤ h.class
  pub class-most : h.class ≤ 4
  pub head-most : h.head ≤ 20000
  pub records-least : 2 ≤ records
  pub used : UsedMost u

-- no heading: all zero
pub record Unheaded (h : Heading) (u : Used) : Type 0 where
  pub group : h.group ≡ 0
  pub class : h.class ≡ 0
  pub head : h.head ≡ 0
  pub used : Unused u

-- sums at most records times 10^11 for CH4, both nitrogens and grazing, 10^10 for N2O, 10^13 for CO2
pub record Bounded (f : Figures) (records : ℕ) : Type 0 where
  pub ch4 : f.ch4 ≤ records * 10 ^ 11
  pub n2o : f.n2o.0 ≤ records * 10 ^ 10
  pub co2 : Co2Within records f.co2
  pub excreted : f.excreted ≤ records * 10 ^ 11
  pub land : f.land ≤ records * 10 ^ 11
  pub grazing : f.grazing.0 ≤ records * 10 ^ 11

-- the running subtotal, bounded as the sums
pub record Grouped (s : Subtotal) (records : ℕ) : Type 0 where
  pub ch4 : s.ch4 ≤ records * 10 ^ 11
  pub n2o : s.n2o.0 ≤ records * 10 ^ 10
  pub excreted : s.excreted ≤ records * 10 ^ 11
  pub land : s.land ≤ records * 10 ^ 11

-- zero without a heading
pub record Ungrouped (s : Subtotal) : Type 0 where
  pub ch4 : s.ch4 ≡ 0
  pub n2o : s.n2o.0 ≡ 0
  pub excreted : s.excreted ≡ 0
  pub land : s.land ≡ 0

-- heading, what is used under it and subtotal together
pub record Under (h : Heading) (u : Used) (s : Subtotal) (records : ℕ) : Type 0 where
  pub heading : Headed h u records ⊎ Unheaded h u
  pub grouped : Grouped s records
  pub ungrouped : h.group ≡ 0 → Ungrouped s

-- the refusal of stage 3: code 1..12, record number equal to the records accepted, field 1..12 for code 7, else 0
pub record Numbered (r : Refusal) (records : ℕ) : Type 0 where
  pub code-least : 1 ≤ r.code
  pub code-most : r.code ≤ 12
  pub accepted : r.accepted ≡ records
  pub field-most : r.field ≤ 12
  pub field-some : r.code ≡ 7 → 1 ≤ r.field
  pub field-none : (r.code ≡ 7 → ⊥) → r.field ≡ 0

-- otherwise zeros
pub record Unrefused (r : Refusal) : Type 0 where
  pub code : r.code ≡ 0
  pub accepted : r.accepted ≡ 0
  pub field : r.field ≡ 0

-- by the stage
pub record Ended (stage : ℕ) (r : Refusal) (records : ℕ) : Type 0 where
  pub refused : stage ≡ 3 → Numbered r records
  pub unrefused : (stage ≡ 3 → ⊥) → Unrefused r

-- all of it
pub record AccountInRange (a : Account) : Type 0 where
  pub started : Started a.stage a.records a.farm
  pub sums : Bounded a.sums a.records
  pub under : Under a.heading a.used a.subtotal a.records
  pub ended : Ended a.stage a.refusal a.records

-- ---- as a test

abbrev pub counted_test : ℕ → ℕ → Bool
counted_test stage records =
    leb stage 3
    && leb records 4096
    && (not (eqb stage 0) || eqb records 0)
    && (not (eqb stage 1) || leb 1 records)
    && (not (eqb stage 2) || leb 2 records)

abbrev pub factor_test : ℕ → ℕ → Bool
factor_test factor records = leb factor 1000 && (not (eqb factor 0) || eqb records 0) && (not (eqb records 0) || eqb factor 0)

abbrev pub started_test : ℕ → ℕ → Farm → Bool
started_test stage records f = counted_test stage records && factor_test f.ch4 records && factor_test f.n2o records

abbrev pub used_test : Used → Bool
used_test u = leb u.enteric 366 && leb u.nitrogen 366 && leb u.pig 366 && leb u.grazed 10000

abbrev pub unused_test : Used → Bool
unused_test u = eqb u.enteric 0 && eqb u.nitrogen 0 && eqb u.pig 0 && eqb u.grazed 0

abbrev pub headed_test : Heading → Used → ℕ → Bool
headed_test h u records =
    leb 1 h.group
    && leb h.group 65535
    && leb 1 h.class
    && leb h.class 4
    && leb h.head 20000
    && leb 2 records
    && used_test u

abbrev pub unheaded_test : Heading → Used → Bool
unheaded_test h u = eqb h.group 0 && eqb h.class 0 && eqb h.head 0 && unused_test u

abbrev pub bounded_test : Figures → ℕ → Bool
bounded_test f records =
    leb f.ch4 (records * 10 ^ 11)
    && leb f.n2o.0 (records * 10 ^ 10)
    && co2_within records f.co2
    && leb f.excreted (records * 10 ^ 11)
    && leb f.land (records * 10 ^ 11)
    && leb f.grazing.0 (records * 10 ^ 11)

abbrev pub grouped_test : Subtotal → ℕ → Bool
grouped_test s records =
    leb s.ch4 (records * 10 ^ 11)
    && leb s.n2o.0 (records * 10 ^ 10)
    && leb s.excreted (records * 10 ^ 11)
    && leb s.land (records * 10 ^ 11)

abbrev pub ungrouped_test : Subtotal → Bool
ungrouped_test s = eqb s.ch4 0 && eqb s.n2o.0 0 && eqb s.excreted 0 && eqb s.land 0

abbrev pub under_test : Heading → Used → Subtotal → ℕ → Bool
under_test h u s records =
    (headed_test h u records || unheaded_test h u) && (grouped_test s records && (not (eqb h.group 0) || ungrouped_test s))

abbrev pub numbered_test : Refusal → ℕ → Bool
numbered_test r records =
    leb 1 r.code
    && leb r.code 12
    && eqb r.accepted records
    && leb r.field 12
    && (not (eqb r.code 7) || leb 1 r.field)
    && (eqb r.code 7 || eqb r.field 0)

abbrev pub unrefused_test : Refusal → Bool
unrefused_test r = eqb r.code 0 && eqb r.accepted 0 && eqb r.field 0

abbrev pub ended_test : ℕ → Refusal → ℕ → Bool
ended_test stage r records = (not (eqb stage 3) || numbered_test r records) && (eqb stage 3 || unrefused_test r)

unfoldable pub account_in_range : Account → Bool
account_in_range a =
    started_test a.stage a.records a.farm
    && bounded_test a.sums a.records
    && under_test a.heading a.used a.subtotal a.records
    && ended_test a.stage a.refusal a.records
