-- The figures of the member's page, all of them functions of a book's accepted records and of the accounts that stand between them.
-- Assumes nothing.
use Rattle.std.specs.Prelude.{ℕ, ◌+◌, ◌-◌, ◌≤◌, Bool, true, false, not, ◌&&◌, ◌||◌, List, length, ◌==◌, nat_le, slice_index, Option, Some, None}
use Rattle.base.specs.Choice.{pick}
use Rattle.codec.specs.Table.{fields}
use Rattle.codec.specs.Codec.{values_at}
use Rattle.grams.specs.Units.{no_co2, co2_word, grams_n2o, grams_grazed}
use Rattle.grams.specs.Farm.{co2e_of}
use Rattle.account.specs.declared.Account.{Account}
use Rattle.account.specs.declared.Farm.{Farm}
use Rattle.account.specs.declared.Figures.{Figures}
use Rattle.account.specs.Account.{no_record, factors_of}
use Rattle.account.specs.Judge.{kind_byte, judge}
use Rattle.account.specs.Line.{co2e_in}
use Rattle.page.specs.declared.Group.{Group}
use Rattle.page.specs.declared.Named.{Named}
use Rattle.page.specs.declared.Scale.{Scale}
use Rattle.page.specs.declared.Source.{Source}
use Rattle.page.specs.declared.Sources.{Sources}
use Rattle.page.specs.declared.Sum.{Sum}
use Rattle.page.specs.declared.Survey.{Survey}
use Rattle.page.specs.Over.{over_book}
use Rattle.page.specs.Bars.{plus8, minus8, no_step, scale_of}

-- ---- the account after the accepted records

abbrev pub next_account : Account → Account → List ℕ → Account
next_account b a r = (judge a r).account

unfoldable pub last_of : List ℕ → Account
last_of xs = over_book next_account no_record xs

-- CO2e of CH4, N2O and grazing, by the farm's factors: what a total has beside its CO2
abbrev pub warmed : Farm → ℕ → ℕ → ℕ → ℕ
warmed f ch4 n2o grazing = co2_word (co2e_of (factors_of f) no_co2 ch4 (grams_n2o n2o) (grams_grazed grazing))

-- ---- a group, which stands between its heading and the next one or the close

-- the step that the groups have come to: CO2e of the CH4, N2O and grazing of all records so far, which are those of the groups
abbrev pub group_step : Account → ℕ
group_step a = plus8 no_step (warmed a.farm a.sums.ch4 a.sums.n2o.0 a.sums.grazing.0)

-- its number, class and head are the heading's, its gases and nitrogens those of its subtotal; its grazing is what was added to grazing's sum
-- since the heading, before which it was `grazed`; its bar begins at the step `from`
unfoldable pub group_of : Account → ℕ → ℕ → Group
group_of a from grazed =
    let s = a.subtotal in
    let grazing = a.sums.grazing.0 - grazed in
    record {
      group = a.heading.group;
      class = a.heading.class;
      head = a.heading.head;
      excreted = s.excreted;
      land = s.land;
      ch4 = s.ch4;
      n2o = s.n2o.0;
      grazing = grazing;
      co2e = warmed a.farm s.ch4 s.n2o.0 grazing;
      from = from;
      to = group_step a;
    }

-- ---- a source: the records of one kind

abbrev pub no_sum : Sum
no_sum = record { seen = false; ch4 = 0; n2o = 0; co2 = 0; grazing = 0 }

-- with a record that leads from the sums f to the sums g
abbrev pub with_record : Sum → Figures → Figures → Sum
with_record s f g =
    record {
      seen = true;
      ch4 = s.ch4 + (g.ch4 - f.ch4);
      n2o = s.n2o + (g.n2o.0 - f.n2o.0);
      co2 = plus8 s.co2 (minus8 g.co2.0 f.co2.0);
      grazing = s.grazing + (g.grazing.0 - f.grazing.0);
    }

-- what the records of a kind add to the sums
abbrev pub add_kind : ℕ → Sum → Account → List ℕ → Sum
add_kind kind s a r = pick (kind_byte r == kind) (with_record s a.sums (judge a r).account.sums) s

unfoldable pub sum_of : ℕ → List ℕ → Sum
sum_of kind xs = over_book (add_kind kind) no_sum xs

-- its gases, and CO2e together; its bar begins at the step `from`
abbrev pub source_by : Farm → Sum → ℕ → Source
source_by f s from =
    let co2e = plus8 (warmed f s.ch4 s.n2o s.grazing) s.co2 in
    record { seen = s.seen; ch4 = s.ch4; n2o = s.n2o; co2 = s.co2; co2e = co2e; from = from; to = plus8 from co2e }

unfoldable pub source_of : ℕ → List ℕ → ℕ → Source
source_of kind xs from = source_by (last_of xs).farm (sum_of kind xs) from

-- all of them, in the order of the table
unfoldable pub sources_of : List ℕ → Sources
sources_of xs =
    let enteric = source_of 3 xs no_step in
    let cattle = source_of 4 xs enteric.to in
    let pig = source_of 5 xs cattle.to in
    let grazing = source_of 10 xs pig.to in
    let energy = source_of 6 xs grazing.to in
    let soil = source_of 7 xs energy.to in
    record { enteric = enteric; cattle = cattle; pig = pig; grazing = grazing; energy = energy; soil = soil; tillage = source_of 9 xs soil.to }

-- ---- the book as a whole

-- the values of a farm record: number and year are the first two of either version
abbrev pub farm_values : List ℕ → List ℕ
farm_values xs = values_at (fields 1) xs 4

-- a book that has a record begins with the farm's, of seven bytes of fields at least
abbrev pub farm_known : Account → List ℕ → Bool
farm_known a xs = not (a.records == 0) && nat_le 11 (length xs)

-- the farm's number and year, where they are known
abbrev pub name_of : Account → List ℕ → Option Named
name_of a xs = pick (farm_known a xs) (Some (record { farm = slice_index (farm_values xs) 0; year = slice_index (farm_values xs) 1 })) None

-- of the account a that stands after the accepted records, with the farm's number and year and the sources
abbrev pub survey_with : Account → Option Named → Sources → Survey
survey_with a name sources =
    let f = a.sums in
    record {
      closed = (a.stage == 2);
      name = name;
      records = a.records;
      a = a.farm.ch4;
      b = a.farm.n2o;
      ch4 = f.ch4;
      n2o = f.n2o.0;
      co2 = f.co2.0;
      excreted = f.excreted;
      land = f.land;
      grazing = f.grazing.0;
      methane = warmed a.farm f.ch4 0 0;
      oxide = warmed a.farm 0 f.n2o.0 0;
      total = co2_word (co2e_in a);
      groups = group_step a;
      sources = sources;
    }

-- all figures of a book's page but those of its groups
unfoldable pub survey_of : List ℕ → Survey
survey_of xs =
    let a = last_of xs in
    survey_with a (name_of a xs) (sources_of xs)

-- the farm has a row of its own where a record of energy, soil or tillage is in the book
abbrev pub of_farm : Survey → Bool
of_farm s = s.sources.energy.seen || (s.sources.soil.seen || s.sources.tillage.seen)

-- the scale of the groups: they rise, and then comes the farm's CO2
abbrev pub group_scale : Survey → Scale
group_scale s = scale_of s.groups (plus8 s.groups s.co2)

-- the scale of the sources: they rise, and tillage, the last, may take up
abbrev pub source_scale : Survey → Scale
source_scale s = scale_of s.sources.soil.to s.sources.tillage.to

-- for the contracts of the functions that sum: no sum is above that of the account
pub record SumIn (s : Sum) (f : Figures) : Type 0 where
  pub ch4 : s.ch4 ≤ f.ch4
  pub n2o : s.n2o ≤ f.n2o.0
  pub grazing : s.grazing ≤ f.grazing.0

-- and the sums of an account only rise
pub record SumsRise (f g : Figures) : Type 0 where
  pub ch4 : f.ch4 ≤ g.ch4
  pub n2o : f.n2o.0 ≤ g.n2o.0
  pub grazing : f.grazing.0 ≤ g.grazing.0
