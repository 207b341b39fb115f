-- What is promised of the pieces in which the page is printed: each is shorter than the buffer that the program has for it, whatever the figures are.
-- Assumes nothing.
use Rattle.std.specs.Prelude.{ℕ, ◌^◌, ◌<◌, IfSome}
use Rattle.page.specs.declared.Group.{Group}
use Rattle.page.specs.declared.Named.{Named}
use Rattle.page.specs.declared.Source.{Source}
use Rattle.page.specs.declared.Sources.{Sources}
use Rattle.page.specs.declared.Survey.{Survey}

-- the bytes of the buffers: for the text before the rows of the groups and for that after them, and for a row
abbrev pub part_buffer : ℕ
part_buffer = 2 ^ 14

abbrev pub row_buffer : ℕ
row_buffer = 2 ^ 12

-- a number of eight bytes, as every number of the program is
abbrev pub Word : ℕ → Type 0
Word n = n < 2 ^ 64

pub record GroupWords (g : Group) : Type 0 where
  pub group : Word g.group
  pub head : Word g.head
  pub excreted : Word g.excreted
  pub land : Word g.land
  pub ch4 : Word g.ch4
  pub n2o : Word g.n2o
  pub grazing : Word g.grazing
  pub co2e : Word g.co2e
  pub from : Word g.from
  pub to : Word g.to

pub record SourceWords (x : Source) : Type 0 where
  pub ch4 : Word x.ch4
  pub n2o : Word x.n2o
  pub co2 : Word x.co2
  pub co2e : Word x.co2e
  pub from : Word x.from
  pub to : Word x.to

pub record SourcesWords (s : Sources) : Type 0 where
  pub enteric : SourceWords s.enteric
  pub cattle : SourceWords s.cattle
  pub pig : SourceWords s.pig
  pub grazing : SourceWords s.grazing
  pub energy : SourceWords s.energy
  pub soil : SourceWords s.soil
  pub tillage : SourceWords s.tillage

pub record NameWords (n : Named) : Type 0 where
  pub farm : Word n.farm
  pub year : Word n.year

pub record SurveyWords (s : Survey) : Type 0 where
  pub name : IfSome s.name (λ (n : Named). NameWords n)
  pub records : Word s.records
  pub a : Word s.a
  pub b : Word s.b
  pub ch4 : Word s.ch4
  pub n2o : Word s.n2o
  pub co2 : Word s.co2
  pub excreted : Word s.excreted
  pub land : Word s.land
  pub grazing : Word s.grazing
  pub methane : Word s.methane
  pub oxide : Word s.oxide
  pub total : Word s.total
  pub groups : Word s.groups
  pub sources : SourcesWords s.sources
