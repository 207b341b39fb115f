-- Document 01, "The book": the table of the kinds, as data.
-- Assumes nothing.
use Rattle.std.specs.Prelude.{ℕ, ◌+◌, ◌≤◌, ◌≡◌, Bool, ◌&&◌, List, [], ◌∷◌, eqb, leb, length, get_or}
use Rattle.base.specs.Choice.{pick}
use Rattle.codec.specs.declared.Field.{Field}

-- a field: how many bytes it has, its lowest and its highest value
abbrev pub field : ℕ → ℕ → ℕ → Field
field bytes lowest highest = (bytes, lowest, highest)

-- days are 1..366
abbrev pub days : Field
days = field 2 1 366

-- by kind, counted from 0; there is no kind 0. A farm record of version 2 has a row of its own behind the kinds
unfoldable pub table : List (List Field)
table =
    []
    -- 1 farm: farm number, year, warming set
    ∷ (field 4 0 4294967295 ∷ field 2 1900 2200 ∷ field 1 1 2 ∷ [])
    -- 2 heading: group, class, head
    ∷ (field 2 1 65535 ∷ field 1 1 4 ∷ field 2 0 20000 ∷ [])
    -- 3 enteric: days, GE, Ym
    ∷ (days ∷ field 4 0 100000 ∷ field 2 0 2000 ∷ [])
    -- 4 cattle nitrogen: days, feed, protein, milk, milk protein, gain, solid, liquid and pasture share
    ∷ (days ∷ field 2 0 5000 ∷ field 2 0 4000 ∷ field 2 0 8000 ∷ field 2 0 800 ∷ field 2 0 3000 ∷ field 2 0 10000 ∷ field 2 0 10000 ∷ field 2 0 10000 ∷ [])
    -- 5 pig: days, feed, VS excretion, VS factor, MCF, protein, N factor, direct EF, volatilised part, its EF, leached part, its EF
    ∷ (days ∷ field 2 0 1000 ∷ field 2 0 5000 ∷ field 2 0 2000 ∷ field 2 0 1000 ∷ field 2 0 4000 ∷ field 2 0 2000 ∷ field 2 0 10000 ∷ field 2 0 1000 ∷ field 2 0 10000 ∷ field 2 0 1000 ∷ field 2 0 10000 ∷ [])
    -- 6 energy: source, amount, factor
    ∷ (field 1 1 8 ∷ field 4 0 10000000 ∷ field 4 0 10000000 ∷ [])
    -- 7 organic soil: area
    ∷ (field 4 0 10000000 ∷ [])
    -- 8 close: records before this one
    ∷ (field 2 0 65535 ∷ [])
    -- 9 tillage (change request W7): zone, texture, change, years since it, area
    ∷ (field 1 1 9 ∷ field 1 1 3 ∷ field 1 1 6 ∷ field 2 1 100 ∷ field 4 0 10000000 ∷ [])
    -- 10 grazing (change request W10): region, column, live weight, fraction of the yearly intake
    ∷ (field 1 1 7 ∷ field 1 1 3 ∷ field 2 0 2000 ∷ field 2 0 10000 ∷ [])
    -- 11 the farm record of version 2 (change request W11): farm number, year, CH4 factor, N2O factor
    ∷ (field 4 0 4294967295 ∷ field 2 1900 2200 ∷ field 2 1 1000 ∷ field 2 1 1000 ∷ [])
    ∷ []

-- the highest kind, and the last row
abbrev pub last_kind : ℕ
last_kind = 10

abbrev pub last_row : ℕ
last_row = 11

-- the row of a record, by its version and its kind
abbrev pub row_of : ℕ → ℕ → ℕ
row_of version kind = pick (eqb version 2 && eqb kind 1) last_row kind

-- version and kind of the records of a row
abbrev pub row_version : ℕ → ℕ
row_version row = pick (eqb row last_row) 2 1

abbrev pub row_kind : ℕ → ℕ
row_kind row = pick (eqb row last_row) 1 row

-- the fields of a row, in order, and the field i of a row, counted from 0, where it has one
abbrev pub fields : ℕ → List Field
fields row = get_or table row []

abbrev pub field_at : ℕ → ℕ → Field
field_at row i = get_or (fields row) i (field 0 0 0)

-- a kind that a record may have
abbrev pub is_kind : ℕ → Bool
is_kind kind = leb 1 kind && leb kind last_kind

-- a row of the table
abbrev pub is_row : ℕ → Bool
is_row row = leb 1 row && leb row last_row

-- v are values of the row, as many as its fields
pub record Of (row : ℕ) (v : List ℕ) : Type 0 where
  pub least : 1 ≤ row
  pub most : row ≤ last_row
  pub count : length v ≡ length (fields row)

-- how many bytes the fields take
unfoldable pub size : List Field → ℕ
size [] = 0
size (f ∷ fs) = f.0 + size fs

-- a record's length, which counts what follows it: version, kind and fields
abbrev pub length_of : ℕ → ℕ
length_of row = 2 + size (fields row)

-- the highest length, and the bytes of the longest record, the two of its length among them
abbrev pub length_most_lem : ℕ
length_most_lem = 26

abbrev pub record_most : ℕ
record_most = 2 + length_most_lem
