-- What the rows of the tables have: of limits some records, what stands behind them, and what the book comes to; of exact halves the figures of a
-- record.
-- Assumes nothing.
use Rattle.std.specs.Prelude.{ℕ, ◌-◌, List, [], ◌∷◌, ◌++◌, replicate}
use Rattle.grams.specs.Cases.{Row, row}
use Rattle.account.specs.Figures.{listed, figures_of}
use Rattle.account.specs.Account.{no_record, standing, opened, farm_of}
use Rattle.book.specs.State.{holding}
use Rattle.book.specs.Run.{run}
use Rattle.promises.specs.Paper.{verdict_of, verdict}

-- ---- what a book comes to: stage, records accepted, and the refusal's code, record number and field

abbrev pub nothing : List ℕ
nothing = 0 ∷ 0 ∷ 0 ∷ 0 ∷ 0 ∷ []

-- open, with so many records
abbrev pub going : ℕ → List ℕ
going records = 1 ∷ records ∷ 0 ∷ 0 ∷ 0 ∷ []

-- closed, with so many records
abbrev pub closed : ℕ → List ℕ
closed records = 2 ∷ records ∷ 0 ∷ 0 ∷ 0 ∷ []

-- refused behind so many records, with a code and a field
abbrev pub refused : ℕ → ℕ → ℕ → List ℕ
refused records code field = 3 ∷ records ∷ code ∷ records ∷ field ∷ []

-- ---- what stands before

-- a farm; with a milking cow; with a pig
abbrev pub farm : List ℕ
farm = 0 ∷ 9 ∷ 1 ∷ 1 ∷ 0 ∷ 0 ∷ 0 ∷ 7 ∷ 7 ∷ 218 ∷ 1 ∷ []

abbrev pub cow : List ℕ
cow = farm ++ (0 ∷ 7 ∷ 1 ∷ 2 ∷ 0 ∷ 1 ∷ 1 ∷ 0 ∷ 1 ∷ [])

abbrev pub sow : List ℕ
sow = farm ++ (0 ∷ 7 ∷ 1 ∷ 2 ∷ 0 ∷ 1 ∷ 4 ∷ 0 ∷ 1 ∷ [])

-- these bytes after those
abbrev pub row_after : List ℕ → List ℕ → List ℕ → Row
row_after before bytes told = row (verdict (before ++ bytes)) told

-- a record of this length and kind, its other bytes zero
abbrev pub blank : ℕ → ℕ → List ℕ
blank long kind = 0 ∷ long ∷ 1 ∷ kind ∷ replicate (long - 2) 0

-- these bytes after so many records without a heading
abbrev pub from : ℕ → List ℕ → List ℕ → Row
from records bytes told =
    row
    (verdict_of
    (run
    (holding
    (standing (opened no_record (farm_of 1 (0 ∷ 2010 ∷ 1 ∷ []))) 1 records no_record.refusal)
    [])
    bytes
    ).state.account)
    told

-- ---- the figures of a record

-- of a record of kind k with the values v under a heading of so many head
abbrev pub given : ℕ → ℕ → List ℕ → List ℕ
given head k v = listed (figures_of (record { group = 1; class = 1; head = head }) k v)
