-- Every kind: both sides of its limits, exact halves of its figures, and a book with all of them, its bytes, its lines and what it comes to. A new
-- kind is a case more here; what is its own stands in a file below.
-- Assumes nothing.
use Rattle.std.specs.Prelude.{ℕ, List, [], ◌∷◌, ◌++◌}
use Rattle.grams.specs.Cases.{Row}
use Rattle.promises.specs.Rows.{refused, farm, row_after}
use Rattle.promises.specs.EveryKind.Farm.{farm_limits}
use Rattle.promises.specs.EveryKind.FarmFactors.{farm_factors_limits}
use Rattle.promises.specs.EveryKind.Heading.{heading_limits}
use Rattle.promises.specs.EveryKind.Enteric.{enteric_limits, enteric_halves}
use Rattle.promises.specs.EveryKind.Cattle.{cattle_limits, cattle_halves}
use Rattle.promises.specs.EveryKind.Pig.{pig_limits, pig_halves}
use Rattle.promises.specs.EveryKind.Energy.{energy_limits, energy_halves}
use Rattle.promises.specs.EveryKind.Soil.{soil_limits}
use Rattle.promises.specs.EveryKind.Close.{close_limits}
use Rattle.promises.specs.EveryKind.Tillage.{tillage_limits, tillage_halves}
use Rattle.promises.specs.EveryKind.Grazing.{grazing_limits, grazing_halves}
pub mod Farm
pub mod FarmFactors
pub mod Heading
pub mod Enteric
pub mod Cattle
pub mod Pig
pub mod Energy
pub mod Soil
pub mod Close
pub mod Tillage
pub mod Grazing

-- both sides of the limits of each kind
abbrev pub every_kind_limits : List Row
every_kind_limits =
    farm_limits
    ++ farm_factors_limits
    ++ heading_limits
    ++ enteric_limits
    ++ cattle_limits
    ++ pig_limits
    ++ energy_limits
    ++ soil_limits
    ++ close_limits
    ++ tillage_limits
    ++ grazing_limits

-- the number behind the last kind is none (3); where the version is wrong too, that is told
abbrev pub no_kind_lem : List Row
no_kind_lem =
    row_after farm (0 ∷ 6 ∷ 1 ∷ 11 ∷ 0 ∷ 0 ∷ 0 ∷ 10 ∷ []) (refused 1 3 0)
    ∷ row_after [] (0 ∷ 4 ∷ 2 ∷ 11 ∷ 0 ∷ 0 ∷ []) (refused 0 2 0)
    ∷ row_after [] (0 ∷ 4 ∷ 1 ∷ 11 ∷ 0 ∷ 0 ∷ []) (refused 0 3 0)
    ∷ []

-- exact halves of each kind's figures
abbrev pub every_kind_halves : List Row
every_kind_halves =
    enteric_halves
    ++ cattle_halves
    ++ pig_halves
    ++ energy_halves
    ++ tillage_halves
    ++ grazing_halves

-- a book with every kind, in set 2, with two groups: no figure is zero where the rules give one. Its bytes, record by record
abbrev pub every_kind : List ℕ
every_kind =
    -- farm 258, year 2024, warming set 2
    (0 ∷ 9 ∷ 1 ∷ 1 ∷ 0 ∷ 0 ∷ 1 ∷ 2 ∷ 7 ∷ 232 ∷ 2 ∷ [])
    -- group 258, milking, 41 head
    ++ (0 ∷ 7 ∷ 1 ∷ 2 ∷ 1 ∷ 2 ∷ 1 ∷ 0 ∷ 41 ∷ [])
    -- enteric: 211, 31417, 653
    ++ (0 ∷ 10 ∷ 1 ∷ 3 ∷ 0 ∷ 211 ∷ 0 ∷ 0 ∷ 122 ∷ 185 ∷ 2 ∷ 141 ∷ [])
    -- energy: 3, 4321, 2709
    ++ (0 ∷ 11 ∷ 1 ∷ 6 ∷ 3 ∷ 0 ∷ 0 ∷ 16 ∷ 225 ∷ 0 ∷ 0 ∷ 10 ∷ 149 ∷ [])
    -- cattle nitrogen: 97, 2113, 1621, 2909, 331, 17, 2300, 6100, 1600
    ++ (0 ∷ 20 ∷ 1 ∷ 4 ∷ 0 ∷ 97 ∷ 8 ∷ 65 ∷ 6 ∷ 85 ∷ 11 ∷ 93 ∷ 1 ∷ 75 ∷ 0 ∷ 17 ∷ 8 ∷ 252 ∷ 23 ∷ 212 ∷ 6 ∷ 64 ∷ [])
    -- grazing: 5, 2, 433, 3700
    ++ (0 ∷ 8 ∷ 1 ∷ 10 ∷ 5 ∷ 2 ∷ 1 ∷ 177 ∷ 14 ∷ 116 ∷ [])
    -- group 515, pig, 307 head
    ++ (0 ∷ 7 ∷ 1 ∷ 2 ∷ 2 ∷ 3 ∷ 4 ∷ 1 ∷ 51 ∷ [])
    -- pig: 103, 219, 1013, 1103, 211, 1811, 907, 223, 251, 1009, 127, 769
    ++ (0 ∷ 26 ∷ 1 ∷ 5 ∷ 0 ∷ 103 ∷ 0 ∷ 219 ∷ 3 ∷ 245 ∷ 4 ∷ 79 ∷ 0 ∷ 211 ∷ 7 ∷ 19 ∷ 3 ∷ 139 ∷ 0 ∷ 223 ∷ 0 ∷ 251 ∷ 3 ∷ 241 ∷ 0 ∷ 127 ∷ 3 ∷ 1 ∷ [])
    -- organic soil: 1234
    ++ (0 ∷ 6 ∷ 1 ∷ 7 ∷ 0 ∷ 0 ∷ 4 ∷ 210 ∷ [])
    -- tillage: 5, 2, 3, 12, 43210
    ++ (0 ∷ 11 ∷ 1 ∷ 9 ∷ 5 ∷ 2 ∷ 3 ∷ 0 ∷ 12 ∷ 0 ∷ 0 ∷ 168 ∷ 202 ∷ [])
    -- close
    ++ (0 ∷ 4 ∷ 1 ∷ 8 ∷ 0 ∷ 10 ∷ [])

-- its lines, as the second program writes them: length, version, kind and group, then the figures in 8 bytes each
abbrev pub every_kind_lines : List (List ℕ)
every_kind_lines =
    -- 3, group 258: 3189180, 0, 0, 0, 0, 0
    ((0 ∷ 52 ∷ 1 ∷ 3 ∷ 1 ∷ 2 ∷ []) ++ (0 ∷ 0 ∷ 0 ∷ 0 ∷ 0 ∷ 48 ∷ 169 ∷ 188 ∷ []) ++ (0 ∷ 0 ∷ 0 ∷ 0 ∷ 0 ∷ 0 ∷ 0 ∷ 0 ∷ [])
    ++ (0 ∷ 0 ∷ 0 ∷ 0 ∷ 0 ∷ 0 ∷ 0 ∷ 0 ∷ []) ++ (0 ∷ 0 ∷ 0 ∷ 0 ∷ 0 ∷ 0 ∷ 0 ∷ 0 ∷ []) ++ (0 ∷ 0 ∷ 0 ∷ 0 ∷ 0 ∷ 0 ∷ 0 ∷ 0 ∷ []) ++ (0 ∷ 0 ∷ 0 ∷ 0 ∷ 0 ∷ 0 ∷ 0 ∷ 0 ∷ []))
    -- 6, group 0: 0, 0, 1170559, 0, 0, 0
    ∷ ((0 ∷ 52 ∷ 1 ∷ 6 ∷ 0 ∷ 0 ∷ []) ++ (0 ∷ 0 ∷ 0 ∷ 0 ∷ 0 ∷ 0 ∷ 0 ∷ 0 ∷ []) ++ (0 ∷ 0 ∷ 0 ∷ 0 ∷ 0 ∷ 0 ∷ 0 ∷ 0 ∷ [])
    ++ (0 ∷ 0 ∷ 0 ∷ 0 ∷ 0 ∷ 17 ∷ 220 ∷ 127 ∷ []) ++ (0 ∷ 0 ∷ 0 ∷ 0 ∷ 0 ∷ 0 ∷ 0 ∷ 0 ∷ []) ++ (0 ∷ 0 ∷ 0 ∷ 0 ∷ 0 ∷ 0 ∷ 0 ∷ 0 ∷ []) ++ (0 ∷ 0 ∷ 0 ∷ 0 ∷ 0 ∷ 0 ∷ 0 ∷ 0 ∷ []))
    -- 4, group 258: 0, 28637, 0, 1576470, 0, 0
    ∷ ((0 ∷ 52 ∷ 1 ∷ 4 ∷ 1 ∷ 2 ∷ []) ++ (0 ∷ 0 ∷ 0 ∷ 0 ∷ 0 ∷ 0 ∷ 0 ∷ 0 ∷ []) ++ (0 ∷ 0 ∷ 0 ∷ 0 ∷ 0 ∷ 0 ∷ 111 ∷ 221 ∷ [])
    ++ (0 ∷ 0 ∷ 0 ∷ 0 ∷ 0 ∷ 0 ∷ 0 ∷ 0 ∷ []) ++ (0 ∷ 0 ∷ 0 ∷ 0 ∷ 0 ∷ 24 ∷ 14 ∷ 22 ∷ []) ++ (0 ∷ 0 ∷ 0 ∷ 0 ∷ 0 ∷ 0 ∷ 0 ∷ 0 ∷ []) ++ (0 ∷ 0 ∷ 0 ∷ 0 ∷ 0 ∷ 0 ∷ 0 ∷ 0 ∷ []))
    -- 10, group 258: 0, 0, 0, 0, 0, 8473507
    ∷ ((0 ∷ 52 ∷ 1 ∷ 10 ∷ 1 ∷ 2 ∷ []) ++ (0 ∷ 0 ∷ 0 ∷ 0 ∷ 0 ∷ 0 ∷ 0 ∷ 0 ∷ []) ++ (0 ∷ 0 ∷ 0 ∷ 0 ∷ 0 ∷ 0 ∷ 0 ∷ 0 ∷ [])
    ++ (0 ∷ 0 ∷ 0 ∷ 0 ∷ 0 ∷ 0 ∷ 0 ∷ 0 ∷ []) ++ (0 ∷ 0 ∷ 0 ∷ 0 ∷ 0 ∷ 0 ∷ 0 ∷ 0 ∷ []) ++ (0 ∷ 0 ∷ 0 ∷ 0 ∷ 0 ∷ 0 ∷ 0 ∷ 0 ∷ []) ++ (0 ∷ 0 ∷ 0 ∷ 0 ∷ 0 ∷ 129 ∷ 75 ∷ 163 ∷ []))
    -- 16, group 258: 3189180, 28637, 0, 1576470, 0, 0
    ∷ ((0 ∷ 52 ∷ 1 ∷ 16 ∷ 1 ∷ 2 ∷ []) ++ (0 ∷ 0 ∷ 0 ∷ 0 ∷ 0 ∷ 48 ∷ 169 ∷ 188 ∷ []) ++ (0 ∷ 0 ∷ 0 ∷ 0 ∷ 0 ∷ 0 ∷ 111 ∷ 221 ∷ [])
    ++ (0 ∷ 0 ∷ 0 ∷ 0 ∷ 0 ∷ 0 ∷ 0 ∷ 0 ∷ []) ++ (0 ∷ 0 ∷ 0 ∷ 0 ∷ 0 ∷ 24 ∷ 14 ∷ 22 ∷ []) ++ (0 ∷ 0 ∷ 0 ∷ 0 ∷ 0 ∷ 0 ∷ 0 ∷ 0 ∷ []) ++ (0 ∷ 0 ∷ 0 ∷ 0 ∷ 0 ∷ 0 ∷ 0 ∷ 0 ∷ []))
    -- 5, group 515: 525053, 11489, 0, 1273983, 792417, 0
    ∷ ((0 ∷ 52 ∷ 1 ∷ 5 ∷ 2 ∷ 3 ∷ []) ++ (0 ∷ 0 ∷ 0 ∷ 0 ∷ 0 ∷ 8 ∷ 2 ∷ 253 ∷ []) ++ (0 ∷ 0 ∷ 0 ∷ 0 ∷ 0 ∷ 0 ∷ 44 ∷ 225 ∷ [])
    ++ (0 ∷ 0 ∷ 0 ∷ 0 ∷ 0 ∷ 0 ∷ 0 ∷ 0 ∷ []) ++ (0 ∷ 0 ∷ 0 ∷ 0 ∷ 0 ∷ 19 ∷ 112 ∷ 127 ∷ []) ++ (0 ∷ 0 ∷ 0 ∷ 0 ∷ 0 ∷ 12 ∷ 23 ∷ 97 ∷ []) ++ (0 ∷ 0 ∷ 0 ∷ 0 ∷ 0 ∷ 0 ∷ 0 ∷ 0 ∷ []))
    -- 7, group 0: 0, 0, 226233333, 0, 0, 0
    ∷ ((0 ∷ 52 ∷ 1 ∷ 7 ∷ 0 ∷ 0 ∷ []) ++ (0 ∷ 0 ∷ 0 ∷ 0 ∷ 0 ∷ 0 ∷ 0 ∷ 0 ∷ []) ++ (0 ∷ 0 ∷ 0 ∷ 0 ∷ 0 ∷ 0 ∷ 0 ∷ 0 ∷ [])
    ++ (0 ∷ 0 ∷ 0 ∷ 0 ∷ 13 ∷ 124 ∷ 11 ∷ 245 ∷ []) ++ (0 ∷ 0 ∷ 0 ∷ 0 ∷ 0 ∷ 0 ∷ 0 ∷ 0 ∷ []) ++ (0 ∷ 0 ∷ 0 ∷ 0 ∷ 0 ∷ 0 ∷ 0 ∷ 0 ∷ []) ++ (0 ∷ 0 ∷ 0 ∷ 0 ∷ 0 ∷ 0 ∷ 0 ∷ 0 ∷ []))
    -- 9, group 0: 0, 0, −129838848, 0, 0, 0
    ∷ ((0 ∷ 52 ∷ 1 ∷ 9 ∷ 0 ∷ 0 ∷ []) ++ (0 ∷ 0 ∷ 0 ∷ 0 ∷ 0 ∷ 0 ∷ 0 ∷ 0 ∷ []) ++ (0 ∷ 0 ∷ 0 ∷ 0 ∷ 0 ∷ 0 ∷ 0 ∷ 0 ∷ [])
    ++ (255 ∷ 255 ∷ 255 ∷ 255 ∷ 248 ∷ 66 ∷ 209 ∷ 0 ∷ []) ++ (0 ∷ 0 ∷ 0 ∷ 0 ∷ 0 ∷ 0 ∷ 0 ∷ 0 ∷ []) ++ (0 ∷ 0 ∷ 0 ∷ 0 ∷ 0 ∷ 0 ∷ 0 ∷ 0 ∷ []) ++ (0 ∷ 0 ∷ 0 ∷ 0 ∷ 0 ∷ 0 ∷ 0 ∷ 0 ∷ []))
    -- 16, group 515: 525053, 11489, 0, 1273983, 792417, 0
    ∷ ((0 ∷ 52 ∷ 1 ∷ 16 ∷ 2 ∷ 3 ∷ []) ++ (0 ∷ 0 ∷ 0 ∷ 0 ∷ 0 ∷ 8 ∷ 2 ∷ 253 ∷ []) ++ (0 ∷ 0 ∷ 0 ∷ 0 ∷ 0 ∷ 0 ∷ 44 ∷ 225 ∷ [])
    ++ (0 ∷ 0 ∷ 0 ∷ 0 ∷ 0 ∷ 0 ∷ 0 ∷ 0 ∷ []) ++ (0 ∷ 0 ∷ 0 ∷ 0 ∷ 0 ∷ 19 ∷ 112 ∷ 127 ∷ []) ++ (0 ∷ 0 ∷ 0 ∷ 0 ∷ 0 ∷ 12 ∷ 23 ∷ 97 ∷ []) ++ (0 ∷ 0 ∷ 0 ∷ 0 ∷ 0 ∷ 0 ∷ 0 ∷ 0 ∷ []))
    -- 8, group 0: 3714233, 40126, 97565044, 2850453, 792417, 8473507, 203343206
    ∷ ((0 ∷ 60 ∷ 1 ∷ 8 ∷ 0 ∷ 0 ∷ []) ++ (0 ∷ 0 ∷ 0 ∷ 0 ∷ 0 ∷ 56 ∷ 172 ∷ 185 ∷ []) ++ (0 ∷ 0 ∷ 0 ∷ 0 ∷ 0 ∷ 0 ∷ 156 ∷ 190 ∷ [])
    ++ (0 ∷ 0 ∷ 0 ∷ 0 ∷ 5 ∷ 208 ∷ 185 ∷ 116 ∷ []) ++ (0 ∷ 0 ∷ 0 ∷ 0 ∷ 0 ∷ 43 ∷ 126 ∷ 149 ∷ []) ++ (0 ∷ 0 ∷ 0 ∷ 0 ∷ 0 ∷ 12 ∷ 23 ∷ 97 ∷ [])
    ++ (0 ∷ 0 ∷ 0 ∷ 0 ∷ 0 ∷ 129 ∷ 75 ∷ 163 ∷ []) ++ (0 ∷ 0 ∷ 0 ∷ 0 ∷ 12 ∷ 30 ∷ 197 ∷ 102 ∷ []))
    ∷ []

-- it is closed, with so many records, and not refused
abbrev pub every_kind_verdict : List ℕ
every_kind_verdict = 2 ∷ 11 ∷ 0 ∷ 0 ∷ 0 ∷ []
