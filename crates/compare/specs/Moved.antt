-- Document 02, W14: "put its detail records and the energy, soil, tillage and grazing records among them in another order". Two runs of records that
-- are the same details in another order: each stands as often in the one as in the other.
-- Assumes nothing.
use Rattle.std.specs.Prelude.{ℕ, ◌+◌, List, [], ◌∷◌, Bool, true, ◌&&◌, eqb}
use Rattle.base.specs.Choice.{pick}
use Rattle.promises.specs.WholeLines.{is_detail}
use Rattle.compare.specs.Records.{same}

-- how often the record r stands among rs
unfoldable pub times_in : List ℕ → List (List ℕ) → ℕ
times_in r [] = 0
times_in r (x ∷ xs) = pick (same r x) (times_in r xs + 1) (times_in r xs)

-- x is a detail, and stands as often among rs as among ss
abbrev pub as_often : List (List ℕ) → List (List ℕ) → List ℕ → Bool
as_often rs ss x = is_detail x && eqb (times_in x rs) (times_in x ss)

-- so does each of xs
unfoldable pub all_as_often : List (List ℕ) → List (List ℕ) → List (List ℕ) → Bool
all_as_often rs ss [] = true
all_as_often rs ss (x ∷ xs) = as_often rs ss x && all_as_often rs ss xs

abbrev pub each_as_often : List (List ℕ) → List (List ℕ) → Bool
each_as_often rs ss = all_as_often rs ss rs

-- all of both are details, and they are the same ones
abbrev pub same_details : List (List ℕ) → List (List ℕ) → Bool
same_details rs ss = each_as_often rs ss && each_as_often ss rs
