-- The contracts of the functions that find for each record of a run a partner in another: the same record, which no other one has. A reader of the
-- promises can pass this file over: no public contract cites it.
-- Assumes nothing.
use Rattle.std.specs.Prelude.{ℕ, ◌≤◌, ◌<◌, ◌≡◌, List, [], ◌∷◌, ◌++◌, Bool, true, length, get_or, take, drop, eqb}
use Rattle.book.specs.WholeRecords.{records_of}
use Rattle.promises.specs.WholeLines.{is_detail}
use Rattle.compare.specs.Moved.{times_in}

-- the record that begins at the byte p of ys, if one does; none does at the end
abbrev pub found_at : List ℕ → ℕ → List (List ℕ)
found_at ys p = take 1 (records_of (drop p ys))

-- it is r
abbrev pub stands_at : List ℕ → List ℕ → ℕ → Bool
stands_at r ys p = eqb (times_in r (found_at ys p)) 1

-- the link leads to one of the places, where r begins
pub record LeadsTo (r ys places links : List ℕ) (link : ℕ) : Type 0 where
  pub inside : link < length links
  pub noted : get_or links link 0 < length places
  pub same : stands_at r ys (get_or places (get_or links link 0) 0) ≡ true

-- those that begin at the places ps
unfoldable pub all_found_at : List ℕ → List ℕ → List (List ℕ)
all_found_at ys [] = []
all_found_at ys (p ∷ ps) = found_at ys p ++ all_found_at ys ps

-- the first many of the places are those of the first n records of ys
pub record Noted (ys : List ℕ) (n : ℕ) (places : List ℕ) (many : ℕ) : Type 0 where
  pub size : length places ≡ 4096
  pub most : many ≤ 4096
  pub all : all_found_at ys (take many places) ≡ take n (records_of ys)
  pub count : length (take n (records_of ys)) ≡ many

-- rs are r and ss, in some order
pub record OneMore (r : List ℕ) (rs ss : List (List ℕ)) : Type 0 where
  pub times : (s : List ℕ) → times_in s rs ≡ times_in s (r ∷ ss)
  pub count : length rs ≡ length (r ∷ ss)

-- where it is so, r is a detail and one place of it is gone
pub record Takes (r ys : List ℕ) (many : ℕ) (before after : List ℕ) (b : Bool) : Type 0 where
  pub size : length after ≡ 4096
  pub detail : b ≡ true → is_detail r ≡ true
  pub one : b ≡ true → OneMore r (all_found_at ys (take many before)) (all_found_at ys (take many after))
