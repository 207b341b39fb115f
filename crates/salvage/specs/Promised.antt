-- Document 02, W5: the words of three promises, "each kept detail has the heading it had", "a list of what was dropped" and what ends the reading.
-- Assumes nothing.
use Rattle.std.specs.Prelude.{ℕ, ◌+◌, ◌≤◌, ◌≡◌, List, [], ◌∷◌, Bool, true, false, ◌||◌, ◌⊎◌, length, eqb}
use Rattle.base.specs.Choice.{pick}
use Rattle.account.specs.Sorts.{is_of_group}
use Rattle.account.specs.declared.Account.{Account}
use Rattle.account.specs.Judge.{kind_byte, judge}
use Rattle.salvage.specs.declared.Reading.{Reading}
use Rattle.salvage.specs.Salvage.{would_get, one_of, dropped_by, Entry, Found}

-- ---- kept or listed

-- how many records were read
abbrev pub read_by : Found → ℕ
read_by f = length f.kept + length f.dropped

-- the things xs, numbered from n, without those that the list names
unfoldable pub unlisted : {A : Type 0} → List Entry → ℕ → List A → List A
unlisted [] n xs = xs
unlisted (e ∷ es) n [] = []
unlisted (e ∷ es) n (x ∷ xs) = pick (eqb e.number n) (unlisted es (n + 1) xs) (x ∷ unlisted (e ∷ es) (n + 1) xs)

-- why r is listed with the code c, a being the account of the kept records before it: it would get c, one of 2 to 4 or 6 to 11; or c is 6, r is
-- a record of kind byte 3, 4, 5 or 10, and the last record of kind byte 2 before it is listed
abbrev pub Reason : Account → Bool → List ℕ → ℕ → Type 0
Reason a lost r c =
    ((would_get a r ≡ c) × (one_of 2 4 c || one_of 6 11 c ≡ true)) ⊎ ((c ≡ 6) × (lost ≡ true) × (is_of_group (kind_byte r) ≡ true))

-- each entry of the list has its reason: the records rs, numbered from n, are gone through; one that is listed has a reason, any other is
-- accepted into the account; lost: the last record of kind byte 2 is listed. A number with no record has none.
abbrev pub Reasons : Account → Bool → ℕ → List (List ℕ) → List Entry → Type 0
Reasons a lost n rs [] = Unit {0}
Reasons a lost n [] (e ∷ es) = ⊥
Reasons a lost n (r ∷ rs) (e ∷ es) =
    (e.number ≡ n → Reason a lost r e.code × Reasons a (pick (eqb (kind_byte r) 2) true lost) (n + 1) rs es)
    × ((e.number ≡ n → ⊥) → Reasons (judge a r).account (pick (eqb (kind_byte r) 2) false lost) (n + 1) rs (e ∷ es))

-- ---- until an end

-- one of the ends stands there, s being the reading after all that was read and rs the whole records left: none, since the bytes end or a length
-- that no record has comes (code 1); or 4,095 records are kept; or the next is "a close that none of these drops"
abbrev pub EndAt : Reading → List (List ℕ) → Type 0
EndAt s [] = Unit {0}
EndAt s (r ∷ rs) = (4095 ≤ s.account.records) ⊎ ((kind_byte r ≡ 8) × (dropped_by s r ≡ 0))

-- ---- headings

-- a record, and the last record of kind byte 2 before it
pub record Under : Type 0 where
  pub detail : List ℕ
  pub heading : List ℕ

-- each of rs with the last record of kind byte 2 before it, h where there is none among them
unfoldable pub under_headings : List ℕ → List (List ℕ) → List Under
under_headings h [] = []
under_headings h (r ∷ rs) = record { detail = r; heading = h } ∷ under_headings (pick (eqb (kind_byte r) 2) r h) rs

-- those of kinds 3 to 5 and 10
unfoldable pub details : List Under → List Under
details [] = []
details (u ∷ us) = pick (is_of_group (kind_byte u.detail)) (u ∷ details us) (details us)
