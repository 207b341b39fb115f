-- The contracts of the inner functions, in parts. A reader of the promises can pass this file over: no public contract cites it.
-- Assumes nothing.
use Rattle.std.specs.Prelude.{ℕ, ◌≤◌, ◌<◌, ◌≡◌, List, [], ◌∷◌, ◌⊎◌, length, take, drop}
use Rattle.account.specs.declared.Account.{Account}
use Rattle.account.specs.Range.{AccountInRange}
use Rattle.walk.specs.Walk.{lines_of, entry_of, entries_after}
use Rattle.compare.specs.declared.runs.Counts.{Counts}
use Rattle.compare.specs.declared.runs.Pair.{Pair}
use Rattle.compare.specs.Records.{same}

-- l is the next pair of records of the bytes xs and ys: with no bytes of the first, either has no more
pub record Looked (a b : Account) (xs ys : List ℕ) (l : Pair) : Type 0 where
  pub inside : l.old ≤ length xs
  pub inside' : l.new ≤ length ys
  pub some : 0 < l.old → (6 ≤ l.old) × (6 ≤ l.new)
  pub ended : l.old ≡ 0 → (entries_after a xs ≡ []) ⊎ (entries_after b ys ≡ [])
  pub goes : 0 < l.old → entries_after a xs ≡ entry_of a (take l.old xs) ∷ entries_after l.a (drop l.old xs)
  pub goes' : 0 < l.old → entries_after b ys ≡ entry_of b (take l.new ys) ∷ entries_after l.b (drop l.new ys)
  pub range : AccountInRange l.a
  pub range' : AccountInRange l.b
  pub records : 0 < l.old → l.records ≡ same (take l.old xs) (take l.new ys)
  pub lines : 0 < l.old → l.lines ≡ same (lines_of a (take l.old xs)) (lines_of b (take l.new ys))

-- no count is above most
pub record CountsIn (u : Counts) (most : ℕ) : Type 0 where
  pub pairs : u.pairs ≤ most
  pub leading : u.leading ≤ most
  pub trailing : u.trailing ≤ most
  pub first : u.first ≤ most
  pub last : u.last ≤ most
  pub others : u.others ≤ most
