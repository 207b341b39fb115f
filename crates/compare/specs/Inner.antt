-- The contracts of the inner functions, in parts. A reader of the promises can pass this file over: no public contract cites it.
-- Assumes nothing.
use Rattle.std.specs.Prelude.{ℕ, ◌≤◌, ◌<◌, ◌≡◌, true, false, List, [], ◌∷◌, length, take, drop}
use Rattle.account.specs.declared.Account.{Account}
use Rattle.account.specs.Range.{AccountInRange}
use Rattle.walk.specs.Walk.{next_of, lines_of, entry_of, entries_after}
use Rattle.compare.specs.declared.places.Place.{Place}
use Rattle.compare.specs.declared.places.Taken.{Taken}
use Rattle.compare.specs.Records.{Readable}
use Rattle.compare.specs.Places.{stops_at}

-- p is a place of the book xs
pub record Valid (xs : List ℕ) (p : Place) : Type 0 where
  pub range : AccountInRange p.account
  pub few : p.number ≤ p.at
  pub inside : p.at ≤ length xs

-- t is the next accepted record of the bytes xs after the account a: so many bytes, and the account after it; with no bytes there is none
pub record Turned (a : Account) (xs : List ℕ) (t : Taken) : Type 0 where
  pub inside : t.n ≤ length xs
  pub some : 0 < t.n → 6 ≤ t.n
  pub none : t.n ≡ 0 → stops_at a xs ≡ true
  pub found : 0 < t.n → stops_at a xs ≡ false
  pub size : 0 < t.n → t.n ≡ (next_of a xs).size
  pub account : 0 < t.n → t.next ≡ (next_of a xs).account
  pub ended : t.n ≡ 0 → entries_after a xs ≡ []
  pub goes : 0 < t.n → entries_after a xs ≡ entry_of a (take t.n xs) ∷ entries_after t.next (drop t.n xs)
  pub readable : 0 < t.n → Readable (take t.n xs)
  pub range : AccountInRange t.next

-- its lines stand at the start of a buffer
pub record Written (a : Account) (xs lines : List ℕ) (t : Taken) : Type 0 where
  pub inside : t.written ≤ length lines
  pub none : t.n ≡ 0 → t.written ≡ 0
  pub are : 0 < t.n → take t.written lines ≡ lines_of a (take t.n xs)
