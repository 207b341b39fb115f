-- The states in range. Document 01, "Lines, calls and state": "A state holds: .. up to 27 held bytes of an unfinished record, unused places
-- zero, none in stages 2 and 3, and from two held on, their length is 4..26 and not yet fulfilled; ..".
use Rattle.std.specs.Prelude.{ℕ, ◌-◌, ◌≤◌, ◌≡◌, List, [], ◌∷◌, ◌++◌, Bool, true, false, ◌&&◌, ◌||◌, length, take, drop, replicate, ltb, leb, eqb}
use Rattle.account.specs.declared.Account.{Account}
use Rattle.account.specs.Account.{no_record}
use Rattle.account.specs.Range.{AccountInRange, account_in_range}
use Rattle.book.specs.declared.State.{State}
use Rattle.book.specs.Front.{Front, unfinished, bad_length, whole, front}

-- the bytes that a state holds
abbrev pub held_of : State → List ℕ
held_of s = take s.count s.held

-- the account a, with the bytes h held and the unused places zero
abbrev pub holding : Account → List ℕ → State
holding a h = record { account = a; held = h ++ replicate (27 - length h) 0; count = length h }

-- no record yet, and nothing held
abbrev pub no_record_yet : State
no_record_yet = holding no_record []

-- each of them is zero
abbrev pub zeros : List ℕ → Bool
zeros [] = true
zeros (x ∷ xs) = eqb x 0 && zeros xs

-- the state is inside the ranges
pub record InRange (s : State) : Type 0 where
  -- stage, records, factors, heading, day sums, fraction sum, sums and refusal are each in their ranges
  pub account : AccountInRange s.account
  -- the places for held bytes are 27
  pub places : length s.held ≡ 27
  -- up to 27 held bytes
  pub count : s.count ≤ 27
  -- unused places zero
  pub unused : zeros (drop s.count s.held) ≡ true
  -- of an unfinished record: from two held on, their length is 4..26 and not yet fulfilled
  pub begun : front (held_of s) ≡ unfinished
  -- none in stages 2 and 3
  pub none : 2 ≤ s.account.stage → s.count ≡ 0

-- the beginning of a record
abbrev pub is_unfinished : Front → Bool
is_unfinished unfinished = true
is_unfinished bad_length = false
is_unfinished whole = false

-- the test that decides InRange, part by part
unfoldable pub in_range : State → Bool
in_range s =
    eqb (length s.held) 27
    && leb s.count 27
    && account_in_range s.account
    && zeros (drop s.count s.held)
    && is_unfinished (front (held_of s))
    && (ltb s.account.stage 2 || eqb s.count 0)
