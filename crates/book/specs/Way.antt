-- Rule 3. A book is offered in parts; what each call does not take comes first in the next. Document 01, "What each answer is held to",
-- asks that such calls give what rule 2 gives for the uncut run.
use Rattle.std.specs.Prelude.{ℕ, ◌≤◌, ◌≡◌, List, [], ◌∷◌, ◌++◌, ◌⊎◌, take, drop}
use Rattle.book.specs.declared.State.{State}
use Rattle.book.specs.Run.{Outcome}
use Rattle.book.specs.Call.{Call, call}

-- a part: how many of the bytes left are offered, and the room of the line buffer
pub record Part : Type 0 where
  pub offered : ℕ
  pub room : ℕ

-- the lines of a call, and then what the calls after it give
abbrev pub called_then : Call → Outcome → Outcome
called_then c o = record { state = o.state; bytes = c.bytes ++ o.bytes; left = o.left }

-- a series of calls, one for each part, each going on from the state of the one before with the bytes that it left
unfoldable pub way : State → List ℕ → List Part → Outcome
way s xs [] = record { state = s; bytes = []; left = xs }
way s xs (p ∷ ps) =
    called_then (call s (take p.offered xs) p.room)
    (way (call s (take p.offered xs) p.room).state (drop (call s (take p.offered xs) p.room).taken xs) ps)

-- a way is at its end when every byte is taken, or the book is closed or refused
abbrev pub Ended : Outcome → Type 0
Ended o = (o.left ≡ []) ⊎ (2 ≤ o.state.account.stage)
