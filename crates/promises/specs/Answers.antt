-- Document 01, "Lines, calls and state": "Full: the next record is complete and right but its line doesn't fit; its last byte isn't taken."
-- Assumes nothing.
use Rattle.std.specs.Prelude.{ℕ, ◌<◌, ◌≡◌, [], ◌∷◌, ◌++◌, length}
use Rattle.account.specs.Line.{joined}
use Rattle.account.specs.Judge.{refusals, first, judge}
use Rattle.book.specs.declared.State.{State}
use Rattle.book.specs.Front.{whole, front}
use Rattle.book.specs.State.{held_of}

-- the byte b makes the bytes that s holds a record: complete, right after the records before it, and with lines longer than the room
pub record NextTooLong (s : State) (b room : ℕ) : Type 0 where
  pub complete : front (held_of s ++ (b ∷ [])) ≡ whole
  pub right : first (refusals s.account (held_of s ++ (b ∷ []))) ≡ 0
  pub long : room < length (joined (judge s.account (held_of s ++ (b ∷ []))).lines)
