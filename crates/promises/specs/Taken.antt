-- Document 01, rule 3: "the ways that end have taken equally many bytes". The bytes that a series of calls takes, all together.
-- Assumes nothing.
use Rattle.std.specs.Prelude.{ℕ, ◌+◌, List, [], ◌∷◌, take, drop}
use Rattle.book.specs.declared.State.{State}
use Rattle.book.specs.Call.{call}
use Rattle.book.specs.Way.{Part}

-- each call's count of bytes taken, added up
unfoldable pub taken_by : State → List ℕ → List Part → ℕ
taken_by s xs [] = 0
taken_by s xs (p ∷ ps) =
    (call s (take p.offered xs) p.room).taken
    + taken_by (call s (take p.offered xs) p.room).state (drop (call s (take p.offered xs) p.room).taken xs) ps
