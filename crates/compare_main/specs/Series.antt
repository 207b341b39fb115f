-- What the turns of the program have come to: a series of steps, one after the other.
use Rattle.std.specs.Prelude.{ℕ, ◌≡◌, List, Bool}
use Rattle.compare.specs.declared.Cursor.{Cursor}
use Rattle.compare.specs.Steps.{cursor_after}

-- d is the cursor after so many steps from c
pub record Goes (alike : Bool) (old new : List ℕ) (c d : Cursor) : Type 0 where
  pub steps : ℕ
  pub is : d ≡ cursor_after steps alike old new c
