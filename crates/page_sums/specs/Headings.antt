-- The heading that a heading record's values make, for the promise on what a group's row bears.
-- Assumes nothing.
use Rattle.std.specs.Prelude.{ℕ, List, get_or}
use Rattle.account.specs.declared.Heading.{Heading}

abbrev pub heading_of : List ℕ → Heading
heading_of v = record { group = get_or v 0 0; class = get_or v 1 0; head = get_or v 2 0 }
