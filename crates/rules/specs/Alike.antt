-- Two answers to a record that nothing tells apart: the reader goes on with the same account, and where their lines fit the room it writes the same
-- bytes. What no byte shows of a line's values is free (docs/EXCEPTIONS.md).
-- Assumes nothing.
use Rattle.std.specs.Prelude.{ℕ, ◌≤◌, ◌≡◌}
use Rattle.account.specs.declared.Judged.{Judged}
use Rattle.account.specs.Line.{bytes_of}

pub record Alike (room : ℕ) (f g : Judged) : Type 0 where
  pub account : f.account ≡ g.account
  pub given : f.line.given ≡ g.line.given
  pub bytes : f.line.given ≤ room → bytes_of f ≡ bytes_of g
