-- The contracts of the inner functions, in parts. A reader of the promises can pass this file over: no public contract cites it.
-- Assumes nothing.
use Rattle.std.specs.Prelude.{ℕ, ◌+◌, ◌≤◌, List, length}
use Rattle.compare.specs.declared.Cursor.{Cursor}
use Rattle.compare.specs.declared.Side.{Side}
use Rattle.compare.specs.Inner.{Valid}

-- s is a side of the book xs
pub record ValidSide (xs : List ℕ) (s : Side) : Type 0 where
  pub place : Valid xs s.place
  pub end : Valid xs s.end

-- c is a section that is just opened: the records that are only in another order are in the books
pub record Opens (xs ys : List ℕ) (c : Cursor) : Type 0 where
  pub old : ValidSide xs c.old
  pub new : ValidSide ys c.new
  pub moved : c.old.place.number + c.moved ≤ length xs
  pub moved' : c.new.place.number + c.moved ≤ length ys
