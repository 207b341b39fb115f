-- Document 02, W14: "under one heading, put its detail records and the energy, soil, tillage and grazing records among them in another order. If
-- the book was accepted, it still is, with the same subtotals and total line, and its lines are the old ones in the new order." Said over the
-- bytes of a book and the records that they make.
-- Assumes nothing.
use Rattle.std.specs.Prelude.{ℕ, ◌≡◌, List, [], ◌∷◌, ◌++◌, map, true}
use Rattle.account.specs.Line.{joined}
use Rattle.book.specs.State.{no_record_yet}
use Rattle.book.specs.Run.{run}
use Rattle.promises.specs.WholeLines.{is_detail}
use Rattle.promises.specs.Subtotals.{subtotal_lines}
use Rattle.promises.specs.Totals.{last_of}
use Rattle.promises.specs.SameLine.{heading_before, line_under}
use Rattle.orders.specs.InOrder.{in_order_lem}

-- the book xs is accepted: the close is in, and no byte is left behind it
pub record Accepted (xs : List ℕ) : Type 0 where
  pub closed : (run no_record_yet xs).state.account.stage ≡ 2
  pub all : (run no_record_yet xs).left ≡ []

-- all of rs are details, of the group or of the farm: there is no heading among them, so that they stand under one heading or before any
abbrev pub Details : List (List ℕ) → Type 0
Details [] = Unit {0}
Details (r ∷ rs) = (is_detail r ≡ true) × Details rs

-- records before, a run of them, and records behind, as the bytes of a book
abbrev pub book_of : List (List ℕ) → List (List ℕ) → List (List ℕ) → List ℕ
book_of before middle behind = joined (before ++ (middle ++ behind))

-- the lines that the records rs give behind the records `before`: the reader goes on from the state that those have reached
abbrev pub lines_of : List (List ℕ) → List (List ℕ) → List (List ℕ)
lines_of before rs = (run (run no_record_yet (joined before)).state (joined rs)).lines

-- the book xs, and the same with its middle records in another order
pub record InAnyOrder (xs : List ℕ) (before middle behind : List (List ℕ)) (order : List ℕ) : Type 0 where
  -- the second book is accepted too, and leaves the reader in the state in which the first one does
  pub accepted : Accepted (book_of before (in_order_lem order middle) behind)
  pub state : (run no_record_yet (book_of before (in_order_lem order middle) behind)).state ≡ (run no_record_yet xs).state
  -- with the same subtotals and total line
  pub subtotals : subtotal_lines (run no_record_yet (book_of before (in_order_lem order middle) behind)).lines ≡ subtotal_lines (run no_record_yet xs).lines
  pub total : last_of (run no_record_yet (book_of before (in_order_lem order middle) behind)).lines ≡ last_of (run no_record_yet xs).lines
  -- the lines of the first book: those of the records before, in the middle and behind
  pub lines : (run no_record_yet xs).lines ≡ lines_of [] before ++ (lines_of before middle ++ lines_of (before ++ middle) behind)
  -- each record of the middle gives one, under the last heading before the middle
  pub each : lines_of before middle ≡ map (line_under (heading_before before)) middle
  -- in the second book the records before and behind give the same lines, and the middle's are the old ones in the new order
  pub same : (run no_record_yet (book_of before (in_order_lem order middle) behind)).lines
      ≡ lines_of [] before ++ (in_order_lem order (lines_of before middle) ++ lines_of (before ++ middle) behind)
