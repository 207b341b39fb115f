-- What the turns of the program have come to: a series of calls, by which its text, its last word and its status go.
use Rattle.std.specs.Prelude.{ℕ, ◌+◌, ◌≤◌, ◌≡◌, true, false, List, length, drop}
use Rattle.retype.specs.Book.{Retyping}
use Rattle.in_parts.specs.Retype.{retyped_in}
use Rattle.retype_main.specs.declared.Work.{Work}

-- r goes on from w with what x gives; where its text was not written, no more is wanted
pub record Turned (x : Retyping) (w r : Work) : Type 0 where
  pub account : r.account ≡ x.account
  pub at : r.at ≡ w.at + x.taken
  pub more : r.written ≡ true → r.more ≡ x.more
  pub failed : r.written ≡ false → r.more ≡ false

-- w is the beginning: nothing is wrong, and more may come of the book
pub record Begins (book : List ℕ) (w : Work) : Type 0 where
  pub inside : w.at ≤ length book
  pub written : w.written ≡ true
  pub more : w.more ≡ true

-- w is what a series of calls with some buffers leaves of the book, where the turns began with w₀
pub record Goes (book : List ℕ) (w₀ w : Work) : Type 0 where
  pub rooms : List ℕ
  pub account : w.account ≡ (retyped_in rooms w₀.account (drop w₀.at book)).account
  pub at : w.at ≡ w₀.at + (retyped_in rooms w₀.account (drop w₀.at book)).taken
  pub inside : w.at ≤ length book
  pub more : w.written ≡ true → w.more ≡ (retyped_in rooms w₀.account (drop w₀.at book)).more
  pub failed : w.written ≡ false → w.more ≡ false
