-- What was saved lies inside the buffers. Assumes nothing.
use Prim.Native.Nat.{ℕ, ◌≤◌}
use mathlib.Core.Path.{◌≡◌, sym}
use borrow.Author.Rules.{rules}
use Rattle.std.specs.Prelude.{Result, Ok}
use lib.Seq.{length-take-le}
use Rattle.salvage.specs.declared.Lengths.{Lengths}
use Rattle.salvage.specs.declared.Unsaved.{Unsaved}
use Rattle.salvage.specs.Salvage.{Inside}
use Rattle.salvage_main.proofs.save.Goals as goal

inside : (r : Result Lengths Unsaved) (l : Lengths) (b n : ℕ) → r ≡ Ok l → Inside r b n → (l.book ≤ b) × (l.list ≤ n)
inside r l b n e i = rw e at i

pub slice_bounds-book-end : goal.slice_bounds-book-end
slice_bounds-book-end g c = let i = (inside _ _ _ _ c.in-Ok.is
    c.salvage-answer.ensures.inside).0 in search rules

pub slice_bounds-give-end : goal.slice_bounds-give-end
slice_bounds-give-end g c = sym (length-take-le _ _ (inside _ _ _ _ c.in-Ok.is
    c.salvage-answer.ensures.inside).0)

pub slice_bounds-list-end : goal.slice_bounds-list-end
slice_bounds-list-end g c = let i = (inside _ _ _ _ c.in-Ok.is
    c.salvage-answer.ensures.inside).1 in search rules

pub slice_bounds-give-end-in-Ok : goal.slice_bounds-give-end-in-Ok
slice_bounds-give-end-in-Ok g c = sym (length-take-le _ _ (inside _ _ _ _ c.in-Ok.is
    c.salvage-answer.ensures.inside).1)
