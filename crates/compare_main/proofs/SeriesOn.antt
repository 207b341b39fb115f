-- The turns of the program are a series of steps.
-- Assumes nothing.
use Prim.Native.Nat.{ℕ, zero, suc}
use mathlib.Core.Path.{◌≡◌, refl, ap, ◌∙◌}
use mathlib.Core.List.{List}
use mathlib.Core.Bool.{Bool}
use Rattle.compare.specs.declared.Cursor.{Cursor}
use Rattle.compare.specs.Steps.{step_of, cursor_after}
use Rattle.compare_main.specs.Series.{Goes}

pub goes_none : (alike : Bool) (old new : List ℕ) (c : Cursor) → Goes alike old new c c
unfolding cursor_after
goes_none alike old new c = record { steps = 0; is = refl }

one_more : (n : ℕ) (alike : Bool) (old new : List ℕ) (c : Cursor)
    → (step_of alike old new (cursor_after n alike old new c)).cursor ≡ cursor_after (suc n) alike old new c
unfolding cursor_after
one_more zero alike old new c = refl
one_more (suc n) alike old new c = one_more n alike old new (step_of alike old new c).cursor

pub goes_on : (alike : Bool) (old new : List ℕ) (c d e : Cursor) → Goes alike old new c d → e ≡ (step_of alike old new d).cursor
    → Goes alike old new c e
goes_on alike old new c d e g h =
    record { steps = suc g.steps; is = h ∙ ap (λ (x : Cursor). (step_of alike old new x).cursor) g.is ∙ one_more g.steps alike old new c }
