-- "14, tried first: a number of the ration or the change outside its range, or no number at all": a NaN anywhere gives 14.
-- Assumes nothing.
use mathlib.Core.Path.{◌≡◌, refl}
use mathlib.Core.Bool.{Bool, false, ◌&&◌}
use mathlib.Core.Logic.{◌⊎◌, inl, inr, ⊎_elim}
use lib.Ieee.{Float, nan, lt, eq, le}
use Rattle.base.proofs.Tests.{and-false}
use Rattle.slip.specs.Slip.{within, ge_in_range, ym_in_range, head_in_range, days_in_range, ration_in_range, change_in_range, refused_with, what_if, number_of}
use Rattle.slip.specs.declared.Ration.{Ration}
use Rattle.slip.specs.declared.Change.{Change}
use Rattle.slip.specs.declared.Change.TheVariants.{Feed, Ym, Head}

-- no comparison lets a NaN through
nothing-below : (hi : Float) → le nan hi ≡ false
unfolding le lt eq
nothing-below hi = refl

outside : (lo hi x : Float) → x ≡ nan → within lo hi x ≡ false
outside lo hi x e = rw (e, nothing-below hi) (and-false (le lo nan))

-- one of the first three of four tests fails
fails : (a b c d : Bool) → (a ≡ false) ⊎ ((b ≡ false) ⊎ (c ≡ false)) → ((a && b) && c) && d ≡ false
fails a b c d = ⊎_elim (λ e. rw e refl) (⊎_elim (λ e. rw (e, and-false a) refl) (λ e. rw (e, and-false (a && b)) refl))

change-outside : (c : Change) → number_of c ≡ nan → change_in_range c ≡ false
unfolding change_in_range
change-outside (Feed x) e = outside _ _ x e
change-outside (Ym x) e = outside _ _ x e
change-outside (Head x) e = outside _ _ x e

ration-outside : (r : Ration) → (r.ge ≡ nan) ⊎ ((r.ym ≡ nan) ⊎ (r.head ≡ nan)) → ration_in_range r ≡ false
unfolding ration_in_range
ration-outside r n =
    fails (ge_in_range r.ge) (ym_in_range r.ym) (head_in_range r.head) (days_in_range r.days)
    (⊎_elim (λ (e : r.ge ≡ nan). inl (outside _ _ r.ge e))
    (⊎_elim (λ (e : r.ym ≡ nan). inr (inl (outside _ _ r.ym e))) (λ (e : r.head ≡ nan). inr (inr (outside _ _ r.head e)))) n)

refused-so : (r : Ration) (c : Change) → ration_in_range r && change_in_range c ≡ false → what_if r c ≡ refused_with 14 r
unfolding what_if
refused-so r c e = rw e refl

-- A NaN for GE, for Ym, for head or for the change's number gives 14: the ration back unchanged, and zero kg.
pub nan-gives-14 : (r : Ration) (c : Change) → (number_of c ≡ nan) ⊎ ((r.ge ≡ nan) ⊎ ((r.ym ≡ nan) ⊎ (r.head ≡ nan)))
    → what_if r c ≡ refused_with 14 r
nan-gives-14 r c n =
    refused-so r c
    (⊎_elim (λ (e : number_of c ≡ nan). rw (change-outside c e) (and-false (ration_in_range r)))
    (λ (e : (r.ge ≡ nan) ⊎ ((r.ym ≡ nan) ⊎ (r.head ≡ nan))). rw (ration-outside r e) refl) n)
