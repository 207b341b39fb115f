-- A detail's place, by the class of the heading alone: a heading has records before it.
-- Assumes nothing.
use Prim.Native.Nat.{◌≤◌, ◌<◌}
use mathlib.Core.Path.{◌≡◌, refl, ◌∙◌}
use mathlib.Core.Bool.{Bool, true, false, ◌&&◌, not}
use mathlib.Core.Logic.{⊎_elim}
use native.Mathlib.Omega.{arith}
use borrow.Author.Tests.{leb-true, ltb-true, ltb-false, eqb-true, eq-eqb, ne_eqb}
use lib.Dec.{leb, ltb, eqb}
use Rattle.base.proofs.Tests.{and_l, true-or-false}
use Rattle.account.specs.declared.Account.{Account}
use Rattle.account.specs.Range.{AccountInRange, Headed, Unheaded}
use Rattle.account.specs.Sorts.{sort_of}
use Rattle.account.specs.Judge.{in_place_lem}

module _ (a : Account) (f : AccountInRange a) where
  begun : 1 ≤ a.heading.class → a.records ≡ 0 → ⊥
  begun l e =
      ⊎_elim (λ (h : Headed a.heading a.used a.records). omega (arith, e, h.records-least))
      (λ (u : Unheaded a.heading a.used). omega (arith, l, u.class)) f.under.heading

  class-most : a.heading.class ≤ 4
  class-most =
      ⊎_elim (λ (h : Headed a.heading a.used a.records). h.class-most)
      (λ (u : Unheaded a.heading a.used). omega (arith, u.class)) f.under.heading

  -- a test that holds only under a heading needs no test of the records
  with-begun : (serves : Bool) → (serves ≡ true → 1 ≤ a.heading.class) → serves ≡ (serves && not (eqb a.records 0))
  with-begun true h = rw (ne_eqb a.records 0 (begun (h refl)))
  with-begun false h = refl

  -- kinds 3, 4 and 10
  pub cattle-place : (b : Bool) → b ≡ (leb 1 a.heading.class && leb a.heading.class 3) → b ≡ in_place_lem a 3
  unfolding in_place_lem sort_of
  cattle-place b e = e ∙ with-begun _ (λ t. leb-true _ _ (and_l (leb 1 a.heading.class) (leb a.heading.class 3) t))

  -- kind 5: no class is above 4
  is-pig : ltb 3 a.heading.class ≡ eqb a.heading.class 4
  is-pig =
      let m = class-most in
      ⊎_elim
      (λ (t : ltb 3 a.heading.class ≡ true).
      let above : 3 < a.heading.class = ltb-true _ _ t in
      let four : a.heading.class ≡ 4 = omega arith in
      t ∙ rw (eq-eqb _ _ four) refl)
      (λ (t : ltb 3 a.heading.class ≡ false).
      let below : a.heading.class ≤ 3 = ltb-false _ _ t in
      t ∙ rw (ne_eqb a.heading.class 4 (λ q. omega arith)) refl)
      (true-or-false (ltb 3 a.heading.class))

  pub pig-place : (b : Bool) → b ≡ ltb 3 a.heading.class → b ≡ in_place_lem a 5
  unfolding in_place_lem sort_of
  pig-place b e = e ∙ is-pig ∙ with-begun _ (λ t. let four : a.heading.class ≡ 4 = eqb-true _ _ t in omega arith)
