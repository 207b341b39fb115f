-- Laws of what the accepted records make: of the next record, and where there is none.
-- Assumes nothing.
use Rattle.std.proofs.Common.{◌≡◌, ℕ, ◌<◌, ◌≤◌, true, false, ◌||◌, eqb, List, [], ◌∷◌, take, drop, refl, ap, ◌∙◌, ⊎_elim, arith, le-ltb, lt-ltb}
use Rattle.std.proofs.Common.{eq-eqb, ne_eqb, eqb-true}
use borrow.Author.Tests.{eqb-false}
use Rattle.base.proofs.Tests.{lt-or-ge, by-test, or_l, or_r}
use Rattle.account.specs.declared.Account.{Account}
use Rattle.account.specs.Judge.{judge}
use Rattle.book.specs.WholeRecords.{records_of}
use Rattle.book.proofs.Fronts.{front-none}
use Rattle.walk.specs.declared.Next.{Next}
use Rattle.walk.specs.Walk.{next_of}
use Rattle.walk.proofs.Walks.{stands, none-whole, records-none, records-next}
use Rattle.page.specs.Over.{over, over_bytes}

module _ {B : Type 0} (f : B → Account → List ℕ → B) (b : B) (a : Account) where
  over-ended : (rs : List (List ℕ)) → 2 ≤ a.stage → over f b a rs ≡ b
  unfolding over
  over-ended [] h = refl
  over-ended (r ∷ rs) h = rw (le-ltb _ _ h) refl

  over_first : (r : List ℕ) (rs : List (List ℕ)) → a.stage < 2 → ((judge a r).account.stage ≡ 3 → ⊥)
      → over f b a (r ∷ rs) ≡ over f (f b a r) (judge a r).account rs
  unfolding over
  over_first r rs h n = rw (lt-ltb _ _ h, ne_eqb _ _ n) refl

  over-refused : (r : List ℕ) (rs : List (List ℕ)) → a.stage < 2 → (judge a r).account.stage ≡ 3 → over f b a (r ∷ rs) ≡ b
  unfolding over
  over-refused r rs h n = rw (lt-ltb _ _ h, eq-eqb _ _ n) refl

  -- no bytes have no records
  pub over-nil : over_bytes f b a [] ≡ b
  unfolding over
  over-nil = rw (records-none [] (λ e. let q : ◌≡◌ {A = ℕ} 0 1 = cc (e, front-none) in absurd (omega (arith, q)))) refl

  module _ (xs : List ℕ) (t : Next) (e : t ≡ next_of a xs) where
    over_none : t.size ≡ 0 → over_bytes f b a xs ≡ b
    unfolding over
    over_none z =
        ⊎_elim
        (λ (h : a.stage < 2). rw (records-none xs (none-whole a xs t e z h)) refl)
        (λ (h : 2 ≤ a.stage). over-ended (records_of xs) h)
        (lt-or-ge a.stage 2)

    over-stop : (t.size ≡ 0 → ⊥) → t.account.stage ≡ 3 → over_bytes f b a xs ≡ b
    over-stop n refused =
        let s = stands a xs t e n in
        ap (over f b a) (records-next a xs t e n)
        ∙ over-refused (take t.size xs) (records_of (drop t.size xs)) s.early (rw s.account at refused)

    -- as the code asks: there is no record, or it is refused
    pub over-end : eqb t.size 0 || eqb t.account.stage 3 ≡ true → over_bytes f b a xs ≡ b
    over-end h =
        by-test (eqb t.size 0) (λ z. over_none (eqb-true _ _ z)) (λ z. over-stop (eqb-false _ _ z) (eqb-true _ _ (rw z at h)))

    -- it is accepted
    pub over-next : eqb t.size 0 || eqb t.account.stage 3 ≡ false
        → over_bytes f b a xs ≡ over_bytes f (f b a (take t.size xs)) t.account (drop t.size xs)
    over-next h =
        let n : t.size ≡ 0 → ⊥ = eqb-false _ _ (or_l (eqb t.size 0) _ h) in
        let still : t.account.stage ≡ 3 → ⊥ = eqb-false _ _ (or_r (eqb t.size 0) _ h) in
        let s = stands a xs t e n in
        ap (over f b a) (records-next a xs t e n)
        ∙ (rw (← s.account) at (over_first (take t.size xs) (records_of (drop t.size xs)) s.early (rw s.account at still)))
