-- Laws of the page, row by row.
-- Assumes nothing.
use Rattle.std.proofs.Common.{◌≡◌, ℕ, ◌+◌, ◌≤◌, Bool, true, false, not, ◌&&◌, ◌||◌, eqb, ltb, leb, List, [], length, drop, sym, refl, ap, ◌∙◌, arith}
use Rattle.std.proofs.Common.{length-drop, ltb-false, ltb-true}
use borrow.Author.Tests.{eqb-false, lt-leb}
use Rattle.base.specs.Choice.{pick}
use Rattle.base.proofs.Tests.{or_l, or_r}
use Rattle.account.specs.Range.{account_in_range}
use Rattle.walk.specs.declared.Next.{Next}
use Rattle.walk.specs.Walk.{next_of}
use Rattle.walk.proofs.Walks.{Stands, stands}
use Rattle.page.specs.declared.Place.{Place}
use Rattle.page.specs.declared.Scale.{Scale}
use Rattle.page.specs.Page.{goes_on_lem, kind_at, row_by, stopped_at, moved_by, place_after, row_at}

-- ---- whether a record is accepted at a place, as the code asks

-- outside of a book
outside : (b : Bool) (at n : ℕ) (more : Bool) → not b || ltb n at ≡ true → (b && leb at n) && more ≡ false
outside false at n more h = refl
outside true at n more h = rw (lt-leb _ _ (ltb-true _ _ h)) refl

pub inside-range : (b : Bool) (at n : ℕ) → not b || ltb n at ≡ false → b ≡ true
inside-range true at n h = refl
inside-range false at n h = sym h

pub inside-bytes : (b : Bool) (at n : ℕ) → not b || ltb n at ≡ false → at ≤ n
inside-bytes b at n h = ltb-false _ _ (or_r (not b) _ h)

module _ (p : Place) (xs : List ℕ) where
  pub goes-outside : not (account_in_range p.account) || ltb (length xs) p.at ≡ true → goes_on_lem p xs ≡ false
  goes-outside h = outside (account_in_range p.account) p.at (length xs) _ h

  -- the same place, and no row
  pub place-stays : goes_on_lem p xs ≡ false → {q : Place} → q ≡ stopped_at p → q ≡ place_after p xs
  place-stays o e =
      let t = next_of p.account (drop p.at xs) in
      e ∙ sym (ap (λ (b : Bool). pick b (moved_by p (kind_at p xs) t.account t.size) (stopped_at p)) o)

  pub row_stays : (sc : Scale) → goes_on_lem p xs ≡ false → row_at sc p xs ≡ []
  row_stays sc o = ap (λ (b : Bool). pick b (row_by sc p.from p.grazed p.account (kind_at p xs)) []) o

  module _ (t : Next) (e : t ≡ next_of p.account (drop p.at xs)) (h : eqb t.size 0 || eqb t.account.stage 3 ≡ false) where
    pub next-stands : Stands p.account (drop p.at xs) t
    next-stands = stands p.account (drop p.at xs) t e (eqb-false _ _ (or_l (eqb t.size 0) _ h))

    pub next-inside : p.at ≤ length xs → p.at + t.size ≤ length xs
    next-inside i = omega (arith, next-stands.inside, length-drop p.at xs, i)
