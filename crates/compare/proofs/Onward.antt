-- What is left after the next records, and runs of them.
-- Assumes nothing.
use Prim.Native.Nat.{ℕ, zero, suc, ◌+◌, ◌-◌, ◌≤◌, min}
use mathlib.Core.Path.{◌≡◌, refl, sym, ap, ◌∙◌}
use mathlib.Core.List.{List, [], ◌∷◌}
use mathlib.Core.Bool.{true, false}
use native.Mathlib.Omega.{arith}
use native.Mathlib.Nat.{sub-zero}
use borrow.Author.Tests.{eqb-false}
use lib.ListN.{length, take, drop, length-drop}
use lib.Seq.{drop-drop, take-nil, take-take}
use lib.Dec.{eqb}
use Rattle.base.proofs.Tests.{by-test, neither}
use Rattle.account.proofs.Keeps.{in-range-judge}
use Rattle.account.specs.Range.{AccountInRange}
use Rattle.walk.specs.declared.Next.{Next}
use Rattle.walk.specs.Walk.{Entry, next_of}
use Rattle.walk.proofs.Walks.{stands, entries_next, entries-end}
use Rattle.compare.specs.declared.places.Place.{Place}
use Rattle.compare.specs.Inner.{Valid}
use Rattle.compare.specs.Places.{left_of, stops_at, one_on_lem, onward}

-- ---- lists

pub drop_of_take : (k n : ℕ) (es : List Entry) → drop k (take n es) ≡ take (n - k) (drop k es)
drop_of_take zero n es = rw sub-zero refl
drop_of_take (suc k) zero es = let z : zero - suc k ≡ 0 = omega arith in rw z refl
drop_of_take (suc k) (suc n) [] = sym (take-nil (suc n - suc k))
drop_of_take (suc k) (suc n) (e ∷ es) = let z : suc n - suc k ≡ n - k = omega arith in rw z (drop_of_take k n es)

pub take-of-take : (o k n : ℕ) (es : List Entry) → o ≤ n - k → take o (drop k (take n es)) ≡ take o (drop k es)
take-of-take o k n es h = ap (λ (l : List Entry). take o l) (drop_of_take k n es) ∙ take-take o (n - k) (drop k es) h

-- ---- one record on

module _ (xs : List ℕ) (p : Place) (v : Valid xs p) where
  abbrev t : Next
  t = next_of p.account (drop p.at xs)

  -- what is known after it
  record OneOn : Type 0 where
    valid : Valid xs (one_on_lem xs p)
    left : left_of xs (one_on_lem xs p) ≡ drop 1 (left_of xs p)
    number : (one_on_lem xs p).number ≡ p.number + min 1 (length (left_of xs p))

  one_none : stops_at p.account (drop p.at xs) ≡ true → OneOn
  one_none e =
      let n : left_of xs p ≡ [] = entries-end p.account (drop p.at xs) t refl e in
      let l = ap length n in
      record {
        valid = rw e v;
        left = rw (e, n) refl;
        number = rw e (omega (arith, l));
      }

  one-some : stops_at p.account (drop p.at xs) ≡ false → OneOn
  one-some e =
      let b = neither (eqb t.size 0) (eqb t.account.stage 3) e in
      let some : t.size ≡ 0 → ⊥ = eqb-false t.size 0 b.0 in
      let s = stands p.account (drop p.at xs) t refl some in
      let n = entries_next p.account (drop p.at xs) t refl some (eqb-false t.account.stage 3 b.1) in
      let d : drop t.size (drop p.at xs) ≡ drop (p.at + t.size) xs = drop-drop t.size p.at xs in
      let r : AccountInRange t.account = rw s.account (in-range-judge p.account _ v.range s.early) in
      let l = ap length n in
      record {
        valid = rw e (record { range = r; few = omega (arith, v.few, s.least); inside = omega (arith, s.inside, length-drop p.at xs, v.inside) });
        left = rw (e, n, ← d) refl;
        number = rw e (omega (arith, l));
      }

  one_on : OneOn
  one_on = by-test (stops_at p.account (drop p.at xs)) one_none one-some

pub valid-one : (xs : List ℕ) (p : Place) → Valid xs p → Valid xs (one_on_lem xs p)
valid-one xs p v = (one_on xs p v).valid

pub left_one : (xs : List ℕ) (p : Place) → Valid xs p → left_of xs (one_on_lem xs p) ≡ drop 1 (left_of xs p)
left_one xs p v = (one_on xs p v).left

-- ---- k records on

pub valid-onward : (k : ℕ) (xs : List ℕ) (p : Place) → Valid xs p → Valid xs (onward k xs p)
unfolding onward
valid-onward zero xs p v = v
valid-onward (suc k) xs p v = valid-onward k xs (one_on_lem xs p) (valid-one xs p v)

pub left-onward : (k : ℕ) (xs : List ℕ) (p : Place) → Valid xs p → left_of xs (onward k xs p) ≡ drop k (left_of xs p)
unfolding onward
left-onward zero xs p v = refl
left-onward (suc k) xs p v =
    let e : 1 + k ≡ suc k = omega arith in
    left-onward k xs (one_on_lem xs p) (valid-one xs p v) ∙ ap (λ (es : List Entry). drop k es) (left_one xs p v) ∙ drop-drop k 1 (left_of xs p)
    ∙ ap (λ (n : ℕ). drop n (left_of xs p)) e

pub number-onward : (k : ℕ) (xs : List ℕ) (p : Place) → Valid xs p → (onward k xs p).number ≡ p.number + min k (length (left_of xs p))
unfolding onward
number-onward zero xs p v = omega arith
number-onward (suc k) xs p v =
    let i = number-onward k xs (one_on_lem xs p) (valid-one xs p v) in
    let n = (one_on xs p v).number in
    let l : length (left_of xs (one_on_lem xs p)) ≡ length (left_of xs p) - 1 = ap length (left_one xs p v) ∙ length-drop 1 (left_of xs p) in
    omega (arith, i, n, l)
