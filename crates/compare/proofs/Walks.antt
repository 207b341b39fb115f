-- A walk through a book, place after place.
-- Assumes nothing.
use Prim.Native.Nat.{ℕ, zero, suc, ◌+◌, ◌-◌, ◌≤◌, ◌<◌}
use mathlib.Core.Path.{◌≡◌, refl, sym, ap, ◌∙◌}
use mathlib.Core.List.{List, [], ◌∷◌}
use mathlib.Core.Bool.{Bool, true, false, ◌&&◌}
use native.Mathlib.Omega.{arith}
use native.Mathlib.Nat.{sub-zero}
use borrow.Author.Tests.{leb-true}
use lib.ListN.{length, take, drop, length-drop, drop_of_length-le}
use lib.Seq.{drop-drop, length-take-le}
use lib.Dec.{leb}
use Rattle.base.proofs.Tests.{and_l, and_r}
use Rattle.account.specs.Range.{account_in_range}
use Rattle.account.proofs.Clauses.{in-range-parts}
use Rattle.account.proofs.Keeps.{in-range-none}
use Rattle.walk.specs.Walk.{Entry, entry_of}
use Rattle.walk.proofs.Walks.{entries-nil}
use Rattle.compare.specs.declared.places.Place.{Place}
use Rattle.compare.specs.declared.places.Taken.{Taken}
use Rattle.compare.specs.Inner.{Valid, Turned}
use Rattle.compare.specs.Places.{start, left_of, one_on_lem, onward, stands_in, ends, part_of}

pub valid-start : (xs : List ℕ) → Valid xs start
valid-start xs = record { range = in-range-none; few = omega arith; inside = omega arith }

pub valid-stands : (xs : List ℕ) (p : Place) → stands_in xs p ≡ true → Valid xs p
valid-stands xs p e =
    let l = and_r (account_in_range p.account) (leb p.number p.at && leb p.at (length xs)) e in
    record {
      range = in-range-parts p.account (and_l (account_in_range p.account) (leb p.number p.at && leb p.at (length xs)) e);
      few = leb-true p.number p.at (and_l (leb p.number p.at) (leb p.at (length xs)) l);
      inside = leb-true p.at (length xs) (and_r (leb p.number p.at) (leb p.at (length xs)) l);
    }

-- no bytes are left
pub left-none : (xs : List ℕ) (p : Place) → length xs ≤ p.at → left_of xs p ≡ []
left-none xs p h = rw (drop_of_length-le xs {i = p.at} h) (entries-nil p.account)

-- a record has a kind
pub long-enough : (n : ℕ) (r rest : List ℕ) → r ≡ take n rest → n ≤ length rest → 6 ≤ n → 4 ≤ length r
long-enough n r rest e h k = omega (arith, ap length e, length-take-le n rest h)

-- ---- one record, as the code finds it

module _ (xs : List ℕ) (p : Place) (v : Valid xs p) (t : Taken) (u : Turned p.account (drop p.at xs) t) where
  -- there is none
  pub stays : t.n ≡ 0 → one_on_lem xs p ≡ p
  stays z = rw (u.none z) refl

  pub none_left : t.n ≡ 0 → left_of xs p ≡ []
  none_left z = u.ended z

  module _ (k : 0 < t.n) where
    pub passed_on : record { account = t.next; at = p.at + t.n; number = p.number + 1 } ≡ one_on_lem xs p
    passed_on = rw (u.found k, u.account k, u.size k) refl

    pub passed-at : (s : Place) → s ≡ one_on_lem xs p → s.at ≡ p.at + t.n
    passed-at s e = ap (λ (q : Place). q.at) (e ∙ sym passed_on)

    pub passed-inside : p.at + t.n ≤ length xs
    passed-inside = omega (arith, u.inside, length-drop p.at xs, v.inside)

    pub passed-valid : Valid xs (record { account = t.next; at = p.at + t.n; number = p.number + 1 })
    passed-valid = record { range = u.range; few = omega (arith, v.few, u.some k); inside = passed-inside }

    pub passed-left : left_of xs p ≡ entry_of p.account (take t.n (drop p.at xs)) ∷ left_of xs (one_on_lem xs p)
    passed-left =
        let d : drop t.n (drop p.at xs) ≡ drop (p.at + t.n) xs = drop-drop t.n p.at xs in
        (rw d at (u.goes k)) ∙ ap (λ (q : Place). entry_of p.account (take t.n (drop p.at xs)) ∷ left_of xs q) passed_on

-- ---- the next k records, as the code finds them

onward-same : (k : ℕ) (xs : List ℕ) (p : Place) → one_on_lem xs p ≡ p → onward k xs p ≡ p
unfolding onward
onward-same zero xs p e = refl
onward-same (suc k) xs p e = ap (onward k xs) e ∙ onward-same k xs p e

onward-one : (k : ℕ) (xs : List ℕ) (p : Place) (n : ℕ) → n ≡ suc k → onward n xs p ≡ onward k xs (one_on_lem xs p)
unfolding onward
onward-one k xs p n e = rw e refl

onward-none : (k : ℕ) (xs : List ℕ) (p : Place) → k ≡ 0 → onward k xs p ≡ p
unfolding onward
onward-none k xs p e = rw e refl

-- i of the k records are passed
pub record Reaching (xs : List ℕ) (p : Place) (k : ℕ) (q : Place) (i : ℕ) : Type 0 where
  pub few : i ≤ k
  pub valid : Valid xs q
  pub rest : onward (k - i) xs q ≡ onward k xs p

pub reaching-none : (xs : List ℕ) (p : Place) (k : ℕ) → Valid xs p → Reaching xs p k p 0
reaching-none xs p k v = record { few = omega arith; valid = v; rest = rw sub-zero refl }

pub reaching-far : (xs : List ℕ) (p : Place) (k : ℕ) (q : Place) (i : ℕ) → Reaching xs p k q i → k ≤ i → (q ≡ onward k xs p) × Valid xs q
reaching-far xs p k q i r h =
    let z : k - i ≡ 0 = omega (arith, h) in
    (sym (onward-none (k - i) xs q z) ∙ r.rest, r.valid)

module _ (xs : List ℕ) (p : Place) (k : ℕ) (q : Place) (i : ℕ) (r : Reaching xs p k q i) (t : Taken)
    (u : Turned q.account (drop q.at xs) t) where
  pub reaching-out : t.n ≡ 0 → (q ≡ onward k xs p) × Valid xs q
  reaching-out z = (sym (onward-same (k - i) xs q (stays xs q r.valid t u z)) ∙ r.rest, r.valid)

  pub reaching-on : (s : Place) → i < k → s ≡ one_on_lem xs q → Valid xs s → Reaching xs p k s (i + 1)
  reaching-on s h e v =
      let n : k - i ≡ suc (k - (i + 1)) = omega (arith, h) in
      record {
        few = omega (arith, h);
        valid = v;
        rest = ap (onward (k - (i + 1)) xs) e ∙ sym (onward-one (k - (i + 1)) xs q (k - i) n) ∙ r.rest;
      }

-- ---- the end of a part, as the code finds it

abbrev part_length_lem : List ℕ → Place → ℕ
part_length_lem xs p = length (part_of (left_of xs p))

-- a part that ends at once
part-stops : (es : List Entry) → es ≡ [] → length (part_of es) ≡ 0
unfolding part_of
part-stops es e = rw e refl

part-ends : (es : List Entry) (e : Entry) (l : List Entry) → es ≡ e ∷ l → ends e ≡ true → length (part_of es) ≡ 0
unfolding part_of
part-ends es e l q h = rw (q, h) refl

part-goes : (es : List Entry) (e : Entry) (l : List Entry) → es ≡ e ∷ l → ends e ≡ false → length (part_of es) ≡ suc (length (part_of l))
unfolding part_of
part-goes es e l q h = rw (q, h) refl

-- the walk stands at q, in the part after p
pub record InPart (xs : List ℕ) (p q : Place) : Type 0 where
  pub valid : Valid xs q
  pub rest : onward (part_length_lem xs q) xs q ≡ onward (part_length_lem xs p) xs p
  pub number : q.number + part_length_lem xs q ≡ p.number + part_length_lem xs p

-- and it is at its end
pub record AtEnd (xs : List ℕ) (p q : Place) : Type 0 where
  pub is : q ≡ onward (part_length_lem xs p) xs p
  pub valid : Valid xs q
  pub number : q.number ≡ p.number + part_length_lem xs p

pub part_none : (xs : List ℕ) (p : Place) → Valid xs p → InPart xs p p
part_none xs p v = record { valid = v; rest = refl; number = refl }

part-over : (xs : List ℕ) (p q : Place) → InPart xs p q → part_length_lem xs q ≡ 0 → AtEnd xs p q
part-over xs p q w z =
    record {
      is = sym (onward-none (part_length_lem xs q) xs q z) ∙ w.rest;
      valid = w.valid;
      number = omega (arith, w.number, z);
    }

pub part-far : (xs : List ℕ) (p q : Place) → InPart xs p q → length xs ≤ q.at → AtEnd xs p q
part-far xs p q w h = part-over xs p q w (part-stops (left_of xs q) (left-none xs q h))

module _ (xs : List ℕ) (p q : Place) (w : InPart xs p q) (t : Taken) (u : Turned q.account (drop q.at xs) t) where
  pub part_out : t.n ≡ 0 → AtEnd xs p q
  part_out z = part-over xs p q w (part-stops (left_of xs q) (u.ended z))

  module _ (k : 0 < t.n) (b : Bool) (e : b ≡ ends (entry_of q.account (take t.n (drop q.at xs)))) where
    pub part_end : b ≡ true → AtEnd xs p q
    part_end h = part-over xs p q w (part-ends (left_of xs q) _ _ (passed-left xs q w.valid t u k) (sym e ∙ h))

    pub part-on : (s : Place) → b ≡ false → s ≡ one_on_lem xs q → Valid xs s → InPart xs p s
    part-on s h f v =
        let n : part_length_lem xs q ≡ suc (part_length_lem xs (one_on_lem xs q)) = part-goes (left_of xs q) _ _ (passed-left xs q w.valid t u k)
        (sym e ∙ h) in
        let m : s.number ≡ q.number + 1 = ap (λ (x : Place). x.number) (f ∙ sym (passed_on xs q w.valid t u k)) in
        let l : part_length_lem xs s ≡ part_length_lem xs (one_on_lem xs q) = ap (part_length_lem xs) f in
        record {
          valid = v;
          rest = ap (λ (x : Place). onward (part_length_lem xs x) xs x) f
              ∙ sym (onward-one (part_length_lem xs (one_on_lem xs q)) xs q (part_length_lem xs q) n) ∙ w.rest;
          number = omega (arith, w.number, n, m, l);
        }
