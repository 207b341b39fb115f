-- The records of some bytes, one after the other, as the code walks over them; and how often one of them stands there.
-- Assumes nothing.
use Prim.Native.Nat.{ℕ, zero, suc, ◌+◌, ◌-◌, ◌≤◌, ◌<◌}
use native.Mathlib.Nat.{sub-zero}
use mathlib.Core.Path.{◌≡◌, refl, sym, ap, ◌∙◌}
use mathlib.Core.List.{List, [], ◌∷◌}
use mathlib.Core.Bool.{Bool, true, false, ◌&&◌, not}
use native.Mathlib.Omega.{arith}
use borrow.Author.Tests.{eq-eqb, ne_eqb}
use lib.ListN.{length, take, drop, length-drop}
use lib.Seq.{drop-drop, length-take-le}
use lib.Dec.{eqb}
use Rattle.base.specs.Choice.{pick}
use Rattle.base.proofs.Tests.{of-choice, not-true, not-false}
use Rattle.account.specs.declared.Account.{Account}
use Rattle.book.specs.Front.{whole, need, front}
use Rattle.book.specs.WholeRecords.{Ready, records_of}
use Rattle.book.proofs.WholeRecords.{records-whole}
use Rattle.book.proofs.RecordRuns.{record-in}
use Rattle.book.proofs.Fronts.{meaning}
use Rattle.compare.specs.declared.places.Place.{Place}
use Rattle.account.specs.Judge.{judge}
use Rattle.walk.specs.Walk.{accepts, Entry, entry_of, records_in, entries_from}
use Rattle.compare.specs.Records.{same}
use Rattle.compare.specs.Moved.{times_in, as_often, all_as_often, same_details}
use Rattle.compare.specs.Places.{left_of, onward}
use Rattle.compare.specs.Plans.{moved_of}
use Rattle.compare.specs.Inner.{Valid}
use Rattle.walk.proofs.Walks.{records-none}
use Rattle.compare.proofs.Onward.{left-onward, take-of-take}

-- a record has a kind
long-enough : (n : ℕ) (r rest : List ℕ) → r ≡ take n rest → n ≤ length rest → 6 ≤ n → 4 ≤ length r
long-enough n r rest e h k = omega (arith, ap length e, length-take-le n rest h)

take_none : (n : ℕ) → take {A = List ℕ} n [] ≡ []
take_none zero = refl
take_none (suc n) = refl

-- ---- a walk over records

-- those of the first many records of xs that stand behind the byte at, i of them being before it
abbrev pub ahead : List ℕ → ℕ → ℕ → ℕ → List (List ℕ)
ahead xs many at i = take (many - i) (records_of (drop at xs))

pub ahead-all : (xs : List ℕ) (many : ℕ) → ahead xs many 0 0 ≡ take many (records_of xs)
ahead-all xs many = rw sub-zero refl

pub ahead-far : (xs : List ℕ) (many at i : ℕ) → many ≤ i → ahead xs many at i ≡ []
ahead-far xs many at i h = let z : many - i ≡ 0 = omega arith in rw z refl

module _ (xs : List ℕ) (at : ℕ) (inside : at ≤ length xs) (rest : List ℕ) (e : rest ≡ drop at xs) (n : ℕ) (y : Ready rest n) where
  pub ahead_none : (many i : ℕ) → n ≡ 0 → ahead xs many at i ≡ []
  ahead_none many i z = rw (← e, records-none rest (y.none z)) (take_none (many - i))

  module _ (some : n ≡ 0 → ⊥) where
    here : (front rest ≡ whole) × (n ≡ need rest)
    here = y.some (omega (arith, some))

    pub size-inside : n ≤ length rest
    size-inside = record-in rest n here.0 here.1

    pub kind-there : (r : List ℕ) → r ≡ take n rest → 4 ≤ length r
    kind-there r q = let m = meaning rest whole here.0 in long-enough n r rest q size-inside (omega (arith, here.1, m.1))

    pub next-inside : at + n ≤ length xs
    next-inside = omega (arith, size-inside, ap length e, length-drop at xs, inside)

    pub ahead-on : (many i : ℕ) → i < many → ahead xs many at i ≡ take n rest ∷ ahead xs many (at + n) (i + 1)
    ahead-on many i h =
        let z : many - i ≡ suc (many - (i + 1)) = omega arith in
        let d : drop n rest ≡ drop (at + n) xs = rw (e, drop-drop) refl in
        let r : records_of rest ≡ take n rest ∷ records_of (drop n rest) = rw here.1 (records-whole rest here.0) in
        rw (← e, z, r, d) refl

-- ---- how often a record stands there

one-counted : (b : Bool) (n t : ℕ) → pick b (n + 1) n + t ≡ n + pick b (t + 1) t
one-counted true n t = omega arith
one-counted false n t = refl

-- n of the first i records of xs are r, up to the byte at; counting those ahead makes the whole
pub record Counting (r xs : List ℕ) (many at i n : ℕ) : Type 0 where
  pub inside : at ≤ length xs
  pub most : n ≤ i
  pub rest : n + times_in r (ahead xs many at i) ≡ times_in r (take many (records_of xs))

pub counting-none : (r xs : List ℕ) (many : ℕ) → Counting r xs many 0 0 0
counting-none r xs many =
    let e = ap (times_in r) (ahead-all xs many) in
    record { inside = omega arith; most = omega arith; rest = omega (arith, e) }

module _ (r xs : List ℕ) (many at i n : ℕ) (c : Counting r xs many at i n) where
  counted-all : ahead xs many at i ≡ [] → n ≡ times_in r (take many (records_of xs))
  unfolding times_in
  counted-all e = let q = c.rest in let z : times_in r (ahead xs many at i) ≡ 0 = rw e refl in omega (arith, q, z)

  pub counting-far : many ≤ i → n ≡ times_in r (take many (records_of xs))
  counting-far h = counted-all (ahead-far xs many at i h)

  module _ (rest : List ℕ) (e : rest ≡ drop at xs) (size : ℕ) (y : Ready rest size) where
    pub counting-ends : size ≡ 0 → n ≡ times_in r (take many (records_of xs))
    counting-ends z = counted-all (ahead_none xs at c.inside rest e size y many i z)

    pub counting-on : (m : ℕ) (x : List ℕ) (b : Bool) → (size ≡ 0 → ⊥) → i < many → x ≡ take size rest → b ≡ same r x → m ≡ pick b (n + 1) n
        → Counting r xs many (at + size) (i + 1) m
    unfolding times_in
    counting-on m x b some h p q k =
        let a : ahead xs many at i ≡ x ∷ ahead xs many (at + size) (i + 1) = rw p (ahead-on xs at c.inside rest e size y some many i h) in
        let t = times_in r (ahead xs many (at + size) (i + 1)) in
        let s : times_in r (ahead xs many at i) ≡ pick b (t + 1) t = rw (a, q) refl in
        let o = one-counted b n t in
        record {
          inside = next-inside xs at c.inside rest e size y some;
          most = rw k (of-choice (λ (l : ℕ). l ≤ i + 1) b (λ z. omega (arith, c.most)) (λ z. omega (arith, c.most)));
          rest = rw k (o ∙ ap (λ (l : ℕ). n + l) (sym s) ∙ c.rest);
        }

-- ---- each of them

-- those of the first i records of xs are as they should be; asking those ahead makes the whole
pub record Asking (xs : List ℕ) (ss : List (List ℕ)) (many at i : ℕ) : Type 0 where
  pub inside : at ≤ length xs
  pub rest : all_as_often (take many (records_of xs)) ss (ahead xs many at i) ≡ all_as_often (take many (records_of xs)) ss
      (take many (records_of xs))

pub asking-none : (xs : List ℕ) (ss : List (List ℕ)) (many : ℕ) → Asking xs ss many 0 0
asking-none xs ss many = record { inside = omega arith; rest = rw (ahead-all xs many) refl }

module _ (xs : List ℕ) (ss : List (List ℕ)) (many at i : ℕ) (c : Asking xs ss many at i) where
  asked-all : ahead xs many at i ≡ [] → true ≡ all_as_often (take many (records_of xs)) ss (take many (records_of xs))
  unfolding all_as_often
  asked-all e = rw e at c.rest

  pub asking-far : many ≤ i → true ≡ all_as_often (take many (records_of xs)) ss (take many (records_of xs))
  asking-far h = asked-all (ahead-far xs many at i h)

  module _ (rest : List ℕ) (e : rest ≡ drop at xs) (size : ℕ) (y : Ready rest size) where
    pub asking-ends : size ≡ 0 → true ≡ all_as_often (take many (records_of xs)) ss (take many (records_of xs))
    asking-ends z = asked-all (ahead_none xs at c.inside rest e size y many i z)

    module _ (x : List ℕ) (some : size ≡ 0 → ⊥) (h : i < many) (p : x ≡ take size rest) where
      next-asked : all_as_often (take many (records_of xs)) ss (ahead xs many at i)
          ≡ as_often (take many (records_of xs)) ss x && all_as_often (take many (records_of xs)) ss (ahead xs many (at + size) (i + 1))
      unfolding all_as_often
      next-asked =
          let a : ahead xs many at i ≡ x ∷ ahead xs many (at + size) (i + 1) = rw p (ahead-on xs at c.inside rest e size y some many i h) in
          rw a refl

      pub asking-stops : (b : Bool) → b ≡ as_often (take many (records_of xs)) ss x → not b ≡ true
          → false ≡ all_as_often (take many (records_of xs)) ss (take many (records_of xs))
      asking-stops b q f = rw (next-asked, ← q, not-true b f) at c.rest

      pub asking-on : (b : Bool) → b ≡ as_often (take many (records_of xs)) ss x → not b ≡ false → Asking xs ss many (at + size) (i + 1)
      asking-on b q f =
          record { inside = next-inside xs at c.inside rest e size y some; rest = rw (next-asked, ← q, not-false b f) at c.rest }

-- ---- the records between, as the code finds them

first-records : (a : Account) (rs : List (List ℕ)) (m : ℕ) → m ≤ length (entries_from a rs) → take m rs ≡ records_in (take m (entries_from a rs))
unfolding entries_from records_in
first-records a rs zero h = refl
first-records a [] (suc m) h = absurd (omega arith)
first-records a (r ∷ rs) (suc m) h = go (λ k. first-records (judge a r).account rs m k) (accepts a r) h
  where
    go : (m ≤ length (entries_from (judge a r).account rs) → take m rs ≡ records_in (take m (entries_from (judge a r).account rs)))
        → (b : Bool) → suc m ≤ length (pick b (entry_of a r ∷ entries_from (judge a r).account rs) [])
        → r ∷ take m rs ≡ records_in (take (suc m) (pick b (entry_of a r ∷ entries_from (judge a r).account rs) []))
    go ih true h = ap (λ (l : List (List ℕ)). r ∷ l) (ih (omega (arith, h)))
    go ih false h = absurd (omega (arith, h))

-- of the n records after a place those after the first ones, as the code finds them
pub records-at : (xs rest : List ℕ) (p : Place) (k n o back : ℕ) (c : Place) → Valid xs p → n ≤ length (left_of xs p)
    → c ≡ onward k xs p → rest ≡ drop c.at xs → o ≡ n - k - back
    → take o (records_of rest) ≡ records_in (take o (drop k (take n (left_of xs p))))
records-at xs rest p k n o back c v h e f g =
    let left : left_of xs c ≡ drop k (left_of xs p) = ap (left_of xs) e ∙ left-onward k xs p v in
    let l : o ≤ length (left_of xs c) = rw left (omega (arith, g, h, length-drop k (left_of xs p))) in
    rw f (first-records c.account (records_of (drop c.at xs)) o l)
    ∙ ap (λ (es : List Entry). records_in (take o es)) left
    ∙ ap records_in (sym (take-of-take o k n (left_of xs p) (omega (arith, g))))

-- ---- by their tests

pub often-none : (b detail t : Bool) → b ≡ detail → not b ≡ true → false ≡ detail && t
often-none b detail t e h = rw (← e, not-true b h) refl

pub often-some : (b detail : Bool) (n m k l : ℕ) → b ≡ detail → not b ≡ false → n ≡ k → m ≡ l → eqb n m ≡ detail && eqb k l
often-some b detail n m k l e h p q = rw (← e, not-false b h, p, q) refl

module _ (rs ss : List (List ℕ)) (b : Bool) (e : b ≡ all_as_often rs ss rs) where
  pub details-none : not b ≡ true → false ≡ same_details rs ss
  details-none h = rw (← e, not-true b h) refl

  pub details-some : (d : Bool) → not b ≡ false → d ≡ all_as_often ss rs ss → d ≡ same_details rs ss
  details-some d h p = rw (← e, not-false b h) p

pub moved_none : (n k front back o : ℕ) (t : Bool) → n ≡ k → o ≡ n - front - back → o ≡ 0 → false ≡ not (eqb (k - front - back) 0) && t
moved_none n k front back o t e f z = let q : k - front - back ≡ 0 = ap (λ (l : ℕ). l - front - back) (sym e) ∙ sym f ∙ z in rw q refl

module _ (es ns : List Entry) (front back n o m p : ℕ) (e : n ≡ length es) (f : o ≡ n - front - back) (z : o ≡ 0 → ⊥) (g : m ≡ length ns) where
  some-between : eqb (length es - front - back) 0 ≡ false
  some-between = ne_eqb _ _ (λ w. z (f ∙ ap (λ (l : ℕ). l - front - back) e ∙ w))

  pub moved-uneven : (n ≡ m → ⊥) → false ≡ moved_of front back es ns
  moved-uneven h = let u : eqb (length es) (length ns) ≡ false = ne_eqb _ _ (λ w. h (e ∙ w ∙ sym g)) in rw (some-between, u) refl

  pub moved-some : (rs ss : List (List ℕ)) (b : Bool) → n ≡ m → p ≡ m - front - back
      → rs ≡ records_in (take o (drop front es)) → ss ≡ records_in (take p (drop front ns)) → b ≡ same_details rs ss → b ≡ moved_of front back es ns
  moved-some rs ss b d h k l q =
      let x : o ≡ length es - front - back = f ∙ ap (λ (l : ℕ). l - front - back) e in
      let y : p ≡ length ns - front - back = h ∙ ap (λ (l : ℕ). l - front - back) g in
      let u : eqb (length es) (length ns) ≡ true = eq-eqb _ _ (sym e ∙ d ∙ g) in
      rw (some-between, u, ← x, ← y, ← k, ← l) q
