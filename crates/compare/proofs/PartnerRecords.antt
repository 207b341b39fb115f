-- Laws of partners: where records begin, one of them taken out, and that runs in which each has a partner are the same.
-- Assumes nothing.
use Prim.Native.Nat.{ℕ, zero, suc, ◌+◌, ◌≤◌, ◌<◌}
use mathlib.Core.Path.{◌≡◌, refl, sym, ap, ◌∙◌}
use mathlib.Core.List.{List, [], ◌∷◌, ◌++◌, append_assoc, append-nil}
use mathlib.Core.Bool.{Bool, true, false, not}
use native.Mathlib.Omega.{arith}
use native.Mathlib.Numerals.{add-one}
use borrow.Author.Tests.{eq-eqb}
use lib.ListN.{length, take, drop, set, get_or, length-set, length-append, drop_of_length-le}
use lib.Seq.{length-take-le, take-suc-set, take-set-lt}
use lib.Dec.{eqb}
use Rattle.base.specs.Choice.{pick}
use Rattle.base.proofs.Tests.{by-test, no_bool, not-true, not-false, and-false}
use Rattle.book.specs.WholeRecords.{Ready, records_of}
use Rattle.book.proofs.Fronts.{front-none}
use Rattle.promises.specs.WholeLines.{is_detail}
use Rattle.walk.proofs.Walks.{records-none}
use Rattle.compare.specs.Records.{same}
use Rattle.compare.specs.Moved.{times_in, as_often, all_as_often, same_details}
use Rattle.compare.specs.InnerMoved.{found_at, stands_at, LeadsTo, all_found_at, Noted, OneMore, Takes}
use Rattle.compare.proofs.SameBytes.{same_self, same_true}
use Rattle.compare.proofs.MovedRecords.{ahead, ahead-all, ahead-far, ahead_none, ahead-on, next-inside}

-- ---- the record at a place

pub found_none : (ys : List ℕ) (p : ℕ) → length ys ≤ p → found_at ys p ≡ []
found_none ys p h =
    let e : records_of [] ≡ [] = records-none [] (λ f. let q : ◌≡◌ {A = ℕ} 0 1 = cc (f, front-none) in absurd (omega (arith, q))) in
    rw (drop_of_length-le ys h, e) refl

pub stands-none : (r ys : List ℕ) (p : ℕ) → length ys < p → false ≡ stands_at r ys p
unfolding times_in
stands-none r ys p h = rw (found_none ys p (omega (arith, h))) refl

pub stands-some : (r ys rest : List ℕ) (p n : ℕ) → rest ≡ drop p ys → n ≡ times_in r (take 1 (records_of rest)) → eqb n 1 ≡ stands_at r ys p
stands-some r ys rest p n e f = rw (← e, f) refl

-- a single record of which r is one is r
single : (r : List ℕ) (rs : List (List ℕ)) → eqb (times_in r (take 1 rs)) 1 ≡ true → take 1 rs ≡ r ∷ []
unfolding times_in
single r [] e = no_bool e
single r (x ∷ xs) e = go (same r x) refl e
  where
    go : (b : Bool) → same r x ≡ b → eqb (pick b 1 0) 1 ≡ true → x ∷ [] ≡ r ∷ []
    go true f e = rw (same_true r x f) refl
    go false f e = no_bool e

found_some : (r ys : List ℕ) (p : ℕ) → stands_at r ys p ≡ true → found_at ys p ≡ r ∷ []
found_some r ys p e = single r (records_of (drop p ys)) e

-- ---- one taken out

swapped : (a b : Bool) (t : ℕ) → pick a (pick b (t + 1) t + 1) (pick b (t + 1) t) ≡ pick b (pick a (t + 1) t + 1) (pick a (t + 1) t)
swapped true true t = refl
swapped true false t = refl
swapped false true t = refl
swapped false false t = refl

after : (p : List (List ℕ)) (r : List ℕ) (rs ss : List (List ℕ)) → OneMore r rs ss → OneMore r (p ++ rs) (p ++ ss)
unfolding times_in
after [] r rs ss o = o
after (x ∷ p) r rs ss o =
    let q = after p r rs ss o in
    record { times = λ s. rw (q.times s) (swapped (same s x) (same s r) (times_in s (p ++ ss))); count = ap suc q.count }

taken_out : (r ys ps : List ℕ) (j v : ℕ) → j < length ps → found_at ys (get_or ps j 0) ≡ r ∷ [] → found_at ys v ≡ []
    → OneMore r (all_found_at ys ps) (all_found_at ys (set ps j v))
unfolding all_found_at
taken_out r ys [] j v h e f = absurd (omega (arith, h))
taken_out r ys (p ∷ ps) zero v h e f = rw (e, f) (record { times = λ s. refl; count = refl })
taken_out r ys (p ∷ ps) (suc j) v h e f = after (found_at ys p) r _ _ (taken_out r ys ps j v (omega (arith, h)) e f)

module _ (r ys places : List ℕ) (many : ℕ) (size : length places ≡ 4096) where
  pub takes_none : Takes r ys many places places false
  takes_none = record { size = size; detail = λ e. no_bool e; one = λ e. no_bool e }

  pub takes-some : (links : List ℕ) (link : ℕ) (d : Bool) → many ≤ 4096 → LeadsTo r ys (take many places) links link → d ≡ is_detail r → d ≡ true
      → Takes r ys many places (set places (get_or links link 0) (length ys)) true
  takes-some links link d h k g o =
      let j = get_or links link 0 in
      let l : length (take many places) ≡ many = length-take-le many places (omega (arith, size, h)) in
      let q = found_some r ys (get_or (take many places) j 0) k.same in
      let t = taken_out r ys (take many places) j (length ys) k.noted q (found_none ys (length ys) (omega arith)) in
      record {
        size = length-set places j (length ys) ∙ size;
        detail = λ z. sym g ∙ o;
        one = λ z. rw (take-set-lt many places j (length ys) (omega (arith, l, k.noted))) t;
      }

-- ---- the places noted

all-found-end : (ys ps : List ℕ) (p : ℕ) → all_found_at ys (ps ++ (p ∷ [])) ≡ all_found_at ys ps ++ found_at ys p
unfolding all_found_at
all-found-end ys [] p = append-nil (found_at ys p)
all-found-end ys (q ∷ ps) p = ap (λ (l : List (List ℕ)). found_at ys q ++ l) (all-found-end ys ps p) ∙ sym (append_assoc (found_at ys q) _ _)

-- i places are noted, up to the byte at; those of the records ahead make the whole
pub record Noting (ys : List ℕ) (n : ℕ) (places links : List ℕ) (at i : ℕ) : Type 0 where
  pub inside : at ≤ length ys
  pub most : i ≤ n
  pub few : n ≤ 4096
  pub size : length places ≡ 4096
  pub linked : length links ≡ 8192
  pub all : all_found_at ys (take i places) ++ ahead ys n at i ≡ take n (records_of ys)
  pub count : length (all_found_at ys (take i places)) ≡ i

pub noting-none : (ys : List ℕ) (n : ℕ) (places links : List ℕ) → n ≤ 4096 → length places ≡ 4096 → length links ≡ 8192
    → Noting ys n places links 0 0
unfolding all_found_at
noting-none ys n places links few p l =
    record { inside = omega arith; most = omega arith; few = few; size = p; linked = l; all = ahead-all ys n; count = refl }

module _ (ys : List ℕ) (n : ℕ) (places links : List ℕ) (at i : ℕ) (c : Noting ys n places links at i) where
  noted-all : ahead ys n at i ≡ [] → Noted ys n places i
  noted-all e =
      let a : all_found_at ys (take i places) ≡ take n (records_of ys) = sym (append-nil _) ∙ (rw e at c.all) in
      record { size = c.size; most = omega (arith, c.most, c.few); all = a; count = ap length (sym a) ∙ c.count }

  pub noting-far : n ≤ i → Noted ys n places i
  noting-far h = noted-all (ahead-far ys n at i h)

  module _ (rest : List ℕ) (e : rest ≡ drop at ys) (size : ℕ) (y : Ready rest size) where
    pub noting-ends : size ≡ 0 → Noted ys n places i
    noting-ends z = noted-all (ahead_none ys at c.inside rest e size y n i z)

    pub noting-on : (links₂ : List ℕ) → (size ≡ 0 → ⊥) → i < n → length links₂ ≡ 8192
        → Noting ys n (set places i at) links₂ (at + size) (i + 1)
    noting-on links₂ some h l =
        let one : found_at ys at ≡ take size rest ∷ [] = ahead-on ys at c.inside rest e size y some 1 0 (omega arith) in
        let more = ahead-on ys at c.inside rest e size y some n i h in
        let t : take (i + 1) (set places i at) ≡ take i places ++ (at ∷ []) =
        rw (add-one i) (take-suc-set places i at (omega (arith, h, c.few, c.size))) in
        let a : all_found_at ys (take (i + 1) (set places i at)) ≡ all_found_at ys (take i places) ++ (take size rest ∷ []) =
        rw t (rw one at (all-found-end ys (take i places) at)) in
        record {
          inside = next-inside ys at c.inside rest e size y some;
          most = omega (arith, h);
          few = c.few;
          size = length-set places i at ∙ c.size;
          linked = l;
          all = rw a (append_assoc (all_found_at ys (take i places)) _ _ ∙ (rw more at c.all));
          count = rw a (length-append (all_found_at ys (take i places)) _ ∙ ap (λ (k : ℕ). k + 1) c.count);
        }

-- ---- each has a partner

counted-self : (x : List ℕ) (xs : List (List ℕ)) → times_in x (x ∷ xs) ≡ times_in x xs + 1
unfolding times_in
counted-self x xs = rw (same_self x) refl

counted-less : (s x : List ℕ) (xs : List (List ℕ)) → times_in s xs ≤ times_in s (x ∷ xs)
unfolding times_in
counted-less s x xs = go (same s x)
  where
    go : (b : Bool) → times_in s xs ≤ pick b (times_in s xs + 1) (times_in s xs)
    go true = omega arith
    go false = omega arith

-- as often for every record, and none but details: so each stands as often
all-as-often : (rs ss : List (List ℕ)) → ((s : List ℕ) → times_in s rs ≡ times_in s ss) → ((s : List ℕ) → is_detail s ≡ false → times_in s rs ≡ 0)
    → (xs : List (List ℕ)) → ((s : List ℕ) → times_in s xs ≤ times_in s rs) → all_as_often rs ss xs ≡ true
unfolding all_as_often
all-as-often rs ss e d [] h = refl
all-as-often rs ss e d (x ∷ xs) h =
    let det : is_detail x ≡ true = by-test (is_detail x) (λ y. y) (λ f. absurd (omega (arith, d x f, h x, counted-self x xs))) in
    let rest = all-as-often rs ss e d xs (λ s. omega (arith, counted-less s x xs, h s)) in
    rw (det, eq-eqb _ _ (e x), rest) refl

same-counts : (rs ss : List (List ℕ)) → ((s : List ℕ) → times_in s rs ≡ times_in s ss) → ((s : List ℕ) → is_detail s ≡ false → times_in s rs ≡ 0)
    → true ≡ same_details rs ss
same-counts rs ss e d =
    let p = all-as-often rs ss e d rs (λ s. omega arith) in
    let q = all-as-often ss rs (λ s. sym (e s)) (λ s f. sym (e s) ∙ d s f) ss (λ s. omega arith) in
    rw (p, q) refl

-- ---- one record after the other takes its partner

none_left : (rs : List (List ℕ)) → length rs ≡ 0 → rs ≡ []
none_left [] e = refl
none_left (r ∷ rs) e = absurd (omega (arith, e))

one_less : (b : Bool) (a u v t : ℕ) → pick b (a + 1) a + u ≡ v + pick b (t + 1) t → a + u ≡ v + t
one_less true a u v t e = omega (arith, e)
one_less false a u v t e = e

-- one that is no detail is no detail's partner
not-counted : (s x : List ℕ) (xs : List (List ℕ)) → is_detail s ≡ false → is_detail x ≡ true → times_in s (x ∷ xs) ≡ times_in s xs
unfolding times_in
not-counted s x xs f e =
    let n : same s x ≡ false = by-test (same s x) (λ t. no_bool (sym f ∙ ap is_detail (same_true s x t) ∙ e)) (λ t. t) in
    rw n refl

-- the first i records of xs are details and have taken their partners: what is left is as often ahead; where one ahead is not as often, not all are
pub record Taking (xs : List ℕ) (m : ℕ) (ys : List ℕ) (n : ℕ) (places links : List ℕ) (at i : ℕ) : Type 0 where
  pub inside : at ≤ length xs
  pub few : m ≤ 4096
  pub size : length places ≡ 4096
  pub linked : length links ≡ 8192
  pub counts : (s : List ℕ) → times_in s (ahead xs m at i) + times_in s (take n (records_of ys))
      ≡ times_in s (take m (records_of xs)) + times_in s (all_found_at ys (take m places))
  pub details : (s : List ℕ) → is_detail s ≡ false → times_in s (take m (records_of xs)) ≡ times_in s (ahead xs m at i)
  pub stops : all_as_often (take m (records_of xs)) (take n (records_of ys)) (ahead xs m at i) ≡ false
      → all_as_often (take m (records_of xs)) (take n (records_of ys)) (take m (records_of xs)) ≡ false
  pub count : length (all_found_at ys (take m places)) + i ≡ m

pub taking-none : (xs : List ℕ) (m : ℕ) (ys : List ℕ) (n : ℕ) (places links : List ℕ) → Noted ys n places m → length links ≡ 8192
    → Taking xs m ys n places links 0 0
taking-none xs m ys n places links p l =
    let a = ahead-all xs m in
    record {
      inside = omega arith;
      few = p.most;
      size = p.size;
      linked = l;
      counts = λ s. rw (a, p.all) refl;
      details = λ s f. ap (times_in s) (sym a);
      stops = λ f. rw a at f;
      count = omega (arith, ap length p.all, p.count);
    }

module _ (xs : List ℕ) (m : ℕ) (ys : List ℕ) (n : ℕ) (places links : List ℕ) (at i : ℕ) (c : Taking xs m ys n places links at i) where
  pub taking-far : m ≤ i → true ≡ same_details (take m (records_of xs)) (take n (records_of ys))
  unfolding times_in
  taking-far h =
      let a = ahead-far xs m at i h in
      let left : all_found_at ys (take m places) ≡ [] = none_left _ (omega (arith, c.count, h)) in
      same-counts _ _
      (λ s. let k : 0 + times_in s (take n (records_of ys)) ≡ times_in s (take m (records_of xs)) + 0 = rw (a, left) at (c.counts s) in
      omega (arith, k))
      (λ s f. c.details s f ∙ ap (times_in s) a)

  module _ (rest : List ℕ) (e : rest ≡ drop at xs) (size : ℕ) (y : Ready rest size) (some : size ≡ 0 → ⊥) (h : i < m) (x : List ℕ)
      (p : x ≡ take size rest) where
    next-ahead : ahead xs m at i ≡ x ∷ ahead xs m (at + size) (i + 1)
    next-ahead = rw p (ahead-on xs at c.inside rest e size y some m i h)

    pub taking-stops : (b : Bool) → b ≡ as_often (take m (records_of xs)) (take n (records_of ys)) x → not b ≡ true
        → false ≡ same_details (take m (records_of xs)) (take n (records_of ys))
    unfolding all_as_often
    taking-stops b q f =
        let z = c.stops (rw (next-ahead, ← q, not-true b f) refl) in
        rw z refl

    pub taking-on : (places₂ links₂ : List ℕ) (b : Bool) → Takes x ys m places places₂ b → not b ≡ false → length links₂ ≡ 8192
        → Taking xs m ys n places₂ links₂ (at + size) (i + 1)
    unfolding times_in all_as_often
    taking-on places₂ links₂ b t f l =
        let o = t.one (not-false b f) in
        let det = t.detail (not-false b f) in
        let a = next-ahead in
        let k = o.count in
        record {
          inside = next-inside xs at c.inside rest e size y some;
          few = c.few;
          size = t.size;
          linked = l;
          counts = λ s. one_less (same s x) _ _ _ _ (rw (a, o.times s) at (c.counts s));
          details = λ s g. (rw a at (c.details s g)) ∙ not-counted s x (ahead xs m (at + size) (i + 1)) g det;
          stops = λ g. c.stops (rw (a, g) (and-false (as_often (take m (records_of xs)) (take n (records_of ys)) x)));
          count = omega (arith, k, c.count);
        }
