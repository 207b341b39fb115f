-- Pairs of entries, one of either book.
-- Assumes nothing.
use Prim.Native.Nat.{ℕ, zero, suc, ◌+◌, ◌-◌, ◌≤◌, ◌<◌, min}
use mathlib.Core.Path.{◌≡◌, refl, sym, ap, ◌∙◌}
use mathlib.Core.List.{List, [], ◌∷◌}
use mathlib.Core.Bool.{Bool, true, false, ◌||◌, ◌&&◌, not}
use mathlib.Core.Logic.{◌⊎◌, inl, inr, ⊎_elim}
use native.Mathlib.Omega.{arith}
use native.Mathlib.Nat.{sub-zero}
use borrow.Author.Tests.{eqb-true, eqb-false}
use lib.ListN.{length, take, drop, length-drop}
use lib.Seq.{drop-drop, take-nil}
use lib.Dec.{eqb}
use Rattle.base.specs.Choice.{pick}
use Rattle.base.proofs.Tests.{neither, or_cases}
use Rattle.account.specs.declared.Account.{Account}
use Rattle.account.specs.Range.{AccountInRange}
use Rattle.compare.specs.declared.places.Place.{Place}
use Rattle.compare.specs.declared.places.Taken.{Taken}
use Rattle.compare.specs.declared.runs.Counts.{Counts}
use Rattle.compare.specs.declared.runs.Pair.{Pair}
use Rattle.walk.specs.Walk.{Entry, lines_of, entries_after}
use Rattle.compare.specs.Records.{same}
use Rattle.compare.specs.Places.{left_of, onward}
use Rattle.compare.specs.Plans.{no_runs, one_more_lem, runs_from, runs_of, moved_of, plan_of}
use Rattle.compare.specs.Inner.{Valid, Turned, Written}
use Rattle.compare.specs.InnerPairs.{Looked, CountsIn}
use Rattle.compare.proofs.Onward.{drop_of_take, left-onward}

-- ---- the next pair

module _ (a b : Account) (xs ys : List ℕ) (t u : Taken) (p : Turned a xs t) (q : Turned b ys u) where
  pub looked-none : AccountInRange a → AccountInRange b → eqb t.n 0 || eqb u.n 0 ≡ true
      → Looked a b xs ys (record { old = 0; new = 0; a = a; b = b; records = false; lines = false })
  looked-none v w h =
      record {
        inside = omega arith;
        inside' = omega arith;
        some = λ k. absurd (omega arith);
        ended = λ z.
            ⊎_elim (λ (e : eqb t.n 0 ≡ true). inl (p.ended (eqb-true _ _ e))) (λ (e : eqb u.n 0 ≡ true). inr (q.ended (eqb-true _ _ e)))
            (or_cases (eqb t.n 0) (eqb u.n 0) h);
        goes = λ k. absurd (omega arith);
        goes' = λ k. absurd (omega arith);
        range = v;
        range' = w;
        records = λ k. absurd (omega arith);
        lines = λ k. absurd (omega arith);
      }

  module _ (h : eqb t.n 0 || eqb u.n 0 ≡ false) where
    pub left-some : 0 < t.n
    left-some = let z : t.n ≡ 0 → ⊥ = eqb-false t.n 0 (neither (eqb t.n 0) (eqb u.n 0) h).0 in omega (arith, z)

    pub right-some : 0 < u.n
    right-some = let z : u.n ≡ 0 → ⊥ = eqb-false u.n 0 (neither (eqb t.n 0) (eqb u.n 0) h).1 in omega (arith, z)

    pub looked-on : (records lines : Bool) → records ≡ same (take t.n xs) (take u.n ys)
        → lines ≡ same (lines_of a (take t.n xs)) (lines_of b (take u.n ys))
        → Looked a b xs ys (record { old = t.n; new = u.n; a = t.next; b = u.next; records = records; lines = lines })
    looked-on records lines e f =
        record {
          inside = p.inside;
          inside' = q.inside;
          some = λ k. (p.some left-some, q.some right-some);
          ended = λ z. absurd (omega (arith, left-some));
          goes = λ k. p.goes left-some;
          goes' = λ k. q.goes right-some;
          range = p.range;
          range' = q.range;
          records = λ k. e;
          lines = λ k. f;
        }

-- the lines that both turns have written
pub lines_same : (a b : Account) (xs ys left right : List ℕ) (t u : Taken) → Written a xs left t → Written b ys right u → 0 < t.n → 0 < u.n
    → same (take t.written left) (take u.written right) ≡ same (lines_of a (take t.n xs)) (lines_of b (take u.n ys))
lines_same a b xs ys left right t u p q h k = rw (p.are h, q.are k) refl

-- ---- many pairs

-- one more of what is kept
pub anew-is : (b : Bool) (n : ℕ) → pick b (pick b n 0 + 1) (pick b n 0) ≡ pick b (n + 1) 0
anew-is true n = refl
anew-is false n = refl

pub lasting-is : (b l : Bool) (n : ℕ) → pick (b && not l) (pick b n 0 + 1) (pick b n 0) ≡ pick b (pick l n (n + 1)) 0
lasting-is true true n = refl
lasting-is true false n = refl
lasting-is false l n = refl

-- k of the pairs are counted, up to the bytes at and to; counting those left makes the whole
pub record Pairing (xs ys : List ℕ) (es ns : List Entry) (many : ℕ) (a b : Account) (at to : ℕ) (u : Counts) (k : ℕ) : Type 0 where
  pub inside : at ≤ length xs
  pub inside' : to ≤ length ys
  pub few : k ≤ many
  pub counts : CountsIn u k
  pub range : AccountInRange a
  pub range' : AccountInRange b
  pub rest : runs_from u (take (many - k) (entries_after a (drop at xs))) (take (many - k) (entries_after b (drop to ys)))
      ≡ runs_of (take many es) (take many ns)

pub pairing-none : (xs ys : List ℕ) (many : ℕ) (p q : Place) → Valid xs p → Valid ys q
    → Pairing xs ys (left_of xs p) (left_of ys q) many p.account q.account p.at q.at no_runs 0
pairing-none xs ys many p q v w =
    record {
      inside = v.inside;
      inside' = w.inside;
      few = omega arith;
      counts =
          record {
            pairs = omega arith;
            leading = omega arith;
            trailing = omega arith;
            first = omega arith;
            last = omega arith;
            others = omega arith;
          };
      range = v.range;
      range' = w.range;
      rest = rw sub-zero refl;
    }

-- one pair more adds at most one to each count
up : (b : Bool) (n k : ℕ) → n ≤ k → pick b (n + 1) n ≤ k + 1
up true n k l = omega arith
up false n k l = omega arith

anew : (b : Bool) (n k : ℕ) → n ≤ k → pick b (n + 1) 0 ≤ k + 1
anew true n k l = omega arith
anew false n k l = omega arith

lasting : (b c : Bool) (n k : ℕ) → n ≤ k → pick b (pick c n (n + 1)) 0 ≤ k + 1
lasting true true n k l = omega arith
lasting true false n k l = omega arith
lasting false c n k l = omega arith

one_at_most : (u : Counts) (records lines : Bool) (k : ℕ) → CountsIn u k → CountsIn (one_more_lem u records lines) (k + 1)
one_at_most u records lines k c =
    record {
      pairs = omega (arith, c.pairs);
      leading = up (records && eqb u.leading u.pairs) u.leading k c.leading;
      trailing = anew records u.trailing k c.trailing;
      first = up ((records && eqb u.leading u.pairs) && not lines) u.first k c.first;
      last = lasting records lines u.last k c.last;
      others = up (records && not lines) u.others k c.others;
    }

stops-left : (u : Counts) (n : ℕ) (es ns : List Entry) → es ≡ [] → u ≡ runs_from u (take n es) ns
unfolding runs_from
stops-left u n es ns e = rw (e, take-nil n) refl

stops-right : (u : Counts) (n : ℕ) (es ns : List Entry) → ns ≡ [] → u ≡ runs_from u es (take n ns)
unfolding runs_from
stops-right u n [] ns e = refl
stops-right u n (x ∷ es) ns e = rw (e, take-nil n) refl

none_left : (u : Counts) (n : ℕ) (es ns : List Entry) → n ≡ 0 → u ≡ runs_from u (take n es) ns
unfolding runs_from
none_left u n es ns e = rw e refl

goes_on : (u : Counts) (m n : ℕ) (es ns es' ns' : List Entry) (e n' : Entry) → n ≡ suc m → es ≡ e ∷ es' → ns ≡ n' ∷ ns'
    → runs_from u (take n es) (take n ns)
    ≡ runs_from (one_more_lem u (same e.bytes n'.bytes) (same e.lines n'.lines)) (take m es') (take m ns')
unfolding runs_from
goes_on u m n es ns es' ns' e n' z p q = rw (z, p, q) refl

module _ (xs ys : List ℕ) (es ns : List Entry) (many : ℕ) (a b : Account) (at to : ℕ) (u : Counts) (k : ℕ)
    (w : Pairing xs ys es ns many a b at to u k) where
  pub pairing-far : many ≤ k → u ≡ runs_of (take many es) (take many ns)
  pairing-far h = none_left u (many - k) (entries_after a (drop at xs)) _ (omega (arith, h)) ∙ w.rest

  module _ (rest rest' : List ℕ) (e : rest ≡ drop at xs) (f : rest' ≡ drop to ys) (l : Pair) (o : Looked a b rest rest' l) where
    pub pair_inside : at + l.old ≤ length xs
    pair_inside = omega (arith, o.inside, ap length e, length-drop at xs, w.inside)

    pub pair-inside' : to + l.new ≤ length ys
    pair-inside' = omega (arith, o.inside', ap length f, length-drop to ys, w.inside')

    pub pairing-ends : l.old ≡ 0 → u ≡ runs_of (take many es) (take many ns)
    pairing-ends z =
        ⊎_elim
        (λ (n : entries_after a rest ≡ []).
        stops-left u (many - k) (entries_after a (drop at xs)) (take (many - k) (entries_after b (drop to ys))) (ap (entries_after a) (sym e) ∙ n)
        ∙ w.rest)
        (λ (n : entries_after b rest' ≡ []).
        stops-right u (many - k) (take (many - k) (entries_after a (drop at xs))) (entries_after b (drop to ys)) (ap (entries_after b) (sym f) ∙ n)
        ∙ w.rest)
        (o.ended z)

    pub pairing-on : (v : Counts) → k < many → v ≡ one_more_lem u l.records l.lines → (l.old ≡ 0 → ⊥)
        → Pairing xs ys es ns many l.a l.b (at + l.old) (to + l.new) v (k + 1)
    pairing-on v m g n =
        let h : 0 < l.old = omega (arith, n) in
        let d : drop l.old rest ≡ drop (at + l.old) xs = rw (e, drop-drop) refl in
        let d' : drop l.new rest' ≡ drop (to + l.new) ys = rw (f, drop-drop) refl in
        let p = ap (entries_after a) (sym e) ∙ (rw d at (o.goes h)) in
        let q = ap (entries_after b) (sym f) ∙ (rw d' at (o.goes' h)) in
        let c : many - k ≡ suc (many - (k + 1)) = omega (arith, m) in
        let s = goes_on u (many - (k + 1)) (many - k) _ _ _ _ _ _ c p q in
        record {
          inside = pair_inside;
          inside' = pair-inside';
          few = omega (arith, m);
          counts = rw g (one_at_most u l.records l.lines k w.counts);
          range = o.range;
          range' = o.range';
          rest = rw (g, o.records h, o.lines h) (sym s ∙ w.rest);
        }

-- ---- no more pairs than records

-- at most m more than in u, of the same at the beginning and at the end
pub record Most (u v : Counts) (m : ℕ) : Type 0 where
  pub leading : v.leading ≤ u.leading + m
  pub trailing : v.trailing ≤ u.trailing + m

pub runs-most : (u : Counts) (es ns : List Entry) (m : ℕ) → (length es ≤ m) ⊎ (length ns ≤ m) → Most u (runs_from u es ns) m
unfolding runs_from
runs-most u [] ns m h = record { leading = omega arith; trailing = omega arith }
runs-most u (e ∷ es) [] m h = record { leading = omega arith; trailing = omega arith }
runs-most u (e ∷ es) (n ∷ ns) m h =
    let b = same e.bytes n.bytes in
    let v = one_more_lem u b (same e.lines n.lines) in
    let i = runs-most v es ns (m - 1) (⊎_elim (λ (k : suc (length es) ≤ m). inl (omega arith)) (λ (k : suc (length ns) ≤ m). inr (omega arith)) h) in
    let p : 0 < m = ⊎_elim (λ (k : suc (length es) ≤ m). omega arith) (λ (k : suc (length ns) ≤ m). omega arith) h in
    let x = up (b && eqb u.leading u.pairs) u.leading u.leading (omega arith) in
    let y = anew b u.trailing u.trailing (omega arith) in
    record { leading = omega (arith, i.leading, x, p); trailing = omega (arith, i.trailing, y, p) }

module _ (es ns : List Entry) where
  pub leading-left : (runs_of es ns).leading ≤ length es
  leading-left = omega (arith, (runs-most no_runs es ns (length es) (inl (omega arith))).leading)

  pub leading-right : (runs_of es ns).leading ≤ length ns
  leading-right = omega (arith, (runs-most no_runs es ns (length ns) (inr (omega arith))).leading)

  pub trailing-left : (runs_of es ns).trailing ≤ length es
  trailing-left = omega (arith, (runs-most no_runs es ns (length es) (inl (omega arith))).trailing)

-- of those at the beginning and at the end no more give other lines than there are
pub record Within (u : Counts) : Type 0 where
  pub first : u.first ≤ u.leading
  pub last : u.last ≤ u.trailing

first-within : (b c : Bool) (n m : ℕ) → n ≤ m → pick (b && c) (n + 1) n ≤ pick b (m + 1) m
first-within true true n m h = omega arith
first-within true false n m h = omega arith
first-within false c n m h = h

last_within : (b c : Bool) (n m : ℕ) → n ≤ m → pick b (pick c n (n + 1)) 0 ≤ pick b (m + 1) 0
last_within true true n m h = omega arith
last_within true false n m h = omega arith
last_within false c n m h = omega arith

pub runs-within : (u : Counts) (es ns : List Entry) → Within u → Within (runs_from u es ns)
unfolding runs_from
runs-within u [] ns w = w
runs-within u (e ∷ es) [] w = w
runs-within u (e ∷ es) (n ∷ ns) w =
    let b = same e.bytes n.bytes in
    let c = same e.lines n.lines in
    runs-within (one_more_lem u b c) es ns
    (record {
      first = first-within (b && eqb u.leading u.pairs) (not c) u.first u.leading w.first;
      last = last_within b c u.last u.trailing w.last;
    })

-- ---- the pairs end with the shorter run

pub runs-least : (n m : ℕ) (u : Counts) (es ns : List Entry)
    → runs_from u (take (min n m) es) (take (min n m) ns) ≡ runs_from u (take n es) (take m ns)
unfolding runs_from
runs-least zero m u es ns = let z : min zero m ≡ 0 = omega arith in rw z refl
runs-least (suc n) zero u [] ns = let z : min (suc n) zero ≡ 0 = omega arith in rw z refl
runs-least (suc n) zero u (e ∷ es) ns = let z : min (suc n) zero ≡ 0 = omega arith in rw z refl
runs-least (suc n) (suc m) u [] ns = let z : min (suc n) (suc m) ≡ suc (min n m) = omega arith in rw z refl
runs-least (suc n) (suc m) u (e ∷ es) [] = let z : min (suc n) (suc m) ≡ suc (min n m) = omega arith in rw z refl
runs-least (suc n) (suc m) u (e ∷ es) (x ∷ ns) =
    let z : min (suc n) (suc m) ≡ suc (min n m) = omega arith in
    rw z (runs-least n m (one_more_lem u (same e.bytes x.bytes) (same e.lines x.lines)) es ns)

-- ---- the plan, as the code finds it

-- the last most of the n records after a place
pub last_of : (xs : List ℕ) (p s : Place) (n most : ℕ) → Valid xs p → s ≡ onward (n - most) xs p → most ≤ n
    → take most (left_of xs s) ≡ drop (n - most) (take n (left_of xs p))
last_of xs p s n most v e h =
    let z : n - (n - most) ≡ most = omega arith in
    ap (λ (q : Place). take most (left_of xs q)) e
    ∙ ap (λ (es : List Entry). take most es) (left-onward (n - most) xs p v)
    ∙ sym (drop_of_take (n - most) n (left_of xs p) ∙ ap (λ (k : ℕ). take k (drop (n - most) (left_of xs p))) z)

module _ (es ns : List Entry) (n m l : ℕ) (r : Counts) (p : n ≡ length es) (q : m ≡ length ns) (f : r ≡ runs_of es ns) (k : l ≡ min n m) where
  pub front-least : r.leading ≤ l
  front-least = rw f (omega (arith, leading-left es ns, leading-right es ns, p, q, k))

  module _ (s : Counts) (g : s ≡ runs_of (drop (n - (l - r.leading)) es) (drop (m - (l - r.leading)) ns)) where
    back-most : s.trailing ≤ l - r.leading
    back-most =
        rw g (omega (
          arith,
          trailing-left (drop (n - (l - r.leading)) es) (drop (m - (l - r.leading)) ns),
          length-drop (n - (l - r.leading)) es,
          p,
          k,
        ))

    pub others-fit : r.first + s.last ≤ l
    others-fit =
        let a : Within r = rw f (runs-within no_runs es ns (record { first = omega arith; last = omega arith })) in
        let b : Within s =
        rw g (runs-within no_runs (drop (n - (l - r.leading)) es) (drop (m - (l - r.leading)) ns)
        (record { first = omega arith; last = omega arith })) in
        omega (arith, a.first, b.last, front-least, back-most)

    pub plan-is : (b : Bool) (o : ℕ) → b ≡ moved_of r.leading s.trailing es ns
        → o ≡ pick (not b && eqb n m) r.others (r.first + s.last)
        → record { old = n; new = m; front = r.leading; back = s.trailing; moved = b; paired = not b && eqb n m; others = o } ≡ plan_of es ns
    unfolding plan_of
    plan-is b o d h = rw (h, d, g, f, k, p, q) refl
