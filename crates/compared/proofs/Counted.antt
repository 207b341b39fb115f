-- A pair that is the same record and gives other lines is counted: among all pairs, among the first ones, among the last ones.
-- Assumes nothing.
use Prim.Native.Nat.{ℕ, zero, suc, ◌+◌, ◌≤◌, ◌<◌}
use mathlib.Core.Path.{◌≡◌, refl}
use mathlib.Core.List.{List, [], ◌∷◌}
use mathlib.Core.Bool.{Bool, true, false, ◌&&◌, not}
use mathlib.Core.Logic.{inl}
use native.Mathlib.Omega.{arith}
use borrow.Author.Tests.{eq-eqb}
use lib.ListN.{length}
use lib.Dec.{eqb}
use Rattle.base.specs.Choice.{pick}
use Rattle.base.proofs.Tests.{by-test}
use Rattle.walk.specs.Walk.{Entry}
use Rattle.compare.specs.declared.runs.Counts.{Counts}
use Rattle.compare.specs.Records.{same}
use Rattle.compare.specs.Plans.{no_runs, one_more_lem, runs_from, runs_of}
use Rattle.compare.proofs.Pairs.{runs-most}
use Rattle.compared.specs.Reported.{entry_at}
use Rattle.compared.proofs.Truths.{stays}
use Rattle.compared.proofs.Silent.{others-kept, others-grow}

-- ---- among all

pair-counted : (u : Counts) (m : ℕ) (es ns : List Entry) → m < length es → m < length ns
    → same (entry_at es m).bytes (entry_at ns m).bytes ≡ true → same (entry_at es m).lines (entry_at ns m).lines ≡ false
    → u.others < (runs_from u es ns).others
unfolding runs_from
pair-counted u m [] ns h k p q = absurd (omega (arith, h))
pair-counted u m (e ∷ es) [] h k p q = absurd (omega (arith, k))
pair-counted u zero (e ∷ es) (n ∷ ns) h k p q =
    let v = one_more_lem u (same e.bytes n.bytes) (same e.lines n.lines) in
    let o : v.others ≡ u.others + 1 = rw (p, q) refl in
    let g = others-grow v es ns in
    omega (arith, g, o)
pair-counted u (suc m) (e ∷ es) (n ∷ ns) h k p q =
    let b = same e.bytes n.bytes in
    let c = same e.lines n.lines in
    let i = pair-counted (one_more_lem u b c) m es ns (omega (arith, h)) (omega (arith, k)) p q in
    let g = others-kept (b && not c) u.others in
    omega (arith, i, g)

-- ---- among the first

first-grows : (u : Counts) (es ns : List Entry) → u.first ≤ (runs_from u es ns).first
unfolding runs_from
first-grows u [] ns = omega arith
first-grows u (e ∷ es) [] = omega arith
first-grows u (e ∷ es) (n ∷ ns) =
    let b = same e.bytes n.bytes in
    let c = same e.lines n.lines in
    let i = first-grows (one_more_lem u b c) es ns in
    let k = others-kept ((b && eqb u.leading u.pairs) && not c) u.first in
    omega (arith, i, k)

-- where the count of the first ones goes on, the next pair is the same
goes_on : (u : Counts) (e n : Entry) (es ns : List Entry) → u.leading ≡ u.pairs → u.leading < (runs_from u (e ∷ es) (n ∷ ns)).leading
    → same e.bytes n.bytes ≡ true
unfolding runs_from
goes_on u e n es ns l h =
    by-test (same e.bytes n.bytes) (λ t. t)
    (λ t.
    let v = one_more_lem u (same e.bytes n.bytes) (same e.lines n.lines) in
    let x : v.leading ≡ u.leading = rw t refl in
    let s = stays v es ns (omega (arith, x, l)) in
    absurd (omega (arith, s, x, h)))

front-counted : (u : Counts) (m : ℕ) (es ns : List Entry) → u.leading ≡ u.pairs → m < length es → m < length ns
    → u.leading + m < (runs_from u es ns).leading → same (entry_at es m).lines (entry_at ns m).lines ≡ false
    → u.first < (runs_from u es ns).first
unfolding runs_from
front-counted u m [] ns l h k r q = absurd (omega (arith, h))
front-counted u m (e ∷ es) [] l h k r q = absurd (omega (arith, k))
front-counted u zero (e ∷ es) (n ∷ ns) l h k r q =
    let v = one_more_lem u (same e.bytes n.bytes) (same e.lines n.lines) in
    let s = goes_on u e n es ns l (omega (arith, r)) in
    let x : v.first ≡ u.first + 1 = rw (s, eq-eqb _ _ l, q) refl in
    let g = first-grows v es ns in
    omega (arith, g, x)
front-counted u (suc m) (e ∷ es) (n ∷ ns) l h k r q =
    let b = same e.bytes n.bytes in
    let c = same e.lines n.lines in
    let v = one_more_lem u b c in
    let s = goes_on u e n es ns l (omega (arith, r)) in
    let x : v.leading ≡ u.leading + 1 = rw (s, eq-eqb _ _ l) refl in
    let i = front-counted v m es ns (omega (arith, x, l)) (omega (arith, h)) (omega (arith, k)) (omega (arith, x, r)) q in
    let g = others-kept ((b && eqb u.leading u.pairs) && not c) u.first in
    omega (arith, i, g)

-- ---- among the last

more-last : (c : Bool) (n : ℕ) → n ≤ pick c n (n + 1)
more-last true n = omega arith
more-last false n = omega arith

-- where the count of the last ones goes over all, the next pair is the same
next_last : (u : Counts) (e n : Entry) (es ns : List Entry) → length es < (runs_from u (e ∷ es) (n ∷ ns)).trailing → same e.bytes n.bytes ≡ true
unfolding runs_from
next_last u e n es ns h =
    by-test (same e.bytes n.bytes) (λ t. t)
    (λ t.
    let v = one_more_lem u (same e.bytes n.bytes) (same e.lines n.lines) in
    let x : v.trailing ≡ 0 = rw t refl in
    let g = (runs-most v es ns (length es) (inl (omega arith))).trailing in
    absurd (omega (arith, g, x, h)))

last-kept : (u : Counts) (es ns : List Entry) → length es < (runs_from u es ns).trailing → u.last ≤ (runs_from u es ns).last
unfolding runs_from
last-kept u [] ns h = omega arith
last-kept u (e ∷ es) [] h = omega arith
last-kept u (e ∷ es) (n ∷ ns) h =
    let c = same e.lines n.lines in
    let v = one_more_lem u (same e.bytes n.bytes) c in
    let s = next_last u e n es ns (omega (arith, h)) in
    let x : v.last ≡ pick c u.last (u.last + 1) = rw s refl in
    let g = more-last c u.last in
    let i = last-kept v es ns (omega (arith, h)) in
    omega (arith, i, x, g)

back-counted : (u : Counts) (m : ℕ) (es ns : List Entry) → m < length es → m < length ns → length es ≤ (runs_from u es ns).trailing + m
    → same (entry_at es m).lines (entry_at ns m).lines ≡ false → 0 < (runs_from u es ns).last
unfolding runs_from
back-counted u m [] ns h k r q = absurd (omega (arith, h))
back-counted u m (e ∷ es) [] h k r q = absurd (omega (arith, k))
back-counted u zero (e ∷ es) (n ∷ ns) h k r q =
    let v = one_more_lem u (same e.bytes n.bytes) (same e.lines n.lines) in
    let s = next_last u e n es ns (omega (arith, r)) in
    let x : v.last ≡ u.last + 1 = rw (s, q) refl in
    let g = last-kept v es ns (omega (arith, r)) in
    omega (arith, g, x)
back-counted u (suc m) (e ∷ es) (n ∷ ns) h k r q =
    back-counted (one_more_lem u (same e.bytes n.bytes) (same e.lines n.lines)) m es ns (omega (arith, h)) (omega (arith, k))
    (omega (arith, r)) q

-- ---- from none on

module _ (m : ℕ) (es ns : List Entry) (h : m < length es) (k : m < length ns) (q : same (entry_at es m).lines (entry_at ns m).lines ≡ false) where
  pub some-others : same (entry_at es m).bytes (entry_at ns m).bytes ≡ true → 0 < (runs_of es ns).others
  some-others p = pair-counted no_runs m es ns h k p q

  pub some_first : m < (runs_of es ns).leading → 0 < (runs_of es ns).first
  some_first r = front-counted no_runs m es ns refl h k (omega (arith, r)) q

  pub some-last : length es ≤ (runs_of es ns).trailing + m → 0 < (runs_of es ns).last
  some-last r = back-counted no_runs m es ns h k r q
