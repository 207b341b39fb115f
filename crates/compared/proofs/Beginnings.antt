-- Two files of any length: of their first 114,716 bytes, and of whether all their bytes are the same, the program prints what the definition says of
-- the whole files.
-- Assumes nothing.
use Prim.Native.Nat.{ℕ, ◌≤◌, ◌<◌}
use mathlib.Core.Path.{◌≡◌, refl, sym, ap, ◌∙◌}
use mathlib.Core.List.{List, [], ◌∷◌, ◌++◌}
use mathlib.Core.Bool.{Bool, true, false, ◌&&◌}
use mathlib.Core.Logic.{◌⊎◌, ⊎_elim}
use native.Mathlib.Omega.{arith}
use lib.ListN.{length, take, length-append}
use lib.Dec.{eqb}
use Rattle.base.proofs.Tests.{by-test}
use Rattle.compare.specs.Records.{same}
use Rattle.compare.specs.Sections.{alike_on, last_text, beginnings_text, compare_text}
use Rattle.compare.proofs.SameBytes.{same_true, same_self}
use Rattle.in_parts.proofs.Cut.{book-cut}
use Rattle.in_parts.proofs.Why.{why-cut}

-- ---- the same bytes, part by part

and-group : (a b c : Bool) → a && (b && c) ≡ (a && b) && c
and-group true b c = refl
and-group false b c = refl

same-append : (xs ys us vs : List ℕ) → length xs ≡ length ys → same (xs ++ us) (ys ++ vs) ≡ same xs ys && same us vs
unfolding same
same-append [] [] us vs h = refl
same-append [] (y ∷ ys) us vs h = absurd (omega (arith, h))
same-append (x ∷ xs) [] us vs h = absurd (omega (arith, h))
same-append (x ∷ xs) (y ∷ ys) us vs h =
    ap (λ (b : Bool). eqb x y && b) (same-append xs ys us vs (omega (arith, h))) ∙ and-group (eqb x y) (same xs ys) (same us vs)

other-lengths : (xs ys : List ℕ) → (length xs ≡ length ys → ⊥) → same xs ys ≡ false
other-lengths xs ys h = by-test (same xs ys) (λ t. absurd (h (ap length (same_true xs ys t)))) (λ t. t)

-- One part more: xs and ys are all that was read so far, us and vs the next bytes. Where one book has ended before the other, nothing more comes of
-- it.
pub one-part-more : (xs ys us vs : List ℕ)
    → (length xs ≡ length ys) ⊎ (((us ≡ []) × (length xs < length ys)) ⊎ ((vs ≡ []) × (length ys < length xs)))
    → alike_on (same xs ys) us vs ≡ same (xs ++ us) (ys ++ vs)
one-part-more xs ys us vs h =
    ⊎_elim (λ (e : length xs ≡ length ys). sym (same-append xs ys us vs e))
    (λ (o : ((us ≡ []) × (length xs < length ys)) ⊎ ((vs ≡ []) × (length ys < length xs))).
    ⊎_elim
    (λ (e : (us ≡ []) × (length xs < length ys)). ended (omega (arith, e.1))
    (let l = ap length e.0 in omega (arith, e.1, l, length-append xs us, length-append ys vs)))
    (λ (e : (vs ≡ []) × (length ys < length xs)). ended (omega (arith, e.1))
    (let l = ap length e.0 in omega (arith, e.1, l, length-append xs us, length-append ys vs)))
    o)
    h
  where
    ended : (length xs ≡ length ys → ⊥) → (length (xs ++ us) ≡ length (ys ++ vs) → ⊥) → alike_on (same xs ys) us vs ≡ same (xs ++ us) (ys ++ vs)
    ended p q = rw (other-lengths xs ys p, other-lengths (xs ++ us) (ys ++ vs) q) refl

-- ---- the beginnings

all_alike : (n : ℕ) (old new : List ℕ) → alike_on (same old new) (take n old) (take n new) ≡ same old new
all_alike n old new =
    by-test (same old new)
    (λ t.
    let e : same (take n old) (take n new) ≡ true =
    ap (λ (l : List ℕ). same (take n l) (take n new)) (same_true old new t) ∙ same_self (take n new) in
    rw (t, e) refl)
    (λ t. rw t refl)

-- The theorem.
pub compared-cut : (n : ℕ) (old new : List ℕ) → 114716 ≤ n → beginnings_text (same old new) (take n old) (take n new) ≡ compare_text old new
unfolding beginnings_text last_text
compared-cut n old new h =
    rw (all_alike n old new, book-cut n old h, book-cut n new h, why-cut n old h, why-cut n new h) refl
