-- A line of any kind: its size, its bytes from its numbers, and whether some bytes begin with one.
-- Assumes nothing.
use mathlib.Core.Path.{◌≡◌, refl, sym, ap, ◌∙◌}
use mathlib.Core.Bool.{Bool, false, ◌&&◌}
use mathlib.Core.List.{List, [], ◌∷◌}
use Prim.Native.Nat.{ℕ, zero, suc, ◌+◌, ◌-◌, ◌/◌, ◌<◌, ◌≤◌}
use native.Mathlib.Omega.{arith}
use native.Mathlib.Nat.{zero-add, add-zero}
use borrow.Author.Tests.{le-leb, lt-leb}
use lib.Dec.{eqb}
use lib.ListN.{length, get_or, take, drop, replicate, length-drop}
use lib.Seq.{sets, get_or-drop, length-take-le}
use Rattle.base.proofs.Tests.{of-choice, by-test}
use Rattle.codec.specs.declared.Field.{Field}
use Rattle.codec.specs.Codec.{val_at, bytes_of}
use Rattle.line_bytes.specs.Lines.{figure, figure_count, line_fields, total_fields, line_size, line_length, total_length, front_size}
use Rattle.line_bytes.specs.Lines.{size_of_kind, number_width, is_line_kind, numbers_bytes, is_line}
use Rattle.line_bytes.proofs.Laid.{headed, opened, head-stored}

pub kind-least : (kind : ℕ) → line_size ≤ size_of_kind kind
kind-least kind = of-choice (λ (n : ℕ). line_size ≤ n) (eqb kind 8) (λ e. omega arith) (λ e. omega arith)

-- after kind and group there are figures alone
all-figures : (n k : ℕ) → get_or (replicate n figure) k figure ≡ figure
all-figures zero k = refl
all-figures (suc n) zero = refl
all-figures (suc n) (suc k) = all-figures n k

pub figure-width : (place : ℕ) → (place ≡ 0 → ⊥) → (place ≡ 1 → ⊥) → 8 ≡ number_width place
unfolding total_fields
figure-width zero a b = absurd (a refl)
figure-width (suc zero) a b = absurd (b refl)
figure-width (suc (suc k)) a b = ap (λ (f : Field). f.0) (sym (all-figures (figure_count + 1) k))

-- ---- its bytes from its numbers

-- figures that are the same have the same bytes
figures-same : (n : ℕ) (vs ws : List ℕ) (i j : ℕ) → ((k : ℕ) → k < n → get_or vs (i + k) 0 ≡ get_or ws (j + k) 0)
    → bytes_of (replicate n figure) vs i ≡ bytes_of (replicate n figure) ws j
unfolding bytes_of
figures-same zero vs ws i j h = refl
figures-same (suc n) vs ws i j h =
    let first : get_or vs i 0 ≡ get_or ws j 0 = rw (add-zero, add-zero) at (h 0 (omega arith)) in
    rw (first, figures-same n vs ws (suc i) (suc j) (λ k l. shift k (h (suc k) (omega arith))))
  where
    shift : (k : ℕ) → get_or vs (i + suc k) 0 ≡ get_or ws (j + suc k) 0 → get_or vs (suc i + k) 0 ≡ get_or ws (suc j + k) 0
    shift k e =
        let a : suc i + k ≡ i + suc k = omega arith in
        let b : suc j + k ≡ j + suc k = omega arith in
        rw (a, b) e

taken-same : (n k : ℕ) (xs : List ℕ) → k < n → get_or (take n xs) k 0 ≡ get_or xs k 0
taken-same zero k xs h = absurd (omega arith)
taken-same (suc n) k [] h = refl
taken-same (suc n) zero (x ∷ xs) h = refl
taken-same (suc n) (suc k) (x ∷ xs) h = taken-same n k xs (omega arith)

-- n figures after length, version, kind and group are those after the first two numbers
module _ (n len : ℕ) (vs : List ℕ) (long : 2 + n ≤ length vs) where
  count : length (take n (drop 2 vs)) ≡ n
  count = length-take-le n (drop 2 vs) (omega (arith, length-drop 2 vs))

  same-figures : bytes_of (replicate n figure) (len ∷ 1 ∷ vs) 4 ≡ bytes_of (replicate (length (take n (drop 2 vs))) figure) (take n (drop 2 vs)) 0
  same-figures =
      rw count
      (figures-same n (len ∷ 1 ∷ vs) (take n (drop 2 vs)) 4 0
      (λ k h.
      let e : 4 + k ≡ suc (suc (2 + k)) = omega arith in
      rw (e, zero-add) (sym (taken-same n k (drop 2 vs) h ∙ get_or-drop 2 vs k 0))))

  stored-by : (l : List ℕ) (at : ℕ)
      → sets l at (headed len (get_or vs 0 0) (get_or vs 1 0) (bytes_of (replicate n figure) (len ∷ 1 ∷ vs) 4))
      ≡ sets (opened l at len (get_or vs 0 0) (get_or vs 1 0)) (at + 6)
      (bytes_of (replicate (length (take n (drop 2 vs))) figure) (take n (drop 2 vs)) 0)
  stored-by l at =
      head-stored len (get_or vs 0 0) (get_or vs 1 0) (bytes_of (replicate n figure) (len ∷ 1 ∷ vs) 4) l at
      ∙ ap (sets (opened l at len (get_or vs 0 0) (get_or vs 1 0)) (at + 6)) same-figures

pub numbers-stored : (kind size : ℕ) (vs l : List ℕ) (at : ℕ) → size ≡ size_of_kind kind → 3 + figure_count ≤ length vs
    → sets l at (numbers_bytes kind vs)
    ≡ sets (opened l at (size - 2) (get_or vs 0 0) (get_or vs 1 0)) (at + 6)
    (bytes_of (replicate (length (take (2 + (size - 6) / 8 - 2) (drop 2 vs))) figure) (take (2 + (size - 6) / 8 - 2) (drop 2 vs)) 0)
unfolding numbers_bytes line_fields total_fields bytes_of
numbers-stored kind size vs l at e h =
    by-test (eqb kind 8)
    (λ t. rw (e, t) (stored-by (figure_count + 1) total_length vs (omega arith) l at))
    (λ f. rw (e, f) (stored-by figure_count line_length vs (omega arith) l at))

-- ---- whether some bytes begin with one

pub line-short : (xs : List ℕ) → length xs < front_size xs → is_line xs ≡ false
unfolding is_line
line-short xs h = rw (lt-leb (front_size xs) (length xs) h)

pub line-tests : (xs : List ℕ) → front_size xs ≤ length xs
    → is_line xs ≡ ((eqb (val_at xs 0 2) (front_size xs - 2) && eqb (get_or xs 2 0) 1) && is_line_kind (get_or xs 3 0))
unfolding is_line
line-tests xs h = rw (le-leb (front_size xs) (length xs) h)

pub tests_same : (n m z l b : ℕ) (k j : Bool) → n ≡ m → z ≡ l → k ≡ j → ((eqb n z && eqb b 1) && k) ≡ ((eqb m l && eqb b 1) && j)
tests_same n m z l b k j e f h = rw (e, f, h)
