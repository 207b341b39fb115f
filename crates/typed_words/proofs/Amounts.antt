-- Laws of `number_from`: at a byte, at the end, of zeros, of digits behind digits, and that `digits_from` is it where there are at most 15 digits.
use Prim.Native.Nat.{ℕ, suc, ◌+◌, ◌-◌, ◌*◌, ◌^◌, ◌<◌, ◌≤◌}
use native.Mathlib.Numerals.{add-one}
use native.Mathlib.Omega.{arith}
use mathlib.Core.Path.{◌≡◌, refl, sym, ap, ◌∙◌}
use mathlib.Core.Bool.{Bool, true, false, ◌&&◌, ◌||◌}
use mathlib.Core.List.{List, [], ◌∷◌, ◌++◌}
use lib.ListN.{length, get_or, take, drop, replicate, drop_of_length-le}
use lib.Seq.{drop-cons}
use lib.Dec.{leb, ltb, eqb}
use borrow.Author.Tests.{lt-ltb, ltb-true, ltb-false, leb-true}
use Rattle.base.proofs.Tests.{and_r}
use Rattle.std.specs.Prelude.{Option, Some, None, option_map, option_and_then}
use Rattle.base.specs.Bytes.{index_of}
use Rattle.typed_words.specs.Numbers.{goes_on_lem, digits_from, double, decimal_of}
use Rattle.typed_words.specs.Amounts.{is_digit, with_digit, number_from, amount_of}

at_byte : (v : ℕ) (s : List ℕ) (i : ℕ) → i < length s
    → number_from v (drop i s) ≡ goes_on_lem (is_digit (get_or s i 0)) (number_from (with_digit v (get_or s i 0)) (drop (i + 1) s))
unfolding number_from
at_byte v s i h = rw (add-one, drop-cons s i 0 h)

-- r is what the test of the byte at i told
module _ (v : ℕ) (s : List ℕ) (i : ℕ) (h : i < length s) (r : Bool) (e : r ≡ is_digit (get_or s i 0)) where
  pub goes_on : r ≡ true → number_from v (drop i s) ≡ number_from (with_digit v (get_or s i 0)) (drop (i + 1) s)
  goes_on t = at_byte v s i h ∙ rw (← e, t)

  pub breaks-off : r ≡ false → number_from v (drop i s) ≡ None
  breaks-off t = at_byte v s i h ∙ rw (← e, t)

pub at-end : (v : ℕ) (s : List ℕ) (i : ℕ) → length s ≤ i → number_from v (drop i s) ≡ Some v
unfolding number_from
at-end v s i h = rw (drop_of_length-le s h)

-- one zero more
pub one-zero : (v k i : ℕ) → i < k → number_from v (replicate (k - i) 48) ≡ number_from (with_digit v 48) (replicate (k - (i + 1)) 48)
unfolding number_from
one-zero v k i h = let e : k - i ≡ suc (k - (i + 1)) = omega arith in rw e

pub no_zero : (v k i : ℕ) → k ≤ i → number_from v (replicate (k - i) 48) ≡ Some v
unfolding number_from
no_zero v k i h = let e : k - i ≡ 0 = omega arith in rw e

-- digits behind digits
pub followed : (v : ℕ) (s t : List ℕ) → number_from v (s ++ t) ≡ option_and_then (λ w. number_from w t) (number_from v s)
unfolding number_from
followed v [] t = refl
followed v (b ∷ s) t = by-digit (is_digit b) (number_from (with_digit v b) s) (number_from (with_digit v b) (s ++ t)) (followed (with_digit v b) s t)
  where
    by-digit : (d : Bool) (w all : Option ℕ) → all ≡ option_and_then (λ w. number_from w t) w
        → goes_on_lem d all ≡ option_and_then (λ w. number_from w t) (goes_on_lem d w)
    by-digit true w all e = e
    by-digit false w all e = refl

-- ---- at most 15 digits

abbrev pub few : ℕ → Option ℕ
few w = goes_on_lem (ltb w 1000000000000000) (Some w)

-- from 10^15 on, more digits make no fewer
full-stays : (v : ℕ) (s : List ℕ) → v ≡ 1000000000000000 → option_and_then few (number_from v s) ≡ None
unfolding number_from
full-stays v [] e = rw e
full-stays v (b ∷ s) e = by-digit (is_digit b) (number_from (with_digit v b) s) (full-stays (with_digit v b) s (omega arith))
  where
    by-digit : (d : Bool) (w : Option ℕ) → option_and_then few w ≡ None → option_and_then few (goes_on_lem d w) ≡ None
    by-digit true w h = h
    by-digit false w h = refl

pub digits-are : (v : ℕ) (s : List ℕ) → v < 1000000000000000 → digits_from v s ≡ option_and_then few (number_from v s)
unfolding digits_from number_from
digits-are v [] h = rw (lt-ltb v 1000000000000000 h)
digits-are v (b ∷ s) h = by-tests (is_digit b) (ltb v 100000000000000) (λ w l. digits-are w s l) refl refl
  where
    by-tests : (d r : Bool) → ((w : ℕ) → w < 1000000000000000 → digits_from w s ≡ option_and_then few (number_from w s))
        → is_digit b ≡ d → ltb v 100000000000000 ≡ r
        → goes_on_lem (d && r) (digits_from (v * 10 + (b - 48)) s) ≡ option_and_then few (goes_on_lem d (number_from (with_digit v b) s))
    by-tests true true more e t =
        let room : v < 100000000000000 = ltb-true v 100000000000000 t in
        let high : b ≤ 57 = leb-true b 57 (and_r (leb 48 b) (leb b 57) e) in
        let same : with_digit v b ≡ v * 10 + (b - 48) = omega arith in
        rw same (more (v * 10 + (b - 48)) (omega arith))
    by-tests true false more e t =
        let none : 100000000000000 ≤ v = ltb-false v 100000000000000 t in
        sym (full-stays (with_digit v b) s (omega arith))
    by-tests false r more e t = refl

-- what is read in the code's order: the digits before the point, then those behind it, then the zeros
module _ (d : ℕ) (s : List ℕ) {b f : List ℕ} {p : ℕ} (point : p ≡ index_of 46 s) (before : b ≡ take p s) (behind : f ≡ drop (p + 1) s) where
  pub amount-parts : amount_of d s
      ≡ goes_on_lem ((ltb 0 p && (eqb p (length s) || ltb 0 (length f))) && leb (length f) d)
      (option_and_then (λ w. option_and_then (λ a. number_from a (replicate (d - length f) 48)) (number_from w f)) (number_from 0 b))
  unfolding amount_of
  amount-parts =
      rw (← point, ← before, ← behind, followed 0 b (f ++ replicate (d - length f) 48))
      (ap (λ (w : Option ℕ). goes_on_lem ((ltb 0 p && (eqb p (length s) || ltb 0 (length f))) && leb (length f) d) w) (each (number_from 0 b)))
    where
      each : (w : Option ℕ) → option_and_then (λ w. number_from w (f ++ replicate (d - length f) 48)) w
          ≡ option_and_then (λ w. option_and_then (λ a. number_from a (replicate (d - length f) 48)) (number_from w f)) w
      each None = refl
      each (Some w) = followed w f (replicate (d - length f) 48)

  pub decimal-parts : decimal_of s
      ≡ goes_on_lem (ltb 0 p && leb (length f) 15)
      (option_map (λ n. double n (10 ^ length f)) (option_and_then (λ w. digits_from w f) (digits_from 0 b)))
  unfolding decimal_of
  decimal-parts = rw (← point, ← before, ← behind)
