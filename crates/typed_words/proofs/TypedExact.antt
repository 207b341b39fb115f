-- The theorem typed-exact: a word that writes a number with at most d decimals is read as that number times 10^d, and no other word is read.
-- Assumes nothing.
use Prim.Native.Nat.{ℕ, zero, suc, ◌+◌, ◌-◌, ◌*◌, ◌^◌, ◌<◌, ◌≤◌, min}
use native.Mathlib.Nat.{pow-suc}
use native.Mathlib.Numerals.{add-one}
use native.Mathlib.Omega.{arith}
use mathlib.Core.Path.{◌≡◌, refl, sym, ap, ◌∙◌}
use mathlib.Core.Bool.{Bool, true, false, ◌&&◌, ◌||◌, true≢false}
use mathlib.Core.Logic.{◌⊎◌, ⊎_elim, inl, inr}
use mathlib.Core.List.{List, [], ◌∷◌, ◌++◌, append-nil, append_assoc}
use lib.ListN.{length, take, drop, replicate, drop_of_length-le}
use lib.Seq.{take_all, take_at, length-take-le}
use lib.Dec.{leb, ltb, eqb}
use borrow.Author.Tests.{lt-ltb, le-leb, eq-eqb, ne_eqb, ltb-true, leb-true, eqb-true, eqb-false}
use Rattle.base.proofs.Tests.{and_l, and_r, by-test}
use Rattle.base.specs.Bytes.{index_of, index_after}
use Rattle.std.specs.Prelude.{Option, Some, is_some}
use Rattle.typed_words.specs.Numbers.{goes_on_lem, before_point, behind_point}
use Rattle.typed_words.specs.Amounts.{is_digit, number_from, places_fit, filled_up, amount_of, all_digits, value_after_lem, Writes, WritesOne}

-- the largest number that a word is read as
abbrev pub all_more : ℕ
all_more = 1000000000000000

-- ---- digits

-- digits are read as their number, up to 10^15
number_is : (u : ℕ) (s : List ℕ) → number_from (min u all_more) s ≡ goes_on_lem (all_digits s) (Some (min (value_after_lem u s) all_more))
unfolding number_from all_digits value_after_lem
number_is u [] = refl
number_is u (b ∷ s) =
    let e : min (min u all_more * 10 + (b - 48)) all_more ≡ min (u * 10 + (b - 48)) all_more = omega arith in
    by-digit (is_digit b) (all_digits s) (number_from (min (min u all_more * 10 + (b - 48)) all_more) s) (Some (min (value_after_lem (u * 10 +
    (b - 48)) s) all_more))
    (rw e (number_is (u * 10 + (b - 48)) s))
  where
    by-digit : (x y : Bool) (w v : Option ℕ) → w ≡ goes_on_lem y v → goes_on_lem x w ≡ goes_on_lem (x && y) v
    by-digit true y w v e = e
    by-digit false y w v e = refl

value_after : (u : ℕ) (s t : List ℕ) → value_after_lem u (s ++ t) ≡ value_after_lem (value_after_lem u s) t
unfolding value_after_lem
value_after u [] t = refl
value_after u (b ∷ s) t = value_after (u * 10 + (b - 48)) s t

digits-both : (s t : List ℕ) → all_digits (s ++ t) ≡ all_digits s && all_digits t
unfolding all_digits
digits-both [] t = refl
digits-both (b ∷ s) t = rw (digits-both s t) (assoc (is_digit b) (all_digits s) (all_digits t))
  where
    assoc : (x y z : Bool) → x && (y && z) ≡ (x && y) && z
    assoc true y z = refl
    assoc false y z = refl

zeros : (u k : ℕ) → value_after_lem u (replicate k 48) ≡ u * 10 ^ k
unfolding value_after_lem
zeros u zero = omega arith
zeros u (suc k) =
    let e : u * 10 + (48 - 48) ≡ u * 10 = omega arith in
    ap (λ (x : ℕ). value_after_lem x (replicate k 48)) e ∙ zeros (u * 10) k ∙ times (10 ^ k) ∙ ap (λ (x : ℕ). u * x) (sym (pow-suc 10 k))
  where
    times : (q : ℕ) → u * 10 * q ≡ u * (q * 10)
    times q = omega arith

zero-digits : (k : ℕ) → all_digits (replicate k 48) ≡ true
unfolding all_digits
zero-digits zero = refl
zero-digits (suc k) = zero-digits k

-- ---- the point

-- a digit is no point
no-point : (b : ℕ) → is_digit b ≡ true → eqb b 46 ≡ false
no-point b t = let l : 48 ≤ b = leb-true 48 b (and_l (leb 48 b) (leb b 57) t) in ne_eqb b 46 (λ e. omega arith)

-- the first point stands after the digits
point-after : (w rest : List ℕ) → all_digits w ≡ true → index_of 46 (w ++ rest) ≡ length w + index_of 46 rest
unfolding all_digits index_of index_after
point-after [] rest t = omega arith
point-after (b ∷ w) rest t =
    rw (no-point b (and_l (is_digit b) (all_digits w) t)) (ap suc (point-after w rest (and_r (is_digit b) (all_digits w) t)) ∙ omega arith)

index-most : (s : List ℕ) → index_of 46 s ≤ length s
unfolding index_of index_after
index-most [] = omega arith
index-most (b ∷ s) = by_first (eqb b 46) (index-most s)
  where
    by_first : (t : Bool) → index_of 46 s ≤ length s → index_after t (index_of 46 s) ≤ suc (length s)
    by_first true h = omega arith
    by_first false h = omega arith

-- what stands before the first point, the point, and what stands after it
at-point : (s : List ℕ) → index_of 46 s < length s → s ≡ before_point s ++ (46 ∷ behind_point s)
unfolding index_of index_after
at-point [] h = absurd (omega arith)
at-point (b ∷ s) h = by_first (eqb b 46) refl h (at-point s)
  where
    by_first : (t : Bool) → eqb b 46 ≡ t → index_after t (index_of 46 s) < suc (length s)
        → (index_of 46 s < length s → s ≡ before_point s ++ (46 ∷ behind_point s))
        → b ∷ s ≡ take (index_after t (index_of 46 s)) (b ∷ s) ++ (46 ∷ drop (index_after t (index_of 46 s) + 1) (b ∷ s))
    by_first true e k more = ap (λ (x : ℕ). x ∷ s) (eqb-true b 46 e)
    by_first false e k more =
        let n : suc (index_of 46 s) + 1 ≡ suc (index_of 46 s + 1) = omega arith in
        rw n (ap (λ (l : List ℕ). b ∷ l) (more (omega arith)))

no_more : (s : List ℕ) (p : ℕ) → p ≡ length s → drop (p + 1) s ≡ []
no_more s p e = let h : length s ≤ p + 1 = omega arith in drop_of_length-le s h

-- ---- what is written is read

module _ (d : ℕ) (s : List ℕ) (v : ℕ) (w : Writes d s v) where
  whole-digits : all_digits w.whole ≡ true
  whole-digits = and_l (all_digits w.whole) (all_digits w.places) (sym (digits-both w.whole w.places) ∙ w.digits)

  -- the parts that are found are those that were written
  record Parts : Type 0 where
    before : before_point s ≡ w.whole
    behind : behind_point s ≡ w.places
    fit : places_fit d s ≡ true

  no-places : s ≡ w.whole → w.places ≡ [] → Parts
  unfolding index_of
  no-places e f =
      let point : index_of 46 s ≡ length s =
      rw e (ap (index_of 46) (sym (append-nil w.whole)) ∙ point-after w.whole [] whole-digits ∙ omega arith) in
      let none : behind_point s ≡ [] = no_more s (index_of 46 s) point in
      let long : length s ≡ length w.whole = ap length e in
      record {
        before = take_all (index_of 46 s) s (omega (arith, point)) ∙ e;
        behind = none ∙ sym f;
        fit = rw (none, point, lt-ltb 0 (length s) (omega (arith, long, w.some)), eq-eqb (length s) (length s) refl) (le-leb 0 d (omega arith));
      }

  some-places : s ≡ w.whole ++ (46 ∷ w.places) → 1 ≤ length w.places → Parts
  unfolding index_of index_after
  some-places e f =
      let point : index_of 46 s ≡ length w.whole = rw e (point-after w.whole (46 ∷ w.places) whole-digits ∙ omega arith) in
      let behind : behind_point s ≡ w.places =
      ap (λ (n : ℕ). drop (n + 1) s) point ∙ rw (e, add-one (length w.whole)) (after w.whole) in
      record {
        before = ap (λ (n : ℕ). take n s) point ∙ rw e (take_at w.whole (46 ∷ w.places) (length w.whole) refl);
        behind = behind;
        fit =
            rw (
              behind,
              point,
              lt-ltb 0 (length w.whole) w.some,
              lt-ltb 0 (length w.places) f,
              le-leb (length w.places) d w.most,
              or-true (eqb (length w.whole) (length s)),
            ) refl;
      }
    where
      after : (l : List ℕ) → drop (suc (length l)) (l ++ (46 ∷ w.places)) ≡ w.places
      after [] = refl
      after (b ∷ l) = after l

      or-true : (b : Bool) → (b || true) ≡ true
      or-true true = refl
      or-true false = refl

  parts : Parts
  parts = ⊎_elim (λ f. no-places f.0 f.1) (λ f. some-places f.0 f.1) w.form

  filled : filled_up d s ≡ (w.whole ++ w.places) ++ replicate (d - length w.places) 48
  filled = rw (parts.before, parts.behind) (sym (append_assoc w.whole w.places (replicate (d - length w.places) 48)))

  pub exact_read : amount_of d s ≡ Some (min v all_more)
  unfolding amount_of
  exact_read =
      let digits = w.whole ++ w.places in
      let zeros' : List ℕ = replicate (d - length w.places) 48 in
      let all : all_digits (digits ++ zeros') ≡ true =
      digits-both digits zeros' ∙ rw (w.digits, zero-digits (d - length w.places)) refl in
      let value : value_after_lem 0 (digits ++ zeros') ≡ v =
      value_after 0 digits zeros' ∙ zeros (value_after_lem 0 digits) (d - length w.places) ∙ sym w.times in
      rw (parts.fit, filled) (number_is 0 (digits ++ zeros') ∙ rw (all, value) refl)

-- ---- what is read is written

good_left : (x : Bool) (v : Option ℕ) → is_some (goes_on_lem x v) ≡ true → x ≡ true
good_left true v g = refl
good_left false v g = absurd (true≢false (sym g))

good_right : (x : Bool) (v : Option ℕ) → is_some (goes_on_lem x v) ≡ true → is_some v ≡ true
good_right true v g = g
good_right false v g = absurd (true≢false (sym g))

module _ (d : ℕ) (s : List ℕ) (g : is_some (amount_of d s) ≡ true) where
  some-point : Bool
  some-point = eqb (index_of 46 s) (length s) || ltb 0 (length (behind_point s))

  fit : places_fit d s ≡ true
  unfolding amount_of
  fit = good_left (places_fit d s) (number_from 0 (filled_up d s)) g

  filled-digits : all_digits (filled_up d s) ≡ true
  unfolding amount_of
  filled-digits =
      good_left (all_digits (filled_up d s)) (Some (min (value_after_lem 0 (filled_up d s)) all_more))
      (ap (λ (x : Option ℕ). is_some x) (sym (number_is 0 (filled_up d s))) ∙ good_right (places_fit d s) (number_from 0 (filled_up d s)) g)

  both-digits : all_digits (before_point s ++ behind_point s) ≡ true
  both-digits =
      let zeros' : List ℕ = replicate (d - length (behind_point s)) 48 in
      and_l (all_digits (before_point s ++ behind_point s)) (all_digits zeros')
      (sym (digits-both (before_point s ++ behind_point s) zeros') ∙ rw append_assoc filled-digits)

  front : ltb 0 (index_of 46 s) && (eqb (index_of 46 s) (length s) || ltb 0 (length (behind_point s))) ≡ true
  front =
      and_l (ltb 0 (index_of 46 s) && (eqb (index_of 46 s) (length s) || ltb 0 (length (behind_point s)))) (leb (length (behind_point s)) d) fit

  first-place : 0 < index_of 46 s
  first-place =
      ltb-true 0 (index_of 46 s) (and_l (ltb 0 (index_of 46 s)) (eqb (index_of 46 s) (length s) || ltb 0 (length (behind_point s))) front)

  form : ((s ≡ before_point s) × (behind_point s ≡ [])) ⊎ ((s ≡ before_point s ++ (46 ∷ behind_point s)) × (1 ≤ length (behind_point s)))
  form =
      by-test (eqb (index_of 46 s) (length s))
      (λ t. let e = eqb-true (index_of 46 s) (length s) t in
      inl (sym (take_all (index_of 46 s) s (omega (arith, e))), no_more s (index_of 46 s) e))
      (λ f. let n = eqb-false (index_of 46 s) (length s) f in
      let t = and_r (ltb 0 (index_of 46 s)) (eqb (index_of 46 s) (length s) || ltb 0 (length (behind_point s))) front in
      inr (at-point s (below n (index-most s)), ltb-true 0 (length (behind_point s)) (rw f at t)))
    where
      below : (index_of 46 s ≡ length s → ⊥) → index_of 46 s ≤ length s → index_of 46 s < length s
      below n h = omega arith

  pub read-exact : WritesOne d s
  read-exact =
      record {
        value = value_after_lem 0 (before_point s ++ behind_point s) * 10 ^ (d - length (behind_point s));
        is = record {
          whole = before_point s;
          places = behind_point s;
          some = omega (arith, first-place, length-take-le (index_of 46 s) s (index-most s));
          most =
              leb-true (length (behind_point s)) d
              (and_r (ltb 0 (index_of 46 s) && (eqb (index_of 46 s) (length s) || ltb 0 (length (behind_point s)))) (leb (length
              (behind_point s)) d) fit);
          digits = both-digits;
          form = form;
          times = refl;
        };
      }

-- what is refused as a number writes none
pub none_written : (d : ℕ) (s : List ℕ) → is_some (amount_of d s) ≡ false → (v : ℕ) → Writes d s v → ⊥
none_written d s g v w = true≢false (sym (ap (λ (x : Option ℕ). is_some x) (exact_read d s v w)) ∙ g)

-- the theorem
pub record Exact (d : ℕ) (s : List ℕ) : Type 0 where
  pub read : (v : ℕ) → Writes d s v → amount_of d s ≡ Some (min v all_more)
  pub written : is_some (amount_of d s) ≡ true → WritesOne d s
  pub none : is_some (amount_of d s) ≡ false → (v : ℕ) → Writes d s v → ⊥

pub typed-exact : (d : ℕ) (s : List ℕ) → Exact d s
typed-exact d s = record { read = exact_read d s; written = read-exact d s; none = none_written d s }
