-- Theorems: what is typed of a value is read back as the value, a number with all its decimals and the word of a choice.
-- Assumes nothing.
use Prim.Native.Nat.{ℕ, zero, suc, ◌+◌, ◌-◌, ◌*◌, ◌/◌, ◌%◌, ◌<◌, ◌≤◌, min}
use native.Mathlib.Omega.{arith}
use mathlib.Core.Path.{◌≡◌, refl, sym, ap, ◌∙◌}
use mathlib.Core.Bool.{Bool, true, false, ◌&&◌, ◌||◌, not, true≢false}
use mathlib.Core.List.{List, [], ◌∷◌, ◌++◌, append-nil, append_assoc}
use mathlib.Core.Logic.{◌⊎◌, inl, inr}
use lib.ListN.{length}
use lib.Dec.{T, leb, ltb, eqb, eqb→eq}
use lib.Ieee.Fits.{and_l, and_r}
use borrow.Author.Tests.{le-leb, ltb-true, ltb-false}
use Rattle.base.proofs.Tests.{by-test}
use Rattle.std.specs.Prelude.{Some, Option, None}
use Rattle.typed_words.specs.Amounts.{is_digit, amount_of, all_digits, value_after_lem, Writes}
use Rattle.typed_words.proofs.TypedExact.{all_more, exact_read}
use Rattle.printing.specs.Decimal.{digit, decimal, last_digits, without_last, pointed}
use Rattle.printing.proofs.Digits.{decimal-small, decimal-more, amount-fits}
use Rattle.printing.proofs.Points.{last-length}
use Rattle.printing.proofs.PointedLength.{decimal-some, pointed-length}
use Rattle.codec.specs.Table.{fields, field_at}
use Rattle.codec.proofs.EachKind.{no_fields}
use Rattle.names.specs.Names.{no_row, is_choice, choice_word, chosen, decimals_at}
use Rattle.names.proofs.Lines.{all_below, at-below, few-decimals}
use Rattle.names.proofs.Tables.{is_number, all-chosen}

-- ---- a number

-- the digits s write the number n
record Digits (s : List ℕ) (n : ℕ) : Type 0 where
  all : all_digits s ≡ true
  value : value_after_lem 0 s ≡ n

one-all : (d : ℕ) → d < 10 → all_digits (digit d ∷ []) ≡ true
unfolding all_digits
one-all d h = let l : 48 ≤ 48 + d = omega arith in let m : 48 + d ≤ 57 = omega arith in rw (le-leb 48 (48 + d) l, le-leb (48 + d) 57 m) refl

one_value : (u d : ℕ) → value_after_lem u (digit d ∷ []) ≡ u * 10 + d
unfolding value_after_lem
one_value u d = omega arith

-- a digit more at the end
more-all : (s : List ℕ) (d : ℕ) → d < 10 → all_digits s ≡ true → all_digits (s ++ (digit d ∷ [])) ≡ true
unfolding all_digits
more-all [] d h e = one-all d h
more-all (b ∷ s) d h e = by_first (is_digit b) (all_digits s) (all_digits (s ++ (digit d ∷ []))) e (more-all s d h)
  where
    by_first : (x y z : Bool) → x && y ≡ true → (y ≡ true → z ≡ true) → x && z ≡ true
    by_first true y z p f = f p
    by_first false y z p f = p

more-value : (u : ℕ) (s : List ℕ) (d : ℕ) → value_after_lem u (s ++ (digit d ∷ [])) ≡ value_after_lem u s * 10 + d
unfolding value_after_lem
more-value u [] d = one_value u d
more-value u (b ∷ s) d = more-value (u * 10 + (b - 48)) s d

more : (s : List ℕ) (n q : ℕ) → q ≡ n / 10 → Digits s q → Digits (s ++ (digit (n % 10) ∷ [])) n
more s n q e g =
    record {
      all = more-all s (n % 10) (omega arith) g.all;
      value = more-value 0 s (n % 10) ∙ rw g.value (omega arith);
    }

small : (n : ℕ) → n < 10 → Digits (decimal n) n
small n h = rw (decimal-small n h) (record { all = one-all n h; value = one_value 0 n ∙ omega arith })

digits-by : (f n : ℕ) → n ≤ f → Digits (decimal n) n
digits-by zero n h = small n (omega arith)
digits-by (suc f) n h =
    by-test (ltb n 10)
    (λ t. small n (ltb-true n 10 t))
    (λ t. let m : 10 ≤ n = ltb-false n 10 t in
    rw (decimal-more n m) (more (decimal (n / 10)) n (n / 10) refl (digits-by f (n / 10) (omega arith))))

-- the digits before the point and those after it
cut-digits : (d n : ℕ) → Digits (decimal (without_last d n) ++ last_digits d n) n
unfolding without_last last_digits
cut-digits zero n = rw append-nil (digits-by n n (omega arith))
cut-digits (suc d) n =
    rw (← append_assoc (decimal (without_last d (n / 10))) (last_digits d (n / 10)) (digit (n % 10) ∷ []))
    (more (decimal (without_last d (n / 10)) ++ last_digits d (n / 10)) n (n / 10) refl (cut-digits d (n / 10)))

abbrev Form : ℕ → ℕ → Type 0
Form d n =
    ((pointed d n ≡ decimal (without_last d n)) × (last_digits d n ≡ []))
    ⊎ ((pointed d n ≡ decimal (without_last d n) ++ (46 ∷ last_digits d n)) × (1 ≤ length (last_digits d n)))

form : (d n : ℕ) → Form d n
unfolding pointed without_last last_digits
form zero n = inl (refl, refl)
form (suc d) n = inr (refl, last_some n (suc d) (omega arith))
  where
    last_some : (n d : ℕ) → 1 ≤ d → 1 ≤ length (last_digits d n)
    last_some n d h = omega (arith, last-length n d)

writes : (d n : ℕ) → Writes d (pointed d n) n
writes d n =
    let g = cut-digits d n in
    let long = last-length n d in
    let none : d - length (last_digits d n) ≡ 0 = omega (arith, long) in
    record {
      whole = decimal (without_last d n);
      places = last_digits d n;
      some = decimal-some (without_last d n);
      most = omega (arith, long);
      digits = g.all;
      form = form d n;
      times = rw (g.value, none) (omega arith);
    }

-- a number with d decimals, printed with all of them
pub pointed-back : (d n : ℕ) → n < all_more → amount_of d (pointed d n) ≡ Some n
pointed-back d n h = let e : min n all_more ≡ n = omega arith in exact_read d (pointed d n) n (writes d n) ∙ ap (λ (x : ℕ). Some x) e

-- ---- how long it is

pub number-length : (row i n : ℕ) → n < all_more → length (pointed (decimals_at row i) n) ≤ 20
number-length row i n h =
    let few : length (decimal n) ≤ 19 = omega (arith, amount-fits 0 19 n (omega arith) (omega arith)) in
    pointed-length (decimals_at row i) n 19 few (omega (arith, few-decimals row i))

-- ---- the word of a choice

number_is : (o : Option ℕ) (n : ℕ) → T (is_number o n) → o ≡ Some n
number_is None n t = absurd t
number_is (Some m) n t = ap (λ (k : ℕ). Some k) (eqb→eq m n t)

where-told : (a b : Bool) → a ≡ true → T (not a || b) → T b
where-told true b e t = t
where-told false b e t = absurd (true≢false (sym e))

module _ (row i v : ℕ) (h : i < length (fields row)) (c : is_choice row i ≡ true) (low : (field_at row i).1 ≤ v) (high : v ≤ (field_at row i).2) where
  row_is : row < no_row
  row_is = by-test (ltb row no_row) (λ t. ltb-true row no_row t) (λ f. absurd (omega (arith, ap length (no_fields row (ltb-false row no_row f)))))

  -- the word for n + 1 is one, and is read as n + 1
  abbrev back : ℕ → Bool
  back n = leb 1 (length (choice_word row i (suc n))) && is_number (chosen row i (choice_word row i (suc n))) (suc n)

  abbrev first : Bool
  first = eqb (field_at row i).1 1

  -- the next number has no word
  abbrev last : Bool
  last = eqb (length (choice_word row i (suc (field_at row i).2))) 0

  numbers : T (first && all_below (field_at row i).2 back)
  numbers =
      and_l (first && all_below (field_at row i).2 back) last
      (where-told (is_choice row i) ((first && all_below (field_at row i).2 back) && last) c
      (at-below (length (fields row)) _ (at-below no_row _ all-chosen row row_is) i h))

  pub choice-least : 1 ≤ v
  choice-least = omega (arith, eqb→eq (field_at row i).1 1 (and_l first (all_below (field_at row i).2 back) numbers))

  pub choice-back : chosen row i (choice_word row i v) ≡ Some v
  choice-back =
      let e : suc (v - 1) ≡ v = omega (arith, choice-least) in
      let t = at-below (field_at row i).2 back (and_r first (all_below (field_at row i).2 back) numbers) (v - 1) (omega (arith, choice-least)) in
      let w = choice_word row i (suc (v - 1)) in
      rw e at (number_is (chosen row i w) (suc (v - 1)) (and_r (leb 1 (length w)) (is_number (chosen row i w) (suc (v - 1))) t))
