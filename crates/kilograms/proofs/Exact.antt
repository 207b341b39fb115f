-- The kilograms of n grams are n thousandths: without its thin spaces, the text is that number with three decimals.
-- Assumes nothing.
use Prim.Native.Nat.{ℕ, zero, suc, ◌+◌, ◌-◌, ◌/◌, ◌%◌, ◌≤◌, ◌<◌}
use native.Mathlib.Omega.{arith}
use mathlib.Core.Path.{◌≡◌, refl, ap, sym, ◌∙◌}
use mathlib.Core.Bool.{Bool, true, false, ◌&&◌}
use mathlib.Core.List.{List, [], ◌∷◌, ◌++◌, append_assoc}
use lib.ListN.{length, take, length-append}
use lib.Seq.{take_at, drop_at}
use lib.Dec.{ltb, eqb}
use borrow.Author.Tests.{lt-ltb, ltb-true, ltb-false}
use Rattle.base.specs.Choice.{pick}
use Rattle.base.proofs.Tests.{by-test}
use Rattle.printing.specs.Decimal.{digit, decimal, thousandths}
use Rattle.printing.proofs.Digits.{decimal-small, decimal-more}
use Rattle.printing.proofs.PointedLength.{decimal-some}
use Rattle.printing.specs.Ascii.{thin_space}
use Rattle.kilograms.specs.Kilograms.{space_before, in_threes, pointed_before, amount_text}
use Rattle.kilograms.specs.Exact.{unspaced}
use Rattle.kilograms.proofs.Threes.{amount-long, amount-short}

-- ---- texts without their spaces

both : (s t : List ℕ) → unspaced (s ++ t) ≡ unspaced s ++ unspaced t
unfolding unspaced
both [] t = refl
both (b ∷ s) t = rw (both s t) (chosen (ltb b 128) b (unspaced s) (unspaced t))
  where
    chosen : (c : Bool) (b : ℕ) (s t : List ℕ) → pick c (b ∷ (s ++ t)) (s ++ t) ≡ pick c (b ∷ s) s ++ t
    chosen true b s t = refl
    chosen false b s t = refl

no-space : (c : Bool) → unspaced (pick c thin_space []) ≡ []
unfolding unspaced
no-space true = refl
no-space false = refl

threes-plain : (ds : List ℕ) → unspaced (in_threes ds) ≡ unspaced ds
unfolding in_threes unspaced
threes-plain [] = refl
threes-plain (d ∷ ds) =
    let rest : unspaced (space_before (length ds) ++ in_threes ds) ≡ unspaced ds =
    both (space_before (length ds)) (in_threes ds)
    ∙ ap (λ (l : List ℕ). l ++ unspaced (in_threes ds)) (no-space (ltb 0 (length ds) && eqb (length ds % 3) 0))
    ∙ threes-plain ds in
    rw rest refl

digit-plain : (d : ℕ) → d < 10 → unspaced (digit d ∷ []) ≡ digit d ∷ []
unfolding unspaced
digit-plain d h = rw (lt-ltb (48 + d) 128 (omega arith)) refl

decimal-plain : (most n : ℕ) → n ≤ most → unspaced (decimal n) ≡ decimal n
decimal-plain zero n h = let s : n < 10 = omega arith in rw (decimal-small n s) (digit-plain n s)
decimal-plain (suc most) n h =
    by-test (ltb n 10)
    (λ t. let s : n < 10 = ltb-true n 10 t in rw (decimal-small n s) (digit-plain n s))
    (λ f.
    let m : 10 ≤ n = ltb-false n 10 f in
    rw (decimal-more n m) (
    both (decimal (n / 10)) (digit (n % 10) ∷ [])
    ∙ ap (λ (l : List ℕ). l ++ unspaced (digit (n % 10) ∷ [])) (decimal-plain most (n / 10) (omega arith))
    ∙ ap (λ (l : List ℕ). decimal (n / 10) ++ l) (digit-plain (n % 10) (omega arith))))

-- ---- the last three digits

abbrev three_of : ℕ → List ℕ
three_of n = digit (n / 100 % 10) ∷ digit (n / 10 % 10) ∷ digit (n % 10) ∷ []

three-plain : (n : ℕ) → unspaced (46 ∷ three_of n) ≡ 46 ∷ three_of n
unfolding unspaced
three-plain n =
    rw (
      lt-ltb (48 + n / 100 % 10) 128 (omega arith),
      lt-ltb (48 + n / 10 % 10) 128 (omega arith),
      lt-ltb (48 + n % 10) 128 (omega arith),
    ) refl

two-more : (n : ℕ) → 100 ≤ n → decimal n ≡ decimal (n / 10 / 10) ++ (digit (n / 10 % 10) ∷ digit (n % 10) ∷ [])
two-more n h =
    decimal-more n (omega arith)
    ∙ ap (λ (l : List ℕ). l ++ (digit (n % 10) ∷ [])) (decimal-more (n / 10) (omega arith))
    ∙ append_assoc (decimal (n / 10 / 10)) (digit (n / 10 % 10) ∷ []) (digit (n % 10) ∷ [])

three-more : (n : ℕ) → 1000 ≤ n → decimal n ≡ decimal (n / 1000) ++ three_of n
three-more n h =
    let q : n / 10 / 10 / 10 ≡ n / 1000 = omega arith in
    let r : n / 10 / 10 % 10 ≡ n / 100 % 10 = omega arith in
    let e : decimal (n / 10 / 10) ≡ decimal (n / 1000) ++ (digit (n / 100 % 10) ∷ []) =
    rw (q, r) at (decimal-more (n / 10 / 10) (omega arith)) in
    two-more n (omega arith)
    ∙ ap (λ (l : List ℕ). l ++ (digit (n / 10 % 10) ∷ digit (n % 10) ∷ [])) e
    ∙ append_assoc (decimal (n / 1000)) (digit (n / 100 % 10) ∷ []) (digit (n / 10 % 10) ∷ digit (n % 10) ∷ [])

-- ---- a kilogram and more

parts : (a b : List ℕ) → pointed_before (length a) (a ++ b) ≡ in_threes a ++ (46 ∷ b)
parts a b = rw (take_at a b (length a) refl, drop_at a b (length a) refl) refl

large : (n : ℕ) → 1000 ≤ n → amount_text (decimal n) ≡ in_threes (decimal (n / 1000)) ++ (46 ∷ three_of n)
large n h =
    let l = ap length (three-more n h) ∙ length-append (decimal (n / 1000)) (three_of n) in
    let k : length (decimal n) - 3 ≡ length (decimal (n / 1000)) = omega (arith, l) in
    amount-long (decimal n) (omega (arith, l, decimal-some (n / 1000)))
    ∙ ap (λ (i : ℕ). pointed_before i (decimal n)) k
    ∙ ap (λ (ds : List ℕ). pointed_before (length (decimal (n / 1000))) ds) (three-more n h)
    ∙ parts (decimal (n / 1000)) (three_of n)

-- ---- less than a kilogram

none-whole : (n : ℕ) → n < 1000 → thousandths n ≡ 48 ∷ 46 ∷ three_of n
none-whole n h = let q : n / 1000 ≡ 0 = omega arith in rw q (rw (decimal-small 0 (omega arith)) refl)

by_length : (ds : List ℕ) (a b c : ℕ) → length ds < 4 → take (3 - length ds) (48 ∷ 48 ∷ 48 ∷ []) ++ ds ≡ a ∷ b ∷ c ∷ []
    → amount_text ds ≡ 48 ∷ 46 ∷ a ∷ b ∷ c ∷ []
by_length ds a b c h e = amount-short ds h ∙ ap (λ (l : List ℕ). (48 ∷ 46 ∷ []) ++ l) e

one-digit : (n : ℕ) → n < 10 → amount_text (decimal n) ≡ 48 ∷ 46 ∷ three_of n
one-digit n h =
    let x : n / 100 % 10 ≡ 0 = omega arith in
    let y : n / 10 % 10 ≡ 0 = omega arith in
    let z : n % 10 ≡ n = omega arith in
    rw (x, y, z, decimal-small n h) (by_length (digit n ∷ []) 48 48 (digit n) (omega arith) refl)

two_digits : (n : ℕ) → 10 ≤ n → n < 100 → amount_text (decimal n) ≡ 48 ∷ 46 ∷ three_of n
two_digits n g h =
    let x : n / 100 % 10 ≡ 0 = omega arith in
    let y : n / 10 % 10 ≡ n / 10 = omega arith in
    rw (x, y, decimal-more n g, decimal-small (n / 10) (omega arith)) (by_length (digit (n / 10) ∷ digit (n % 10) ∷ []) 48 (digit (n / 10)) (digit (n % 10))
    (omega arith) refl)

three-digits : (n : ℕ) → 100 ≤ n → n < 1000 → amount_text (decimal n) ≡ 48 ∷ 46 ∷ three_of n
three-digits n g h =
    let q : n / 10 / 10 ≡ n / 100 % 10 = omega arith in
    let e : decimal n ≡ three_of n = rw (q, decimal-small (n / 100 % 10) (omega arith)) at (two-more n g) in
    rw e (by_length (three_of n) (digit (n / 100 % 10)) (digit (n / 10 % 10)) (digit (n % 10)) (omega arith) refl)

small : (n : ℕ) → n < 1000 → amount_text (decimal n) ≡ 48 ∷ 46 ∷ three_of n
small n h =
    by-test (ltb n 10)
    (λ t. one-digit n (ltb-true n 10 t))
    (λ f. by-test (ltb n 100) (λ t. two_digits n (ltb-false n 10 f) (ltb-true n 100 t)) (λ g. three-digits n (ltb-false n 100 g) h))

-- ---- all

pub kilograms-exact : (n : ℕ) → unspaced (amount_text (decimal n)) ≡ thousandths n
kilograms-exact n =
    by-test (ltb n 1000)
    (λ t. let h : n < 1000 = ltb-true n 1000 t in ap unspaced (small n h) ∙ plain-small n ∙ sym (none-whole n h))
    (λ f.
    let h : 1000 ≤ n = ltb-false n 1000 f in
    ap unspaced (large n h)
    ∙ both (in_threes (decimal (n / 1000))) (46 ∷ three_of n)
    ∙ ap (λ (l : List ℕ). l ++ unspaced (46 ∷ three_of n)) (threes-plain (decimal (n / 1000)) ∙ decimal-plain (n / 1000) (n / 1000) (omega arith))
    ∙ ap (λ (l : List ℕ). decimal (n / 1000) ++ l) (three-plain n))
  where
    plain-small : (n : ℕ) → unspaced (48 ∷ 46 ∷ three_of n) ≡ 48 ∷ 46 ∷ three_of n
    plain-small n = with-zero (three_of n) (three-plain n)
      where
        with-zero : (s : List ℕ) → unspaced (46 ∷ s) ≡ 46 ∷ s → unspaced (48 ∷ 46 ∷ s) ≡ 48 ∷ 46 ∷ s
        with-zero s e = both (48 ∷ []) (46 ∷ s) ∙ ap (λ (l : List ℕ). unspaced (48 ∷ []) ++ l) e ∙ ap (λ (l : List ℕ). l ++ (46 ∷ s)) (digit-plain 0 (omega arith))
