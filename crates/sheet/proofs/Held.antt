-- Numbers as the code holds them: in 64 bits or too big, read from an index on.
use Prim.Native.Nat.{ℕ, ◌+◌, ◌-◌, ◌*◌, ◌<◌, ◌≤◌}
use native.Mathlib.Omega.{arith}
use native.Mathlib.Numerals.{add-one}
use native.Mathlib.Nat.{add-zero}
use mathlib.Core.Bool.{Bool, true, false, ◌&&◌}
use mathlib.Core.Path.{◌≡◌, refl, sym, ap, ◌∙◌}
use mathlib.Core.List.{List}
use lib.ListN.{length, get_or, drop, drop_of_length-le, get_or-eq_default}
use lib.Seq.{drop-cons, drop-drop, get_or-drop}
use lib.Dec.{leb, ltb}
use borrow.Author.Tests.{leb-true, leb-false, le-leb, lt-leb, lt-ltb, eq-eqb, ne_eqb}
use Rattle.std.specs.Prelude.{Option, Some, Result, Ok, Err, ok_or, IsErrAnd}
use Rattle.std.specs.Result.{result_unwrap_or}
use Rattle.base.specs.Choice.{pick}
use Rattle.sheet.specs.declared.numbers.CellFault.{CellFault}
use Rattle.sheet.specs.declared.numbers.CellFault.TheVariants.{Outside}
use Rattle.sheet.specs.Numbers.{full, first, Number, found, none, digits, positive, unsigned, unsigned_cell, signed_cell, in_field}
use Rattle.sheet.specs.Rows.{kind_in}
use Rattle.sheet.specs.declared.numbers.Read.{Read}
use Rattle.sheet.specs.Code.{held, result_of, number_of, IsRun, IsRead}
use Rattle.base.proofs.Tests.{by-test, and_r}

-- what a `?` hands on
pub err-same : {T E : Type 0} (r : Result T E) (e : E) → IsErrAnd r (λ d. d ≡ e) → r ≡ Err e
err-same (Ok x) e h = absurd h
err-same (Err d) e h = ap Err h

-- ---- an amount

-- what is past 64 bits is outside its field
pub held_is : (number : Option ℕ) (w : ℕ) → number ≡ held w → ok_or number Outside ≡ result_of true (ltb w full) w
held_is number w e = by-test (ltb w full) (λ t. rw (e, t) refl) (λ f. rw (e, f) refl)

pub held-small : (w v : ℕ) → w < full → v ≡ w → Some v ≡ held w
held-small w v h e = rw (e, lt-ltb w full h) refl

-- ---- at an index

pub first-at : (text : List ℕ) (at : ℕ) → first (drop at text) ≡ get_or text at 0
first-at text at = get_or-drop at text 0 0 ∙ rw add-zero

pub past_first : (text : List ℕ) (at : ℕ) → drop 1 (drop at text) ≡ drop (at + 1) text
past_first text at = drop-drop 1 at text

module _ (w : ℕ) (text : List ℕ) (i : ℕ) where
  pub at-end : length text ≤ i → digits w (drop i text) ≡ found w (drop i text)
  unfolding digits
  at-end h = rw (drop_of_length-le text h)

  module _ (h : i < length text) where
    pub at-other : (leb 48 (get_or text i 0) && leb (get_or text i 0) 57) ≡ false → digits w (drop i text) ≡ found w (drop i text)
    unfolding digits
    at-other f = rw (drop-cons text i 0 h, f)

    pub at-digit : (leb 48 (get_or text i 0) && leb (get_or text i 0) 57) ≡ true
        → digits w (drop i text) ≡ digits (w * 10 + (get_or text i 0 - 48)) (drop (i + 1) text)
    unfolding digits
    at-digit t = rw (add-one, drop-cons text i 0 h, t)

pub run_is : (text : List ℕ) (n : Number) (w i : ℕ) (number : Option ℕ) → i ≤ length text → number ≡ held w → n ≡ found w (drop i text)
    → IsRun text n (record { number = ok_or number Outside; end = i })
run_is text n w i number h e f = rw f (record { number = held_is number w e; rest = refl; inside = h })

-- ---- a number that begins with the byte b

module _ (text : List ℕ) (at b : ℕ) (e : b ≡ get_or text at 0) where
  pub in-text : 0 < b → at + 1 ≤ length text
  in-text h = by-test (leb (at + 1) (length text)) (λ t. leb-true _ _ t) (λ f. let l = leb-false (at + 1) (length text) f in
      absurd (omega (arith, get_or-eq_default text 0 {n = at} (omega arith))))

  first-is : first (drop at text) ≡ b
  first-is = first-at text at ∙ sym e

  pub positive-low : b < 49 → positive (drop at text) ≡ none (drop at text)
  unfolding positive
  positive-low l = rw (first-is, lt-leb 49 b l)

  pub positive-high : 57 < b → positive (drop at text) ≡ none (drop at text)
  unfolding positive
  positive-high l = rw (first-is, le-leb 49 b (omega arith), lt-leb b 57 l)

  pub positive-digit : 49 ≤ b → b ≤ 57 → positive (drop at text) ≡ digits (b - 48) (drop (at + 1) text)
  unfolding positive
  positive-digit l u = rw (first-is, past_first text at, le-leb 49 b l, le-leb b 57 u)

  pub unsigned-zero : b ≡ 48 → unsigned (drop at text) ≡ found 0 (drop (at + 1) text)
  unfolding unsigned
  unsigned-zero z = rw (first-is, past_first text at, eq-eqb b 48 z)

  pub unsigned-other : (b ≡ 48 → ⊥) → unsigned (drop at text) ≡ positive (drop at text)
  unfolding unsigned
  unsigned-other z = rw (first-is, ne_eqb b 48 z)

  pub signed-other : (h : ℕ) → (b ≡ 45 → ⊥) → signed_cell h (drop at text) ≡ unsigned_cell h (drop at text)
  unfolding signed_cell unsigned_cell
  signed-other h z = rw (first-is, ne_eqb b 45 z)

  pub signed-minus : (h : ℕ) → b ≡ 45 → signed_cell h (drop at text)
      ≡ in_field (positive (drop (at + 1) text)) (h + 1) (full - (positive (drop (at + 1) text)).value)
  unfolding signed_cell
  signed-minus h z = rw (first-is, past_first text at, eq-eqb b 45 z)

-- ---- in its field

ok-result : (g b : Bool) (v w : ℕ) → Ok v ≡ result_of g b w → (g ≡ true) × (b ≡ true) × (v ≡ w)
ok-result true true v w e = (refl, refl, cc)
ok-result true false v w e = cc
ok-result false b v w e = cc

err-other : (g b : Bool) (v w : ℕ) (f : CellFault) → Err f ≡ result_of g (g && b) (pick (g && b) v 0) → Err f ≡ result_of g (g && b) (pick (g && b) w 0)
err-other true true v w f e = cc
err-other true false v w f e = e
err-other false b v w f e = e

module _ (m : Number) (h : ℕ) where
  -- a number in its field, and another value there
  pub field-wrong : (f : CellFault) (w : ℕ) → Err f ≡ number_of (in_field m h m.value) → Err f ≡ number_of (in_field m h w)
  field-wrong f w e = err-other m.good (leb m.value h) m.value w f e

  module _ (v : ℕ) (e : Ok v ≡ number_of (in_field m h m.value)) where
    passed : (m.good ≡ true) × ((m.good && leb m.value h) ≡ true) × (v ≡ pick (m.good && leb m.value h) m.value 0)
    passed = ok-result m.good (m.good && leb m.value h) v _ e

    pub field-good : m.good ≡ true
    field-good = passed.0

    most : leb m.value h ≡ true
    most = and_r m.good _ passed.1

    pub field-value : v ≡ m.value
    field-value = rw passed.1 at passed.2

    pub field-right : (u w : ℕ) → u ≡ w → Ok u ≡ number_of (in_field m h w)
    field-right u w q = rw (passed.0, most) (ap Ok q)

-- the number of a cell, 0 where it is outside its field
value-or : (g b : Bool) (v : ℕ) → result_unwrap_or (result_of g (g && b) (pick (g && b) v 0)) 0 ≡ pick (g && b) v 0
value-or true true v = refl
value-or true false v = refl
value-or false b v = refl

-- the kind of the row that s begins with
pub kind-is : {text : List ℕ} (s : List ℕ) {r : Read} {kind : ℕ} → kind ≡ result_unwrap_or r.number 0 → IsRead text (unsigned_cell 255 s) r → kind ≡ kind_in s
unfolding unsigned_cell
kind-is {text} s {r} {kind} e o =
    let n = unsigned s in
    e ∙ ap (λ (x : Result ℕ CellFault). result_unwrap_or x 0) o.number ∙ value-or n.good (leb n.value 255) n.value
