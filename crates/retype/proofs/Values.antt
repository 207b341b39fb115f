-- The values of a typed line: each is a short word that is read back as the value, with a blank before it.
-- Assumes nothing.
use Prim.Native.Nat.{ℕ, suc, ◌+◌, ◌*◌, ◌≤◌, ◌<◌}
use native.Mathlib.Omega.{arith}
use native.Mathlib.Nat.{add-zero}
use mathlib.Core.Path.{◌≡◌, refl, sym, ap, ◌∙◌}
use mathlib.Core.Bool.{true, false}
use mathlib.Core.List.{List, [], ◌∷◌, ◌++◌}
use lib.ListN.{length, get_or, length-append}
use borrow.Author.Tests.{lt-ltb, ne_eqb}
use Rattle.base.proofs.Tests.{of-choice}
use Rattle.base.specs.Bytes.{index_of}
use Rattle.typed_words.specs.Words.{leading_of, nth_word}
use Rattle.std.specs.Prelude.{Some}
use Rattle.text_lines.specs.Lines.{has}
use Rattle.text_lines.proofs.Bytes.{absent, index-other, has-not, has-behind}
use Rattle.codec.specs.Table.{fields, field_at, last_row, Of}
use Rattle.codec.specs.Codec.{first_bad}
use Rattle.codec.proofs.Within.{Within, ranges}
use Rattle.printing.specs.Decimal.{pointed}
use Rattle.names.specs.Names.{is_choice, choice_word, decimals_at, value_text}
use Rattle.names.proofs.TypedBack.{pointed-back, number-length, choice-least, choice-back}
use Rattle.writer.specs.Line.{has_field, value_at}
use Rattle.writer.proofs.TypedLines.{read-value}
use Rattle.retype.specs.Typed.{values_typed}
use Rattle.retype.proofs.Words.{Word, first-is, past_is, first-blank, past-blank, none-in-word}
use Rattle.retype.proofs.Decimals.{pointed_word, pointed-some}
use Rattle.retype.proofs.Tables.{number-most, choice-word, choice-some, choice-short, choice-other}

-- s is a short word that is read as the value v of field i
pub record ReadAs (row i v : ℕ) (s : List ℕ) : Type 0 where
  pub word : Word s
  pub some : 0 < length s
  pub short : length s ≤ 20
  pub back : value_at row i s ≡ Some v

-- what is typed of the value is
abbrev pub ReadsBack : ℕ → ℕ → ℕ → Type 0
ReadsBack row i v = ReadAs row i v (value_text row i v)

-- the values from field i on
abbrev pub AllBack : ℕ → ℕ → List ℕ → Type 0
AllBack row i [] = Unit {0}
AllBack row i (v ∷ vs) = ReadsBack row i v × AllBack row (suc i) vs

-- ---- a value in its range

module _ (row i v : ℕ) (least : 1 ≤ row) (most : row ≤ last_row) (h : i < length (fields row)) (w : Within (field_at row i) v) where
  has-field : has_field row i ≡ true
  has-field = lt-ltb i (length (fields row)) h

  number_is : is_choice row i ≡ false → ReadAs row i v (pointed (decimals_at row i) v)
  number_is f =
      let m : v < 1000000000000000 = omega (arith, number-most row least most i h f, w.below) in
      let d = decimals_at row i in
      record {
        word = pointed_word d v;
        some = pointed-some d v;
        short = number-length row i v m;
        back = sym (read-value row i (pointed d v) has-field (sym (pointed-back d v m)) refl);
      }

  choice-is : is_choice row i ≡ true → ReadAs row i v (choice_word row i v)
  choice-is c =
      let l = choice-least row i v h c w.above w.below in
      record {
        word = choice-word row least most i h c v l w.below;
        some = choice-some row least most i h c v l w.below;
        short = choice-short row least most i h c v l w.below;
        back =
            sym (read-value row i (choice_word row i v) has-field (sym (choice-other row least most i h c v l w.below))
            (sym (choice-back row i v h c w.above w.below)));
      }

  pub reads-back : ReadsBack row i v
  reads-back = of-choice (ReadAs row i v) (is_choice row i) choice-is number_is

-- each value from the first on
all_of : (row i : ℕ) (vs : List ℕ) → ((j : ℕ) → j < length vs → ReadsBack row (i + j) (get_or vs j 0)) → AllBack row i vs
all_of row i [] f = tt
all_of row i (v ∷ vs) f = (
  rw add-zero at (f 0 (omega arith)),
  all_of row (suc i) vs (λ j h. let e : suc i + j ≡ i + suc j = omega arith in rw e (f (suc j) (omega arith))),
)

-- the values vs of a row, all in their ranges
module _ (row : ℕ) (vs : List ℕ) (of : Of row vs) (in-range : first_bad (fields row) vs 0 ≡ 0) where
  pub value-back : (i : ℕ) → i < length vs → ReadsBack row i (get_or vs i 0)
  value-back i h =
      let z : 0 + i ≡ i = omega arith in
      let k : i < length (fields row) = omega (arith, of.count) in
      reads-back row i (get_or vs i 0) of.least of.most k (rw z at (ranges vs (fields row) 0 in-range i k))

  pub all_back : AllBack row 0 vs
  all_back = all_of row 0 vs (λ j h. let z : 0 + j ≡ j = omega arith in rw z (value-back j h))

-- ---- the words of the line

pub typed-ends : (row i : ℕ) (vs : List ℕ) → leading_of false (values_typed row i vs) ≡ 0
unfolding values_typed leading_of
typed-ends row i [] = refl
typed-ends row i (v ∷ vs) = refl

pub first-typed : (row i v : ℕ) (vs : List ℕ) → ReadsBack row i v → nth_word 0 (values_typed row i (v ∷ vs)) ≡ value_text row i v
unfolding values_typed nth_word
first-typed row i v vs b =
    let rest = values_typed row (suc i) vs in
    first-blank (value_text row i v ++ rest) ∙ first-is (value_text row i v) rest b.word b.some (typed-ends row (suc i) vs)

pub next-typed : (row i v : ℕ) (vs : List ℕ) (j : ℕ) → ReadsBack row i v
    → nth_word (suc j) (values_typed row i (v ∷ vs)) ≡ nth_word j (values_typed row (suc i) vs)
unfolding values_typed nth_word
next-typed row i v vs j b =
    let rest = values_typed row (suc i) vs in
    ap (nth_word j) (past-blank (value_text row i v ++ rest) ∙ past_is (value_text row i v) rest b.word b.some (typed-ends row (suc i) vs))

pub no-more-typed : (row i : ℕ) → nth_word 0 (values_typed row i []) ≡ []
unfolding values_typed nth_word leading_of
no-more-typed row i = refl

-- b is neither a blank nor in a word
pub none-in-typed : (b : ℕ) → b < 45 → (b ≡ 32 → ⊥) → (row i : ℕ) (vs : List ℕ) → AllBack row i vs → has b (values_typed row i vs) ≡ false
unfolding values_typed
none-in-typed b h n row i [] p = has-not b [] (omega arith)
none-in-typed b h n row i (v ∷ vs) p =
    let w = value_text row i v in
    has-behind b (32 ∷ w) (values_typed row (suc i) vs)
    (has-not b (32 ∷ w) (blank-first w (absent b w (none-in-word b h w p.0.word))))
    ∙ none-in-typed b h n row (suc i) vs p.1
  where
    blank-first : (w : List ℕ) → length w ≤ index_of b w → length (32 ∷ w) ≤ index_of b (32 ∷ w)
    blank-first w l = let e : 32 ≡ b → ⊥ = λ q. n (sym q) in omega (arith, index-other b 32 w (ne_eqb 32 b e), l)

pub typed-length : (row i : ℕ) (vs : List ℕ) → AllBack row i vs → length (values_typed row i vs) ≤ 21 * length vs
unfolding values_typed
typed-length row i [] p = omega arith
typed-length row i (v ∷ vs) p =
    omega (arith, length-append (value_text row i v) (values_typed row (suc i) vs), p.0.short, typed-length row (suc i) vs p.1)
