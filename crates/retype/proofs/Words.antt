-- The words of a typed line: a name, and values with a blank before each.
-- Assumes nothing.
use Prim.Native.Nat.{ℕ, ◌≤◌, ◌<◌}
use native.Mathlib.Omega.{arith}
use mathlib.Core.Path.{◌≡◌, refl}
use mathlib.Core.Bool.{true, false}
use mathlib.Core.List.{List, [], ◌∷◌, ◌++◌}
use lib.ListN.{length}
use lib.Seq.{take_at, drop_at}
use borrow.Author.Tests.{ne_eqb}
use Rattle.base.specs.Bytes.{index_of}
use Rattle.typed_words.specs.Words.{is_blank, leading_of, first_word, past_word}
use Rattle.text_lines.specs.Lines.{has}
use Rattle.text_lines.proofs.Bytes.{index-other, has-not}

-- each byte of s is a digit, a letter, a hyphen or a point, or stands between them
abbrev pub Word : List ℕ → Type 0
Word [] = Unit {0}
Word (b ∷ s) = ((45 ≤ b) × (b ≤ 122)) × Word s

pub word_and : (s t : List ℕ) → Word s → Word t → Word (s ++ t)
word_and [] t p q = q
word_and (b ∷ s) t p q = (p.0, word_and s t p.1 q)

not-blank : (b : ℕ) → 45 ≤ b → is_blank b ≡ false
not-blank b h =
    let e32 : b ≡ 32 → ⊥ = λ e. omega arith in
    let e9 : b ≡ 9 → ⊥ = λ e. omega arith in
    let e13 : b ≡ 13 → ⊥ = λ e. omega arith in
    rw (ne_eqb b 32 e32, ne_eqb b 9 e9, ne_eqb b 13 e13)

-- a word up to what ends it
pub word-length : (w rest : List ℕ) → Word w → leading_of false rest ≡ 0 → leading_of false (w ++ rest) ≡ length w
unfolding leading_of
word-length [] rest p e = e
word-length (b ∷ w) rest p e = rw (not-blank b p.0.0, word-length w rest p.1 e)

no-blanks : (b : ℕ) (s : List ℕ) → 45 ≤ b → leading_of true (b ∷ s) ≡ 0
unfolding leading_of
no-blanks b s h = rw (not-blank b h)

-- a word stands at the front, and a blank or nothing behind it
pub first-is : (w rest : List ℕ) → Word w → 0 < length w → leading_of false rest ≡ 0 → first_word (w ++ rest) ≡ w
first-is [] rest p h e = absurd (omega arith)
first-is (b ∷ w) rest p h e =
    rw (no-blanks b (w ++ rest) p.0.0, word-length (b ∷ w) rest p e) (take_at (b ∷ w) rest (length (b ∷ w)) refl)

pub past_is : (w rest : List ℕ) → Word w → 0 < length w → leading_of false rest ≡ 0 → past_word (w ++ rest) ≡ rest
past_is [] rest p h e = absurd (omega arith)
past_is (b ∷ w) rest p h e =
    rw (no-blanks b (w ++ rest) p.0.0, word-length (b ∷ w) rest p e) (drop_at (b ∷ w) rest (length (b ∷ w)) refl)

-- a blank before it makes no difference
pub first-blank : (s : List ℕ) → first_word (32 ∷ s) ≡ first_word s
unfolding leading_of
first-blank s = refl

pub past-blank : (s : List ℕ) → past_word (32 ∷ s) ≡ past_word s
unfolding leading_of
past-blank s = refl

-- b stands before the hyphen, and is in no word
pub none-in-word : (b : ℕ) → b < 45 → (w : List ℕ) → Word w → has b w ≡ false
none-in-word b h w p = has-not b w (index b h w p)
  where
    index : (b : ℕ) → b < 45 → (w : List ℕ) → Word w → length w ≤ index_of b w
    index b h [] p = omega arith
    index b h (c ∷ w) p =
        let e : c ≡ b → ⊥ = λ q. omega (arith, p.0.0) in
        omega (arith, index-other b c w (ne_eqb c b e), index b h w p.1)
