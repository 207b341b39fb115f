-- Laws of `leading_of` at a byte that is passed, at one that is not, and at the end, and of `nth_word`.
use Prim.Native.Nat.{ℕ, zero, suc, ◌+◌, ◌-◌, ◌<◌, ◌≤◌}
use native.Mathlib.Numerals.{add-one}
use native.Mathlib.Omega.{arith}
use mathlib.Core.Path.{◌≡◌, refl, sym, ◌∙◌}
use mathlib.Core.Bool.{Bool, true, false, beq}
use mathlib.Core.List.{List, [], ◌∷◌}
use lib.ListN.{length, drop, drop_of_length-le}
use Rattle.typed_words.specs.Words.{is_blank, leading_of, first_word, past_word, nth_word}

pub leading-none : (blanks : Bool) → leading_of blanks [] ≡ 0
unfolding leading_of
leading-none blanks = refl

pub leading-ends : (blanks : Bool) (x : ℕ) (s : List ℕ) → beq (is_blank x) blanks ≡ false → leading_of blanks (x ∷ s) ≡ 0
unfolding leading_of
leading-ends blanks x s e = rw e

pub leading-goes-on : (blanks : Bool) (x : ℕ) (s : List ℕ) → beq (is_blank x) blanks ≡ true → leading_of blanks (x ∷ s) ≡ leading_of blanks s + 1
unfolding leading_of
leading-goes-on blanks x s e = rw (e, add-one)

pub past_end : (s : List ℕ) (i : ℕ) → length s ≤ i → drop i s ≡ drop (i + 1) s
past_end s i h = drop_of_length-le s h ∙ sym (drop_of_length-le s {i = i + 1} (omega arith))

pub no-others : (n : ℕ) (s : List ℕ) → n ≡ 0 → nth_word n s ≡ first_word s
unfolding nth_word
no-others n s e = rw e

pub behind-one : (n : ℕ) (s : List ℕ) → 0 < n → nth_word n s ≡ nth_word (n - 1) (past_word s)
unfolding nth_word
behind-one zero s h = absurd (omega arith)
behind-one (suc n) s h = let e : suc n - 1 ≡ n = omega arith in rw e
