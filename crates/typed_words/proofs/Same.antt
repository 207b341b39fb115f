-- `same_text_lem` is the library's equality of two texts, and `lowered` its `map` of small letters.
use Prim.Native.Nat.{ℕ, suc}
use mathlib.Core.Path.{◌≡◌, refl, ap, ◌∙◌}
use mathlib.Core.Bool.{Bool, false, ◌&&◌}
use mathlib.Core.List.{List, [], ◌∷◌, map}
use lib.Dec.{eqb}
use lib.ListN.{length}
use Rattle.base.proofs.Tests.{and-false}
use Rattle.std.specs.Bool.{Decides, one_answer, nat_eq}
use Rattle.std.specs.Cmp.Lexicographic.{pointwise, bytes_decides}
use native.Mathlib.Omega.{arith}
use Rattle.std.proofs.lemmas.Bool.Decides.{nat_tests}
use Rattle.std.specs.Char.{to_ascii_lowercase}
use Rattle.typed_words.specs.Words.{same_text_lem, small_letter, lowered}

pub same-text : (s t : List ℕ) → pointwise nat_eq s t ≡ same_text_lem s t
unfolding same_text_lem
same-text [] [] = refl
same-text [] (y ∷ t) = refl
same-text (x ∷ s) [] = refl
same-text (x ∷ s) (y ∷ t) = ap (λ (r : Bool). eqb x y && r) (same-text s t)

pub same-decided : (s t : List ℕ) (r : Bool) → Decides r (s ≡ t) → r ≡ same_text_lem s t
same-decided s t r d = one_answer r (pointwise nat_eq s t) d (bytes_decides s t) ∙ same-text s t

pub other_length : (a b : List ℕ) → (length a ≡ length b → ⊥) → same_text_lem a b ≡ false
unfolding same_text_lem
other_length [] [] h = absurd (h refl)
other_length [] (y ∷ ys) h = refl
other_length (x ∷ xs) [] h = refl
other_length (x ∷ xs) (y ∷ ys) h = rw (other_length xs ys (λ e. h (ap suc e))) (and-false (eqb x y))

pub lowered-map : (s : List ℕ) → map to_ascii_lowercase s ≡ lowered s
unfolding lowered
lowered-map [] = refl
lowered-map (b ∷ s) = let e : to_ascii_lowercase b ≡ small_letter b = grind (arith, nat_tests) in rw (e, lowered-map s)

pub length-lowered : (s : List ℕ) → length (lowered s) ≡ length s
unfolding lowered
length-lowered [] = refl
length-lowered (b ∷ s) = ap suc (length-lowered s)
