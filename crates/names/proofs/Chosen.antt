-- Laws of a word's number among the words of a field: it is the next, one of those after it, or none.
-- Assumes nothing.
use Prim.Native.Nat.{ℕ, suc, ◌+◌, ◌-◌, ◌<◌, ◌≤◌}
use native.Mathlib.Numerals.{add-one}
use native.Mathlib.Omega.{arith}
use mathlib.Core.Path.{◌≡◌, refl, ap, ◌∙◌}
use mathlib.Core.Bool.{Bool, true, false}
use mathlib.Core.List.{List}
use Rattle.std.specs.Prelude.{None, Some}
use Rattle.base.specs.Choice.{pick}
use Rattle.typed_words.specs.Words.{same_text_lem}
use Rattle.names.specs.Names.{choices_most, word_for, chosen_from}

-- r is what the test of the word after k told
module _ (words w : List ℕ) (k : ℕ) (h : k < choices_most) {r : Bool} (e : r ≡ same_text_lem w (word_for words (k + 1))) where
  at-word : chosen_from (choices_most - k) k words w ≡ pick r (Some (k + 1)) (chosen_from (choices_most - (k + 1)) (k + 1) words w)
  unfolding chosen_from
  at-word =
      let left : choices_most - k ≡ suc (choices_most - (k + 1)) = omega arith in
      rw (left, e, add-one k) refl

  pub chosen-here : r ≡ true → chosen_from (choices_most - k) k words w ≡ Some (k + 1)
  chosen-here t = at-word ∙ ap (λ (b : Bool). pick b (Some (k + 1)) (chosen_from (choices_most - (k + 1)) (k + 1) words w)) t

  pub chosen_on : r ≡ false → chosen_from (choices_most - k) k words w ≡ chosen_from (choices_most - (k + 1)) (k + 1) words w
  chosen_on t = at-word ∙ ap (λ (b : Bool). pick b (Some (k + 1)) (chosen_from (choices_most - (k + 1)) (k + 1) words w)) t

pub chosen_none : (words w : List ℕ) (k : ℕ) → choices_most ≤ k → chosen_from (choices_most - k) k words w ≡ None
unfolding chosen_from
chosen_none words w k h = let left : choices_most - k ≡ 0 = omega arith in rw left refl
