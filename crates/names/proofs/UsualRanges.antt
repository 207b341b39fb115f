-- Laws of what is usual, by the parts that the code finds one after the other.
-- Assumes nothing.
use Prim.Native.Nat.{ℕ}
use mathlib.Core.Path.{◌≡◌, refl, sym, ◌∙◌}
use mathlib.Core.Bool.{Bool, true, false}
use mathlib.Core.List.{List, [], ◌++◌}
use lib.ListN.{length}
use borrow.Author.Tests.{eq-eqb, ne_eqb}
use Rattle.std.specs.Prelude.{◌≢◌, Some, None, unwrap_or}
use Rattle.typed_words.specs.Words.{nth_word}
use Rattle.typed_words.specs.Amounts.{amount_of}
use Rattle.printing.specs.Ascii.{ascii}
use Rattle.names.specs.Usual.{goes_by, range_for, usual_in, for_text}

pub no_range : (ranges : List ℕ) (d who : ℕ) {range : List ℕ} → range ≡ range_for ranges who → length range ≡ 0 → None ≡ usual_in ranges d who
unfolding usual_in
no_range ranges d who one z = rw (← one, eq-eqb _ _ z) refl

-- b is whether the ranges go by class or column, range the one for `who`
module _ (ranges : List ℕ) (d who : ℕ) {b : Bool} (by : b ≡ goes_by ranges) where
  module _ {range : List ℕ} (one : range ≡ range_for ranges who) where
    module _ (some : length range ≢ 0) {low high : ℕ} where
      pub by_word : b ≡ true → low ≡ unwrap_or (amount_of d (nth_word 1 range)) 0 → high ≡ unwrap_or (amount_of d (nth_word 2 range)) 0
          → Some (record { low = low; high = high }) ≡ usual_in ranges d who
      unfolding usual_in
      by_word t l h = let e = sym by ∙ t in rw (l, h, ← one, ne_eqb _ _ some, e) refl

      pub for-all : b ≡ false → low ≡ unwrap_or (amount_of d (nth_word 0 range)) 0 → high ≡ unwrap_or (amount_of d (nth_word 1 range)) 0
          → Some (record { low = low; high = high }) ≡ usual_in ranges d who
      unfolding usual_in
      for-all t l h = let e = sym by ∙ t in rw (l, h, ← one, ne_eqb _ _ some, e) refl

  pub for-word : b ≡ true → for_text ranges who ≡ ascii " for " ++ nth_word 0 (range_for ranges who)
  for-word t = let e = sym by ∙ t in rw e refl

  pub for-nobody : b ≡ false → for_text ranges who ≡ []
  for-nobody t = let e = sym by ∙ t in rw e refl
