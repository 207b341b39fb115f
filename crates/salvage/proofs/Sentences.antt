-- A number's sentence has at most 196 bytes. Assumes nothing.
use Prim.Native.Nat.{ℕ, zero, suc, ◌≤◌, ◌<◌, min}
use mathlib.Core.Path.{◌≡◌, sym, subst}
use mathlib.Core.Bool.{Bool, true, false, ◌&&◌}
use mathlib.Core.List.{append-nil}
use mathlib.Core.Logic.{⊎_elim}
use native.Mathlib.Omega.{arith}
use borrow.Author.Tests.{eqb-true, eqb-false}
use lib.Dec.{T, leb, eqb, leb→le}
use lib.ListN.{length}
use lib.Ieee.Fits.{and_l as and_left, and_r as and_right}
use Rattle.base.proofs.Tests.{true-or-false}
use Rattle.base.specs.Bytes.{index_of, index_after}
use Rattle.typed_words.specs.Words.{nth_part}
use Rattle.names.specs.Names.{table_line, sentence_table, sentence}

-- every number below n passes the test
unfoldable all_below : ℕ → (ℕ → Bool) → Bool
all_below zero p = true
all_below (suc n) p = p n && all_below n p

at-below : (n : ℕ) (p : ℕ → Bool) → T (all_below n p) → (k : ℕ) → k < n → T (p k)
unfolding all_below
at-below zero p t k h = absurd (omega arith)
at-below (suc n) p t k h =
    ⊎_elim (λ (e : eqb k n ≡ true). subst (λ (m : ℕ). T (p m)) (sym (eqb-true k n e)) (and_left (p n) (all_below n p) t))
    (λ (e : eqb k n ≡ false). at-below n p (and_right (p n) (all_below n p) t) k (omega (arith, eqb-false k n e)))
    (true-or-false (eqb k n))

abbrev short : ℕ → Bool
short k = leb (length (nth_part 10 k sentence_table)) 196

sentences-short : T (all_below 25 short)
unfolding all_below nth_part index_of index_after sentence_table
sentences-short = tt

form-short : T (leb (length (sentence 20)) 196)
unfolding sentence nth_part index_of index_after sentence_table
form-short = tt

pub sentence-short : (c : ℕ) → length (sentence c) ≤ 196
unfolding sentence
sentence-short c =
    ⊎_elim (λ (e : eqb c 20 ≡ true). subst (λ (n : ℕ). length (sentence n) ≤ 196) (sym (eqb-true c 20 e)) (leb→le _ _ form-short))
    (λ (e : eqb c 20 ≡ false). rw (e, append-nil (table_line 24 c sentence_table))
    (leb→le _ _ (at-below 25 short sentences-short (min c 24) (omega arith))))
    (true-or-false (eqb c 20))
