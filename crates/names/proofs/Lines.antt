-- Laws of the table's lines: the names of the kinds one after the other, and the digits of the decimals.
use Prim.Native.Nat.{ℕ, zero, suc, ◌+◌, ◌-◌, ◌<◌, ◌≤◌, min}
use native.Mathlib.Omega.{arith}
use native.Mathlib.Numerals.{add-one}
use mathlib.Core.Path.{◌≡◌, refl, sym, subst}
use mathlib.Core.Bool.{Bool, true, ◌&&◌}
use mathlib.Core.List.{List, [], ◌∷◌, ◌++◌}
use lib.ListN.{length, get_or, get_or-eq_default}
use lib.Dec.{T, leb, eqb, leb→le}
use lib.Ieee.Fits.{and_l, and_r}
use borrow.Author.Tests.{eqb-true, eqb-false}
use Rattle.base.proofs.Tests.{by-test}
use Rattle.base.specs.Bytes.{index_of, index_after}
use Rattle.typed_words.specs.Words.{nth_part}
use Rattle.codec.specs.Table.{last_kind}
use Rattle.printing.specs.Ascii.{ascii}
use Rattle.names.specs.Names.{no_row, kind_name, names_from, decimals_table, decimals_of, decimals_at}

-- ---- the names of all kinds, one after the other

pub names-one : (k : ℕ) → k ≤ last_kind
    → names_from (suc last_kind - k) k ≡ (ascii ", " ++ kind_name k) ++ names_from (suc last_kind - (k + 1)) (k + 1)
unfolding names_from
names-one k h = let e : suc last_kind - k ≡ suc (suc last_kind - (k + 1)) = omega arith in rw (e, add-one) refl

pub names-none : (k : ℕ) → last_kind < k → names_from (suc last_kind - k) k ≡ []
unfolding names_from
names-none k h = let e : suc last_kind - k ≡ 0 = omega arith in rw e refl

-- every number below n passes the test
unfoldable pub all_below : ℕ → (ℕ → Bool) → Bool
all_below zero p = true
all_below (suc n) p = p n && all_below n p

pub at-below : (n : ℕ) (p : ℕ → Bool) → T (all_below n p) → (k : ℕ) → k < n → T (p k)
unfolding all_below
at-below zero p t k h = absurd (omega arith)
at-below (suc n) p t k h =
    by-test (eqb k n)
    (λ e. subst (λ (m : ℕ). T (p m)) (sym (eqb-true k n e)) (and_l (p n) (all_below n p) t))
    (λ e. at-below n p (and_r (p n) (all_below n p) t) k (omega (arith, eqb-false k n e)))

-- ---- the digits

pub no_digit : (l : List ℕ) (i : ℕ) → length l ≤ i → 0 ≡ get_or l i 0 - 48
no_digit l i h = rw (get_or-eq_default l 0 h)

unfoldable up_to5 : List ℕ → Bool
up_to5 [] = true
up_to5 (b ∷ s) = leb b 53 && up_to5 s

small : (l : List ℕ) → T (up_to5 l) → (i : ℕ) → get_or l i 0 - 48 ≤ 5
unfolding up_to5
small [] t i = omega arith
small (b ∷ s) t zero = let h = leb→le b 53 (and_l (leb b 53) (up_to5 s) t) in omega arith
small (b ∷ s) t (suc i) = small s (and_r (leb b 53) (up_to5 s) t) i

abbrev small_line : ℕ → Bool
small_line k = up_to5 (nth_part 10 k decimals_table)

small-lines : T (all_below (suc no_row) small_line)
unfolding all_below up_to5 nth_part index_of index_after decimals_table
small-lines = tt

pub few-decimals : (k i : ℕ) → decimals_at k i ≤ 5
few-decimals k i = small (decimals_of k) (at-below (suc no_row) small_line small-lines (min k no_row) (omega arith)) i
