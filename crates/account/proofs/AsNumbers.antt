-- An account as numbers: in range they fit their bytes, and there and back it is the same.
-- Assumes nothing.
use Prim.Native.Nat.{ℕ, zero, suc, ◌+◌, ◌^◌, ◌≤◌, ◌<◌}
use mathlib.Core.Path.{◌≡◌, refl, sym, ◌∙◌}
use mathlib.Core.List.{List, [], ◌∷◌}
use mathlib.Core.Bool.{Bool, true, ◌&&◌, ◌||◌}
use mathlib.Core.Logic.{◌⊎◌, inl, inr, ⊎_elim}
use native.Mathlib.Omega.{arith}
use native.Mathlib.Nat.{mod-eq_of_lt, pow-suc}
use borrow.Author.Tests.{eqb-true}
use lib.ListN.{length, get_or, drop, drop_of_length-le}
use lib.Seq.{drop-cons}
use lib.Dec.{eqb}
use Rattle.base.specs.Choice.{pick}
use Rattle.base.proofs.Tests.{and_l, and_r, or_cases, by-test}
use Rattle.codec.specs.declared.Field.{Field}
use Rattle.codec.specs.Codec.{bytes_hold, Fit}
use Rattle.codec.proofs.Within.{none}
use Rattle.grams.specs.Units.{co2_word}
use Rattle.account.specs.declared.Account.{Account}
use Rattle.account.specs.Range.{AccountInRange}
use Rattle.account.specs.Account.{account_fields, width_of, numbers_of, account_by, cut_to, account_of}
use Rattle.account.proofs.FarmSet.{farm-most}
use Rattle.account.proofs.Under.{head_in, group-in, class-in, used-in}
use Rattle.account.proofs.Ended.{refusal-in}

-- ---- each takes one byte, two or eight

abbrev one_two_eight : ℕ → Bool
one_two_eight w = eqb w 1 || (eqb w 2 || eqb w 8)

unfoldable all_so : List Field → Bool
all_so [] = true
all_so (f ∷ fs) = one_two_eight f.0 && all_so fs

so-at : (fs : List Field) → all_so fs ≡ true → (i : ℕ) → i < length fs → one_two_eight (get_or fs i none).0 ≡ true
unfolding all_so
so-at [] t i h = absurd (omega arith)
so-at (f ∷ fs) t zero h = and_l _ _ t
so-at (f ∷ fs) t (suc i) h = so-at fs (and_r (one_two_eight f.0) _ t) i (omega arith)

pub width_is : (i : ℕ) → i < length account_fields → (width_of i ≡ 1) ⊎ ((width_of i ≡ 2) ⊎ (width_of i ≡ 8))
unfolding account_fields all_so
width_is i h =
    ⊎_elim (λ (e : eqb (width_of i) 1 ≡ true). inl (eqb-true _ _ e))
    (λ (e : eqb (width_of i) 2 || eqb (width_of i) 8 ≡ true).
    inr (⊎_elim (λ (e : eqb (width_of i) 2 ≡ true). inl (eqb-true _ _ e)) (λ (e : eqb (width_of i) 8 ≡ true). inr (eqb-true _ _ e))
    (or_cases (eqb (width_of i) 2) (eqb (width_of i) 8) e)))
    (or_cases (eqb (width_of i) 1) (eqb (width_of i) 2 || eqb (width_of i) 8) (so-at account_fields refl i h))

pub width-most : (i : ℕ) → i < length account_fields → width_of i ≤ 8
width-most i h =
    ⊎_elim (λ (e : width_of i ≡ 1). omega arith)
    (⊎_elim (λ (e : width_of i ≡ 2). omega arith) (λ (e : width_of i ≡ 8). omega arith)) (width_is i h)

-- ---- in range they fit their bytes

pub numbers_fit : (a : Account) → AccountInRange a → co2_word a.sums.co2 < 2 ^ 64 → Fit account_fields (numbers_of a) 0
unfolding account_fields bytes_hold
numbers_fit a f word =
    let counted = f.started.counted in
    let farm = farm-most f.started.farm in
    let head = head_in f.under in
    let group = group-in f.under in
    let class = class-in f.under in
    let used = used-in f.under in
    let grouped = f.under.grouped in
    let sums = f.sums in
    let refusal = refusal-in f.ended counted.records-most in
    omega arith

-- ---- there and back

-- what the bytes of a field keep of a number; a number has never more than eight
abbrev kept : ℕ → ℕ → ℕ
kept w n = pick (eqb w 8) n (cut_to w n)

unfoldable cut : List Field → List ℕ → ℕ → List ℕ
cut [] v i = []
cut (f ∷ fs) v i = kept f.0 (get_or v i 0) ∷ cut fs v (suc i)

held_by : (w : ℕ) → bytes_hold w ≡ 256 ^ w
unfolding bytes_hold
held_by zero = refl
held_by (suc w) = rw (held_by w, pow-suc 256 w) refl

kept-fits : (w n : ℕ) → n < bytes_hold w → kept w n ≡ n
kept-fits w n h = by-test (eqb w 8) (λ e. rw e refl) (λ e. rw e (mod-eq_of_lt (rw (held_by w) at h)))

cut_fits : (fs : List Field) (v : List ℕ) (i : ℕ) → Fit fs v i → i + length fs ≡ length v → cut fs v i ≡ drop i v
unfolding cut
cut_fits [] v i f h = sym (drop_of_length-le v {i = i} (omega arith))
cut_fits (g ∷ fs) v i f h =
    rw (drop-cons v i 0 (omega arith), kept-fits g.0 (get_or v i 0) f.0, cut_fits fs v (suc i) f.1 (omega arith)) refl

pub numbers-count : (a : Account) → length (numbers_of a) ≡ length account_fields
unfolding account_fields
numbers-count a = refl

exact : (v : List ℕ) → account_of v ≡ account_by (λ w n. n) (cut account_fields v 0)
unfolding cut account_fields
exact v = refl

as-cut : (v : List ℕ) → numbers_of (account_of v) ≡ cut account_fields v 0
unfolding cut account_fields
as-cut v = refl

-- the account of an account's numbers
pub account-back : (a : Account) → Fit account_fields (numbers_of a) 0 → account_of (numbers_of a) ≡ a
account-back a f = exact (numbers_of a) ∙ rw (cut_fits account_fields (numbers_of a) 0 f (omega (arith, numbers-count a))) refl

-- the numbers of their account, where there are so many and they fit
pub numbers-back : (v : List ℕ) → Fit account_fields v 0 → length v ≡ length account_fields → numbers_of (account_of v) ≡ v
numbers-back v f h = as-cut v ∙ cut_fits account_fields v 0 f (omega arith)

-- the word of the CO2 that numbers tell is one of them
pub co2-fits : (v : List ℕ) → Fit account_fields v 0 → co2_word (account_of v).sums.co2 < 2 ^ 64
unfolding account_fields bytes_hold
co2-fits v f = omega arith
