-- The longest beginning that is ok: at most all, at least each one that is ok, and one more is not ok.
use Prim.Native.Nat.{ℕ, suc, zero, ◌+◌, ◌≤◌, ◌<◌}
use mathlib.Core.Path.{◌≡◌, refl, sym, ◌∙◌}
use mathlib.Core.Bool.{Bool, true, false}
use mathlib.Core.Logic.{⊎_elim}
use native.Mathlib.Omega.{arith}
use Rattle.base.specs.Choice.{pick}
use Rattle.base.proofs.Tests.{lt-or-ge, no_bool, of-choice}
use Rattle.book.specs.Call.{longest}

pub longest-most : (ok : ℕ → Bool) (k : ℕ) → longest ok k ≤ k
unfolding longest
longest-most ok zero = omega arith
longest-most ok (suc k) = let i = longest-most ok k in of-choice (λ (n : ℕ). n ≤ suc k) (ok (suc k)) (λ e. omega arith) (λ e. omega arith)

pub longest-least : (ok : ℕ → Bool) (k i : ℕ) → i ≤ k → ok i ≡ true → i ≤ longest ok k
unfolding longest
longest-least ok zero i h e = h
longest-least ok (suc k) i h e =
    of-choice (λ (n : ℕ). i ≤ n) (ok (suc k)) (λ f. h)
    (λ f.
    ⊎_elim (λ (p : i < suc k). longest-least ok k i (omega arith) e)
    (λ (p : suc k ≤ i). let z : i ≡ suc k = omega arith in no_bool (sym f ∙ (rw z at e)))
    (lt-or-ge i (suc k)))

-- it is ok, where none at all is
pub longest-ok : (ok : ℕ → Bool) (k : ℕ) → ok 0 ≡ true → ok (longest ok k) ≡ true
unfolding longest
longest-ok ok zero e = e
longest-ok ok (suc k) e = of-choice (λ (n : ℕ). ok n ≡ true) (ok (suc k)) (λ f. f) (λ f. longest-ok ok k e)

-- the next one above it is not ok
pub longest-next : (ok : ℕ → Bool) (k : ℕ) → longest ok k < k → ok (longest ok k + 1) ≡ false
unfolding longest
longest-next ok zero h = absurd (omega arith)
longest-next ok (suc k) h = next (ok (suc k)) refl (longest-most ok k) h (longest-next ok k)
  where
    next : (b : Bool) → ok (suc k) ≡ b → longest ok k ≤ k → pick b (suc k) (longest ok k) < suc k → (longest ok k < k → ok (longest ok k + 1) ≡ false)
        → ok (pick b (suc k) (longest ok k) + 1) ≡ false
    next true e m h ih = absurd (omega arith)
    next false e m h ih =
        ⊎_elim ih (λ (p : k ≤ longest ok k). let z : longest ok k + 1 ≡ suc k = omega arith in rw z e) (lt-or-ge (longest ok k) k)
