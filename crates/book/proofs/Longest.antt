-- The longest beginning that is ok.
use Prim.Native.Nat.{ℕ, suc, zero, ◌≤◌, ◌<◌}
use mathlib.Core.Path.{◌≡◌, refl, ◌∙◌}
use mathlib.Core.Bool.{Bool, true, false}
use mathlib.Core.Logic.{⊎_elim}
use native.Mathlib.Omega.{arith}
use Rattle.base.proofs.Tests.{lt-or-ge}
use Rattle.book.specs.Call.{longest}

pub longest-top : (ok : ℕ → Bool) (n : ℕ) → ok n ≡ true → longest ok n ≡ n
unfolding longest
longest-top ok zero e = refl
longest-top ok (suc n) e = rw e

longest-less : (ok : ℕ → Bool) (n : ℕ) → ok (suc n) ≡ false → longest ok (suc n) ≡ longest ok n
unfolding longest
longest-less ok n e = rw e

-- one that is ok, and above which none is
pub longest-is : (ok : ℕ → Bool) (k i : ℕ) → i ≤ k → ok i ≡ true → ((m : ℕ) → i < m → m ≤ k → ok m ≡ false) → longest ok k ≡ i
longest-is ok zero i h e f = let z : i ≡ 0 = omega arith in rw z (longest-top ok 0 (rw z at e))
longest-is ok (suc k) i h e f =
    ⊎_elim
    (λ (p : i < suc k). longest-less ok k (f (suc k) p (omega arith)) ∙ longest-is ok k i (omega arith) e (λ m a b. f m a (omega arith)))
    (λ (p : suc k ≤ i). let z : i ≡ suc k = omega arith in rw z (longest-top ok (suc k) (rw z at e)))
    (lt-or-ge i (suc k))
