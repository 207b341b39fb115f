-- Laws of digits in threes. Assumes nothing.
use Rattle.std.proofs.Common.{◌≡◌, ℕ, zero, suc, ◌-◌, ◌/◌, ◌<◌, ◌≤◌, ◌++◌, refl, arith, le-ltb, lt-ltb}
use Rattle.printing.specs.Decimal.{decimal}
use Rattle.printing.specs.Ascii.{thin_space}
use Rattle.page.specs.Text.{last_three, threes_by}

pub threes-none : (most n : ℕ) → most ≡ 0 → threes_by most n ≡ decimal n
unfolding threes_by
threes-none most n e = rw e refl

pub threes-small : (most n : ℕ) → n < 1000 → threes_by most n ≡ decimal n
unfolding threes_by
threes-small zero n h = refl
threes-small (suc most) n h = rw (lt-ltb _ _ h) refl

pub threes-more : (most n : ℕ) → (most ≡ 0 → ⊥) → 1000 ≤ n → threes_by most n ≡ threes_by (most - 1) (n / 1000) ++ (thin_space ++ last_three n)
unfolding threes_by
threes-more zero n some h = absurd (some refl)
threes-more (suc most) n some h = let e : suc most - 1 ≡ most = omega arith in rw (le-ltb _ _ h, e) refl
