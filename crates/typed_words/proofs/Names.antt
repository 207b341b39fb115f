-- Laws of `nth_part`.
use Prim.Native.Nat.{ℕ, zero, suc, ◌+◌, ◌-◌, ◌<◌}
use native.Mathlib.Omega.{arith}
use mathlib.Core.Path.{◌≡◌}
use mathlib.Core.List.{List}
use lib.ListN.{take, drop}
use Rattle.base.specs.Bytes.{index_of}
use Rattle.typed_words.specs.Words.{nth_part}

pub no-others : (sep n : ℕ) (s : List ℕ) → n ≡ 0 → nth_part sep n s ≡ take (index_of sep s) s
unfolding nth_part
no-others sep n s e = rw e

pub behind-one : (sep n : ℕ) (s : List ℕ) → 0 < n → nth_part sep n s ≡ nth_part sep (n - 1) (drop (index_of sep s + 1) s)
unfolding nth_part
behind-one sep zero s h = absurd (omega arith)
behind-one sep (suc n) s h = let e : suc n - 1 ≡ n = omega arith in rw e
