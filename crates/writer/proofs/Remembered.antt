-- Laws of what is remembered where there is something to remember.
-- Assumes nothing.
use Prim.Native.Nat.{ℕ, ◌≤◌}
use native.Mathlib.Omega.{arith}
use mathlib.Core.Path.{◌≡◌, refl, sym, ap, ◌∙◌}
use mathlib.Core.Bool.{true, false, true≢false}
use borrow.Author.Tests.{ne_eqb}
use Rattle.std.specs.Prelude.{Option, None, Some, is_some}
use Rattle.writer.specs.Typist.{line_named}

pub no_some : {A : Type 0} {a : A} → Some a ≡ None → ⊥
no_some e = true≢false (ap is_some e)

pub none_of : {A : Type 0} (o : Option A) → is_some o ≡ false → o ≡ None
none_of None e = refl
none_of (Some a) e = absurd (true≢false e)

pub some_of : {A : Type 0} (o : Option A) → (o ≡ None → ⊥) → is_some o ≡ true
some_of None h = absurd (h refl)
some_of (Some a) h = refl

pub some_not : {A : Type 0} (o : Option A) → is_some o ≡ true → o ≡ None → ⊥
some_not o e z = true≢false (sym e ∙ ap is_some z)

-- lines from 1 on are not none
pub line-is : (n : ℕ) → 1 ≤ n → line_named n ≡ Some n
line-is n l = rw (ne_eqb n 0 (λ (e : n ≡ 0). omega arith)) refl
