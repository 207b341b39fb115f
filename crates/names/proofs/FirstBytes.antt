-- Laws of how an input begins.
-- Assumes nothing.
use Prim.Native.Nat.{ℕ, ◌≤◌, ◌<◌}
use mathlib.Core.Path.{◌≡◌, refl, sym, ◌∙◌}
use mathlib.Core.List.{List, [], ◌∷◌}
use mathlib.Core.Bool.{false}
use native.Mathlib.Omega.{arith}
use borrow.Author.Tests.{eqb-true, eqb-false, ne_eqb}
use lib.Dec.{eqb}
use lib.ListN.{length, get_or}
use lib.Pointwise.{pointwise}
use Rattle.base.proofs.Tests.{by-test}
use Rattle.typed_words.specs.Words.{same_text_lem}
use Rattle.names.specs.Hints.{is_typed, begins_typed}

pub begins-none : (xs : List ℕ) → length xs < 2 → false ≡ begins_typed xs
begins-none [] h = refl
begins-none (x ∷ []) h = refl
begins-none (x ∷ y ∷ xs) h = absurd (omega arith)

pub begins-some : (xs : List ℕ) → 2 ≤ length xs → is_typed (get_or xs 0 0) ≡ begins_typed xs
begins-some [] h = absurd (omega arith)
begins-some (x ∷ []) h = absurd (omega arith)
begins-some (x ∷ y ∷ xs) h = refl

eqb_sym : (b x : ℕ) → eqb b x ≡ eqb x b
eqb_sym b x =
    by-test (eqb x b) (λ t. let e : x ≡ b = eqb-true x b t in rw e refl)
    (λ f. ne_eqb b x (λ e. eqb-false x b f (sym e)) ∙ sym f)

-- two texts are the same byte by byte
pub same-start : (start xs : List ℕ) → pointwise eqb start xs ≡ same_text_lem xs start
unfolding same_text_lem
same-start [] [] = refl
same-start [] (x ∷ xs) = refl
same-start (b ∷ start) [] = refl
same-start (b ∷ start) (x ∷ xs) = rw (same-start start xs, eqb_sym b x) refl
