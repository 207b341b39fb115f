-- Laws of `index_of`: at the byte, before it, and where there is none. Assumes nothing.
use Prim.Native.Nat.{ℕ, ◌+◌}
use native.Mathlib.Numerals.{add-one}
use mathlib.Core.Path.{◌≡◌, refl}
use mathlib.Core.List.{List, [], ◌∷◌}
use borrow.Author.Tests.{eq-eqb, ne_eqb}
use Rattle.base.specs.Bytes.{index_of, index_after}

pub index-end : (b : ℕ) → index_of b [] ≡ 0
unfolding index_of
index-end b = refl

pub index-first : (b x : ℕ) (s : List ℕ) → x ≡ b → index_of b (x ∷ s) ≡ 0
unfolding index_of index_after
index-first b x s e = rw (eq-eqb x b e)

pub index-next : (b x : ℕ) (s : List ℕ) → (x ≡ b → ⊥) → index_of b (x ∷ s) ≡ index_of b s + 1
unfolding index_of index_after
index-next b x s e = rw (ne_eqb x b e, add-one)
