-- What is kept of a line that arrives in pieces is what is kept of the line.
-- Assumes nothing.
use Prim.Native.Nat.{ℕ, zero, suc, ◌-◌}
use native.Mathlib.Omega.{arith}
use mathlib.Core.Path.{◌≡◌, refl, sym, ap, ◌∙◌}
use mathlib.Core.Bool.{Bool, true, false}
use mathlib.Core.List.{List, [], ◌∷◌, ◌++◌, append-nil, append_assoc}
use lib.ListN.{length, take, length-append}
use lib.Seq.{take-nil}
use Rattle.base.proofs.Tests.{by-test}
use Rattle.base.specs.Bytes.{index_of}
use Rattle.text_lines.specs.Lines.{most, uncommented, has, kept, keep_more, comment_after}
use Rattle.text_lines.proofs.Bytes.{before-all, before-behind, before-within}

-- what is cut off of two texts together
pub cut-both : (n : ℕ) (s t : List ℕ) → take n (s ++ t) ≡ take n s ++ take (n - length (take n s)) t
cut-both zero s t = refl
cut-both (suc n) [] t = let e : suc n - 0 ≡ suc n = omega arith in rw e
cut-both (suc n) (a ∷ s) t =
    let e : suc n - suc (length (take n s)) ≡ n - length (take n s) = omega arith in
    rw e (ap (λ (l : List ℕ). a ∷ l) (cut-both n s t))

nothing-kept : (k ys : List ℕ) → keep_more k true ys ≡ k
nothing-kept k ys = rw (take-nil (most - length k)) (append-nil k)

-- m more bytes have room behind k
joined : (k : List ℕ) (m : ℕ) (a b : List ℕ) → most - length k ≡ m
    → (k ++ take m a) ++ take (most - length (k ++ take m a)) b ≡ k ++ take m (a ++ b)
joined k m a b h =
    let e : most - length (k ++ take m a) ≡ m - length (take m a) = omega (arith, length-append k (take m a)) in
    rw (e, cut-both m a b) (append_assoc k (take m a) (take (m - length (take m a)) b))

-- the # has not come before ys
module _ (k ys zs : List ℕ) where
  among : has 35 ys ≡ true → keep_more (keep_more k false ys) true zs ≡ keep_more k false (ys ++ zs)
  among t = nothing-kept (keep_more k false ys) zs ∙ rw (before-within 35 ys zs t)

  behind : has 35 ys ≡ false → keep_more (keep_more k false ys) false zs ≡ keep_more k false (ys ++ zs)
  behind f = rw (before-behind 35 ys zs f, before-all 35 ys f) (joined k (most - length k) ys (uncommented zs) refl)

-- the line goes on
pub keeps_on : (k : List ℕ) (comment : Bool) (ys zs : List ℕ)
    → keep_more (keep_more k comment ys) (comment_after comment ys) zs ≡ keep_more k comment (ys ++ zs)
keeps_on k true ys zs = nothing-kept (keep_more k true ys) zs ∙ nothing-kept k ys ∙ sym (nothing-kept k (ys ++ zs))
keeps_on k false ys zs = by-test (has 35 ys) (λ t. rw t (among k ys zs t)) (λ f. rw f (behind k ys zs f))

-- a line from its beginning
pub kept_whole : (ys : List ℕ) → keep_more [] false ys ≡ kept ys
kept_whole ys = refl

-- no more comes
pub keeps-none : (k : List ℕ) (comment : Bool) → keep_more k comment [] ≡ k
unfolding index_of
keeps-none k true = nothing-kept k []
keeps-none k false = nothing-kept k []
