-- Laws of `before` and `has`: where a byte is looked for in two texts together, and where one is cut at it.
-- Assumes nothing.
use Prim.Native.Nat.{ℕ, suc, ◌+◌, ◌≤◌, ◌<◌}
use native.Mathlib.Omega.{arith}
use mathlib.Core.Path.{◌≡◌, refl, sym, ap, ◌∙◌}
use mathlib.Core.Bool.{Bool, true, false}
use mathlib.Core.List.{List, [], ◌∷◌, ◌++◌}
use lib.ListN.{length, drop, length-append, length-take}
use lib.Seq.{take_all, take-append-le, take-append-add}
use lib.Dec.{eqb}
use borrow.Author.Tests.{lt-ltb, le-ltb, ltb-true, ltb-false, eqb-true}
use Rattle.base.proofs.Tests.{by-test}
use Rattle.base.specs.Bytes.{index_of, index_after}
use Rattle.text_lines.specs.Lines.{before, has}

-- ---- the index of a byte

head-absent : (n m : ℕ) (t : Bool) → suc n ≤ index_after t m → t ≡ false
unfolding index_after
head-absent n m true h = absurd (omega arith)
head-absent n m false h = refl

tail-absent : (n m : ℕ) → suc n ≤ index_after false m → n ≤ m
unfolding index_after
tail-absent n m h = omega arith

-- b is not the first byte, nor among the others
pub first-other : (b y : ℕ) (ys : List ℕ) → length (y ∷ ys) ≤ index_of b (y ∷ ys) → eqb y b ≡ false
unfolding index_of
first-other b y ys h = head-absent (length ys) (index_of b ys) (eqb y b) h

pub rest-others : (b y : ℕ) (ys : List ℕ) → length (y ∷ ys) ≤ index_of b (y ∷ ys) → length ys ≤ index_of b ys
unfolding index_of
rest-others b y ys h = tail-absent (length ys) (index_of b ys) (rw (first-other b y ys h) at h)

pub index-other : (b y : ℕ) (ys : List ℕ) → eqb y b ≡ false → index_of b (y ∷ ys) ≡ suc (index_of b ys)
unfolding index_of index_after
index-other b y ys f = rw f

pub index-here : (b y : ℕ) (ys : List ℕ) → eqb y b ≡ true → index_of b (y ∷ ys) ≡ 0
unfolding index_of index_after
index-here b y ys t = rw t

-- behind a text without b
index-behind : (b : ℕ) (ys zs : List ℕ) → length ys ≤ index_of b ys → index_of b (ys ++ zs) ≡ length ys + index_of b zs
index-behind b [] zs h = omega arith
index-behind b (y ∷ ys) zs h =
    let f = first-other b y ys h in
    index-other b y (ys ++ zs) f ∙ omega (arith, index-behind b ys zs (rest-others b y ys h))

-- within a text that has b
index-within : (b : ℕ) (ys zs : List ℕ) → index_of b ys < length ys → index_of b (ys ++ zs) ≡ index_of b ys
index-within b [] zs h = absurd (omega arith)
index-within b (y ∷ ys) zs h =
    by-test (eqb y b)
    (λ t. index-here b y (ys ++ zs) t ∙ sym (index-here b y ys t))
    (λ f. index-other b y (ys ++ zs) f ∙ ap suc (index-within b ys zs (omega (arith, index-other b y ys f))) ∙ sym (index-other b y ys f))

pub index-most : (b : ℕ) (ys : List ℕ) → index_of b ys ≤ length ys
unfolding index_of
index-most b [] = omega arith
index-most b (y ∷ ys) =
    by-test (eqb y b) (λ t. omega (arith, index-here b y ys t)) (λ f. omega (arith, index-other b y ys f, index-most b ys))

-- ---- what stands before it

pub before-length : (b : ℕ) (s : List ℕ) → length (before b s) ≡ index_of b s
before-length b s = length-take (index_of b s) s ∙ omega (arith, index-most b s)

module _ (b : ℕ) (s : List ℕ) where
  pub absent : has b s ≡ false → length s ≤ index_of b s
  absent f = omega (arith, ltb-false (length (before b s)) (length s) f, before-length b s)

  pub present : has b s ≡ true → index_of b s < length s
  present t = omega (arith, ltb-true (length (before b s)) (length s) t, before-length b s)

  pub has-not : length s ≤ index_of b s → has b s ≡ false
  has-not h = le-ltb (length (before b s)) (length s) (omega (arith, before-length b s))

  pub has-it : index_of b s < length s → has b s ≡ true
  has-it h = lt-ltb (length (before b s)) (length s) (omega (arith, before-length b s))

  pub before-all : has b s ≡ false → before b s ≡ s
  before-all f = take_all (index_of b s) s (absent f)

module _ (b : ℕ) (ys zs : List ℕ) where
  pub before-behind : has b ys ≡ false → before b (ys ++ zs) ≡ ys ++ before b zs
  before-behind f = rw (index-behind b ys zs (absent b ys f)) (take-append-add ys zs (index_of b zs))

  pub before-within : has b ys ≡ true → before b (ys ++ zs) ≡ before b ys
  before-within t = rw (index-within b ys zs (present b ys t)) (take-append-le (index_of b ys) ys zs (index-most b ys))

  pub has-behind : has b ys ≡ false → has b (ys ++ zs) ≡ has b zs
  has-behind f =
      let i = index-behind b ys zs (absent b ys f) in
      let l = length-append ys zs in
      by-test (has b zs)
      (λ t. has-it b (ys ++ zs) (omega (arith, i, l, present b zs t)) ∙ sym t)
      (λ n. has-not b (ys ++ zs) (omega (arith, i, l, absent b zs n)) ∙ sym n)

  pub has_within : has b ys ≡ true → has b (ys ++ zs) ≡ true
  has_within t = has-it b (ys ++ zs) (omega (arith, index-within b ys zs (present b ys t), length-append ys zs, present b ys t))

absent-before : (b : ℕ) (s : List ℕ) → length (before b s) ≤ index_of b (before b s)
unfolding index_of
absent-before b [] = omega arith
absent-before b (y ∷ ys) =
    by-test (eqb y b)
    (λ t. rw (index-here b y ys t) (omega arith))
    (λ f. rw (index-other b y ys f) (omega (arith, index-other b y (before b ys) f, absent-before b ys)))

-- nothing before the first b is a b
pub none_before : (b : ℕ) (s : List ℕ) → has b (before b s) ≡ false
none_before b s = has-not b (before b s) (absent-before b s)

-- a text with a b is cut at it
pub cut_at : (b : ℕ) (s : List ℕ) → has b s ≡ true → s ≡ before b s ++ (b ∷ drop (length (before b s) + 1) s)
cut_at b s t = rw (before-length b s) (at-index b s (present b s t))
  where
    at-index : (b : ℕ) (s : List ℕ) → index_of b s < length s → s ≡ before b s ++ (b ∷ drop (index_of b s + 1) s)
    at-index b [] h = absurd (omega arith)
    at-index b (y ∷ ys) h =
        by-test (eqb y b)
        (λ t. rw (index-here b y ys t, eqb-true y b t))
        (λ f.
        let i = index-other b y ys f in
        let e : suc (index_of b ys) + 1 ≡ suc (index_of b ys + 1) = omega arith in
        rw (i, e) (ap (λ (l : List ℕ). y ∷ l) (at-index b ys (omega arith))))
