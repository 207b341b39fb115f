-- Records that are the same in another order: each has one that is the same among the others.
-- Assumes nothing.
use Prim.Native.Nat.{ℕ, zero, suc, ◌+◌, ◌≤◌, ◌<◌}
use mathlib.Core.Path.{◌≡◌, refl}
use mathlib.Core.List.{List, [], ◌∷◌}
use mathlib.Core.Bool.{Bool, true, false}
use native.Mathlib.Omega.{arith}
use borrow.Author.Tests.{eqb-true}
use lib.ListN.{length, get_or}
use lib.Dec.{eqb}
use Rattle.base.specs.Choice.{pick}
use Rattle.base.proofs.Tests.{and_l, and_r}
use Rattle.promises.specs.WholeLines.{is_detail}
use Rattle.compare.specs.Records.{same}
use Rattle.compare.specs.Moved.{times_in, as_often, all_as_often, each_as_often}
use Rattle.compare.proofs.SameBytes.{same_true, same_self}

-- r is one of rs
pub record OneOf (r : List ℕ) (rs : List (List ℕ)) : Type 0 where
  pub place : ℕ
  pub inside : place < length rs
  pub is : r ≡ get_or rs place []

more : (b : Bool) (n : ℕ) → n ≤ pick b (n + 1) n
more true n = omega arith
more false n = omega arith

stands-once : (x : ℕ) (rs : List (List ℕ)) → x < length rs → 0 < times_in (get_or rs x []) rs
unfolding times_in
stands-once x [] h = absurd (omega (arith, h))
stands-once zero (r ∷ rs) h = rw (same_self r) (omega arith)
stands-once (suc x) (r ∷ rs) h =
    let i = stands-once x rs (omega (arith, h)) in
    let m = more (same (get_or rs x []) r) (times_in (get_or rs x []) rs) in
    omega (arith, i, m)

found : (r : List ℕ) (rs : List (List ℕ)) → 0 < times_in r rs → OneOf r rs
unfolding times_in
found r [] h = absurd (omega (arith, h))
found r (x ∷ rs) h = go (λ k. found r rs k) (same r x) refl h
  where
    go : (0 < times_in r rs → OneOf r rs) → (b : Bool) → same r x ≡ b → 0 < pick b (times_in r rs + 1) (times_in r rs) → OneOf r (x ∷ rs)
    go ih true t h = record { place = 0; inside = omega arith; is = same_true r x t }
    go ih false t h = let o = ih h in record { place = suc o.place; inside = omega (arith, o.inside); is = o.is }

as-often : (rs ss xs : List (List ℕ)) (x : ℕ) → all_as_often rs ss xs ≡ true → x < length xs
    → times_in (get_or xs x []) rs ≡ times_in (get_or xs x []) ss
unfolding all_as_often
as-often rs ss [] x t h = absurd (omega (arith, h))
as-often rs ss (r ∷ xs) zero t h =
    eqb-true (times_in r rs) (times_in r ss)
    (and_r (is_detail r) (eqb (times_in r rs) (times_in r ss)) (and_l (as_often rs ss r) (all_as_often rs ss xs) t))
as-often rs ss (r ∷ xs) (suc x) t h = as-often rs ss xs x (and_r (as_often rs ss r) (all_as_often rs ss xs) t) (omega (arith, h))

pub has-partner : (rs ss : List (List ℕ)) (x : ℕ) → each_as_often rs ss ≡ true → x < length rs → OneOf (get_or rs x []) ss
has-partner rs ss x t h =
    let e = as-often rs ss rs x t h in
    let o = stands-once x rs h in
    found (get_or rs x []) ss (omega (arith, e, o))
