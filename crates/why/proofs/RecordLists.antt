-- Lists of records, one longer.
-- Assumes nothing.
use Prim.Native.Nat.{ℕ, ◌+◌}
use mathlib.Core.Path.{◌≡◌, refl, ap, ◌∙◌}
use mathlib.Core.List.{List, [], ◌∷◌, ◌++◌, append_assoc, append-nil}
use lib.ListN.{take, drop}
use lib.Seq.{drop-drop, take-add}
use Rattle.account.specs.declared.Account.{Account}
use Rattle.account.specs.Judge.{NotRefused, judge}
use Rattle.account.specs.Line.{joined}
use Rattle.why.specs.Promised.{behind, AllAccepted}

-- the record r stands behind the first k
module _ (k : ℕ) (l : List (List ℕ)) (r : List ℕ) (rs : List (List ℕ)) (e : drop k l ≡ r ∷ rs) where
  pub one_more : take (k + 1) l ≡ take k l ++ (r ∷ [])
  one_more = take-add k 1 l ∙ rw e refl

  pub one_less : drop (k + 1) l ≡ rs
  one_less = rw drop-drop at (ap (λ (t : List (List ℕ)). drop 1 t) e)

pub joined-one : (l : List (List ℕ)) (r : List ℕ) → joined (l ++ (r ∷ [])) ≡ joined l ++ r
joined-one [] r = append-nil r
joined-one (x ∷ l) r = rw (joined-one l r, append_assoc)

pub behind-one : (a : Account) (l : List (List ℕ)) (r : List ℕ) → behind a (l ++ (r ∷ [])) ≡ (judge (behind a l) r).account
unfolding behind
behind-one a [] r = refl
behind-one a (x ∷ l) r = behind-one (judge a x).account l r

pub accepted-one : (a : Account) (l : List (List ℕ)) (r : List ℕ) → AllAccepted a l → NotRefused (behind a l) r → AllAccepted a (l ++ (r ∷ []))
unfolding behind
accepted-one a [] r h n = (n, tt)
accepted-one a (x ∷ l) r h n = (h.0, accepted-one (judge a x).account l r h.1 n)
