-- Laws of the first refusal of a list.
-- Assumes nothing.
use Prim.Native.Nat.{ℕ, ◌≤◌, ◌<◌}
use mathlib.Core.Path.{◌≡◌, refl}
use mathlib.Core.List.{List, [], ◌∷◌}
use mathlib.Core.Bool.{Bool, true, false, ◌||◌}
use native.Mathlib.Omega.{arith}
use Rattle.base.specs.Choice.{pick}
use Rattle.base.proofs.Tests.{of-choice}
use Rattle.account.specs.Judge.{first, LetsThrough, DecidedBy}

-- ---- over any list

-- no number is above n
abbrev pub Within : ℕ → List (Bool × ℕ) → Type 0
Within n [] = Unit {0}
Within n (t ∷ ts) = (t.1 ≤ n) × Within n ts

pub first-most : (n : ℕ) (ts : List (Bool × ℕ)) → Within n ts → first ts ≤ n
unfolding first
first-most n [] w = omega arith
first-most n (t ∷ ts) w = of-choice (λ (c : ℕ). c ≤ n) t.0 (λ e. w.0) (λ e. first-most n ts w.1)

-- what P says of each test, by its number
abbrev pub Each : (ℕ → Bool → Type 0) → List (Bool × ℕ) → Type 0
Each P [] = Unit {0}
Each P (t ∷ ts) = P t.1 t.0 × Each P ts

-- the numbers are above n and rise
abbrev pub Rising : ℕ → List (Bool × ℕ) → Type 0
Rising n [] = Unit {0}
Rising n (t ∷ ts) = (n < t.1) × Rising t.1 ts

-- the first refusal is one of the numbers
first_above : (n : ℕ) (ts : List (Bool × ℕ)) → Rising n ts → 0 < first ts → n < first ts
unfolding first
first_above n [] w = λ h. absurd (omega arith)
first_above n (t ∷ ts) w =
    of-choice (λ (c : ℕ). 0 < c → n < c) t.0 (λ e h. w.0) (λ e h. let l = first_above t.1 ts w.1 h in omega (arith, w.0, l))

-- no refusal means that no test refuses, and back
pub first-none : (n : ℕ) (ts : List (Bool × ℕ)) → Rising n ts → first ts ≡ 0 → Each LetsThrough ts
unfolding first
first-none n [] w = λ e. tt
first-none n (t ∷ ts) w = go t.0 (first-none t.1 ts w.1)
  where
    go : (b : Bool) → (first ts ≡ 0 → Each LetsThrough ts) → pick b t.1 (first ts) ≡ 0 → (b ≡ false) × Each LetsThrough ts
    go true k e = absurd (omega (arith, w.0))
    go false k e = (refl, k e)

pub none_first : (ts : List (Bool × ℕ)) → Each LetsThrough ts → first ts ≡ 0
unfolding first
none_first [] w = refl
none_first (t ∷ ts) w = rw w.0 (none_first ts w.1)

-- tests behind the number c say nothing of it
behind : (c n : ℕ) (ts : List (Bool × ℕ)) → c ≤ n → Rising n ts → Each (DecidedBy c) ts
behind c n [] h w = tt
behind c n (t ∷ ts) h w =
    ((λ l. absurd (omega (arith, w.0)), λ e. absurd (omega (arith, w.0))), behind c t.1 ts (omega (arith, w.0)) w.1)

-- the first refusal is c: no test before it refuses, and its own does
pub first_by : (c n : ℕ) (ts : List (Bool × ℕ)) → Rising n ts → 0 < c → first ts ≡ c → Each (DecidedBy c) ts
unfolding first
first_by c n [] w h = λ e. tt
first_by c n (t ∷ ts) w h = go t.0 (first_by c t.1 ts w.1 h) (first_above t.1 ts w.1)
  where
    go : (b : Bool) → (first ts ≡ c → Each (DecidedBy c) ts) → (0 < first ts → t.1 < first ts) → pick b t.1 (first ts) ≡ c
        → DecidedBy c t.1 b × Each (DecidedBy c) ts
    go true k l e = ((λ m. absurd (omega arith), λ q. refl), behind c t.1 ts (omega arith) w.1)
    go false k l e = ((λ m. refl, λ q. let z = l (omega arith) in absurd (omega arith)), k e)

-- two tests of one number are one test of either
pub first_either : (a b : Bool) (n : ℕ) (ts us : List (Bool × ℕ)) → first ts ≡ first us → first ((a, n) ∷ (b, n) ∷ ts) ≡ first ((a || b, n) ∷ us)
unfolding first
first_either true b n ts us e = refl
first_either false true n ts us e = refl
first_either false false n ts us e = e

-- ---- the three that every kind has: 5, 6 and 7

pub three-clear : (x y z : Bool) → first ((x, 5) ∷ (y, 6) ∷ (z, 7) ∷ []) ≡ 0 → (x ≡ false) × (y ≡ false) × (z ≡ false)
unfolding first
three-clear true y z e = absurd (omega arith)
three-clear false true z e = absurd (omega arith)
three-clear false false true e = absurd (omega arith)
three-clear false false false e = (refl, refl, refl)

pub three-first : (x y z : Bool) (ts : List (Bool × ℕ)) → (first ((x, 5) ∷ (y, 6) ∷ (z, 7) ∷ []) ≡ 0 → ⊥)
    → first ((x, 5) ∷ (y, 6) ∷ (z, 7) ∷ ts) ≡ first ((x, 5) ∷ (y, 6) ∷ (z, 7) ∷ [])
unfolding first
three-first true y z ts h = refl
three-first false true z ts h = refl
three-first false false true ts h = refl
three-first false false false ts h = absurd (h refl)
