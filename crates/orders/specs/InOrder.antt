-- Some things put in another order: records, or their lines. An order is a list of numbers; each says which of those that are still left comes next,
-- counted from 0, the last one where there are not so many. What is left in the end follows as it stands.
-- Assumes nothing.
use Rattle.std.specs.Prelude.{ℕ, zero, suc, List, [], ◌∷◌}

-- x behind the first of xs
abbrev pub behind_first : List ℕ → List (List ℕ) → List (List ℕ)
behind_first x [] = x ∷ []
behind_first x (y ∷ ys) = y ∷ x ∷ ys

-- that with the number i before all others
unfoldable pub to_front_lem : ℕ → List (List ℕ) → List (List ℕ)
to_front_lem zero xs = xs
to_front_lem (suc i) [] = []
to_front_lem (suc i) (x ∷ xs) = behind_first x (to_front_lem i xs)

-- the first one stays, and f orders those behind it
abbrev pub keep_first : (List (List ℕ) → List (List ℕ)) → List (List ℕ) → List (List ℕ)
keep_first f [] = []
keep_first f (x ∷ xs) = x ∷ f xs

unfoldable pub in_order_lem : List ℕ → List (List ℕ) → List (List ℕ)
in_order_lem [] xs = xs
in_order_lem (i ∷ order) xs = keep_first (in_order_lem order) (to_front_lem i xs)
