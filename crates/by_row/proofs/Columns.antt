-- The table as the code has it, one field after the other: what stands there for a field of a row is what specs/Table.antt says. And twelve places.
-- Assumes nothing.
use Prim.Native.Nat.{ℕ, zero, suc, ◌+◌, ◌-◌, ◌<◌, ◌≤◌}
use mathlib.Core.Path.{◌≡◌, refl, ap, ◌∙◌}
use mathlib.Core.List.{List, [], ◌∷◌, ◌++◌, map, append_assoc}
use native.Mathlib.Numerals.{add-one}
use native.Mathlib.Omega.{arith}
use lib.ListN.{length, get_or, replicate, length-append, length-map, get_or-append}
use lib.Seq.{get_or-append-add}
use Rattle.codec.specs.declared.Field.{Field}
use Rattle.codec.specs.Table.{field}
use Rattle.codec.specs.Codec.{in_twelve}
use Rattle.codec.proofs.Within.{none}

-- ---- twelve places

zeros : (n i : ℕ) → get_or {A = ℕ} (replicate n 0) i 0 ≡ 0
zeros zero i = refl
zeros (suc n) zero = refl
zeros (suc n) (suc i) = zeros n i

zeros-behind : (v : List ℕ) (n i : ℕ) → get_or (v ++ replicate n 0) i 0 ≡ get_or v i 0
zeros-behind [] n i = zeros n i
zeros-behind (x ∷ v) n zero = refl
zeros-behind (x ∷ v) n (suc i) = zeros-behind v n i

-- a value stands in twelve places where it stood
pub twelve-at : (v : List ℕ) (i : ℕ) → get_or (in_twelve v) i 0 ≡ get_or v i 0
twelve-at v i = zeros-behind v (12 - length v) i

-- ---- all fields, one after the other

-- a field as three numbers
abbrev numbers : Field → List ℕ
numbers f = f.0 ∷ f.1 ∷ f.2 ∷ []

abbrev pub as_field : List ℕ → Field
as_field n = field (get_or n 0 0) (get_or n 1 0) (get_or n 2 0)

unfoldable pub all_fields : List (List Field) → List (List ℕ)
all_fields [] = []
all_fields (fs ∷ t) = map numbers fs ++ all_fields t

-- where the fields of each row begin, and where the last end
unfoldable pub begins : ℕ → List (List Field) → List ℕ
begins n [] = n ∷ []
begins n (fs ∷ t) = n ∷ begins (n + length fs) t

begins-first : (n : ℕ) (t : List (List Field)) → get_or (begins n t) 0 0 ≡ n
unfolding begins
begins-first n [] = refl
begins-first n (fs ∷ t) = refl

-- a row ends where the next begins
begins-next : (t : List (List Field)) (n k : ℕ) → k < length t → get_or (begins n t) (suc k) 0 ≡ get_or (begins n t) k 0 + length (get_or t k [])
unfolding begins
begins-next [] n k h = absurd (omega arith)
begins-next (fs ∷ t) n zero h = begins-first (n + length fs) t
begins-next (fs ∷ t) n (suc k) h = begins-next t (n + length fs) k (omega arith)

pub row_ends : (t : List (List Field)) (k : ℕ) → k < length t → get_or (begins 0 t) (k + 1) 0 ≡ get_or (begins 0 t) k 0 + length (get_or t k [])
row_ends t k h = rw add-one (begins-next t 0 k h)

-- each row ends within the list
pub ends-within : (t : List (List Field)) (n k : ℕ) → k < length t → get_or (begins n t) k 0 + length (get_or t k []) ≤ n + length (all_fields t)
unfolding begins all_fields
ends-within [] n k h = absurd (omega arith)
ends-within (fs ∷ t) n zero h = omega (arith, length-append (map numbers fs) (all_fields t), length-map fs numbers)
ends-within (fs ∷ t) n (suc k) h =
    omega (arith, ends-within t (n + length fs) k (omega arith), length-append (map numbers fs) (all_fields t), length-map fs numbers)

numbers-at : (fs : List Field) (i : ℕ) → i < length fs → get_or (map numbers fs) i [] ≡ numbers (get_or fs i none)
numbers-at [] i h = absurd (omega arith)
numbers-at (f ∷ fs) zero h = refl
numbers-at (f ∷ fs) (suc i) h = numbers-at fs i (omega arith)

-- behind other fields
listed-behind : (t : List (List Field)) (p : List (List ℕ)) (k i : ℕ) → k < length t → i < length (get_or t k [])
    → get_or (p ++ all_fields t) (get_or (begins (length p) t) k 0 + i) [] ≡ numbers (get_or (get_or t k []) i none)
unfolding begins all_fields
listed-behind [] p k i h m = absurd (omega arith)
listed-behind (fs ∷ t) p zero i h m =
    get_or-append-add p (map numbers fs ++ all_fields t) i []
    ∙ get_or-append (map numbers fs) (all_fields t) [] i (omega (arith, length-map fs numbers)) ∙ numbers-at fs i m
listed-behind (fs ∷ t) p (suc k) i h m =
    rw (append_assoc p (map numbers fs) (all_fields t), length-append p (map numbers fs), length-map fs numbers)
    at (listed-behind t (p ++ map numbers fs) k i (omega arith) m)

-- the field i of the row k
pub field-listed : (t : List (List Field)) (k i : ℕ) → k < length t → i < length (get_or t k [])
    → as_field (get_or (all_fields t) (get_or (begins 0 t) k 0 + i) []) ≡ get_or (get_or t k []) i none
field-listed t k i h m = ap as_field (listed-behind t [] k i h m)
