-- Laws of a record's values and bytes, over any row of fields.
-- Assumes nothing.
use mathlib.Core.Path.{◌≡◌, refl, sym, ap, ◌∙◌}
use mathlib.Core.List.{List, [], ◌∷◌}
use Prim.Native.Nat.{ℕ, suc, ◌+◌, ◌<◌}
use native.Mathlib.Omega.{arith}
use native.Mathlib.Nat.{add_assoc}
use lib.ListN.{length, get_or, length-append}
use Rattle.codec.specs.declared.Field.{Field}
use Rattle.codec.specs.Table.{size}
use Rattle.codec.specs.Codec.{val_at, be, values_at, bytes_of, Bytes}
use Rattle.codec.proofs.BigEndian.{bytes-append, be-bytes, be-length, val_at-same}

-- a value for each field
pub values_length : (fs : List Field) (s : List ℕ) (at : ℕ) → length (values_at fs s at) ≡ length fs
unfolding values_at
values_length [] s at = refl
values_length (f ∷ fs) s at = ap suc (values_length fs s (at + f.0))

-- as many bytes as the fields have
pub bytes-length : (fs : List Field) (vs : List ℕ) (i : ℕ) → length (bytes_of fs vs i) ≡ size fs
unfolding bytes_of size
bytes-length [] vs i = refl
bytes-length (f ∷ fs) vs i = simp (length-append, be-length, bytes-length fs vs (suc i))

-- and they are bytes
pub bytes-bytes : (fs : List Field) (vs : List ℕ) (i : ℕ) → Bytes (bytes_of fs vs i)
unfolding bytes_of
bytes-bytes [] vs i = λ k. omega arith
bytes-bytes (f ∷ fs) vs i = bytes-append (be f.0 (get_or vs i 0)) (bytes_of fs vs (suc i)) (be-bytes f.0 (get_or vs i 0)) (bytes-bytes fs vs (suc i))

-- the values depend on the record's own bytes only, wherever they stand
pub values_same : (fs : List Field) (s t : List ℕ) (p q : ℕ) → ((k : ℕ) → k < size fs → get_or s (p + k) 0 ≡ get_or t (q + k) 0)
    → values_at fs s p ≡ values_at fs t q
unfolding values_at size
values_same [] s t p q h = refl
values_same (f ∷ fs) s t p q h =
    rw (
      val_at-same s t p q f.0 (λ k l. h k (omega arith)),
      values_same fs s t (p + f.0) (q + f.0)
          (λ k l. rw (add_assoc p f.0 k, add_assoc q f.0 k) (h (f.0 + k) (omega arith))),
    )

-- ---- the same values, each field by how far it stands from the first

abbrev values_from : List Field → List ℕ → ℕ → ℕ → List ℕ
values_from [] s at o = []
values_from (f ∷ fs) s at o = val_at s (at + o) f.0 ∷ values_from fs s at (o + f.0)

values-from : (fs : List Field) (s : List ℕ) (at o : ℕ) → values_at fs s (at + o) ≡ values_from fs s at o
unfolding values_at
values-from [] s at o = refl
values-from (f ∷ fs) s at o = rw (← values-from fs s at (o + f.0), ← add_assoc at o f.0)

-- each of the values vs is the number at its field: equations of numbers, which omega finds among what the calls gave
abbrev pub Placed : List Field → List ℕ → List ℕ → ℕ → ℕ → Type 0
Placed [] [] s at o = Unit
Placed [] (v ∷ vs) s at o = v ∷ vs ≡ []
Placed (f ∷ fs) [] s at o = [] ≡ values_from (f ∷ fs) s at o
Placed (f ∷ fs) (v ∷ vs) s at o = (v ≡ val_at s (at + o) f.0) × Placed fs vs s at (o + f.0)

placed-from : (fs : List Field) (vs s : List ℕ) (at o : ℕ) → Placed fs vs s at o → vs ≡ values_from fs s at o
placed-from [] [] s at o p = refl
placed-from [] (v ∷ vs) s at o p = p
placed-from (f ∷ fs) [] s at o p = p
placed-from (f ∷ fs) (v ∷ vs) s at o p = λ j. p.0 j ∷ placed-from fs vs s at (o + f.0) p.1 j

-- then they are the values
pub values-read : (f : Field) (fs : List Field) (v : ℕ) (vs s : List ℕ) (at : ℕ) → v ≡ val_at s at f.0 → Placed fs vs s at f.0
    → v ∷ vs ≡ values_at (f ∷ fs) s at
unfolding values_at
values-read f fs v vs s at e p = λ j. e j ∷ (placed-from fs vs s at f.0 p ∙ sym (values-from fs s at f.0)) j
