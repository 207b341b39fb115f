-- A test that refuses compares wrongly: from the refusals by name to the two numbers that are told.
-- Assumes nothing.
use Prim.Native.Nat.{ℕ, zero, suc, ◌+◌, ◌-◌, ◌≤◌, ◌<◌}
use mathlib.Core.Path.{◌≡◌, refl, sym}
use mathlib.Core.List.{List, [], ◌∷◌}
use mathlib.Core.Bool.{Bool, true, false, ◌&&◌, ◌||◌, not}
use mathlib.Core.Logic.{◌⊎◌, inl, inr}
use native.Mathlib.Omega.{arith}
use native.Mathlib.Nat.{zero-add, add-zero, add-suc, suc-add}
use borrow.Author.Tests.{leb-true, leb-false, ltb-true, eqb-true, eqb-false, lt-ltb, le-ltb}
use lib.ListN.{get_or}
use lib.Dec.{ltb, leb, eqb}
use Rattle.base.specs.Choice.{pick}
use Rattle.base.proofs.Tests.{no_bool, not-true, and_l, and_r, or_l, or_r}
use Rattle.codec.specs.declared.Field.{Field}
use Rattle.codec.specs.Table.{field, fields, length_most_lem, last_kind, is_kind}
use Rattle.codec.specs.Codec.{first_bad}
use Rattle.account.specs.declared.Account.{Account}
use Rattle.account.specs.declared.Used.{Used}
use Rattle.account.specs.Judge.{version_of, kind_byte, record_row, values_of, days_over, parts_wrong, grazed_over, RefusedBy}
use Rattle.account.specs.Compared.{Compared, numbers, outside, range_of, value_at, bad_field, days_with, shares_of, parts_of, grazed_with}
use Rattle.account.specs.Compared.{values_compared, compared}
use Rattle.account.specs.Compared.{BeyondEnd, ComparesWrongly}

-- ---- a range

-- a value outside lowest..highest; the lower end is tried first
abbrev Off : ℕ → ℕ → ℕ → Type 0
Off lowest highest v = (v < lowest) ⊎ ((lowest ≤ v) × (highest < v))

beyond : (lowest highest v : ℕ) → Off lowest highest v → BeyondEnd lowest highest (outside lowest highest v)
beyond lowest highest v (inl p) = inl (rw (lt-ltb v lowest p) refl, p)
beyond lowest highest v (inr p) = inr (rw (le-ltb v lowest p.0) refl, p.1)

-- the position p is that of field j, of those from i on, and its value is out of its range
record BadAt (fs : List Field) (vs : List ℕ) (i p : ℕ) : Type 0 where
  j : ℕ
  is : p ≡ suc (i + j)
  off : Off (get_or fs j (field 0 0 0)).1 (get_or fs j (field 0 0 0)).2 (get_or vs (i + j) 0)

here : (f : Field) (fs : List Field) (vs : List ℕ) (i : ℕ) → Off f.1 f.2 (get_or vs i 0) → BadAt (f ∷ fs) vs i (suc i)
here f fs vs i o = record { j = 0; is = omega arith; off = rw add-zero o }

later : (f : Field) (fs : List Field) (vs : List ℕ) (i p : ℕ) → BadAt fs vs (suc i) p → BadAt (f ∷ fs) vs i p
later f fs vs i p b = record { j = suc b.j; is = omega (arith, b.is); off = rw (add-suc, ← suc-add) b.off }

bad-at : (fs : List Field) (vs : List ℕ) (i : ℕ) → (first_bad fs vs i ≡ 0 → ⊥) → BadAt fs vs i (first_bad fs vs i)
unfolding first_bad
bad-at [] vs i n = absurd (n refl)
bad-at (f ∷ fs) vs i n = go (leb f.1 (get_or vs i 0)) (leb (get_or vs i 0) f.2) refl refl (bad-at fs vs (suc i)) n
  where
    go : (a b : Bool) → leb f.1 (get_or vs i 0) ≡ a → leb (get_or vs i 0) f.2 ≡ b
        → ((first_bad fs vs (suc i) ≡ 0 → ⊥) → BadAt fs vs (suc i) (first_bad fs vs (suc i)))
        → (pick a (pick b (first_bad fs vs (suc i)) (suc i)) (suc i) ≡ 0 → ⊥)
        → BadAt (f ∷ fs) vs i (pick a (pick b (first_bad fs vs (suc i)) (suc i)) (suc i))
    go true true d e ih n = later f fs vs i (first_bad fs vs (suc i)) (ih n)
    go true false d e ih n = here f fs vs i (inr (leb-true _ _ d, leb-false _ _ e))
    go false b d e ih n = here f fs vs i (inl (leb-false _ _ d))

field_off : (k : ℕ) (v : List ℕ) → (bad_field k v ≡ 0 → ⊥) → Off (range_of k (bad_field k v)).1 (range_of k (bad_field k v)).2 (value_at v (bad_field k v))
field_off k v n =
    let b = bad-at (fields k) v 0 n in
    let z : bad_field k v - 1 ≡ b.j = omega (arith, b.is) in
    rw z (rw zero-add at b.off)

-- neither 1 nor 2
version-off : (v : ℕ) → (v ≡ 1 → ⊥) → (v ≡ 2 → ⊥) → Off 1 2 v
version-off zero n m = inl (omega arith)
version-off (suc zero) n m = absurd (n refl)
version-off (suc (suc zero)) n m = absurd (m refl)
version-off (suc (suc (suc v))) n m = inr (omega arith, omega arith)

and-true-l : (b : Bool) → b && true ≡ false → b ≡ false
and-true-l true e = e
and-true-l false e = refl

kind-off : (k : ℕ) → not (is_kind k) ≡ true → Off 1 last_kind k
kind-off k e = go (leb 1 k) (leb k last_kind) refl refl e
  where
    go : (a b : Bool) → leb 1 k ≡ a → leb k last_kind ≡ b → not (a && b) ≡ true → Off 1 last_kind k
    go true true p q e = no_bool e
    go true false p q e = inr (leb-true _ _ p, leb-false _ _ q)
    go false b p q e = inl (leb-false _ _ p)

-- a version that 2 refuses, of a farm record or of another
version-wrong : (v k : ℕ) → (eqb v 1 || (eqb v 2 && eqb k 1)) ≡ false
    → ((k ≡ 1) × ((pick (eqb k 1) (outside 1 2 v) (numbers v 1)).some ≡ true) × ((pick (eqb k 1) (outside 1 2 v) (numbers v 1)).value ≡ v)
    × BeyondEnd 1 2 (pick (eqb k 1) (outside 1 2 v) (numbers v 1)))
    ⊎ ((k ≡ 1 → ⊥) × (pick (eqb k 1) (outside 1 2 v) (numbers v 1) ≡ numbers v 1) ×
    ((pick (eqb k 1) (outside 1 2 v) (numbers v 1)).value ≡ (pick (eqb k 1) (outside 1 2 v) (numbers v 1)).limit → ⊥))
version-wrong v k h = go (eqb k 1) refl (eqb-false _ _ (or_l (eqb v 1) _ h)) (or_r (eqb v 1) (eqb v 2 && eqb k 1) h)
  where
    go : (b : Bool) → eqb k 1 ≡ b → (v ≡ 1 → ⊥) → eqb v 2 && b ≡ false
        → ((k ≡ 1) × ((pick b (outside 1 2 v) (numbers v 1)).some ≡ true) × ((pick b (outside 1 2 v) (numbers v 1)).value ≡ v) × BeyondEnd 1 2
        (pick b (outside 1 2 v) (numbers v 1)))
        ⊎ ((k ≡ 1 → ⊥) × (pick b (outside 1 2 v) (numbers v 1) ≡ numbers v 1) ×
        ((pick b (outside 1 2 v) (numbers v 1)).value ≡ (pick b (outside 1 2 v) (numbers v 1)).limit → ⊥))
    go true e n m = inl (eqb-true _ _ e, refl, refl, beyond 1 2 v (version-off v n (eqb-false _ _ (and-true-l (eqb v 2) m))))
    go false e n m = inr (eqb-false _ _ e, refl, n)

-- ---- 9 and 10

days-above : (d : Used) (k : ℕ) (v : List ℕ) → days_over d k v ≡ true → 366 < days_with d k (get_or v 0 0)
days-above d k v = go (eqb k 3) (eqb k 4) (eqb k 5)
  where
    go : (x y z : Bool)
        → pick x (ltb 366 (d.enteric + get_or v 0 0)) (pick y (ltb 366 (d.nitrogen + get_or v 0 0))
        (pick z (ltb 366 (d.pig + get_or v 0 0)) false)) ≡ true
        → 366 < pick x (d.enteric + get_or v 0 0) (pick y (d.nitrogen + get_or v 0 0) (d.pig + get_or v 0 0))
    go true y z e = ltb-true _ _ e
    go false true z e = ltb-true _ _ e
    go false false true e = ltb-true _ _ e
    go false false false e = no_bool e

or-none : (b : Bool) → b || false ≡ true → b ≡ true
or-none true e = refl
or-none false e = e

abbrev Together : Used → ℕ → List ℕ → Compared → Type 0
Together u k v x =
    ((k ≡ 4) × (x ≡ numbers (shares_of v) 10000) × (x.value ≡ x.limit → ⊥))
    ⊎ (((k ≡ 5) × (x ≡ numbers (parts_of v) 1000) × (x.limit < x.value))
    ⊎ ((k ≡ 10) × (x ≡ numbers (grazed_with u.grazed v) 10000) × (x.limit < x.value)))

-- the shares, a pig's parts, or the grazed fractions: whichever of the two tests of 10 refuses
together-wrong : (u : Used) (k : ℕ) (v : List ℕ) → parts_wrong k v || grazed_over u k v ≡ true
    → Together u k v (pick (eqb k 4) (numbers (shares_of v) 10000)
    (pick (eqb k 5) (numbers (parts_of v) 1000) (numbers (grazed_with u.grazed v) 10000)))
together-wrong u k v e = go (eqb k 4) (eqb k 5) (eqb k 10) refl refl refl e
  where
    go : (x y z : Bool) → eqb k 4 ≡ x → eqb k 5 ≡ y → eqb k 10 ≡ z
        → pick x (not (eqb (shares_of v) 10000)) (pick y (ltb 1000 (parts_of v)) false) || (z && ltb 10000 (grazed_with u.grazed v)) ≡ true
        → Together u k v (pick x (numbers (shares_of v) 10000) (pick y (numbers (parts_of v) 1000) (numbers (grazed_with u.grazed v) 10000)))
    go true y true p q r e = let four : k ≡ 4 = eqb-true _ _ p in let ten : k ≡ 10 = eqb-true _ _ r in absurd (omega arith)
    go true y false p q r e = inl (eqb-true _ _ p, refl, eqb-false _ _ (not-true _ (or-none _ e)))
    go false true true p q r e = let five : k ≡ 5 = eqb-true _ _ q in let ten : k ≡ 10 = eqb-true _ _ r in absurd (omega arith)
    go false true false p q r e = inr (inl (eqb-true _ _ q, refl, ltb-true _ _ (or-none _ e)))
    go false false true p q r e = inr (inr (eqb-true _ _ r, refl, ltb-true _ _ e))
    go false false false p q r e = no_bool e

-- ---- what the test that refuses compares

pub compares-wrongly : (c : ℕ) (a : Account) (r : List ℕ) → RefusedBy c a r → ComparesWrongly c a r (compared c a r)
unfolding compared values_compared
compares-wrongly c a r t =
    let k = record_row r in
    let v = values_of r in
    let t8 = t.values.rising.1 in
    let t12 = t.values.count.1 in
    record {
      version = λ e. rw e (version-wrong (version_of r) (kind_byte r) (not-true _ (t.version.1 (sym e))));
      kind = λ e. rw e (refl, refl, beyond 1 last_kind (kind_byte r) (kind-off (kind_byte r) (t.kind.1 (sym e))));
      long = λ e. rw e (refl, eqb-false _ _ (not-true _ (t.long.1 (sym e))));
      room = λ e. rw e refl;
      place = λ e. rw e refl;
      in_range = λ e. rw e (refl, refl, beyond _ _ _ (field_off k v (eqb-false _ _ (not-true _ (t.values.in_range.1 (sym e))))));
      rising = λ e. rw e (eqb-true _ _ (and_l (eqb k 2) _ (t8 (sym e))), refl, leb-true _ _ (and_r (eqb k 2) _ (t8 (sym e))));
      days = λ e. rw e (refl, days-above a.used k v (t.values.days.1 (sym e)));
      together = λ e. rw e (together-wrong a.used k v (t.values.together.1 (sym e)));
      feed = λ e. rw e refl;
      count = λ e. rw e (eqb-true _ _ (and_l (eqb k 8) _ (t12 (sym e))), refl, eqb-false _ _ (not-true _ (and_r (eqb k 8) _ (t12 (sym e)))));
    }

-- the same for 1
pub length-beyond : (n : ℕ) → (n < 4) ⊎ (length_most_lem < n) → BeyondEnd 4 length_most_lem (outside 4 length_most_lem n)
length-beyond n (inl p) = beyond 4 26 n (inl p)
length-beyond n (inr p) = beyond 4 26 n (inr (omega arith, p))
