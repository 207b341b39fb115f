-- One record: what the number that refuses it says of its size, its values and the account behind it.
-- Assumes nothing.
use Prim.Native.Nat.{ℕ, ◌+◌, ◌≤◌, ◌<◌}
use mathlib.Core.Path.{◌≡◌, refl, sym, ap, ◌∙◌}
use mathlib.Core.List.{List, [], ◌∷◌}
use mathlib.Core.Bool.{Bool, true, false, ◌&&◌}
use mathlib.Core.Logic.{◌⊎◌, inl, inr}
use native.Mathlib.Omega.{arith}
use borrow.Author.Tests.{leb-true, eqb-true, eqb-false, eq-eqb, ne_eqb}
use lib.Dec.{ltb, leb, eqb}
use lib.ListN.{length, get_or}
use Rattle.base.specs.Choice.{pick}
use Rattle.base.proofs.Tests.{and_l, and_r, of-choice, no_bool, not-false, not-true}
use Rattle.codec.specs.Table.{table, fields, is_row}
use Rattle.codec.proofs.Within.{Within, ranges, bad-position}
use Rattle.codec.proofs.Rows.{fields-few}
use Rattle.line_bytes.specs.Lines.{lines_most}
use Rattle.account.specs.declared.Account.{Account}
use Rattle.account.specs.declared.Judged.{Judged}
use Rattle.account.specs.Sorts.{sort_of}
use Rattle.account.specs.Account.{refused}
use Rattle.account.specs.Judge.{WholeRecord, version_of, kind_byte, record_row, values_of, first, refusals, NotRefused, Step, accepted, judge}
use Rattle.account.specs.Told.{TellsIn}
use Rattle.account.specs.Compared.{bad_field}
use Rattle.account.proofs.Told.{tells-fit, lines-short}
use Rattle.codec.proofs.EachKind.{row-least, row-most, row-of-kind}
use Rattle.account.proofs.Sorts.{by-sort}
use Rattle.account.proofs.Refusals.{none-refuses, refused-by, number-most, judged-passes}
use Rattle.why.specs.Inner.{Sized, Faulty}

-- the number of the first refusal
abbrev pub number_of : Account → List ℕ → ℕ
number_of a r = first (refusals a r)

-- any record's lines fit in lines_most bytes
pub told-account : {a : Account} {s : Step} {j : Judged} → TellsIn lines_most a s j → j.account ≡ s.account
told-account t = (tells-fit t (lines-short t)).account

-- ---- a number is 2 at least

all_least : ℕ → List (Bool × ℕ) → Bool
all_least n [] = true
all_least n (t ∷ ts) = leb n t.1 && all_least n ts

first-least : (n : ℕ) (ts : List (Bool × ℕ)) → all_least n ts ≡ true → (first ts ≡ 0 → ⊥) → n ≤ first ts
unfolding first all_least
first-least n [] w = λ h. absurd (h refl)
first-least n (t ∷ ts) w =
    of-choice (λ (c : ℕ). (c ≡ 0 → ⊥) → n ≤ c) t.0 (λ e h. leb-true n t.1 (and_l (leb n t.1) (all_least n ts) w))
    (λ e h. first-least n ts (and_r (leb n t.1) (all_least n ts) w) h)

number-least : (a : Account) (r : List ℕ) → (number_of a r ≡ 0 → ⊥) → 2 ≤ number_of a r
unfolding all_least
number-least a r = first-least 2 (refusals a r) refl

-- ---- a record that is refused, or not

-- an accepted record is counted and leaves no refused book
record Grown (a : Account) (s : Step) : Type 0 where
  records : s.account.records ≡ a.records + 1
  stage : a.stage < 2 → s.account.stage < 3

grown : (a : Account) (k : ℕ) (v : List ℕ) → Grown a (accepted a k v)
unfolding accepted
grown a k v =
    by-sort (Grown a) (sort_of k)
    (λ e. record { records = refl; stage = λ h. omega arith })
    (λ e. record { records = refl; stage = λ h. omega arith })
    (λ e. record { records = refl; stage = λ h. omega arith })
    (λ e. record { records = refl; stage = λ h. omega arith })
    (λ e. record { records = refl; stage = λ h. omega arith })

module _ (a : Account) (r : List ℕ) where
  accepts : number_of a r ≡ 0 → judge a r ≡ accepted a (record_row r) (values_of r)
  unfolding judge
  accepts e = rw (eq-eqb _ _ e)

  -- it is not refused: one record more
  pub passes : ((judge a r).account.stage ≡ 3 → ⊥) → NotRefused a r
  passes h = judged-passes a r h

  pub counted : ((judge a r).account.stage ≡ 3 → ⊥) → (judge a r).account.records ≡ a.records + 1
  counted h = rw (accepts (none-refuses a r (passes h))) (grown a (record_row r) (values_of r)).records

  -- it is refused: by a number, which is stored with the field
  stopped : a.stage < 2 → (judge a r).account.stage ≡ 3 → number_of a r ≡ 0 → ⊥
  stopped h s e =
      let g = (grown a (record_row r) (values_of r)).stage h in
      let z : (accepted a (record_row r) (values_of r)).account.stage ≡ 3 = rw (accepts e) at s in
      omega (arith, g, z)

  stored : (number_of a r ≡ 0 → ⊥)
      → (judge a r).account ≡ refused a (number_of a r) (pick (eqb (number_of a r) 7) (bad_field (record_row r) (values_of r)) 0)
  unfolding judge
  stored n = rw (ne_eqb _ _ n)

  module _ (h : a.stage < 2) (s : (judge a r).account.stage ≡ 3) where
    account-is : (judge a r).account ≡ refused a (number_of a r) (pick (eqb (number_of a r) 7) (bad_field (record_row r) (values_of r)) 0)
    account-is = stored (stopped h s)

    pub refused-is : (judge a r).account ≡ refused a (judge a r).account.refusal.code (judge a r).account.refusal.field
    refused-is = rw account-is

    code_is : (judge a r).account.refusal.code ≡ number_of a r
    code_is = rw account-is

    pub faulty : WholeRecord r → Faulty a r (judge a r).account.refusal.code (judge a r).account.refusal.field
    faulty w =
        let least = number-least a r (stopped h s) in
        rw account-is
        (record {
          whole = w;
          broken = refused-by a r (number_of a r) (omega (arith, least)) refl;
          some = least;
          most = number-most a r;
          position = refl;
        })

-- the same, as the code finds it
pub faulty-told : {a : Account} {r bytes : List ℕ} {next : Account} → next ≡ (judge a r).account → bytes ≡ r → WholeRecord r → a.stage < 2
    → next.stage ≡ 3 → Faulty a bytes next.refusal.code next.refusal.field
faulty-told {a} {r} e b w h s = rw (e, b) (faulty a r h (rw e at s) w)

-- ---- what a number says of the record

module _ {a : Account} {r : List ℕ} {code field : ℕ} (f : Faulty a r code field) where
  -- from 4 on it has a row of the table, from 5 on its length is the row's
  pub row_in : 4 ≤ code → is_row (record_row r) ≡ true
  row_in h = row-of-kind (version_of r) (kind_byte r) (not-false _ (f.broken.kind.0 (omega arith)))

  pub sized : 5 ≤ code → Sized r
  sized h =
      let k = row_in (omega arith) in
      let l = eqb-true _ _ (not-false _ (f.broken.long.0 (omega arith))) in
      record { least = row-least (record_row r) k; most = row-most (record_row r) k; long = f.whole.long ∙ ap (λ (n : ℕ). n + 2) l }

  -- the position of a field out of its range
  pub position-is : code ≡ 7 → (field ≡ bad_field (record_row r) (values_of r)) × (1 ≤ field) × (field ≤ 12)
  position-is e =
      let p : field ≡ bad_field (record_row r) (values_of r) = f.position ∙ rw e refl in
      let n : bad_field (record_row r) (values_of r) ≡ 0 → ⊥ = eqb-false _ _ (not-true _ (f.broken.values.in_range.1 (sym e))) in
      let m = bad-position (fields (record_row r)) (values_of r) 0 in
      (p, omega (arith, p, n), omega (arith, p, m, fields-few (record_row r)))

  -- from 8 on each value is in its range
  pub in-range : 8 ≤ code → (i : ℕ) → i < length (fields (record_row r))
      → Within (get_or (fields (record_row r)) i (0, 0, 0)) (get_or (values_of r) (0 + i) 0)
  in-range h = ranges (values_of r) (fields (record_row r)) 0 (eqb-true _ _ (not-false _ (f.broken.values.in_range.0 (omega arith))))

  -- 9 is of kind 3, 4 or 5
  pub of-days : code ≡ 9 → (record_row r ≡ 3) ⊎ ((record_row r ≡ 4) ⊎ (record_row r ≡ 5))
  of-days e = go (eqb (record_row r) 3) (eqb (record_row r) 4) (eqb (record_row r) 5) refl refl refl (f.broken.values.days.1 (sym e))
    where
      go : (x y z : Bool) → eqb (record_row r) 3 ≡ x → eqb (record_row r) 4 ≡ y → eqb (record_row r) 5 ≡ z
          → pick x (ltb 366 (a.used.enteric + get_or (values_of r) 0 0))
          (pick y (ltb 366 (a.used.nitrogen + get_or (values_of r) 0 0)) (pick z (ltb 366 (a.used.pig + get_or (values_of r) 0 0)) false))
          ≡ true
          → (record_row r ≡ 3) ⊎ ((record_row r ≡ 4) ⊎ (record_row r ≡ 5))
      go true y z p q s t = inl (eqb-true _ _ p)
      go false true z p q s t = inr (inl (eqb-true _ _ q))
      go false false true p q s t = inr (inr (eqb-true _ _ s))
      go false false false p q s t = no_bool t

-- ---- the values that are added, where each value is in its range

abbrev pub AllWithin : ℕ → List ℕ → Type 0
AllWithin k v = (i : ℕ) → i < length (fields k) → Within (get_or (fields k) i (0, 0, 0)) (get_or v (0 + i) 0)

-- days
first_small : (k : ℕ) (v : List ℕ) → (k ≡ 3) ⊎ ((k ≡ 4) ⊎ (k ≡ 5)) → AllWithin k v → get_or v 0 0 ≤ 366
unfolding table
first_small k v (inl e) h = let w = rw e at h in (w 0 (omega arith)).below
first_small k v (inr (inl e)) h = let w = rw e at h in (w 0 (omega arith)).below
first_small k v (inr (inr e)) h = let w = rw e at h in (w 0 (omega arith)).below

pub days-small : {a : Account} {r : List ℕ} {code field : ℕ} → Faulty a r code field → code ≡ 9 → get_or (values_of r) 0 0 ≤ 366
days-small {a} {r} f e = first_small (record_row r) (values_of r) (of-days f e) (in-range f (omega arith))
