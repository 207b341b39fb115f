-- What becomes of one record: laws of the number that drops it, and of the reading behind it.
-- Assumes nothing.
use Prim.Native.Nat.{ℕ, ◌+◌, ◌≤◌, ◌<◌}
use mathlib.Core.Path.{◌≡◌, refl, sym, ap, ◌∙◌}
use mathlib.Core.List.{List, [], ◌∷◌}
use mathlib.Core.Bool.{Bool, true, false, ◌&&◌, ◌||◌, not}
use mathlib.Core.Logic.{◌⊎◌, inl, inr}
use native.Mathlib.Omega.{arith}
use borrow.Author.Tests.{eqb-true, eq-eqb, ne_eqb, leb-false, lt-leb}
use lib.Dec.{leb, eqb}
use lib.ListN.{get_or}
use Rattle.base.specs.Choice.{pick}
use Rattle.base.proofs.Tests.{of-choice, no_bool, not-false, and_l, and_r, and_no, or_l, or_r}
use Rattle.codec.specs.Table.{length_of}
use Rattle.codec.specs.Codec.{val_at}
use Rattle.account.specs.declared.Account.{Account}
use Rattle.account.specs.Range.{AccountInRange}
use Rattle.account.specs.Sorts.{is_farm, sort_of, is_of_group}
use Rattle.account.specs.Account.{closed}
use Rattle.account.specs.Judge.{version_of, kind_byte, record_row, values_of, heading_serves, in_place_lem, first, refusals, Step, accepted, judge}
use Rattle.account.proofs.Sorts.{by-sort, closes-eight}
use Rattle.account.proofs.Refusals.{not-refused, number-most}
use Rattle.account.proofs.Keeps.{in-range-judge}
use Rattle.salvage.specs.declared.Reading.{Reading}
use Rattle.salvage.specs.Salvage.{would_get, one_of, drops, dropped_by, ends, reading_after}
use Rattle.salvage.specs.Inner.{Open}
use Rattle.salvage.proofs.KindRows.{row-eight, farm-row}

-- ---- the number that a record would get

-- an accepted record is counted, keeps the refusal, and unless it is a close, keeps the book open
pub record Grown (a : Account) (k : ℕ) (j : Step) : Type 0 where
  pub refusal : j.account.refusal.code ≡ a.refusal.code
  pub records : j.account.records ≡ a.records + 1
  pub early : (k ≡ 8 → ⊥) → a.stage < 2 → j.account.stage < 2

grown : (a : Account) (k : ℕ) (v : List ℕ) → Grown a k (accepted a k v)
unfolding accepted
grown a k v =
    by-sort (Grown a k) (sort_of k)
    (λ e. record { refusal = refl; records = refl; early = λ n h. omega arith })
    (λ e. record { refusal = refl; records = refl; early = λ n h. h })
    (λ e. record { refusal = refl; records = refl; early = λ n h. h })
    (λ e. record { refusal = refl; records = refl; early = λ n h. h })
    (λ e. record { refusal = refl; records = refl; early = λ n h. absurd (n (closes-eight k e)) })

pub accepts : (a : Account) (r : List ℕ) → would_get a r ≡ 0 → judge a r ≡ accepted a (record_row r) (values_of r)
unfolding judge
accepts a r e = rw (eq-eqb _ _ e)

pub grows : (a : Account) (r : List ℕ) → would_get a r ≡ 0 → Grown a (record_row r) (judge a r)
grows a r e = rw (accepts a r e) (grown a (record_row r) (values_of r))

-- it stands in the account that the reader makes of the record
pub code_is : (a : Account) (r : List ℕ) → AccountInRange a → a.stage < 2 → (judge a r).account.refusal.code ≡ would_get a r
unfolding judge
code_is a r f h =
    of-choice (λ (j : Step). j.account.refusal.code ≡ would_get a r) (eqb (would_get a r) 0)
    (λ e. (grown a (record_row r) (values_of r)).refusal ∙ (f.ended.unrefused (λ z. omega arith)).code ∙ sym (eqb-true _ _ e)) (λ e. refl)

pub below-4096 : (a : Account) (r : List ℕ) → would_get a r ≡ 0 → a.records < 4096
below-4096 a r e = leb-false _ _ (not-refused a r e).values.room

-- a close has the right count
pub right-count : (a : Account) (r : List ℕ) → would_get a r ≡ 0 → record_row r ≡ 8 → get_or (values_of r) 0 0 ≡ a.records
right-count a r e k =
    let t = (not-refused a r e).values.count in
    eqb-true _ _ (not-false _ (and_no (eqb (record_row r) 8) (not (eqb (get_or (values_of r) 0 0) a.records)) t (eq-eqb _ _ k)))

-- the version of a close and the length are right
pub right-version : (a : Account) (r : List ℕ) → would_get a r ≡ 0 → kind_byte r ≡ 8 → version_of r ≡ 1
right-version a r e k =
    let t : eqb (version_of r) 1 || (eqb (version_of r) 2 && eqb (kind_byte r) 1) ≡ true = not-false _ (not-refused a r e).version in
    eqb-true _ _ (go (eqb (version_of r) 1) (eqb (version_of r) 2) (rw k at t))
  where
    go : (x y : Bool) → x || (y && false) ≡ true → x ≡ true
    go true y p = refl
    go false true p = p
    go false false p = p

pub right-size : (a : Account) (r : List ℕ) → would_get a r ≡ 0 → val_at r 0 2 ≡ length_of (record_row r)
right-size a r e = eqb-true _ _ (not-false _ (not-refused a r e).long)

-- where it is not 0, the book is refused
pub refuses : (a : Account) (r : List ℕ) → (would_get a r ≡ 0 → ⊥) → (judge a r).account.stage ≡ 3
unfolding judge
refuses a r n = rw (ne_eqb _ _ n)

-- a close closes it
pub closes-book : (a : Account) (r : List ℕ) → would_get a r ≡ 0 → record_row r ≡ 8 → (judge a r).account ≡ closed a
unfolding accepted sort_of
closes-book a r e k = rw (accepts a r e, k)

-- the first record is a farm record
pub first-farm : (a : Account) (r : List ℕ) → would_get a r ≡ 0 → a.records ≡ 0 → kind_byte r ≡ 1
unfolding in_place_lem
first-farm a r e z =
    farm-row (version_of r) (kind_byte r) (not-false _ (not-refused a r e).kind)
    (go (is_farm (record_row r)) (not-false _ (not-refused a r e).values.place))
  where
    go : (b : Bool) → pick b (eqb a.records 0) (heading_serves a.heading.class (record_row r) && not (eqb a.records 0)) ≡ true → b ≡ true
    go true p = refl
    go false p = no_bool ((ap (λ (n : ℕ). not (eqb n 0)) (sym z)) ∙ and_r (heading_serves a.heading.class (record_row r)) _ p)

-- ---- the number that drops a record

-- what holds of 0, and of each number whose test holds, holds of the first
abbrev Each : (ℕ → Type 0) → List (Bool × ℕ) → Type 0
Each P [] = Unit {0}
Each P (t ∷ ts) = (t.0 ≡ true → P t.1) × Each P ts

first-is : (P : ℕ → Type 0) (ts : List (Bool × ℕ)) → P 0 → Each P ts → P (first ts)
unfolding first
first-is P [] z e = z
first-is P (t ∷ ts) z e = of-choice P t.0 e.0 (λ x. first-is P ts z e.1)

-- c is no number, or one that drops a record
abbrev Dropping : ℕ → Type 0
Dropping c = (c ≡ 0) ⊎ (one_of 2 4 c || one_of 6 11 c ≡ true)

none-drops : (c k : ℕ) (lost : Bool) → Dropping c → first (drops c k lost) ≡ 0 → c ≡ 0
unfolding first
none-drops c k lost (inl z) e = z
none-drops c k lost (inr z) e = go (one_of 2 4 c) (lost && is_of_group k) (one_of 6 11 c) z e
  where
    go : (b b' b'' : Bool) → b || b'' ≡ true → pick b c (pick b' 6 (pick b'' c 0)) ≡ 0 → c ≡ 0
    go true b' b'' p e = e
    go false true b'' p e = absurd (omega arith)
    go false false true p e = e
    go false false false p e = no_bool p

-- the number fits a byte
drops-most : (c k : ℕ) (lost : Bool) → c ≤ 12 → first (drops c k lost) < 256
unfolding first
drops-most c k lost h =
    of-choice (λ (n : ℕ). n < 256) (one_of 2 4 c) (λ e. omega arith)
    (λ e. of-choice (λ (n : ℕ). n < 256) (lost && is_of_group k) (λ e. omega arith)
    (λ e. of-choice (λ (n : ℕ). n < 256) (one_of 6 11 c) (λ e. omega arith) (λ e. omega arith)))

pub dropped-most : (s : Reading) (r : List ℕ) → dropped_by s r < 256
unfolding dropped_by
dropped-most s r = drops-most (would_get s.account r) (kind_byte r) s.lost (number-most s.account r)

module _ (s : Reading) (r : List ℕ) where
  -- a kept record would get no number: 5 and 12 alone drop nothing, and they do not come
  pub kept-right : dropped_by s r ≡ 0 → (kind_byte r ≡ 8 → ⊥) → s.account.records < 4096 → would_get s.account r ≡ 0
  unfolding dropped_by
  kept-right e k h =
      none-drops (would_get s.account r) (kind_byte r) s.lost
      (first-is Dropping (refusals s.account r) (inl refl) (
        λ z. inr refl,
        (
          λ z. inr refl,
          (
            λ z. inr refl,
            (
              λ z. no_bool (sym (lt-leb _ _ h) ∙ z),
              (
                λ z. inr refl,
                (
                  λ z. inr refl,
                  (
                    λ z. inr refl,
                    (
                      λ z. inr refl,
                      (
                        λ z. inr refl,
                        (
                          λ z. inr refl,
                          (
                            λ z. inr refl,
                            (λ z. absurd (k (row-eight (version_of r) (kind_byte r) (eqb-true _ _ (and_l (eqb (record_row r) 8) _ z)))), tt),
                          ),
                        ),
                      ),
                    ),
                  ),
                ),
              ),
            ),
          ),
        ),
      ))
      e

  -- a record that would get no number is dropped only under a dropped heading
  pub right_kept : would_get s.account r ≡ 0 → s.lost ≡ false → dropped_by s r ≡ 0
  unfolding dropped_by first
  right_kept e l = rw (e, l)

  module _ (e : ends s r ≡ false) where
    pub few : s.account.records < 4095
    few = leb-false _ _ (or_l _ _ e)

    pub no-close : dropped_by s r ≡ 0 → kind_byte r ≡ 8 → ⊥
    no-close d k = let z : false ≡ true = sym (or_r (leb 4095 s.account.records) _ e) ∙ rw (d, k) in let o : ◌≡◌ {A = ℕ} 0 1 = cc in omega arith

    pub gets_none : dropped_by s r ≡ 0 → would_get s.account r ≡ 0
    gets_none d = kept-right d (no-close d) (omega (arith, few))

    -- ---- the reading behind it

    -- the account: the record is in it, or it is as it was
    pub kept-account : dropped_by s r ≡ 0 → (reading_after s r).account ≡ (judge s.account r).account
    kept-account d = rw d

    pub dropped-account : (dropped_by s r ≡ 0 → ⊥) → (reading_after s r).account ≡ s.account
    dropped-account n = rw (ne_eqb _ _ n)

    pub kept-records : dropped_by s r ≡ 0 → (reading_after s r).account.records ≡ s.account.records + 1
    kept-records d = rw (kept-account d) (grows s.account r (gets_none d)).records

    module _ (o : Open s) where
      headed-so : (reading_after s r).heading ≤ (reading_after s r).number
      headed-so = of-choice (λ (n : ℕ). n ≤ s.number + 1) (eqb (kind_byte r) 2) (λ e. omega arith) (λ e. omega (arith, o.headed))

      pub open_after : Open (reading_after s r)
      open_after = go (eqb (dropped_by s r) 0) refl
        where
          go : (b : Bool) → eqb (dropped_by s r) 0 ≡ b
              → Open (record {
                account = pick b (judge s.account r).account s.account;
                lost = (reading_after s r).lost;
                heading = (reading_after s r).heading;
                number = (reading_after s r).number;
              })
          go true d =
              let z = eqb-true _ _ d in
              record {
                range = in-range-judge s.account r o.range o.early;
                early = (grows s.account r (gets_none z)).early (λ k. no-close z (row-eight (version_of r) (kind_byte r) k)) o.early;
                headed = headed-so;
              }
          go false d = record { range = o.range; early = o.early; headed = headed-so }

    pub records-after : (reading_after s r).account.records ≡ s.account.records + pick (eqb (dropped_by s r) 0) 1 0
    records-after = go (eqb (dropped_by s r) 0) refl
      where
        go : (b : Bool) → eqb (dropped_by s r) 0 ≡ b → (pick b (judge s.account r).account s.account).records ≡ s.account.records + pick b 1 0
        go true d = (grows s.account r (gets_none (eqb-true _ _ d))).records
        go false d = omega arith
