-- The refusals by name: what the number of the first one says of each test. The positions in the list are counted here and nowhere else.
-- Assumes nothing.
use Prim.Native.Nat.{ℕ, ◌≤◌, ◌<◌}
use mathlib.Core.Path.{◌≡◌, refl, sym, ◌∙◌}
use mathlib.Core.List.{List, [], ◌∷◌}
use mathlib.Core.Bool.{Bool, true, false, ◌||◌}
use native.Mathlib.Omega.{arith}
use borrow.Author.Tests.{leb-false, eqb-true}
use lib.Dec.{eqb}
use Rattle.base.specs.Choice.{pick}
use Rattle.base.proofs.Tests.{not-false}
use Rattle.account.specs.declared.Account.{Account}
use Rattle.account.specs.Judge.{record_row, values_of, value_refusals, refusals, first, ValueTests, Tests, LetsThrough, ValuesPass, NotRefused}
use Rattle.account.specs.Judge.{wrong_version, wrong_kind, wrong_length, book_full, out_of_place, out_of_range_lem, not_rising, days_over, parts_wrong}
use Rattle.account.specs.Judge.{grazed_over, feed_below, wrong_count}
use Rattle.account.specs.Judge.{DecidedBy, RefusedBy, Step, accepted, weigh, judge}
use Rattle.account.proofs.First.{Within, Each, Rising, first-most, first-none, none_first, first_by, first_either}
use Rattle.account.proofs.Told.{Passes}

-- ---- one test for each number

abbrev values_by_number : Account → ℕ → List ℕ → List (Bool × ℕ)
values_by_number a k v =
    (book_full a, 5)
    ∷ (out_of_place a k, 6)
    ∷ (out_of_range_lem k v, 7)
    ∷ (not_rising a k v, 8)
    ∷ (days_over a.used k v, 9)
    ∷ (parts_wrong k v || grazed_over a.used k v, 10)
    ∷ (feed_below k v, 11)
    ∷ (wrong_count a k v, 12)
    ∷ []

abbrev by_number_lem : Account → List ℕ → List (Bool × ℕ)
by_number_lem a r = (wrong_version r, 2) ∷ (wrong_kind r, 3) ∷ (wrong_length r, 4) ∷ values_by_number a (record_row r) (values_of r)

first-behind : (b : Bool) (n : ℕ) (ts us : List (Bool × ℕ)) → first ts ≡ first us → first ((b, n) ∷ ts) ≡ first ((b, n) ∷ us)
unfolding first
first-behind true n ts us e = refl
first-behind false n ts us e = e

values-same-first : (a : Account) (k : ℕ) (v : List ℕ) → first (value_refusals a k v) ≡ first (values_by_number a k v)
values-same-first a k v =
    first-behind _ 5 _ _
    (first-behind _ 6 _ _
    (first-behind _ 7 _ _
    (first-behind _ 8 _ _
    (first-behind _ 9 _ _
    (first_either (parts_wrong k v) (grazed_over a.used k v) 10 _ _ refl)))))

same_first : (a : Account) (r : List ℕ) → first (refusals a r) ≡ first (by_number_lem a r)
same_first a r = first-behind _ 2 _ _ (first-behind _ 3 _ _ (first-behind _ 4 _ _ (values-same-first a (record_row r) (values_of r))))

-- ---- from the list to the names, and back

module _ (P : ℕ → Bool → Type 0) where
  value-names : (a : Account) (k : ℕ) (v : List ℕ) → Each P (values_by_number a k v) → ValueTests P a k v
  value-names a k v e =
      record {
        room = e.0;
        place = e.1.0;
        in_range = e.1.1.0;
        rising = e.1.1.1.0;
        days = e.1.1.1.1.0;
        together = e.1.1.1.1.1.0;
        feed = e.1.1.1.1.1.1.0;
        count = e.1.1.1.1.1.1.1.0;
      }

  value-list : (a : Account) (k : ℕ) (v : List ℕ) → ValueTests P a k v → Each P (values_by_number a k v)
  value-list a k v t = (t.room, (t.place, (t.in_range, (t.rising, (t.days, (t.together, (t.feed, (t.count, tt))))))))

  names : (a : Account) (r : List ℕ) → Each P (by_number_lem a r) → Tests P a r
  names a r e = record { version = e.0; kind = e.1.0; long = e.1.1.0; values = value-names a (record_row r) (values_of r) e.1.1.1 }

  list : (a : Account) (r : List ℕ) → Tests P a r → Each P (by_number_lem a r)
  list a r t = (t.version, (t.kind, (t.long, value-list a (record_row r) (values_of r) t.values)))

values-rise : (a : Account) (k : ℕ) (v : List ℕ) → Rising 4 (values_by_number a k v)
values-rise a k v = (omega arith, (omega arith, (omega arith, (omega arith, (omega arith, (omega arith, (omega arith, (omega arith, tt))))))))

rise : (a : Account) (r : List ℕ) → Rising 1 (by_number_lem a r)
rise a r = (omega arith, (omega arith, (omega arith, values-rise a (record_row r) (values_of r))))

-- ---- values of a kind

module _ (a : Account) (k : ℕ) (v : List ℕ) where
  values-pass : first (value_refusals a k v) ≡ 0 → ValuesPass a k v
  values-pass e = value-names LetsThrough a k v (first-none 4 (values_by_number a k v) (values-rise a k v) (sym (values-same-first a k v) ∙ e))

  -- 5, 6 and 7, as the arithmetic wants them
  pub passed : ValuesPass a k v → Passes a k v
  passed t = record { room = leb-false _ _ t.room; place = not-false _ t.place; ranges = eqb-true _ _ (not-false _ t.in_range) }

-- ---- a whole record

module _ (a : Account) (r : List ℕ) where
  values-most : Within 12 (values_by_number a (record_row r) (values_of r))
  values-most = (omega arith, (omega arith, (omega arith, (omega arith, (omega arith, (omega arith, (omega arith, (omega arith, tt))))))))

  -- the number of the first refusal is 0 where no test refuses, and there alone
  pub not-refused : first (refusals a r) ≡ 0 → NotRefused a r
  not-refused e = names LetsThrough a r (first-none 1 (by_number_lem a r) (rise a r) (sym (same_first a r) ∙ e))

  pub none-refuses : NotRefused a r → first (refusals a r) ≡ 0
  none-refuses t = same_first a r ∙ none_first (by_number_lem a r) (list LetsThrough a r t)

  -- it is c where no test before c refuses, and c's does
  pub refused-by : (c : ℕ) → 0 < c → first (refusals a r) ≡ c → RefusedBy c a r
  refused-by c h e = names (DecidedBy c) a r (first_by c 1 (by_number_lem a r) (rise a r) h (sym (same_first a r) ∙ e))

  pub number-most : first (refusals a r) ≤ 12
  number-most = rw (same_first a r) (first-most 12 (by_number_lem a r) (omega arith, (omega arith, (omega arith, values-most))))

-- ---- by the stage after it: what was not refused leaves another than 3

by-stage : (n : ℕ) (s t : Step) → t.account.stage ≡ 3 → ((pick (eqb n 0) s t).account.stage ≡ 3 → ⊥) → n ≡ 0
by-stage n s t three h = go (eqb n 0) refl h
  where
    go : (b : Bool) → eqb n 0 ≡ b → ((pick b s t).account.stage ≡ 3 → ⊥) → n ≡ 0
    go true e k = eqb-true _ _ e
    go false e k = absurd (k three)

pub weighed-none : (a : Account) (k : ℕ) (v : List ℕ) → ((weigh a k v).account.stage ≡ 3 → ⊥) → first (value_refusals a k v) ≡ 0
unfolding weigh
weighed-none a k v h = by-stage (first (value_refusals a k v)) (accepted a k v) _ refl h

pub weighed-passes : (a : Account) (k : ℕ) (v : List ℕ) → ((weigh a k v).account.stage ≡ 3 → ⊥) → ValuesPass a k v
weighed-passes a k v h = values-pass a k v (weighed-none a k v h)

pub judged-passes : (a : Account) (r : List ℕ) → ((judge a r).account.stage ≡ 3 → ⊥) → NotRefused a r
unfolding judge
judged-passes a r h = not-refused a r (by-stage (first (refusals a r)) (accepted a (record_row r) (values_of r)) _ refl h)
