-- W11: the factors of a book are its farm record's; an old book gives its old total; the factors of a set give what the set gives; the rules before
-- refuse version 2.
-- Assumes nothing.
use Prim.Native.Nat.{ℕ, zero, suc, ◌+◌, ◌≤◌}
use mathlib.Core.Path.{◌≡◌, refl, sym, ap, ◌∙◌}
use mathlib.Core.List.{List, [], ◌++◌}
use mathlib.Core.Bool.{Bool, true, false}
use mathlib.Core.Logic.{◌⊎◌, inl, inr, ⊎_elim}
use native.Mathlib.Omega.{arith}
use borrow.Author.Tests.{eqb-true}
use lib.ListN.{length, get_or, take, drop}
use lib.Dec.{eqb, ltb, leb}
use Rattle.base.specs.Choice.{pick}
use Rattle.base.proofs.Tests.{of-choice, not-false}
use Rattle.codec.specs.Table.{table, fields, size, length_of, last_row}
use Rattle.codec.specs.Codec.{val_at, be, bytes_of, first_bad, record_bytes}
use Rattle.codec.proofs.Round.{record-length, record-back}
use Rattle.grams.specs.Farm.{set_factors, co2e_of}
use Rattle.grams.specs.declared.farm.Factors.{Factors}
use Rattle.account.specs.declared.Account.{Account}
use Rattle.account.specs.declared.Figures.{Figures}
use Rattle.account.specs.declared.sort.Sort.TheVariants as sort
use Rattle.account.specs.Sorts.{is_farm, sort_of}
use Rattle.account.specs.Account.{opened, no_record, farm_factors, farm_of, factors_of}
use Rattle.account.specs.Line.{total_with}
use Rattle.account.specs.Judge.{WholeRecord, version_of, kind_byte, record_row, values_of, refusals, first, in_place_lem, Step}
use Rattle.account.specs.Judge.{accepted, weigh, judge}
use Rattle.account.specs.Told.{Kind}
use Rattle.account.proofs.Sorts.{by-sort, sort-farm}
use Rattle.account.proofs.Refusals.{not-refused}
use Rattle.account.proofs.Told.{right-length}
use Rattle.book.specs.Front.{Front, unfinished, bad_length, whole, need, front}
use Rattle.book.specs.State.{no_record_yet}
use Rattle.book.specs.Run.{Run, then, ended, by_front_lem, book_by, book, run}
use Rattle.book.proofs.Runs.{book-ended}
use Rattle.promises.specs.Headings.{accepted_records}
use Rattle.promises.specs.Subtotals.{farm}
use Rattle.promises.specs.WholeNumbers.{co2_sum, whole_co2e}
use Rattle.promises.specs.Warming.{refusals_before, set_of, OldTotal, by_set, by_factors}
use Rattle.promises.proofs.SameLine.{book-record}
use Rattle.promises.proofs.StaysInRange.{new-in-range}
use Rattle.promises.proofs.Subtotals.{sums-of-farm}
use Rattle.promises.proofs.Totals.{ends-with-total}
use Rattle.promises.proofs.WholeNumbers.{book-in-whole-numbers}

-- ---- the factors stay

opens-farm : (k : ℕ) → sort_of k ≡ sort.Opens → is_farm k ≡ true
opens-farm k e = rw e at (sort-farm k)

-- behind a book's first record no farm record is in its place
no_second : (a : Account) (k : ℕ) → 1 ≤ a.records → is_farm k ≡ true → in_place_lem a k ≡ true → ⊥
unfolding in_place_lem
no_second a k h f p =
    let z : a.records ≡ 0 = eqb-true _ _ (rw f at p) in
    omega arith

Keeps : Account → Step → Type 0
Keeps a s = (s.account.farm ≡ a.farm) × (1 ≤ s.account.records)

-- a record behind the first keeps them
record-keeps : (a : Account) (r : List ℕ) → 1 ≤ a.records → Keeps a (judge a r)
unfolding judge accepted Keeps
record-keeps a r h =
    of-choice (Keeps a) (eqb (first (refusals a r)) 0)
    (λ e.
    let t = not-refused a r (eqb-true _ _ e) in
    by-sort (Keeps a) (sort_of (record_row r)) (λ o. absurd (no_second a (record_row r) h (opens-farm (record_row r) o) (not-false _ t.values.place)))
    (λ o. (refl, omega arith)) (λ o. (refl, omega arith)) (λ o. (refl, omega arith)) (λ o. (refl, omega arith)))
    (λ e. (refl, h))

-- and so do all
book-keeps : (n : ℕ) (a : Account) (xs : List ℕ) → 1 ≤ a.records → (book_by n a xs).state.account.farm ≡ a.farm
unfolding book_by Keeps
book-keeps zero a xs h = refl
book-keeps (suc n) a xs h =
    let k = record-keeps a (take (need xs) xs) h in
    go (ltb a.stage 2) (front xs) (book-keeps n (judge a (take (need xs) xs)).account (drop (need xs) xs) k.1 ∙ k.0)
  where
    go : (b : Bool) (f : Front) → (book_by n (judge a (take (need xs) xs)).account (drop (need xs) xs)).state.account.farm ≡ a.farm
        → (pick b (by_front_lem f a xs (book_by n (judge a (take (need xs) xs)).account (drop (need xs) xs)))
        (ended a xs)).state.account.farm ≡ a.farm
    go false f ih = refl
    go true unfinished ih = refl
    go true bad_length ih = refl
    go true whole ih = ih

-- ---- the farm record that opens the book

-- what it leaves
Opens : ℕ → List ℕ → Step → Type 0
Opens row v s = s.account.stage ≡ 1 → (factors_of s.account.farm ≡ farm_factors row v) × (1 ≤ s.account.records)

-- no other record brings a new book to stage 1
record-opens : (r : List ℕ) → Opens (record_row r) (values_of r) (judge no_record r)
unfolding judge accepted Opens
record-opens r =
    of-choice (Opens (record_row r) (values_of r)) (eqb (first (refusals no_record r)) 0)
    (λ e. by-sort (Opens (record_row r) (values_of r)) (sort_of (record_row r)) (λ k o. (refl, omega arith)) (λ k o. absurd (omega (arith, o)))
    (λ k o. absurd (omega (arith, o))) (λ k o. absurd (omega (arith, o))) (λ k o. absurd (omega (arith, o))))
    (λ e o. absurd (omega (arith, o)))

-- The factors of a book, at every point, are those of the farm record that opens it: its set's, or its own.
pub book-factors : (r xs : List ℕ) → WholeRecord r → (judge no_record r).account.stage ≡ 1
    → factors_of (run no_record_yet (r ++ xs)).state.account.farm ≡ farm_factors (record_row r) (values_of r)
unfolding run book Opens
book-factors r xs w o =
    let first_one = record-opens r o in
    ap (λ (x : Run). factors_of x.state.account.farm) (book-record no_record r xs w (omega arith))
    ∙ ap factors_of (book-keeps (suc (length xs)) (judge no_record r).account xs first_one.1)
    ∙ first_one.0

-- ---- old books

-- a farm record opens a new book, or is refused
opens-or-not : (r : List ℕ) → record_row r ≡ 1 → ((judge no_record r).account.stage ≡ 1) ⊎ ((judge no_record r).account.stage ≡ 3)
unfolding judge accepted sort_of
opens-or-not r row =
    of-choice (λ (s : Step). (s.account.stage ≡ 1) ⊎ (s.account.stage ≡ 3)) (eqb (first (refusals no_record r)) 0) (λ e. rw row (inl refl))
    (λ e. inr refl)

-- in a closed book it has opened it
has-opened : (r xs : List ℕ) → WholeRecord r → record_row r ≡ 1 → (run no_record_yet (r ++ xs)).state.account.stage ≡ 2
    → (judge no_record r).account.stage ≡ 1
unfolding run
has-opened r xs w row q =
    ⊎_elim (λ (o : (judge no_record r).account.stage ≡ 1). o)
    (λ (o : (judge no_record r).account.stage ≡ 3).
    let e : (run no_record_yet (r ++ xs)).state.account.stage ≡ (judge no_record r).account.stage =
    rw (book-record no_record r xs w (omega arith), book-ended (judge no_record r).account xs (omega (arith, o))) refl in
    absurd (omega (arith, e, o, q)))
    (opens-or-not r row)

-- the total line of some figures, by any factors
abbrev total_by : Factors → Figures → List ℕ
total_by w f = total_with f (co2e_of w f.co2 f.ch4 f.n2o f.grazing)

-- A closed book whose farm record is of version 1 gives the total that it gave before, by the factors of its set.
pub old-books : (r xs : List ℕ) → WholeRecord r → version_of r ≡ 1 → kind_byte r ≡ 1 → (run no_record_yet (r ++ xs)).state.account.stage ≡ 2
    → OldTotal (set_of r) (r ++ xs)
old-books r xs w v k q =
    let row : record_row r ≡ 1 = rw (v, k) refl in
    let b = (run no_record_yet (r ++ xs)).state.account in
    let own = book-factors r xs w (has-opened r xs w row q) in
    let factors : factors_of b.farm ≡ set_factors (set_of r) = own ∙ by_row (record_row r) (values_of r) row in
    record {
      line =
          ends-with-total no_record_yet (r ++ xs) new-in-range (omega arith) q
          ∙ ap (total_by (factors_of b.farm)) (sums-of-farm no_record_yet (r ++ xs) new-in-range)
          ∙ ap (λ (f : Factors). total_by f (farm (r ++ xs))) factors;
      co2e =
          book-in-whole-numbers (r ++ xs) q
          ∙ ap (λ (f : Factors). whole_co2e f (co2_sum no_record.heading (accepted_records no_record_yet (r ++ xs))) (farm (r ++ xs))) factors;
    }
  where
    by_row : (k : ℕ) (v : List ℕ) → k ≡ 1 → farm_factors k v ≡ set_factors (get_or v 2 0)
    by_row k v e = rw e refl

-- ---- the same factors by version 2

-- in range with the one are in range with the other
same-front : (a b c d : Bool) (x y : ℕ) → pick a (pick b (pick c (pick d x 2) 2) 1) 1 ≡ 0 → y ≡ 0 → pick a (pick b (pick c (pick d y 2) 2) 1) 1 ≡ 0
same-front true true true true x y h e = e
same-front true true true false x y h e = h
same-front true true false d x y h e = h
same-front true false c d x y h e = h
same-front false b c d x y h e = h

-- the factors of set 1, or else those of set 2
abbrev factors_if : Bool → Factors
factors_if b = pick b (record { ch4 = 21; n2o = 310 }) (record { ch4 = 23; n2o = 296 })

factors-fit : (farm year set : ℕ) → first_bad (fields 1) (by_set farm year set) 0 ≡ 0 → first_bad (fields last_row) (by_factors farm year set) 0 ≡ 0
unfolding first_bad table
factors-fit farm year set h = same-front (leb 0 farm) (leb farm 4294967295) (leb 1900 year) (leb year 2200) _ _ h (go (eqb set 1))
  where
    go : (b : Bool)
        → ◌≡◌ {A = ℕ} (pick (leb 1 (factors_if b).ch4) (pick (leb (factors_if b).ch4 1000)
        (pick (leb 1 (factors_if b).n2o) (pick (leb (factors_if b).n2o 1000) 0 4) 4) 3) 3) 0
    go true = refl
    go false = refl

size-1 : length_of 1 + 2 ≡ 11
unfolding table size
size-1 = refl

size-last : length_of last_row + 2 ≡ 14
unfolding table size
size-last = refl

size-of-1 : 2 + length_of 1 ≡ 11
unfolding table size
size-of-1 = refl

size-of-last : 2 + length_of last_row ≡ 14
unfolding table size
size-of-last = refl

count-1 : 3 ≡ length (fields 1)
unfolding table
count-1 = refl

count-last : 4 ≡ length (fields last_row)
unfolding table
count-last = refl

-- what a farm record in range does first of all
set-weighs : (v : List ℕ) → first_bad (fields 1) v 0 ≡ 0
    → weigh no_record 1 v ≡ record { account = opened no_record (farm_of 1 v); lines = [] }
unfolding weigh first in_place_lem accepted sort_of
set-weighs v h = rw h refl

factors-weigh : (v : List ℕ) → first_bad (fields last_row) v 0 ≡ 0
    → weigh no_record last_row v ≡ record { account = opened no_record (farm_of last_row v); lines = [] }
unfolding weigh first in_place_lem accepted sort_of
factors-weigh v h = rw h refl

set-kind : (farm year set : ℕ) → Kind 1 (record_bytes 1 (by_set farm year set))
unfolding record_bytes be bytes_of table size val_at
set-kind farm year set = record { whole = record { long = refl; low = omega arith; high = omega arith }; version = refl; listed = refl; kind = refl }

factors-kind : (farm year set : ℕ) → Kind last_row (record_bytes last_row (by_factors farm year set))
unfolding record_bytes be bytes_of table size val_at
factors-kind farm year set =
    record { whole = record { long = refl; low = omega arith; high = omega arith }; version = refl; listed = refl; kind = refl }

-- A farm record of version 2 with the factors of a set gives what version 1 with that set gives: the same state, lines and bytes left.
pub factors-as-set : (farm year set : ℕ) (xs : List ℕ) → first_bad (fields 1) (by_set farm year set) 0 ≡ 0
    → run no_record_yet (record_bytes last_row (by_factors farm year set) ++ xs) ≡ run no_record_yet (record_bytes 1 (by_set farm year set) ++ xs)
unfolding run
factors-as-set farm year set xs h =
    let v = by_set farm year set in
    let w = by_factors farm year set in
    let fit = factors-fit farm year set h in
    let one = set-kind farm year set in
    let two = factors-kind farm year set in
    let by-set : judge no_record (record_bytes 1 v) ≡ record { account = opened no_record (farm_of 1 v); lines = [] } =
    right-length no_record 1 (record_bytes 1 v) 11 one size-1 (record-length 1 v ∙ size-of-1) ∙ ap (weigh no_record 1) (record-back 1 v h count-1)
    ∙ set-weighs v h in
    let by-factors : judge no_record (record_bytes last_row w) ≡ record { account = opened no_record (farm_of 1 v); lines = [] } =
    right-length no_record last_row (record_bytes last_row w) 14 two size-last (record-length last_row w ∙ size-of-last)
    ∙ ap (weigh no_record last_row) (record-back last_row w fit count-last) ∙ factors-weigh w fit in
    book-record no_record (record_bytes last_row w) xs two.whole (omega arith)
    ∙ ap (λ (j : Step). then j.lines (book j.account xs)) (by-factors ∙ sym by-set)
    ∙ sym (book-record no_record (record_bytes 1 v) xs one.whole (omega arith))

-- ---- the rules of before

-- They refuse a record of version 2 by 2, whatever it is.
pub before-refuses : (a : Account) (r : List ℕ) → version_of r ≡ 2 → first (refusals_before a r) ≡ 2
unfolding first
before-refuses a r e = rw e refl
