-- Theorem: farm number and year stand in a row exactly where a record was accepted, and then they are those of the first, which is a farm record.
-- Assumes nothing.
use Rattle.std.proofs.Common.{◌≡◌, ℕ, zero, suc, ◌+◌, ◌<◌, ◌≤◌, true, eqb, ◌⊎◌, List, [], ◌∷◌, length, get_or, take, drop, sym, refl, ap, ◌∙◌, inl}
use Rattle.std.proofs.Common.{inr, ⊎_elim, arith, length-take-le, le-ltb, ne_eqb, eqb-true}
use borrow.Author.Tests.{eqb-false}
use Rattle.base.proofs.Tests.{of-choice, by-test, no_bool, not-false, or_cases, and-false}
use Rattle.codec.specs.Table.{table, fields, size, length_of, last_row}
use Rattle.codec.specs.Codec.{val_at, values_at}
use Rattle.codec.proofs.BigEndian.{val_at-same}
use Rattle.account.specs.declared.Account.{Account}
use Rattle.account.specs.Account.{no_record}
use Rattle.account.specs.Sorts.{is_farm, sort_of}
use Rattle.account.specs.Judge.{record_row, heading_serves, in_place_lem, refusals, first, Step, accepted, judge}
use Rattle.account.proofs.Refusals.{judged-passes}
use Rattle.account.proofs.Sorts.{by-sort}
use Rattle.book.specs.Front.{Front, unfinished, bad_length, whole, need, front}
use Rattle.book.specs.Run.{book, run}
use Rattle.book.proofs.Runs.{book-ended, book-unfinished, book-bad, book-whole}
use Rattle.book.proofs.RecordRuns.{record-in, record-whole}
use Rattle.walk.specs.Walk.{record_at}
use Rattle.table.specs.Seen.{farm_values, seen_of, FarmShown}

-- a record that is refused is not counted
kept : (a : Account) (r : List ℕ) → a.stage < 2 → (judge a r).account.stage ≡ 3 → (judge a r).account.records ≡ a.records
unfolding judge accepted
kept a r early =
    of-choice (λ (s : Step). s.account.stage ≡ 3 → s.account.records ≡ a.records) (eqb (first (refusals a r)) 0)
    (λ e.
    by-sort (λ (s : Step). s.account.stage ≡ 3 → s.account.records ≡ a.records) (sort_of (record_row r))
    (λ k q. absurd (omega (arith, q)))
    (λ k q. absurd (omega (arith, q, early)))
    (λ k q. absurd (omega (arith, q, early)))
    (λ k q. absurd (omega (arith, q, early)))
    (λ k q. absurd (omega (arith, q))))
    (λ e q. refl)

-- what is in its place as the first record is a farm record
first-farm : (row : ℕ) → in_place_lem no_record row ≡ true → is_farm row ≡ true
unfolding in_place_lem
first-farm row e = by-test (is_farm row) (λ t. t) (λ t. no_bool (sym (and-false (heading_serves 0 row)) ∙ (rw t at e)))

-- farm number and year are the first values of either version
first_two : (row : ℕ) (s : List ℕ) → (row ≡ 1) ⊎ (row ≡ last_row)
    → (get_or (values_at (fields row) s 4) 0 0 ≡ val_at s 4 4) × (get_or (values_at (fields row) s 4) 1 0 ≡ val_at s 8 2)
unfolding table values_at
first_two row s o = ⊎_elim (λ (e : row ≡ 1). rw e (refl, refl)) (λ (e : row ≡ last_row). rw e (refl, refl)) o

farm-long : (row : ℕ) → (row ≡ 1) ⊎ (row ≡ last_row) → 9 ≤ length_of row
unfolding table size
farm-long row o = ⊎_elim (λ (e : row ≡ 1). rw e (omega arith)) (λ (e : row ≡ last_row). rw e (omega arith)) o

taken-same : (n k : ℕ) (xs : List ℕ) → k < n → get_or (take n xs) k 0 ≡ get_or xs k 0
taken-same zero k xs h = absurd (omega arith)
taken-same (suc n) k [] h = refl
taken-same (suc n) zero (x ∷ xs) h = refl
taken-same (suc n) (suc k) (x ∷ xs) h = taken-same n k xs (omega arith)

values-shown : (xs : List ℕ) → 11 ≤ length xs → farm_values xs ≡ values_at (fields 1) xs 4
unfolding table size
values-shown xs h = rw (le-ltb (length xs) 11 h) refl

-- the first record is whole, and not refused
module _ (xs : List ℕ) (e : front xs ≡ whole) (o : (judge no_record (record_at xs)).account.stage ≡ 3 → ⊥) where
  abbrev r : List ℕ
  r = record_at xs

  is-farm : is_farm (record_row r) ≡ true
  is-farm = first-farm (record_row r) (not-false _ (judged-passes no_record r o).values.place)

  row_is : (record_row r ≡ 1) ⊎ (record_row r ≡ last_row)
  row_is =
      ⊎_elim (λ t. inl (eqb-true (record_row r) 1 t)) (λ t. inr (eqb-true (record_row r) last_row t))
      (or_cases (eqb (record_row r) 1) (eqb (record_row r) last_row) is-farm)

  long : 11 ≤ need xs
  long =
      let w = record-whole xs (need xs) e refl in
      let l = eqb-true (val_at r 0 2) (length_of (record_row r)) (not-false _ (judged-passes no_record r o).long) in
      let t = length-take-le (need xs) xs (record-in xs (need xs) e refl) in
      omega (arith, w.long, l, t, farm-long (record_row r) row_is)

  same : (at w : ℕ) → at + w ≤ 11 → val_at xs at w ≡ val_at r at w
  same at w h = val_at-same xs r at at w (λ k q. sym (taken-same (need xs) (at + k) xs (omega (arith, long, h, q))))

  shown : FarmShown xs
  unfolding seen_of
  shown =
      let all = record-in xs (need xs) e refl in
      let v = values-shown xs (omega (arith, long, all)) in
      let mine = first_two 1 xs (inl refl) in
      let own = first_two (record_row r) r row_is in
      record {
        farm = is-farm;
        accepted = rw (ne_eqb (judge no_record r).account.stage 3 o) refl;
        number = ap (λ (l : List ℕ). get_or l 0 0) v ∙ mine.0 ∙ same 4 4 (omega arith) ∙ sym own.0;
        year = ap (λ (l : List ℕ). get_or l 1 0) v ∙ mine.1 ∙ same 8 2 (omega arith) ∙ sym own.1;
      }

-- some record was accepted: so was the first
by_front : (f : Front) (xs : List ℕ) → front xs ≡ f → ((book no_record xs).state.account.records ≡ 0 → ⊥) → FarmShown xs
by_front unfinished xs e n = absurd (n (rw (book-unfinished no_record xs (omega arith) e) refl))
by_front bad_length xs e n = absurd (n (rw (book-bad no_record xs (omega arith) e) refl))
by_front whole xs e n =
    let r = record_at xs in
    by-test (eqb (judge no_record r).account.stage 3)
    (λ t.
    let q = eqb-true (judge no_record r).account.stage 3 t in
    absurd (n (rw (book-whole no_record xs (omega arith) e, book-ended (judge no_record r).account (drop (need xs) xs) (omega (arith, q)))
    (kept no_record r (omega arith) q))))
    (λ t. shown xs e (eqb-false (judge no_record r).account.stage 3 t))

pub table-farm : (xs : List ℕ) → ((seen_of xs).records ≡ 0 → ⊥) → FarmShown xs
unfolding seen_of run
table-farm xs n = by_front (front xs) xs refl n
