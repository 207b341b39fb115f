-- What a caller learns from the next record of a walk, and how the accepted records go on with it.
-- Assumes nothing.
use Prim.Native.Nat.{ℕ, zero, suc, ◌≤◌, ◌<◌}
use mathlib.Core.Path.{◌≡◌, refl, ap, ◌∙◌}
use mathlib.Core.List.{List, [], ◌∷◌}
use mathlib.Core.Bool.{true, ◌||◌}
use mathlib.Core.Logic.{⊎_elim}
use native.Mathlib.Omega.{arith}
use borrow.Author.Tests.{lt-ltb, le-ltb, eq-eqb, ne_eqb, eqb-true, eqb-false}
use lib.Dec.{eqb}
use lib.ListN.{length, take, drop}
use Rattle.base.proofs.Tests.{lt-or-ge, by-test}
use Rattle.account.specs.declared.Account.{Account}
use Rattle.account.specs.Judge.{judge}
use Rattle.walk.specs.declared.Next.{Next}
use Rattle.book.specs.Front.{Front, unfinished, bad_length, whole, need, front}
use Rattle.book.specs.WholeRecords.{Ready, begins_with, records_by, records_of}
use Rattle.walk.specs.Walk.{lines_of, at_front, next_of, lines_next, accepts, entry_of, records_in, entries_from, entries_after, run_by}
use Rattle.book.proofs.Fronts.{meaning, front-none}
use Rattle.book.proofs.WholeRecords.{records-whole}
use Rattle.book.specs.Run.{book}
use Rattle.book.proofs.Runs.{book-ended, book-unfinished, book-bad, book-whole}
use Rattle.book.proofs.RecordRuns.{record-in}
use Rattle.walk.proofs.NextRecords.{next-ended, next-open, lines-open}

-- t is the record of so many bytes at the front of xs, after the account a of an open book
pub record Stands (a : Account) (xs : List ℕ) (t : Next) : Type 0 where
  pub early : a.stage < 2
  pub front : front xs ≡ whole
  pub size : t.size ≡ need xs
  pub least : 6 ≤ t.size
  pub inside : t.size ≤ length xs
  pub account : t.account ≡ (judge a (take t.size xs)).account
  pub written : t.written ≡ length (lines_of a (take t.size xs))
  pub lines : lines_next a xs ≡ lines_of a (take t.size xs)

stands_by : (f : Front) (a : Account) (xs : List ℕ) → front xs ≡ f → a.stage < 2 → ((at_front f a xs).size ≡ 0 → ⊥) → Stands a xs (at_front f a xs)
stands_by unfinished a xs e early n = absurd (n refl)
stands_by bad_length a xs e early n = absurd (n refl)
stands_by whole a xs e early n =
    let m = meaning xs whole e in
    record {
      early = early;
      front = e;
      size = refl;
      least = omega arith;
      inside = record-in xs (need xs) e refl;
      account = refl;
      written = refl;
      lines = rw (lines-open a xs early, e) refl;
    }

none-by : (f : Front) (a : Account) (xs : List ℕ) → (at_front f a xs).size ≡ 0 → f ≡ whole → ⊥
none-by unfinished a xs z e = let q : ◌≡◌ {A = ℕ} 0 1 = cc in absurd (omega arith)
none-by bad_length a xs z e = let q : ◌≡◌ {A = ℕ} 0 1 = cc in absurd (omega arith)
none-by whole a xs z e = absurd (omega arith)

module _ (a : Account) (xs : List ℕ) (t : Next) (e : t ≡ next_of a xs) where
  pub stands : (t.size ≡ 0 → ⊥) → Stands a xs t
  stands n =
      ⊎_elim
      (λ (h : a.stage < 2). let o = e ∙ next-open a xs h in rw o (stands_by (front xs) a xs refl h (rw o at n)))
      (λ (h : 2 ≤ a.stage). absurd (n (rw (e, next-ended a xs h) refl)))
      (lt-or-ge a.stage 2)

  -- no record, though the book is open: none lies whole at the front
  pub none-whole : t.size ≡ 0 → a.stage < 2 → front xs ≡ whole → ⊥
  none-whole z h = none-by (front xs) a xs (rw (e, next-open a xs h) at z)

-- ---- the accepted records

beginning-none : (f : Front) (xs : List ℕ) (others : List (List ℕ)) → (f ≡ whole → ⊥) → begins_with f xs others ≡ []
beginning-none unfinished xs others n = refl
beginning-none bad_length xs others n = refl
beginning-none whole xs others n = absurd (n refl)

pub records-none : (xs : List ℕ) → (front xs ≡ whole → ⊥) → records_of xs ≡ []
unfolding records_of records_by
records-none xs n = beginning-none (front xs) xs _ n

pub entries-ended : (a : Account) (rs : List (List ℕ)) → 2 ≤ a.stage → entries_from a rs ≡ []
unfolding entries_from
entries-ended a [] h = refl
entries-ended a (r ∷ rs) h = rw (le-ltb _ _ h) refl

pub entries-first : (a : Account) (r : List ℕ) (rs : List (List ℕ)) → a.stage < 2 → ((judge a r).account.stage ≡ 3 → ⊥)
    → entries_from a (r ∷ rs) ≡ entry_of a r ∷ entries_from (judge a r).account rs
unfolding entries_from
entries-first a r rs h n = rw (lt-ltb _ _ h, ne_eqb _ _ n) refl

pub entries-refused : (a : Account) (r : List ℕ) (rs : List (List ℕ)) → a.stage < 2 → (judge a r).account.stage ≡ 3 → entries_from a (r ∷ rs) ≡ []
unfolding entries_from
entries-refused a r rs h n = rw (lt-ltb _ _ h, eq-eqb _ _ n) refl

module _ (a : Account) (xs : List ℕ) (t : Next) (e : t ≡ next_of a xs) where
  pub entries_none : t.size ≡ 0 → entries_after a xs ≡ []
  unfolding entries_from
  entries_none z =
      ⊎_elim
      (λ (h : a.stage < 2). rw (records-none xs (none-whole a xs t e z h)) refl)
      (λ (h : 2 ≤ a.stage). entries-ended a (records_of xs) h)
      (lt-or-ge a.stage 2)

  module _ (n : t.size ≡ 0 → ⊥) where
    -- the record at the front, and those after it
    pub records-next : records_of xs ≡ take t.size xs ∷ records_of (drop t.size xs)
    records-next = let s = stands a xs t e n in rw s.size (records-whole xs s.front)

    pub entries_next : (t.account.stage ≡ 3 → ⊥) → entries_after a xs ≡ entry_of a (take t.size xs) ∷ entries_after t.account (drop t.size xs)
    entries_next still =
        let s = stands a xs t e n in
        ap (entries_from a) records-next
        ∙ (rw (← s.account) at (entries-first a (take t.size xs) (records_of (drop t.size xs)) s.early (rw s.account at still)))

    pub entries-stop : t.account.stage ≡ 3 → entries_after a xs ≡ []
    entries-stop refused =
        let s = stands a xs t e n in
        ap (entries_from a) records-next
        ∙ entries-refused a (take t.size xs) (records_of (drop t.size xs)) s.early (rw s.account at refused)

  -- as the code asks: there is none, or it is refused
  pub entries-end : eqb t.size 0 || eqb t.account.stage 3 ≡ true → entries_after a xs ≡ []
  entries-end h =
      by-test (eqb t.size 0) (λ z. entries_none (eqb-true _ _ z)) (λ z. entries-stop (eqb-false _ _ z) (eqb-true _ _ (rw z at h)))

-- no bytes have no entries
pub entries-nil : (a : Account) → entries_after a [] ≡ []
unfolding entries_from
entries-nil a = rw (records-none [] (λ e. let q : ◌≡◌ {A = ℕ} 0 1 = cc (e, front-none) in absurd (omega (arith, q)))) refl

-- there are no more entries than records, and no more records than turns
pub entries-few : (a : Account) (rs : List (List ℕ)) → length (records_in (entries_from a rs)) ≤ length rs
unfolding records_in entries_from
entries-few a [] = omega arith
entries-few a (r ∷ rs) =
    by-test (accepts a r) (λ t. rw t (let i = entries-few (judge a r).account rs in omega (arith, i))) (λ t. rw t (omega arith))

pub records-few : (n : ℕ) (xs : List ℕ) → length (records_by n xs) ≤ n
unfolding records_by
records-few zero xs = omega arith
records-few (suc n) xs = go (front xs) (records-few n (drop (need xs) xs))
  where
    go : (f : Front) → length (records_by n (drop (need xs) xs)) ≤ n → length (begins_with f xs (records_by n (drop (need xs) xs))) ≤ suc n
    go unfinished h = omega arith
    go bad_length h = omega arith
    go whole h = omega (arith, h)

-- the same as front::ready has it
pub next-ready : (a : Account) (xs : List ℕ) (t : Next) → t ≡ next_of a xs → a.stage < 2 → Ready xs t.size
next-ready a xs t e early =
    record {
      some = λ h. let s = stands a xs t e (λ z. omega arith) in (s.front, s.size);
      none = λ z. none-whole a xs t e z early;
    }

-- ---- the reader's way by the walk

run_at : (f : Front) (a : Account) (xs : List ℕ) → front xs ≡ f → a.stage < 2 → book a xs ≡ run_by (at_front f a xs).found a xs
run_at unfinished a xs e early = book-unfinished a xs early e
run_at bad_length a xs e early = book-bad a xs early e
run_at whole a xs e early = book-whole a xs early e

-- The reader judges records where they lie and writes their lines at once: what it gives is what the walk gives, record by record.
pub run-walks : (a : Account) (xs : List ℕ) → book a xs ≡ run_by (next_of a xs).found a xs
run-walks a xs =
    ⊎_elim
    (λ (h : a.stage < 2). rw (next-open a xs h) (run_at (front xs) a xs refl h))
    (λ (h : 2 ≤ a.stage). rw (next-ended a xs h) (book-ended a xs h))
    (lt-or-ge a.stage 2)
