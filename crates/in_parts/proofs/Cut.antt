-- What stands after the bytes that decide a book changes nothing: the records that are accepted are those of the book's beginning.
-- Assumes nothing.
use Prim.Native.Nat.{ℕ, zero, suc, ◌+◌, ◌-◌, ◌≤◌, ◌<◌}
use native.Mathlib.Omega.{arith}
use mathlib.Core.Path.{◌≡◌, refl, sym, ap, ◌∙◌}
use mathlib.Core.Bool.{Bool, false, ◌||◌}
use mathlib.Core.Logic.{⊎_elim}
use mathlib.Core.List.{List, [], ◌∷◌}
use borrow.Author.Tests.{lt-ltb, le-ltb, ltb-false, eqb-false}
use lib.Dec.{ltb, eqb}
use lib.ListN.{length, take, drop, length-append}
use lib.Seq.{take-nil, take_all, take-take, length-take-le}
use Rattle.base.specs.Choice.{pick}
use Rattle.base.proofs.Tests.{by-test, lt-or-ge, neither}
use Rattle.codec.specs.Table.{length_most_lem, record_most}
use Rattle.codec.specs.Codec.{val_at}
use Rattle.account.specs.declared.Account.{Account}
use Rattle.account.specs.Account.{no_record}
use Rattle.account.specs.Range.{AccountInRange}
use Rattle.account.specs.Line.{joined}
use Rattle.account.proofs.Keeps.{in-range-none, in-range-judge, in-range-length}
use Rattle.walk.specs.declared.Found.TheVariants.{Ended}
use Rattle.walk.specs.declared.Next.{Next}
use Rattle.book.specs.Front.{Front, unfinished, bad_length, whole, need, front}
use Rattle.book.specs.Inner.{by_length_lem}
use Rattle.walk.specs.Walk.{Entry, record_at, none_but, at_front, next_of, entry_of, records_in, entries_after, entries_of}
use Rattle.book.proofs.Fronts.{meaning, length-take-two, front-take, front_long}
use Rattle.walk.proofs.NextRecords.{next-ended, next-open}
use Rattle.walk.proofs.Walks.{Stands, stands, entries-end, entries_next}
use Rattle.why.proofs.Faults.{counted}
use Rattle.in_parts.specs.Cut.{deciding_bytes}

-- ---- the first n of some bytes

pub drop-take : (m n : ℕ) (xs : List ℕ) → drop m (take n xs) ≡ take (n - m) (drop m xs)
drop-take zero n xs = let e : n - 0 ≡ n = omega arith in rw e refl
drop-take (suc m) zero xs = let e : 0 - suc m ≡ 0 = omega arith in rw e refl
drop-take (suc m) (suc n) [] = sym (take-nil (suc n - suc m))
drop-take (suc m) (suc n) (x ∷ xs) = let e : suc n - suc m ≡ n - m = omega arith in rw e (drop-take m n xs)

-- whether bytes stand after the first p of them
pub more_cut : (p n : ℕ) (xs : List ℕ) → p < n → ltb p (length (take n xs)) ≡ ltb p (length xs)
more_cut p n xs h =
    ⊎_elim
    (λ (k : length xs < n). rw (take_all n xs (omega arith)) refl)
    (λ (k : n ≤ length xs). rw (length-take-le n xs k, lt-ltb p n h, lt-ltb p (length xs) (omega arith)) refl)
    (lt-or-ge (length xs) n)

-- ---- a longest record's bytes decide what stands at the front

length_cut : (l n m : ℕ) → record_most ≤ n → record_most ≤ m → by_length_lem l n ≡ by_length_lem l m
length_cut l n m p q =
    by-test (ltb l 4 || ltb length_most_lem l)
    (λ t. rw t refl)
    (λ t.
    let k : l ≤ length_most_lem = ltb-false _ _ (neither (ltb l 4) (ltb length_most_lem l) t).1 in
    rw (t, le-ltb n (l + 2) (omega arith), le-ltb m (l + 2) (omega arith)) refl)

pub need-most : (xs : List ℕ) → front xs ≡ whole → need xs ≤ record_most
need-most xs e = let m = meaning xs whole e in omega (arith, m.2)

module _ (n : ℕ) (xs : List ℕ) (h : record_most ≤ n) where
  pub front_cut : front (take n xs) ≡ front xs
  front_cut =
      ⊎_elim
      (λ (k : length xs < n). rw (take_all n xs (omega arith)) refl)
      (λ (k : n ≤ length xs).
      front-take xs n k ∙ rw (le-ltb n 2 (omega arith)) (length_cut (val_at xs 0 2) n (length xs) h (omega arith)) ∙ sym (front_long xs (omega arith)))
      (lt-or-ge (length xs) n)

  pub need-cut : need (take n xs) ≡ need xs
  need-cut = ap (λ (l : ℕ). l + 2) (length-take-two xs n (omega arith))

  record-cut : front xs ≡ whole → record_at (take n xs) ≡ record_at xs
  record-cut e = rw need-cut (take-take (need xs) n xs (omega (arith, need-most xs e)))

  at_cut : (a : Account) (f : Front) → front xs ≡ f → at_front f a (take n xs) ≡ at_front f a xs
  at_cut a unfinished e = refl
  at_cut a bad_length e = refl
  at_cut a whole e = rw (record-cut e, need-cut) refl

  pub next-cut : (a : Account) → next_of a (take n xs) ≡ next_of a xs
  unfolding next_of
  next-cut a = rw front_cut (ap (λ (t : Next). pick (ltb a.stage 2) t (none_but Ended a)) (at_cut a (front xs) refl))

-- ---- the account after the next record

range_at : (f : Front) (a : Account) (xs : List ℕ) → AccountInRange a → a.stage < 2 → AccountInRange (at_front f a xs).account
range_at unfinished a xs v early = v
range_at bad_length a xs v early = in-range-length a v
range_at whole a xs v early = in-range-judge a (record_at xs) v early

pub range-next : (a : Account) (xs : List ℕ) → AccountInRange a → AccountInRange (next_of a xs).account
range-next a xs v =
    ⊎_elim
    (λ (h : a.stage < 2). rw (next-open a xs h) (range_at (front xs) a xs v h))
    (λ (h : 2 ≤ a.stage). rw (next-ended a xs h) v)
    (lt-or-ge a.stage 2)

-- ---- the next record, where it is accepted

module _ (a : Account) (xs : List ℕ) where
  abbrev t : Next
  t = next_of a xs

  -- there is none, or it is refused
  abbrev pub ends : Bool
  ends = eqb t.size 0 || eqb t.account.stage 3

  module _ (h : ends ≡ false) where
    pub some : t.size ≡ 0 → ⊥
    some = eqb-false _ _ (neither (eqb t.size 0) (eqb t.account.stage 3) h).0

    still : t.account.stage ≡ 3 → ⊥
    still = eqb-false _ _ (neither (eqb t.size 0) (eqb t.account.stage 3) h).1

    standing : Stands a xs t
    standing = stands a xs t refl some

    pub size-most : t.size ≤ record_most
    size-most = omega (arith, standing.size, need-most xs standing.front)

    pub size-least : 6 ≤ t.size
    size-least = standing.least

    pub size_in : length (take t.size xs) ≡ t.size
    size_in = length-take-le t.size xs standing.inside

    pub one-counted : t.account.records ≡ a.records + 1
    one-counted =
        let e = standing.account in
        ap (λ (b : Account). b.records) e ∙ counted a (take t.size xs) (rw e at still)

    entries-on : entries_after a xs ≡ entry_of a (take t.size xs) ∷ entries_after t.account (drop t.size xs)
    entries-on = entries_next a xs t refl some still

-- ---- the bytes that decide

module _ (a : Account) (v : AccountInRange a) where
  pub deciding-some : record_most ≤ deciding_bytes a
  deciding-some = omega (arith, v.started.counted.records-most)

  -- fewer decide after a record that is accepted
  pub deciding-less : (xs : List ℕ) → ends a xs ≡ false → deciding_bytes (next_of a xs).account + record_most ≡ deciding_bytes a
  deciding-less xs h =
      omega (arith, one-counted a xs h, v.started.counted.records-most, (range-next a xs v).started.counted.records-most)

-- ---- the accepted records

-- there are no more of them than a book may have, and no more bytes
accepted-by : (k : ℕ) (a : Account) (xs : List ℕ) → 4096 + 1 - a.records ≤ k → AccountInRange a
    → (a.records + length (records_in (entries_after a xs)) ≤ 4096) × (length (joined (records_in (entries_after a xs))) + record_most ≤ deciding_bytes a)
unfolding records_in
accepted-by zero a xs l v = let m = v.started.counted.records-most in absurd (omega arith)
accepted-by (suc k) a xs l v =
    let b = (next_of a xs).account in
    let ys = drop (next_of a xs).size xs in
    by-test (ends a xs)
    (λ h. rw (entries-end a xs (next_of a xs) refl h) (omega (arith, v.started.counted.records-most), omega (arith, deciding-some a v)))
    (λ h.
    let c = one-counted a xs h in
    let i = accepted-by k b ys (omega (arith, c, l)) (range-next a xs v) in
    let r = take (next_of a xs).size xs in
    rw (entries-on a xs h, length-append r (joined (records_in (entries_after b ys)))) (
      omega (arith, c, i.0),
      omega (arith, i.1, size_in a xs h, size-most a xs h, deciding-less a v xs h),
    ))

module _ (a : Account) (xs : List ℕ) (v : AccountInRange a) where
  pub accepted-few : a.records + length (records_in (entries_after a xs)) ≤ 4096
  accepted-few = (accepted-by (4096 + 1 - a.records) a xs (omega arith) v).0

  pub accepted-short : length (joined (records_in (entries_after a xs))) + record_most ≤ deciding_bytes a
  accepted-short = (accepted-by (4096 + 1 - a.records) a xs (omega arith) v).1

entries_by : (k : ℕ) (a : Account) (n : ℕ) (xs : List ℕ) → 4096 + 1 - a.records ≤ k → AccountInRange a → deciding_bytes a ≤ n
    → entries_after a (take n xs) ≡ entries_after a xs
entries_by zero a n xs l v q = let m = v.started.counted.records-most in absurd (omega arith)
entries_by (suc k) a n xs l v q =
    let t = next_of a xs in
    let room : record_most ≤ n = omega (arith, deciding-some a v, q) in
    let cut : t ≡ next_of a (take n xs) = sym (next-cut n xs room a) in
    by-test (ends a xs)
    (λ h. entries-end a (take n xs) t cut h ∙ sym (entries-end a xs t refl h))
    (λ h.
    let first : take t.size (take n xs) ≡ take t.size xs = take-take t.size n xs (omega (arith, size-most a xs h, room)) in
    let others = entries_by k t.account (n - t.size) (drop t.size xs) (omega (arith, one-counted a xs h, l)) (range-next a xs v)
    (omega (arith, deciding-less a v xs h, size-most a xs h, q)) in
    entries_next a (take n xs) t cut (some a xs h) (still a xs h)
    ∙ rw (first, drop-take t.size n xs) (ap (λ (es : List Entry). entry_of a (take t.size xs) ∷ es) others)
    ∙ sym (entries-on a xs h))

-- The theorem: of bytes that are no fewer than those that decide, the accepted records, with their lines, are those of all bytes.
pub entries-cut : (a : Account) (n : ℕ) (xs : List ℕ) → AccountInRange a → deciding_bytes a ≤ n → entries_after a (take n xs) ≡ entries_after a xs
entries-cut a n xs v q = entries_by (4096 + 1 - a.records) a n xs (omega arith) v q

-- Of a book: these are its first 114,716 bytes.
pub book-cut : (n : ℕ) (xs : List ℕ) → 114716 ≤ n → entries_of (take n xs) ≡ entries_of xs
book-cut n xs h = entries-cut no_record n xs in-range-none (omega arith)
