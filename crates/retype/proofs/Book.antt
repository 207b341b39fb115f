-- Theorem: what the program prints of a book is the text of its accepted records, and typing it again gives the accepted beginning of the book.
-- Assumes nothing.
use Prim.Native.Nat.{ℕ, zero, suc, ◌+◌, ◌≤◌, ◌<◌}
use native.Mathlib.Omega.{arith}
use mathlib.Core.Path.{◌≡◌, refl, sym, ap, ◌∙◌}
use mathlib.Core.Bool.{Bool, true, false, not}
use mathlib.Core.List.{List, [], ◌∷◌, ◌++◌}
use mathlib.Core.Logic.{⊎_elim}
use lib.ListN.{length, take, drop, get_or, length-append, length-take, take-append-drop, get_or-eq_default}
use lib.Seq.{get_or-drop, get_or-take, take_all, take-append-add}
use lib.Dec.{eqb, ltb}
use borrow.Author.Tests.{ltb-true, eqb-false}
use Rattle.codec.specs.Codec.{Bytes}
use Rattle.base.proofs.Tests.{and_l, and_r, by-test, lt-or-ge}
use Rattle.account.specs.declared.Account.{Account}
use Rattle.account.specs.Account.{no_record}
use Rattle.account.specs.Judge.{WholeRecord, judge}
use Rattle.account.specs.Line.{joined}
use Rattle.account.proofs.Clauses.{in-range-test}
use Rattle.account.proofs.Keeps.{in-range-none}
use Rattle.book.specs.State.{no_record_yet}
use Rattle.book.specs.Front.{Front, unfinished, bad_length, whole, need, front}
use Rattle.book.specs.WholeRecords.{begins_with, records_by, records_of}
use Rattle.walk.specs.Walk.{accepts, records_in, entries_from}
use Rattle.book.proofs.RecordRuns.{record-whole}
use Rattle.walk.proofs.Walks.{entries-few, records-few}
use Rattle.retype.specs.Typed.{text_typed, Accepted, AllAccepted, typed_whole, SameBytes}
use Rattle.retype.specs.Book.{accepted_in, typed_by, retyped_by}
use Rattle.retype.proofs.SameBytes.{retyped}

-- ---- the records of some bytes are whole records of bytes

bytes_take : (n : ℕ) (xs : List ℕ) → Bytes xs → Bytes (take n xs)
bytes_take n xs b i =
    ⊎_elim
    (λ (h : i < n). rw (get_or-take n xs i 0 h) (b i))
    (λ (h : n ≤ i). let z : get_or (take n xs) i 0 ≡ 0 = get_or-eq_default (take n xs) 0 (omega (arith, length-take n xs)) in omega (arith, z))
    (lt-or-ge i n)

bytes_drop : (n : ℕ) (xs : List ℕ) → Bytes xs → Bytes (drop n xs)
bytes_drop n xs b i = rw (get_or-drop n xs i 0) (b (n + i))

abbrev Sound : List (List ℕ) → Type 0
Sound [] = Unit {0}
Sound (r ∷ rs) = (WholeRecord r × Bytes r) × Sound rs

sound-front : (f : Front) (xs : List ℕ) → front xs ≡ f → Bytes xs → (others : List (List ℕ)) → Sound others → Sound (begins_with f xs others)
sound-front unfinished xs e b others s = tt
sound-front bad_length xs e b others s = tt
sound-front whole xs e b others s = ((record-whole xs (need xs) e refl, bytes_take (need xs) xs b), s)

sound-by : (n : ℕ) (xs : List ℕ) → Bytes xs → Sound (records_by n xs)
unfolding records_by
sound-by zero xs b = tt
sound-by (suc n) xs b =
    sound-front (front xs) xs refl b (records_by n (drop (need xs) xs)) (sound-by n (drop (need xs) xs) (bytes_drop (need xs) xs b))

-- ---- those up to the first that is not accepted are accepted

-- the first of the records rs that are accepted after the account a
abbrev accepted_of : Account → List (List ℕ) → List (List ℕ)
accepted_of a rs = records_in (entries_from a rs)

passes-so : (a : Account) (r : List ℕ) → WholeRecord r → Bytes r → accepts a r ≡ true → Accepted a r
passes-so a r w b t =
    record {
      early = ltb-true _ _ (and_l (ltb a.stage 2) (not (eqb (judge a r).account.stage 3)) t);
      whole = w;
      bytes = b;
      taken = eqb-false _ _ (is-not _ (and_r (ltb a.stage 2) (not (eqb (judge a r).account.stage 3)) t));
    }
  where
    is-not : (b : Bool) → not b ≡ true → b ≡ false
    is-not true e = sym e
    is-not false e = refl

all-accepted : (a : Account) (rs : List (List ℕ)) → Sound rs → AllAccepted a (accepted_of a rs)
unfolding AllAccepted records_in entries_from
all-accepted a [] s = tt
all-accepted a (r ∷ rs) s =
    by-test (accepts a r)
    (λ t. rw t (passes-so a r s.0.0 s.0.1 t, all-accepted (judge a r).account rs s.1))
    (λ t. rw t tt)

-- ---- and begin the bytes

begins : (n : ℕ) (a : Account) (xs : List ℕ) → take (length (joined (accepted_of a (records_by n xs)))) xs ≡ joined (accepted_of a (records_by n xs))
unfolding records_by records_in entries_from
begins zero a xs = refl
begins (suc n) a xs = by_front (front xs) (records_by n (drop (need xs) xs)) (λ b. begins n b (drop (need xs) xs))
  where
    by_front : (f : Front) (rs : List (List ℕ))
        → ((b : Account) → take (length (joined (accepted_of b rs))) (drop (need xs) xs) ≡ joined (accepted_of b rs))
        → take (length (joined (accepted_of a (begins_with f xs rs)))) xs ≡ joined (accepted_of a (begins_with f xs rs))
    by_front unfinished rs h = refl
    by_front bad_length rs h = refl
    by_front whole rs h =
        let r = take (need xs) xs in
        let next = (judge a r).account in
        by-test (accepts a r)
        (λ t. rw (t, length-append r (joined (accepted_of next rs)))
        (ap (take (length r + length (joined (accepted_of next rs)))) (sym (take-append-drop (need xs) xs))
        ∙ take-append-add r (drop (need xs) xs) (length (joined (accepted_of next rs)))
        ∙ ap (λ (l : List ℕ). r ++ l) (h next)))
        (λ t. rw t)

-- ---- the code types those

-- what the code types of a book, where as many records are asked for as it has bytes and one more, is the text of its accepted records
pub book-typed : (xs : List ℕ) → (retyped_by (suc (length xs)) no_record xs).text ≡ text_typed (accepted_in xs)
unfolding typed_by records_of
book-typed xs =
    rw (in-range-test no_record in-range-none)
    (ap text_typed (take_all (suc (length xs)) (accepted_in xs)
    (omega (arith, entries-few no_record (records_by (suc (length xs)) xs), records-few (suc (length xs)) xs))))

-- the theorem: the text of a book's accepted records, typed again, gives the bytes that the book begins with, and no line fails
module _ (xs : List ℕ) (b : Bytes xs) where
  pub book-retyped : SameBytes no_record (accepted_in xs) (typed_whole no_record_yet (text_typed (accepted_in xs)))
  unfolding records_of
  book-retyped = retyped (accepted_in xs) (all-accepted no_record (records_of xs) (sound-by (suc (length xs)) xs b))

  pub book-begins : (typed_whole no_record_yet (text_typed (accepted_in xs))).bytes ≡ take (length (joined (accepted_in xs))) xs
  unfolding records_of
  book-begins = book-retyped.bytes ∙ sym (begins (suc (length xs)) no_record xs)
