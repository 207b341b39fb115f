-- Theorem: where nothing more may come, the account that a series of calls has come to is the one that rule 2 gives for the book, and after a close
-- the bytes that it has not taken are those that rule 2 leaves: so the last word and the status go by rule 2.
-- Assumes nothing.
use Prim.Native.Nat.{ℕ, zero, suc, ◌+◌, ◌≤◌, ◌<◌}
use native.Mathlib.Omega.{arith}
use mathlib.Core.Path.{◌≡◌, refl, sym, ap, ◌∙◌}
use mathlib.Core.Bool.{true, false, ◌||◌}
use mathlib.Core.Logic.{⊎_elim}
use mathlib.Core.List.{List, []}
use borrow.Author.Tests.{ne_eqb, eqb-true}
use lib.Dec.{eqb}
use lib.ListN.{drop}
use lib.Seq.{drop-drop}
use Rattle.base.proofs.Tests.{by-test, lt-or-ge, no_bool}
use Rattle.account.specs.declared.Account.{Account}
use Rattle.account.specs.Account.{no_record}
use Rattle.account.specs.Judge.{judge}
use Rattle.book.specs.Front.{Front, unfinished, bad_length, whole, need, front}
use Rattle.book.specs.State.{no_record_yet}
use Rattle.book.specs.Run.{Run, book, run}
use Rattle.walk.specs.Walk.{record_at, at_front, next_of}
use Rattle.walk.proofs.NextRecords.{next-ended, next-open}
use Rattle.book.proofs.Runs.{book-ended, book-unfinished, book-bad, book-whole}
use Rattle.walk.proofs.Walks.{stands, entries-end}
use Rattle.retype.specs.Book.{Retyping, typed_by}
use Rattle.retype.proofs.Steps.{none-asked, none-accepted, first-typed}
use Rattle.in_parts.specs.Retype.{retyped_in, lines_in}
use Rattle.in_parts.proofs.Cut.{ends, some, size_in}
use Rattle.in_parts.proofs.Retype.{of-book}

-- the account of x is rule 2's for the bytes xs after the account a, and after a close the bytes not taken are those that rule 2 leaves
record Comes (a : Account) (xs : List ℕ) (x : Retyping) : Type 0 where
  account : x.account ≡ (book a xs).state.account
  left : x.account.stage ≡ 2 → drop x.taken xs ≡ (book a xs).left

abbrev stopped : Account → Retyping
stopped a = record { account = a; taken = 0; text = []; more = false }

-- no record is accepted
comes-front : (f : Front) (a : Account) (xs : List ℕ) → front xs ≡ f → a.stage < 2
    → eqb (at_front f a xs).size 0 || eqb (at_front f a xs).account.stage 3 ≡ true → Comes a xs (stopped (at_front f a xs).account)
comes-front unfinished a xs e early h = record { account = rw (book-unfinished a xs early e) refl; left = λ z. absurd (omega arith) }
comes-front bad_length a xs e early h = record { account = rw (book-bad a xs early e) refl; left = λ z. absurd (omega arith) }
comes-front whole a xs e early h =
    let next = (judge a (record_at xs)).account in
    let three : next.stage ≡ 3 = eqb-true _ _ (rw (ne_eqb (need xs) 0 (λ z. omega arith)) at h) in
    record {
      account = rw (book-whole a xs early e, book-ended next (drop (need xs) xs) (omega arith)) refl;
      left = λ z. absurd (omega (arith, z, three));
    }

comes-end : (a : Account) (xs : List ℕ) → ends a xs ≡ true → Comes a xs (stopped (next_of a xs).account)
comes-end a xs h =
    ⊎_elim
    (λ (early : a.stage < 2). rw (next-open a xs early) (comes-front (front xs) a xs refl early (rw (next-open a xs early) at h)))
    (λ (late : 2 ≤ a.stage).
    rw (next-ended a xs late) (record { account = rw (book-ended a xs late) refl; left = λ z. rw (book-ended a xs late) refl }))
    (lt-or-ge a.stage 2)

comes : (k : ℕ) (a : Account) (xs : List ℕ) → (typed_by k a xs).more ≡ false → Comes a xs (typed_by k a xs)
comes zero a xs f = no_bool (sym f ∙ ap (λ (x : Retyping). x.more) (none-asked a xs))
comes (suc k) a xs f =
    let t = next_of a xs in
    by-test (ends a xs)
    (λ h. rw (none-accepted k a xs (entries-end a xs t refl h)) (comes-end a xs h))
    (λ h.
    let s = stands a xs t refl (some a xs h) in
    let first = first-typed a xs t refl h k in
    let ys = drop t.size xs in
    let y = typed_by k t.account ys in
    let i = comes k t.account ys (sym (ap (λ (x : Retyping). x.more) first) ∙ f) in
    let on = rw (← s.size, ← s.account) at (book-whole a xs s.early s.front) in
    rw first
    (record {
      account = i.account ∙ sym (ap (λ (r : Run). r.state.account) on);
      left = λ z.
          ap (λ (n : ℕ). drop (n + y.taken) xs) (size_in a xs h)
          ∙ sym (drop-drop y.taken t.size xs) ∙ i.left z ∙ sym (ap (λ (r : Run). r.left) on);
    }))

module _ (rooms : List ℕ) (xs : List ℕ) (e : (retyped_in rooms no_record xs).more ≡ false) where
  of-run : Comes no_record xs (typed_by (lines_in rooms) no_record xs)
  of-run = comes (lines_in rooms) no_record xs (rw (of-book rooms xs) at e)

  pub retyped-account : (retyped_in rooms no_record xs).account ≡ (run no_record_yet xs).state.account
  unfolding run
  retyped-account = rw (of-book rooms xs) of-run.account

  pub retyped-left : (run no_record_yet xs).state.account.stage ≡ 2 → drop (retyped_in rooms no_record xs).taken xs ≡ (run no_record_yet xs).left
  unfolding run
  retyped-left z = rw (of-book rooms xs) (of-run.left (ap (λ (a : Account). a.stage) of-run.account ∙ z))
