-- Rule 2: a book by what stands at its front, and the law that a run may be broken anywhere.
use Prim.Native.Nat.{ℕ, suc, zero, ◌≤◌, ◌<◌}
use mathlib.Core.Path.{◌≡◌, refl, ap, ◌∙◌}
use mathlib.Core.List.{List, [], ◌++◌, append_assoc, append-nil}
use mathlib.Core.Logic.{⊎_elim}
use native.Mathlib.Omega.{arith}
use borrow.Author.Tests.{lt-ltb, le-ltb}
use lib.ListN.{length, take, drop, length-drop}
use lib.Seq.{take-append-le, drop-append-le}
use lib.Dec.{ltb}
use Rattle.base.specs.Choice.{pick}
use Rattle.base.proofs.Tests.{lt-or-ge}
use Rattle.account.specs.declared.Account.{Account}
use Rattle.account.specs.Range.{AccountInRange}
use Rattle.account.specs.Account.{refused}
use Rattle.account.specs.Judge.{judge}
use Rattle.book.specs.declared.State.{State}
use Rattle.book.specs.Front.{Front, unfinished, bad_length, whole, need, front}
use Rattle.book.specs.State.{held_of, InRange, holding}
use Rattle.book.specs.Run.{Run, then, ended, by_front_lem, book_by, book, run}
use Rattle.book.proofs.Fronts.{meaning, length-append-two, bad-append, whole_append}
use Rattle.book.proofs.WholeRecords.{rest-short}
use Rattle.book.proofs.Ranges.{held-holding, holding-held, ended_held, ended_is, range-idle}

-- ---- the count of records that bounds a book does not matter, as long as it is above the count of bytes

same-front : (f : Front) (a : Account) (xs : List ℕ) (p q : Run) → (f ≡ whole → p ≡ q) → by_front_lem f a xs p ≡ by_front_lem f a xs q
same-front unfinished a xs p q h = refl
same-front bad_length a xs p q h = refl
same-front whole a xs p q h = ap (then (judge a (take (need xs) xs)).lines) (h refl)

same-book : (n m : ℕ) (a : Account) (xs : List ℕ) → length xs < n → length xs < m → book_by n a xs ≡ book_by m a xs
unfolding book_by
same-book zero m a xs p q = absurd (omega arith)
same-book (suc n) zero a xs p q = absurd (omega arith)
same-book (suc n) (suc m) a xs p q =
    let b = (judge a (take (need xs) xs)).account in
    let ys = drop (need xs) xs in
    ap (λ (r : Run). pick (ltb a.stage 2) r (ended a xs))
    (same-front (front xs) a xs (book_by n b ys) (book_by m b ys) (λ e. same-book n m b ys (rest-short xs n e p) (rest-short xs m e q)))

-- ---- a book, by what stands at its front

pub book-ended : (a : Account) (xs : List ℕ) → 2 ≤ a.stage → book a xs ≡ ended a xs
unfolding book book_by
book-ended a xs h = rw (le-ltb _ _ h)

pub book-unfinished : (a : Account) (xs : List ℕ) → a.stage < 2 → front xs ≡ unfinished
    → book a xs ≡ record { state = holding a xs; lines = []; left = [] }
unfolding book book_by
book-unfinished a xs h e = rw (lt-ltb _ _ h, e)

pub book-bad : (a : Account) (xs : List ℕ) → a.stage < 2 → front xs ≡ bad_length
    → book a xs ≡ record { state = holding (refused a 1 0) []; lines = []; left = drop 2 xs }
unfolding book book_by
book-bad a xs h e = rw (lt-ltb _ _ h, e)

pub book-whole : (a : Account) (xs : List ℕ) → a.stage < 2 → front xs ≡ whole
    → book a xs ≡ then (judge a (take (need xs) xs)).lines (book (judge a (take (need xs) xs)).account (drop (need xs) xs))
unfolding book book_by
book-whole a xs h e =
    let ys = drop (need xs) xs in
    rw (lt-ltb _ _ h, e)
    (ap (then (judge a (take (need xs) xs)).lines)
    (same-book (length xs) (suc (length ys)) (judge a (take (need xs) xs)).account ys (rest-short xs (length xs) e (omega arith)) (omega arith)))

-- ---- runs of no bytes, and of a book that has ended

pub run_none : (s : State) → InRange s → run s [] ≡ record { state = s; lines = []; left = [] }
unfolding run
run_none s v =
    ⊎_elim
    (λ (h : s.account.stage < 2). rw (append-nil, book-unfinished s.account (held_of s) h v.begun, holding-held s v))
    (λ (h : 2 ≤ s.account.stage). rw (ended_held s v h, book-ended s.account [] h, ended_is s v h))
    (lt-or-ge s.account.stage 2)

pub run-ended : (s : State) (xs : List ℕ) → InRange s → 2 ≤ s.account.stage → run s xs ≡ record { state = s; lines = []; left = xs }
unfolding run
run-ended s xs v h = rw (ended_held s v h, book-ended s.account xs h, ended_is s v h)

pub book-none : (a : Account) → AccountInRange a → book a [] ≡ record { state = holding a []; lines = []; left = [] }
unfolding run
book-none a v = run_none (holding a []) (range-idle a v)

-- ---- a run may be broken anywhere

then-then : (ks ls : List (List ℕ)) (r : Run) → then ks (then ls r) ≡ then (ks ++ ls) r
then-then ks ls r = simp append_assoc

-- a book of xs and ys is a book of xs, and then one of what it holds, what it left, and ys
abbrev Goes : Account → List ℕ → List ℕ → Type 0
Goes a xs ys = book a (xs ++ ys) ≡ then (book a xs).lines (book (book a xs).state.account (held_of (book a xs).state ++ ((book a xs).left ++ ys)))

whole-on : (a : Account) (xs ys : List ℕ) → a.stage < 2 → front xs ≡ whole
    → book a (xs ++ ys) ≡ then (judge a (take (need xs) xs)).lines (book (judge a (take (need xs) xs)).account (drop (need xs) xs ++ ys))
whole-on a xs ys k e =
    let m = meaning xs whole e in
    rw (length-append-two xs ys m.0, take-append-le (need xs) xs ys m.3, drop-append-le (need xs) xs ys m.3) at
    (book-whole a (xs ++ ys) k (whole_append xs ys e))

goes_at : (a : Account) (xs ys : List ℕ) → a.stage < 2
    → ((b : Account) (zs : List ℕ) → length zs < length xs → Goes b zs ys) → (f : Front) → front xs ≡ f → Goes a xs ys
goes_at a xs ys k ih unfinished e = rw (book-unfinished a xs k e, held-holding a xs)
goes_at a xs ys k ih bad_length e =
    let m = meaning xs bad_length e in
    rw (
      book-bad a xs k e,
      book-bad a (xs ++ ys) k (bad-append xs ys e),
      book-ended (refused a 1 0) (drop 2 xs ++ ys) (omega arith),
      drop-append-le 2 xs ys m.0,
    )
goes_at a xs ys k ih whole e =
    let m = meaning xs whole e in
    let j = judge a (take (need xs) xs) in
    let b = book j.account (drop (need xs) xs) in
    let short : length (drop (need xs) xs) < length xs = rw length-drop (omega arith) in
    rw (book-whole a xs k e)
    (whole-on a xs ys k e
    ∙ ap (then j.lines) (ih j.account (drop (need xs) xs) short)
    ∙ then-then j.lines b.lines (book b.state.account (held_of b.state ++ (b.left ++ ys))))

book-goes : (n : ℕ) (a : Account) (xs ys : List ℕ) → length xs < n → Goes a xs ys
book-goes zero a xs ys h = absurd (omega arith)
book-goes (suc n) a xs ys h =
    ⊎_elim
    (λ (k : a.stage < 2). goes_at a xs ys k (λ b zs p. book-goes n b zs ys (omega arith)) (front xs) refl)
    (λ (k : 2 ≤ a.stage). rw (book-ended a xs k, book-ended a (xs ++ ys) k))
    (lt-or-ge a.stage 2)

-- a run of xs and ys is a run of xs, and then one from the state reached over what was left and ys
pub run-append : (s : State) (xs ys : List ℕ) → run s (xs ++ ys) ≡ then (run s xs).lines (run (run s xs).state ((run s xs).left ++ ys))
unfolding run
run-append s xs ys = rw append_assoc at (book-goes (suc (length (held_of s ++ xs))) s.account (held_of s ++ xs) ys (omega arith))
