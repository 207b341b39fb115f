-- A run keeps the range, leaves an end of its bytes, and while the book is open leaves none.
use Prim.Native.Nat.{ℕ, suc, zero, ◌+◌, ◌-◌, ◌≤◌, ◌<◌}
use mathlib.Core.Path.{◌≡◌, refl, ap, sym, ◌∙◌}
use mathlib.Core.List.{List, [], ◌++◌}
use mathlib.Core.Logic.{⊎_elim}
use native.Mathlib.Omega.{arith}
use lib.ListN.{length, take, drop, length-append, length-drop}
use lib.Seq.{drop-append-add, drop-drop, drop-length}
use Rattle.base.proofs.Tests.{lt-or-ge}
use Rattle.account.specs.declared.Account.{Account}
use Rattle.account.specs.Range.{AccountInRange}
use Rattle.account.specs.Account.{refused}
use Rattle.account.specs.Judge.{judge}
use Rattle.account.proofs.Keeps.{in-range-judge, in-range-length}
use Rattle.book.specs.declared.State.{State}
use Rattle.book.specs.Front.{Front, unfinished, bad_length, whole, need, front}
use Rattle.book.specs.State.{held_of, InRange}
use Rattle.book.specs.Run.{Run, book, run}
use Rattle.book.proofs.Fronts.{meaning, held-bad, held_whole}
use Rattle.book.proofs.Ranges.{range-holding, range-idle}
use Rattle.book.proofs.Runs.{book-ended, book-unfinished, book-bad, book-whole, run-ended}

-- l is an end of xs
pub record Tail (l xs : List ℕ) : Type 0 where
  pub at : ℕ
  pub inside : at ≤ length xs
  pub is : l ≡ drop at xs

-- what a run leaves; an open book leaves nothing
pub record Leaves (xs : List ℕ) (r : Run) : Type 0 where
  pub range : InRange r.state
  pub tail : Tail r.left xs
  pub all : r.state.account.stage < 2 → r.left ≡ []

tail_none : (xs : List ℕ) → Tail [] xs
tail_none xs = record { at = length xs; inside = omega arith; is = sym (drop-length xs) }

tail_all : (xs : List ℕ) → Tail xs xs
tail_all xs = record { at = 0; inside = omega arith; is = refl }

tail-drop : (l xs : List ℕ) (k : ℕ) → k ≤ length xs → Tail l (drop k xs) → Tail l xs
tail-drop l xs k h t = record { at = k + t.at; inside = omega (arith, length-drop k xs, t.inside); is = t.is ∙ drop-drop t.at k xs }

leaves_at : (a : Account) (xs : List ℕ) → AccountInRange a → a.stage < 2
    → ((b : Account) (zs : List ℕ) → length zs < length xs → AccountInRange b → Leaves zs (book b zs)) → (f : Front) → front xs ≡ f
    → Leaves xs (book a xs)
leaves_at a xs v k ih unfinished e = rw (book-unfinished a xs k e) (record { range = range-holding a xs v k e; tail = tail_none xs; all = λ h. refl })
leaves_at a xs v k ih bad_length e =
    rw (book-bad a xs k e) (record {
      range = range-idle (refused a 1 0) (in-range-length a v);
      tail = record { at = 2; inside = (meaning xs bad_length e).0; is = refl };
      all = λ h. absurd (omega arith);
    })
leaves_at a xs v k ih whole e =
    let m = meaning xs whole e in
    let j = judge a (take (need xs) xs) in
    let short : length (drop (need xs) xs) < length xs = rw length-drop (omega arith) in
    let i = ih j.account (drop (need xs) xs) short (in-range-judge a (take (need xs) xs) v k) in
    rw (book-whole a xs k e) (record {
      range = i.range;
      tail = tail-drop (book j.account (drop (need xs) xs)).left xs (need xs) m.3 i.tail;
      all = i.all;
    })

book-leaves-by : (n : ℕ) (a : Account) (xs : List ℕ) → length xs < n → AccountInRange a → Leaves xs (book a xs)
book-leaves-by zero a xs h v = absurd (omega arith)
book-leaves-by (suc n) a xs h v =
    ⊎_elim
    (λ (k : a.stage < 2). leaves_at a xs v k (λ b zs p w. book-leaves-by n b zs (omega arith) w) (front xs) refl)
    (λ (k : 2 ≤ a.stage). rw (book-ended a xs k) (record { range = range-idle a v; tail = tail_all xs; all = λ h. absurd (omega arith) }))
    (lt-or-ge a.stage 2)

pub book-leaves : (a : Account) (xs : List ℕ) → AccountInRange a → Leaves xs (book a xs)
book-leaves a xs v = book-leaves-by (suc (length xs)) a xs (omega arith) v

pub over-held : (h xs : List ℕ) (k : ℕ) → length h ≤ k → drop k (h ++ xs) ≡ drop (k - length h) xs
over-held h xs k p =
    let e : k ≡ length h + (k - length h) = omega arith in
    ap (λ (n : ℕ). drop n (h ++ xs)) e ∙ drop-append-add h xs (k - length h)

-- an end of h and xs that begins behind h is an end of xs
tail-over : (h xs l : List ℕ) (k : ℕ) → length h ≤ k → k ≤ length (h ++ xs) → Tail l (drop k (h ++ xs)) → Tail l xs
tail-over h xs l k p q t = tail-drop l xs (k - length h) (omega (arith, length-append h xs)) (rw (over-held h xs k p) at t)

tail_at : (s : State) (xs : List ℕ) → InRange s → s.account.stage < 2 → (f : Front) → front (held_of s ++ xs) ≡ f → Tail (run s xs).left xs
unfolding run
tail_at s xs v k unfinished e = rw (book-unfinished s.account (held_of s ++ xs) k e) (tail_none xs)
tail_at s xs v k bad_length e =
    let zs = held_of s ++ xs in
    let h = held-bad (held_of s) xs v.begun e in
    rw (book-bad s.account zs k e) (tail-over (held_of s) xs (drop 2 zs) 2 (omega arith) (meaning zs bad_length e).0 (tail_all (drop 2 zs)))
tail_at s xs v k whole e =
    let zs = held_of s ++ xs in
    let h = held_whole (held_of s) xs v.begun in
    let j = judge s.account (take (need zs) zs) in
    let i = book-leaves j.account (drop (need zs) zs) (in-range-judge s.account (take (need zs) zs) v.account k) in
    rw (book-whole s.account zs k e) (tail-over (held_of s) xs (book j.account (drop (need zs) zs)).left (need zs) (omega arith)
    (meaning zs whole e).3 i.tail)

run-tail : (s : State) (xs : List ℕ) → InRange s → Tail (run s xs).left xs
run-tail s xs v =
    ⊎_elim
    (λ (k : s.account.stage < 2). tail_at s xs v k (front (held_of s ++ xs)) refl)
    (λ (k : 2 ≤ s.account.stage). rw (run-ended s xs v k) (tail_all xs))
    (lt-or-ge s.account.stage 2)

pub run-leaves : (s : State) (xs : List ℕ) → InRange s → Leaves xs (run s xs)
unfolding run
run-leaves s xs v = let l = book-leaves s.account (held_of s ++ xs) v.account in
    record { range = l.range; tail = run-tail s xs v; all = l.all }
