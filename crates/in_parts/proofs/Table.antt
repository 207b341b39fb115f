-- Theorem: what stands after the first 114,716 bytes changes nothing of what the table shows of a book.
-- Assumes nothing.
use Prim.Native.Nat.{ℕ, zero, suc, ◌+◌, ◌-◌, ◌≤◌, ◌<◌}
use native.Mathlib.Omega.{arith}
use mathlib.Core.Path.{◌≡◌, refl, sym, ap, ◌∙◌}
use mathlib.Core.Bool.{false}
use mathlib.Core.Logic.{⊎_elim}
use mathlib.Core.List.{List, [], ◌∷◌}
use borrow.Author.Tests.{eqb-true, eqb-false, ne_eqb, le-ltb}
use lib.Dec.{eqb}
use lib.ListN.{length, get_or, take, drop}
use lib.Seq.{take_all, length-take-le}
use Rattle.base.proofs.Tests.{by-test, lt-or-ge}
use Rattle.codec.specs.Table.{table, fields, size, record_most}
use Rattle.codec.proofs.Values.{values_same}
use Rattle.account.specs.declared.Account.{Account}
use Rattle.account.specs.Account.{no_record}
use Rattle.account.specs.Range.{AccountInRange}
use Rattle.account.proofs.Keeps.{in-range-none}
use Rattle.book.specs.Run.{Run, book, run}
use Rattle.book.proofs.Runs.{book-ended, book-whole}
use Rattle.walk.specs.declared.Next.{Next}
use Rattle.walk.specs.Walk.{next_of}
use Rattle.walk.proofs.Walks.{stands}
use Rattle.table.specs.Seen.{farm_values, seen_by, seen_of}
use Rattle.table.proofs.Ends.{end-next}
use Rattle.in_parts.specs.Cut.{deciding_bytes}
use Rattle.in_parts.proofs.Cut.{drop-take, next-cut, range-next, ends, size-most, one-counted, deciding-some, deciding-less}

-- the account after the next record, where there is one
step : (a : Account) (ys : List ℕ) (t : Next) → t ≡ next_of a ys → (t.size ≡ 0 → ⊥)
    → (book a ys).state.account ≡ (book t.account (drop t.size ys)).state.account
step a ys t e n =
    let s = stands a ys t e n in
    let b = rw (← s.size) at (book-whole a ys s.early s.front) in
    ap (λ (r : Run). r.state.account) b ∙ ap (λ (c : Account). (book c (drop t.size ys)).state.account) (sym s.account)

ended_at : (a : Account) (ys : List ℕ) → 2 ≤ a.stage → (book a ys).state.account ≡ a
ended_at a ys h = rw (book-ended a ys h) refl

account-by : (k : ℕ) (a : Account) (n : ℕ) (xs : List ℕ) → 4096 + 1 - a.records ≤ k → AccountInRange a → deciding_bytes a ≤ n
    → (book a (take n xs)).state.account ≡ (book a xs).state.account
account-by zero a n xs l v q = let m = v.started.counted.records-most in absurd (omega arith)
account-by (suc k) a n xs l v q =
    let t = next_of a xs in
    let room : record_most ≤ n = omega (arith, deciding-some a v, q) in
    let cut : t ≡ next_of a (take n xs) = sym (next-cut n xs room a) in
    by-test (eqb t.size 0)
    (λ z.
    let none : t.size ≡ 0 = eqb-true t.size 0 z in
    end-next a (take n xs) (ap (λ (x : Next). x.size) (sym cut) ∙ none) ∙ ap (λ (x : Next). x.account) (sym cut) ∙ sym (end-next a xs none))
    (λ z.
    let some = eqb-false t.size 0 z in
    let b = t.account in
    let rest : drop t.size (take n xs) ≡ take (n - t.size) (drop t.size xs) = drop-take t.size n xs in
    let on : (book b (take (n - t.size) (drop t.size xs))).state.account ≡ (book b (drop t.size xs)).state.account =
    ⊎_elim
    (λ (h : b.stage < 2).
    let going : ends a xs ≡ false = rw (z, ne_eqb b.stage 3 (λ (w : b.stage ≡ 3). omega arith)) refl in
    account-by k b (n - t.size) (drop t.size xs) (omega (arith, one-counted a xs going, l)) (range-next a xs v)
    (omega (arith, deciding-less a v xs going, size-most a xs going, q)))
    (λ (h : 2 ≤ b.stage). ended_at b _ h ∙ sym (ended_at b _ h))
    (lt-or-ge b.stage 2) in
    step a (take n xs) t cut some
    ∙ ap (λ (ys : List ℕ). (book b ys).state.account) rest
    ∙ on
    ∙ sym (step a xs t refl some))

-- farm number and year stand in the first bytes
taken-same : (n k : ℕ) (xs : List ℕ) → k < n → get_or (take n xs) k 0 ≡ get_or xs k 0
taken-same zero k xs h = absurd (omega arith)
taken-same (suc n) k [] h = refl
taken-same (suc n) zero (x ∷ xs) h = refl
taken-same (suc n) (suc k) (x ∷ xs) h = taken-same n k xs (omega arith)

farm-size : size (fields 1) ≡ 7
unfolding table size
farm-size = refl

farm-cut : (n : ℕ) (xs : List ℕ) → record_most ≤ n → farm_values (take n xs) ≡ farm_values xs
farm-cut n xs h =
    ⊎_elim
    (λ (k : length xs < n). rw (take_all n xs (omega arith)) refl)
    (λ (k : n ≤ length xs).
    rw (
      farm-size,
      le-ltb (length (take n xs)) 11 (omega (arith, length-take-le n xs k)),
      le-ltb (length xs) 11 (omega arith),
    ) (values_same (fields 1) (take n xs) xs 4 4 (λ i q. taken-same n (4 + i) xs (omega (arith, q, farm-size)))))
    (lt-or-ge (length xs) n)

-- The theorem.
pub table-cut : (n : ℕ) (xs : List ℕ) → 114716 ≤ n → seen_of (take n xs) ≡ seen_of xs
unfolding seen_of run
table-cut n xs h =
    ap (λ (a : Account). seen_by a (take n xs)) (account-by (4096 + 1) no_record n xs (omega arith) in-range-none (omega arith))
    ∙ rw (farm-cut n xs (omega arith)) refl
