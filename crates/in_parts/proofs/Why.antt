-- Theorem: what stands after the first 114,716 bytes changes nothing of what is told of a book: neither why it is refused, nor what it lacks, nor
-- whether bytes stand after its close.
-- Assumes nothing.
use Prim.Native.Nat.{ℕ, zero, suc, ◌+◌, ◌-◌, ◌≤◌, ◌<◌}
use native.Mathlib.Omega.{arith}
use mathlib.Core.Path.{◌≡◌, refl, sym, ap, ◌∙◌}
use mathlib.Core.Logic.{⊎_elim}
use mathlib.Core.List.{List}
use borrow.Author.Tests.{eqb-true}
use lib.Dec.{eqb}
use lib.ListN.{length, take, drop}
use lib.Seq.{take_all, take-take, length-take-le}
use Rattle.base.proofs.Tests.{by-test, lt-or-ge}
use Rattle.codec.specs.Table.{record_most}
use Rattle.account.specs.declared.Account.{Account}
use Rattle.account.specs.Account.{no_record}
use Rattle.account.specs.Judge.{judge}
use Rattle.account.proofs.Keeps.{in-range-judge}
use Rattle.book.specs.Front.{Front, unfinished, bad_length, whole, need, front}
use Rattle.book.specs.Inner.{front_number}
use Rattle.book.proofs.Fronts.{unfinished-short}
use Rattle.book.proofs.RecordRuns.{record-in}
use Rattle.why.specs.declared.Verdict.TheVariants.{Refused}
use Rattle.why.specs.Why.{reason, why_of}
use Rattle.why.specs.Inner.{ended}
use Rattle.why.proofs.Faults.{counted}
use Rattle.why.proofs.Ways.{Way, way-none, way_on, why-ended, why-unread}
use Rattle.in_parts.specs.Cut.{deciding_bytes}
use Rattle.in_parts.proofs.Cut.{drop-take, more_cut, front_cut, need-cut, need-most, deciding-some}

-- the first n bytes of xs, and all of them, have come to the same account at the same byte, and bytes enough to decide are left of the first n
record Both (n : ℕ) (xs : List ℕ) (a : Account) (at : ℕ) : Type 0 where
  cut : Way (take n xs) a at
  all : Way xs a at
  room : deciding_bytes a ≤ n - at

module _ {n : ℕ} {xs : List ℕ} {a : Account} {at : ℕ} (b : Both n xs a at) where
  some-room : record_most ≤ n - at
  some-room = omega (arith, b.room, deciding-some a b.all.range)

  rest : drop at (take n xs) ≡ take (n - at) (drop at xs)
  rest = drop-take at n xs

  same-front : front (drop at (take n xs)) ≡ front (drop at xs)
  same-front = rw rest (front_cut (n - at) (drop at xs) some-room)

  same_first : (m : ℕ) → m ≤ record_most → take m (drop at (take n xs)) ≡ take m (drop at xs)
  same_first m h = rw rest (take-take m (n - at) (drop at xs) (omega (arith, h, some-room)))

  -- ---- no whole record stands there

  why-begun : front (drop at xs) ≡ unfinished → why_of (take n xs) ≡ why_of xs
  why-begun e =
      let other : unfinished ≡ whole → ⊥ = λ z. absurd (omega (arith, ap front_number z)) in
      let same : drop at (take n xs) ≡ drop at xs =
      rest ∙ take_all (n - at) (drop at xs) (omega (arith, unfinished-short (drop at xs) e, some-room)) in
      sym (why-unread b.cut unfinished (same-front ∙ e) other) ∙ rw same (why-unread b.all unfinished e other)

  why-bad : front (drop at xs) ≡ bad_length → why_of (take n xs) ≡ why_of xs
  why-bad e =
      let other : bad_length ≡ whole → ⊥ = λ z. absurd (omega (arith, ap front_number z)) in
      sym (why-unread b.cut bad_length (same-front ∙ e) other)
      ∙ ap (λ (r : List ℕ). Refused (reason 1 a.records 0 at a r)) (same_first 2 (omega arith)) ∙ why-unread b.all bad_length e other

  -- ---- a whole record stands there

  module _ (e : front (drop at xs) ≡ whole) where
    abbrev m : ℕ
    m = need (drop at xs)

    abbrev r : List ℕ
    r = take m (drop at xs)

    short : m ≤ record_most
    short = need-most (drop at xs) e

    same-need : m ≡ need (drop at (take n xs))
    same-need = sym (rw rest (need-cut (n - at) (drop at xs) some-room))

    -- it is accepted, and the book goes on or is closed
    counted-in : ((judge a r).account.stage ≡ 3 → ⊥) → ((judge a r).account.records ≡ a.records + 1) × (a.records + 1 ≤ 4096)
    counted-in h =
        let c = counted a r h in
        let k = (in-range-judge a r b.all.range b.all.early).started.counted.records-most in
        (c, omega (arith, c, k))

    both-on : (judge a r).account.stage < 2 → Both n xs (judge a r).account (at + m)
    both-on h =
        let c = counted-in (λ z. omega arith) in
        let same = same_first m short in
        record {
          cut = rw same at (way_on b.cut m (same-front ∙ e) same-need (rw same h));
          all = way_on b.all m e refl h;
          room = omega (arith, c.0, c.1, short, b.room);
        }

    same_ended : ended a at r (judge a r).account (length (take n xs)) ≡ ended a at r (judge a r).account (length xs)
    same_ended =
        by-test (eqb (judge a r).account.stage 2)
        (λ t.
        let z : (judge a r).account.stage ≡ 2 = eqb-true _ _ t in
        let c = counted-in (λ q. omega arith) in
        let l = length-take-le m (drop at xs) (record-in (drop at xs) m e refl) in
        rw (t, more_cut (at + length r) n xs (omega (arith, c.1, l, short, b.room))) refl)
        (λ t. rw t refl)

    why-last : 2 ≤ (judge a r).account.stage → why_of (take n xs) ≡ why_of xs
    why-last h =
        let same = same_first m short in
        sym (rw same at (why-ended b.cut m (same-front ∙ e) same-need (rw same h))) ∙ same_ended ∙ why-ended b.all m e refl h

-- ---- record by record

why-at : {n : ℕ} {xs : List ℕ} {a : Account} {at : ℕ} → Both n xs a at
    → (front (drop at xs) ≡ whole → (judge a (take (need (drop at xs)) (drop at xs))).account.stage < 2 → why_of (take n xs) ≡ why_of xs)
    → (f : Front) → front (drop at xs) ≡ f → why_of (take n xs) ≡ why_of xs
why-at b on unfinished e = why-begun b e
why-at b on bad_length e = why-bad b e
why-at {a = a} {at} b on whole e = ⊎_elim (λ h. on e h) (λ h. why-last b e h) (lt-or-ge _ 2)

why-by : (k : ℕ) {n : ℕ} {xs : List ℕ} {a : Account} {at : ℕ} → Both n xs a at → 4096 + 1 - a.records ≤ k → why_of (take n xs) ≡ why_of xs
why-by zero b h = let m = b.all.range.started.counted.records-most in absurd (omega arith)
why-by (suc k) {xs = xs} {a} {at} b h =
    why-at b (λ e l. why-by k (both-on b e l) (omega (arith, h, counted-in b e (λ z. omega arith)))) (front (drop at xs)) refl

-- The theorem.
pub why-cut : (n : ℕ) (xs : List ℕ) → 114716 ≤ n → why_of (take n xs) ≡ why_of xs
why-cut n xs h =
    let start : Both n xs no_record 0 = record { cut = way-none (take n xs); all = way-none xs; room = omega arith } in
    why-by (4096 + 1) start (omega arith)
