-- The way through a book, record by record, and what there is to say where it ends.
-- Assumes nothing.
use Prim.Native.Nat.{ℕ, zero, suc, ◌+◌, ◌-◌, ◌≤◌, ◌<◌}
use mathlib.Core.Path.{◌≡◌, refl, sym, ap, ◌∙◌}
use mathlib.Core.List.{List, [], ◌∷◌, ◌++◌}
use mathlib.Core.Bool.{Bool}
use mathlib.Core.Logic.{⊎_elim}
use native.Mathlib.Omega.{arith}
use borrow.Author.Tests.{lt-ltb, le-ltb, eq-eqb, ne_eqb}
use lib.Dec.{ltb}
use lib.ListN.{length, take, drop, length-drop, length-append, take-append-drop, drop_of_length-le}
use lib.Seq.{length-take-le, drop-drop, take-add}
use Rattle.base.proofs.Tests.{lt-or-ge}
use Rattle.account.specs.declared.Account.{Account}
use Rattle.account.specs.declared.Refusal.{Refusal}
use Rattle.account.specs.Range.{AccountInRange}
use Rattle.account.specs.Account.{no_record}
use Rattle.account.specs.Judge.{judge}
use Rattle.account.specs.Line.{joined}
use Rattle.account.proofs.Keeps.{in-range-none, in-range-judge, stage-most}
use Rattle.book.specs.Front.{Front, unfinished, bad_length, whole, need, front}
use Rattle.book.specs.WholeRecords.{records_of}
use Rattle.book.specs.State.{holding, no_record_yet}
use Rattle.book.specs.Run.{book, run}
use Rattle.book.proofs.Fronts.{meaning, front-none}
use Rattle.book.proofs.WholeRecords.{records-whole}
use Rattle.book.proofs.Ranges.{held-holding, range-idle}
use Rattle.book.proofs.Runs.{book-ended, book-unfinished, book-bad, book-whole, run_none, run-append}
use Rattle.book.proofs.RecordRuns.{record-in, record-whole, book-one}
use Rattle.why.specs.declared.Verdict.TheVariants.{Accepted, NextLength, Refused}
use Rattle.why.specs.Why.{reason, reason_of, first_byte, accepted_by, why_by, why_of}
use Rattle.why.specs.Promised.{behind, AllAccepted}
use Rattle.why.specs.Inner.{unread, ended}
use Rattle.why.proofs.Faults.{passes, counted, refused-is, faulty}
use Rattle.why.proofs.RecordLists.{one_more, one_less, joined-one, behind-one, accepted-one}

pub ltb-less : (a b : ℕ) → ltb a b ≡ ltb 0 (b - a)
ltb-less a b =
    ⊎_elim
    (λ (h : a < b). rw (lt-ltb a b h, lt-ltb 0 (b - a) (omega arith)))
    (λ (h : b ≤ a). rw (le-ltb a b h, le-ltb 0 (b - a) (omega arith)))
    (lt-or-ge a b)

-- at bytes of the book xs are read, whole records that are all accepted, and a is the account behind them
pub record Way (xs : List ℕ) (a : Account) (at : ℕ) : Type 0 where
  pub within : at ≤ length xs
  pub range : AccountInRange a
  pub early : a.stage < 2
  pub state : (run no_record_yet (take at xs)).state ≡ holding a []
  pub left : (run no_record_yet (take at xs)).left ≡ []
  pub many : length (take a.records (records_of xs)) ≡ a.records
  pub bytes : joined (take a.records (records_of xs)) ≡ take at xs
  pub rest : drop a.records (records_of xs) ≡ records_of (drop at xs)
  pub accepted : AllAccepted no_record (take a.records (records_of xs))
  pub account : behind no_record (take a.records (records_of xs)) ≡ a

pub way-none : (xs : List ℕ) → Way xs no_record 0
unfolding behind
way-none xs =
    let e = run_none no_record_yet (range-idle no_record in-range-none) in
    record {
      within = omega arith;
      range = in-range-none;
      early = omega arith;
      state = rw e refl;
      left = rw e refl;
      many = refl;
      bytes = refl;
      rest = refl;
      accepted = tt;
      account = refl;
    }

-- ---- what rule 2 gives for the whole book

module _ {xs : List ℕ} {a : Account} {at : ℕ} (w : Way xs a at) where
  -- it goes on from the account behind the bytes read
  state-on : (ys : List ℕ) → (run no_record_yet (take at xs ++ ys)).state ≡ (book a ys).state
  unfolding run
  state-on ys = rw (run-append no_record_yet (take at xs) ys, w.state, w.left)

  left-on : (ys : List ℕ) → (run no_record_yet (take at xs ++ ys)).left ≡ (book a ys).left
  unfolding run
  left-on ys = rw (run-append no_record_yet (take at xs) ys, w.state, w.left)

  pub state-is : (run no_record_yet xs).state ≡ (book a (drop at xs)).state
  state-is = rw take-append-drop at (state-on (drop at xs))

  pub left_is : (run no_record_yet xs).left ≡ (book a (drop at xs)).left
  left_is = rw take-append-drop at (left-on (drop at xs))

  -- the record behind them begins at the byte at
  first-is : first_byte a.records xs ≡ at
  first-is = rw w.bytes (length-take-le at xs w.within)

  pub before-is : (run no_record_yet (take at xs)).state.account ≡ a
  before-is = rw w.state

  -- ---- a whole record stands behind them

  module _ (n : ℕ) (f : front (drop at xs) ≡ whole) (k : n ≡ need (drop at xs)) where
    pub inside : at + n ≤ length xs
    inside = let i = record-in (drop at xs) n f k in omega (arith, i, length-drop at xs, w.within)

    pub some_bytes : 6 ≤ n
    some_bytes = let m = meaning (drop at xs) whole f in omega (arith, k, m.1)

    pub next-record : drop a.records (records_of xs) ≡ take n (drop at xs) ∷ records_of (drop (at + n) xs)
    next-record = w.rest ∙ rw (← k, drop-drop) at (records-whole (drop at xs) f)

    pub way_on : ((judge a (take n (drop at xs))).account.stage < 2) → Way xs (judge a (take n (drop at xs))).account (at + n)
    way_on h =
        let r = take n (drop at xs) in
        let l = records_of xs in
        let p = passes a r (λ z. omega arith) in
        let c = counted a r (λ z. omega arith) in
        let t = one_more a.records l r (records_of (drop (at + n) xs)) next-record in
        let d = one_less a.records l r (records_of (drop (at + n) xs)) next-record in
        let b = book-one (drop at xs) n f k a w.range w.early in
        record {
          within = inside;
          range = in-range-judge a r w.range w.early;
          early = h;
          state = rw (take-add at n xs, state-on r, b) refl;
          left = rw (take-add at n xs, left-on r, b) refl;
          many = rw (c, t, length-append) (omega (arith, w.many));
          bytes = rw (c, t, joined-one, w.bytes, take-add at n xs) refl;
          rest = rw (c, d) refl;
          accepted = rw (c, t) (accepted-one no_record (take a.records l) r w.accepted (rw w.account p));
          account = rw (c, t, behind-one, w.account) refl;
        }

    -- the state behind it, where it ends the book
    ended-state : 2 ≤ (judge a (take n (drop at xs))).account.stage
        → (run no_record_yet xs).state ≡ holding (judge a (take n (drop at xs))).account []
    ended-state h =
        let b = rw (← k) at (book-whole a (drop at xs) w.early f) in
        state-is ∙ rw (b, book-ended (judge a (take n (drop at xs))).account (drop n (drop at xs)) h) refl

    -- and the bytes behind it, which are not read
    ended-left : 2 ≤ (judge a (take n (drop at xs))).account.stage → (run no_record_yet xs).left ≡ drop n (drop at xs)
    ended-left h =
        let b = rw (← k) at (book-whole a (drop at xs) w.early f) in
        left_is ∙ rw (b, book-ended (judge a (take n (drop at xs))).account (drop n (drop at xs)) h) refl

    -- they begin where it ends
    accepted-is : Accepted (at + length (take n (drop at xs))) (ltb (at + length (take n (drop at xs))) (length xs))
        ≡ accepted_by (drop n (drop at xs)) xs
    accepted-is =
        let l = length-take-le n (drop at xs) (record-in (drop at xs) n f k) in
        let d = length-drop n (drop at xs) in
        let e = length-drop at xs in
        let p : at + length (take n (drop at xs)) ≡ length xs - length (drop n (drop at xs)) = omega (arith, l, d, e, inside) in
        let q : length xs - (at + length (take n (drop at xs))) ≡ length (drop n (drop at xs)) = omega (arith, l, d, e, inside) in
        ap (λ (b : Bool). Accepted (at + length (take n (drop at xs))) b)
        (ltb-less (at + length (take n (drop at xs))) (length xs) ∙ ap (λ (m : ℕ). ltb 0 m) q)
        ∙ ap (λ (m : ℕ). Accepted m (ltb 0 (length (drop n (drop at xs))))) p

    -- the reason of a refusal by another number than 1
    reason-is : (f : Refusal) → f.accepted ≡ a.records → (f.code ≡ 1 → ⊥)
        → reason_of f xs ≡ reason f.code a.records f.field at a (take n (drop at xs))
    reason-is f e c = rw (e, first-is, before-is, ne_eqb _ _ c, ← k) refl

    -- what there is to say, where it ends the book
    pub why-ended : 2 ≤ (judge a (take n (drop at xs))).account.stage
        → ended a at (take n (drop at xs)) (judge a (take n (drop at xs))).account (length xs) ≡ why_of xs
    unfolding why_of why_by
    why-ended h =
        let r = take n (drop at xs) in
        let next = (judge a r).account in
        let most = stage-most next (in-range-judge a r w.range w.early) in
        rw (ended-state h, ended-left h, le-ltb _ _ h)
        (⊎_elim
        (λ (q : next.stage < 3). let z : next.stage ≡ 2 = omega arith in rw (eq-eqb _ _ z) accepted-is)
        (λ (q : 3 ≤ next.stage).
        let s : next.stage ≡ 3 = omega arith in
        let g = faulty a r w.early s (record-whole (drop at xs) n f k) in
        let c = ap (λ (b : Account). b.refusal.accepted) (refused-is a r w.early s) in
        rw (ne_eqb next.stage 2 (λ z. omega arith)) (ap Refused (sym (reason-is next.refusal c (λ z. omega (arith, g.some))))))
        (lt-or-ge next.stage 3))

    -- both, as the code finds them
    module _ {next : Account} (e : next ≡ (judge a (take n (drop at xs))).account) where
      pub way_next : next.stage < 2 → Way xs next (at + n)
      way_next h = rw e (way_on (rw e at h))

      pub ended-next : {bytes : List ℕ} → bytes ≡ take n (drop at xs) → 2 ≤ next.stage → ended a at bytes next (length xs) ≡ why_of xs
      ended-next b h = rw (e, b) (why-ended (rw e at h))

      pub stage-next : next.stage ≤ 3
      stage-next = rw e (stage-most (judge a (take n (drop at xs))).account (in-range-judge a (take n (drop at xs)) w.range w.early))

  -- ---- no whole record stands behind them

  pub why-unread : (f : Front) → front (drop at xs) ≡ f → (f ≡ whole → ⊥) → unread f a at (drop at xs) ≡ why_of xs
  unfolding why_of why_by
  why-unread unfinished e n = rw (state-is, book-unfinished a (drop at xs) w.early e, lt-ltb _ _ w.early, held-holding a (drop at xs)) refl
  why-unread bad_length e n = rw (state-is, book-bad a (drop at xs) w.early e, first-is, before-is) refl
  why-unread whole e n = absurd (n refl)

  -- all bytes are read
  pub why-none : length xs ≤ at → NextLength ≡ why_of xs
  why-none h = let d : drop at xs ≡ [] = drop_of_length-le xs h in
      rw d at (why-unread unfinished (rw d front-none) (λ z. let q : ◌≡◌ {A = ℕ} 0 1 = cc in absurd (omega arith)))

-- ---- every book has such an end

pub data Ends (xs : List ℕ) : Type 0 where
  at-record : (a : Account) (at : ℕ) → Way xs a at → front (drop at xs) ≡ whole → 2 ≤ (judge a (take (need (drop at xs)) (drop at xs))).account.stage
      → Ends xs
  at_rest : (a : Account) (at : ℕ) → Way xs a at → (front (drop at xs) ≡ whole → ⊥) → Ends xs

reach-at : (xs : List ℕ) (a : Account) (at : ℕ) → Way xs a at
    → (front (drop at xs) ≡ whole → (judge a (take (need (drop at xs)) (drop at xs))).account.stage < 2 → Ends xs)
    → (f : Front) → front (drop at xs) ≡ f → Ends xs
reach-at xs a at w on unfinished e = at_rest a at w (λ z. let q : ◌≡◌ {A = ℕ} 0 1 = cc in absurd (omega arith))
reach-at xs a at w on bad_length e = at_rest a at w (λ z. let q : ◌≡◌ {A = ℕ} 0 1 = cc in absurd (omega arith))
reach-at xs a at w on whole e =
    ⊎_elim
    (λ (l : (judge a (take (need (drop at xs)) (drop at xs))).account.stage < 2). on e l)
    (λ (l : 2 ≤ (judge a (take (need (drop at xs)) (drop at xs))).account.stage). at-record a at w e l)
    (lt-or-ge (judge a (take (need (drop at xs)) (drop at xs))).account.stage 2)

reach : (n : ℕ) (xs : List ℕ) (a : Account) (at : ℕ) → Way xs a at → length xs - at < n → Ends xs
reach zero xs a at w h = absurd (omega arith)
reach (suc n) xs a at w h =
    let m = need (drop at xs) in
    reach-at xs a at w
    (λ e l. reach n xs (judge a (take m (drop at xs))).account (at + m) (way_on w m e refl l)
    (omega (arith, inside w m e refl, some_bytes w m e refl)))
    (front (drop at xs)) refl

pub every-end : (xs : List ℕ) → Ends xs
every-end xs = reach (suc (length xs)) xs no_record 0 (way-none xs) (omega arith)
