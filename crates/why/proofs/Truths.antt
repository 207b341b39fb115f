-- What is said is true. Document 02, W6: "the rule named is broken in that record, every rule tried earlier holds there, and all records before it
-- are accepted. For an accepted book it says so. For an unfinished one it tells how many bytes are still missing from the last record, or that the
-- next length isn't known yet."
-- Assumes nothing.
use Prim.Native.Nat.{ℕ, ◌+◌, ◌-◌, ◌≤◌, ◌<◌}
use mathlib.Core.Path.{◌≡◌, refl, sym, subst, ap, ◌∙◌}
use mathlib.Core.List.{List, ◌∷◌, ◌++◌}
use mathlib.Core.Bool.{Bool, true, false, ◌||◌}
use mathlib.Core.Logic.{◌⊎◌, inl, inr, ⊎_elim}
use native.Mathlib.Omega.{arith}
use borrow.Author.Tests.{ltb-true, ltb-false, eqb-true, eqb-false, eq-eqb, lt-ltb, le-ltb, ne_eqb}
use lib.Dec.{ltb, eqb}
use lib.ListN.{length, take, drop, length-append, length-drop}
use lib.Seq.{length-take-le}
use Rattle.base.specs.Choice.{pick}
use Rattle.base.proofs.Tests.{of-choice, or_cases}
use Rattle.codec.specs.Codec.{val_at}
use Rattle.account.specs.declared.Account.{Account}
use Rattle.account.specs.Account.{no_record, refused}
use Rattle.account.specs.Judge.{kind_byte, record_row, values_of, RefusedBy, judge}
use Rattle.account.specs.Compared.{Compared, values_compared, compared, ComparesWrongly}
use Rattle.account.proofs.Keeps.{stage-most, in-range-judge, in-range-none}
use Rattle.account.proofs.Compares.{compares-wrongly, length-beyond}
use Rattle.book.specs.declared.State.{State}
use Rattle.book.specs.Front.{Front, unfinished, bad_length, whole, need, front}
use Rattle.book.specs.WholeRecords.{records_of}
use Rattle.book.specs.State.{held_of, no_record_yet}
use Rattle.book.specs.Run.{run}
use Rattle.book.proofs.Fronts.{meaning, is-whole, is-unfinished, length-append-two, length-take-two}
use Rattle.book.proofs.Ranges.{range-idle}
use Rattle.book.proofs.RunLeaves.{run-leaves}
use Rattle.book.proofs.RecordRuns.{record-in, record-whole}
use Rattle.why.specs.declared.Reason.{Reason}
use Rattle.why.specs.declared.Verdict.{Verdict}
use Rattle.why.specs.declared.Verdict.TheVariants.{Accepted, Missing, NextLength, Refused}
use Rattle.why.specs.Why.{told, reason, reason_of, unfinished_by, accepted_by, why_by, why_of}
use Rattle.why.specs.Promised.{bytes_told, account_before, as_compared, numbers_told, BrokenRecord, Truth, begun}
use Rattle.why.specs.Promised.{MissingExact, AfterClose, IsAccepted, Unfinished}
use Rattle.why.specs.Inner.{unread, ended}
use Rattle.why.proofs.Faults.{faulty, refused-is}
use Rattle.why.proofs.Ways.{Way, Ends, at-record, at_rest, every-end, ltb-less, before-is, next-record, some_bytes, why-ended, why-unread}

-- ---- by rule 2's stage

-- no two of the answers are equal
no_answer : {A : Type 0} → ◌≡◌ {A = ℕ} 0 1 → A
no_answer e = absurd (omega arith)

-- what is said of an unfinished book
unfinished-said : (h : List ℕ) → Unfinished (unfinished_by h)
unfinished-said h = of-choice Unfinished (ltb (length h) 2) (λ e. tt) (λ e. tt)

not-accepted : (h : List ℕ) → IsAccepted (unfinished_by h) → ⊥
not-accepted h = of-choice (λ (v : Verdict). IsAccepted v → ⊥) (ltb (length h) 2) (λ e u. u) (λ e u. u)

module _ (s : State) (left xs : List ℕ) where
  accepted-by : IsAccepted (why_by s left xs) → s.account.stage ≡ 2
  unfolding why_by
  accepted-by = go (ltb s.account.stage 2) (eqb s.account.stage 2) refl
    where
      go : (b d : Bool) → eqb s.account.stage 2 ≡ d
          → IsAccepted (pick b (unfinished_by (held_of s)) (pick d (accepted_by left xs) (Refused (reason_of s.account.refusal xs))))
          → s.account.stage ≡ 2
      go true d q e = absurd (not-accepted (held_of s) e)
      go false true q e = eqb-true _ _ q
      go false false q e = absurd e

  unfinished-by : Unfinished (why_by s left xs) → s.account.stage < 2
  unfolding why_by
  unfinished-by = go (ltb s.account.stage 2) (eqb s.account.stage 2) refl
    where
      go : (b d : Bool) → ltb s.account.stage 2 ≡ b
          → Unfinished (pick b (unfinished_by (held_of s)) (pick d (accepted_by left xs) (Refused (reason_of s.account.refusal xs))))
          → s.account.stage < 2
      go true d q e = ltb-true _ _ q
      go false true q e = absurd e
      go false false q e = absurd e

  missing-by : (n : ℕ) → why_by s left xs ≡ Missing n → (s.account.stage < 2) × (2 ≤ length (held_of s)) × (n ≡ need (held_of s) - length (held_of s))
  unfolding why_by
  missing-by n = go (ltb s.account.stage 2) (eqb s.account.stage 2) (ltb (length (held_of s)) 2) refl refl
    where
      go : (b d t : Bool) → ltb s.account.stage 2 ≡ b → ltb (length (held_of s)) 2 ≡ t
          → pick b (pick t NextLength (Missing (need (held_of s) - length (held_of s))))
          (pick d (accepted_by left xs) (Refused (reason_of s.account.refusal xs))) ≡ Missing n
          → (s.account.stage < 2) × (2 ≤ length (held_of s)) × (n ≡ need (held_of s) - length (held_of s))
      go true d true q p e = no_answer cc
      go true d false q p e = (ltb-true _ _ q, ltb-false _ _ p, cc)
      go false true t q p e = no_answer cc
      go false false t q p e = no_answer cc

  length-by : why_by s left xs ≡ NextLength → (s.account.stage < 2) × (length (held_of s) < 2)
  unfolding why_by
  length-by = go (ltb s.account.stage 2) (eqb s.account.stage 2) (ltb (length (held_of s)) 2) refl refl
    where
      go : (b d t : Bool) → ltb s.account.stage 2 ≡ b → ltb (length (held_of s)) 2 ≡ t
          → pick b (pick t NextLength (Missing (need (held_of s) - length (held_of s))))
          (pick d (accepted_by left xs) (Refused (reason_of s.account.refusal xs))) ≡ NextLength
          → (s.account.stage < 2) × (length (held_of s) < 2)
      go true d true q p e = (ltb-true _ _ q, ltb-true _ _ p)
      go true d false q p e = no_answer cc
      go false true t q p e = no_answer cc
      go false false t q p e = no_answer cc

module _ (xs : List ℕ) where
  -- For an accepted book it says so, and of no other: accepted is what rule 2 closes. Bytes after the close change nothing of that.
  pub why-accepted : (IsAccepted (why_of xs) → (run no_record_yet xs).state.account.stage ≡ 2)
      × ((run no_record_yet xs).state.account.stage ≡ 2 → why_of xs ≡ accepted_by (run no_record_yet xs).left xs)
  unfolding why_of why_by
  why-accepted = (
    accepted-by (run no_record_yet xs).state (run no_record_yet xs).left xs,
    λ e. rw (le-ltb (run no_record_yet xs).state.account.stage 2 (omega arith), eq-eqb _ _ e),
  )

  -- Where bytes stand after the close it is told rightly from where on.
  pub after-close : (end : ℕ) (more : Bool) → why_of xs ≡ Accepted end more → AfterClose end more xs
  after-close end more e =
      let closed = why-accepted.0 (rw e tt) in
      let same : accepted_by (run no_record_yet xs).left xs ≡ Accepted end more = sym (why-accepted.1 closed) ∙ e in
      let t = (run-leaves no_record_yet xs (range-idle no_record in-range-none)).tail in
      let l : length (run no_record_yet xs).left ≡ length xs - t.at = rw t.is (length-drop t.at xs) in
      let first : end ≡ length xs - length (run no_record_yet xs).left = cc in
      let any : more ≡ ltb 0 (length (run no_record_yet xs).left) = cc in
      let from : end ≡ t.at = omega (arith, first, l, t.inside) in
      let rest : length xs - end ≡ length (run no_record_yet xs).left = omega (arith, first, l, t.inside) in
      record { closed = closed; left = rw from (sym t.is); some = any ∙ sym (ltb-less end (length xs) ∙ ap (λ (m : ℕ). ltb 0 m) rest) }

  -- An unfinished book is one that rule 2 leaves open.
  pub why-unfinished : (Unfinished (why_of xs) → (run no_record_yet xs).state.account.stage < 2)
      × ((run no_record_yet xs).state.account.stage < 2 → Unfinished (why_of xs))
  unfolding why_of why_by
  why-unfinished = (unfinished-by (run no_record_yet xs).state (run no_record_yet xs).left xs, λ e. rw (lt-ltb _ _ e) (unfinished-said (begun xs)))

  -- The next length is not known where fewer than two bytes of it are there.
  pub next-length : (why_of xs ≡ NextLength → ((run no_record_yet xs).state.account.stage < 2) × (length (begun xs) < 2))
      × (((run no_record_yet xs).state.account.stage < 2) × (length (begun xs) < 2) → why_of xs ≡ NextLength)
  unfolding why_of why_by
  next-length = (length-by (run no_record_yet xs).state (run no_record_yet xs).left xs, λ e. rw (lt-ltb _ _ e.0, lt-ltb _ _ e.1))

  -- A refused book is one that rule 2 refuses.
  pub why-refused-so : (run no_record_yet xs).state.account.stage ≡ 3
      → why_of xs ≡ Refused (reason_of (run no_record_yet xs).state.account.refusal xs)
  unfolding why_of why_by
  why-refused-so e =
      rw (le-ltb (run no_record_yet xs).state.account.stage 2 (omega arith), ne_eqb (run no_record_yet xs).state.account.stage 2 (λ z. omega arith))

  -- How many bytes are missing is exact.
  pub missing-exact : (n : ℕ) → why_of xs ≡ Missing n → MissingExact n xs
  unfolding why_of
  missing-exact n e =
      let s = (run no_record_yet xs).state in
      let h = held_of s in
      let m = missing-by s (run no_record_yet xs).left xs n e in
      let b = (run-leaves no_record_yet xs (range-idle no_record in-range-none)).range.begun in
      let g = meaning h unfinished b m.1 in
      record {
        enough = λ ys l.
            is-whole (h ++ ys)
            (rw (length-append-two h ys m.1, length-append h ys) (omega (arith, m.1), g.0, g.1, omega (arith, l, m.2, g.2)));
        fewer = λ ys l.
            is-unfinished (h ++ ys)
            (λ k. rw (length-append-two h ys m.1, length-append h ys) (g.0, g.1, omega (arith, l, m.2, g.2)));
      }

-- ---- the truth of a reason

off-length : (n : ℕ) → ltb n 4 || ltb 26 n ≡ true → (n < 4) ⊎ (26 < n)
off-length n e =
    ⊎_elim (λ (p : ltb n 4 ≡ true). inl (ltb-true _ _ p)) (λ (p : ltb 26 n ≡ true). inr (ltb-true _ _ p)) (or_cases (ltb n 4) (ltb 26 n) e)

told-bytes : (w : Reason) (xs : List ℕ) (at n : ℕ) → w.first ≡ at → w.last + 1 ≡ at + n → bytes_told w xs ≡ take n (drop at xs)
told-bytes w xs at n p q = let e : w.last + 1 - w.first ≡ n = omega (arith, p, q) in rw (e, p)

-- what the code has of it is all that is compared
abbrev IsKept : Compared → Type 0
IsKept x = as_compared (told x) ≡ x

kept-pick : (b : Bool) {x y : Compared} → IsKept x → IsKept y → IsKept (pick b x y)
kept-pick true p q = p
kept-pick false p q = q

kept-values : (c : ℕ) (a : Account) (row : ℕ) (v : List ℕ) → IsKept (values_compared c a row v)
unfolding values_compared
kept-values c a row v =
    kept-pick (eqb c 7) refl (kept-pick (eqb c 8) refl (kept-pick (eqb c 9) refl
    (kept-pick (eqb c 10) (kept-pick (eqb row 4) refl (kept-pick (eqb row 5) refl refl)) (kept-pick (eqb c 12) refl refl))))

kept : (c : ℕ) (a : Account) (r : List ℕ) → IsKept (compared c a r)
unfolding compared
kept c a r =
    kept-pick (eqb c 1) refl (kept-pick (eqb c 2) (kept-pick (eqb (kind_byte r) 1) refl refl) (kept-pick (eqb c 3) refl
    (kept-pick (eqb c 4) refl (kept-values c a (record_row r) (values_of r)))))

broken-record : (w : Reason) (xs : List ℕ) (a : Account) (r : List ℕ) → bytes_told w xs ≡ r → account_before w xs ≡ a
    → drop w.number (records_of xs) ≡ r ∷ records_of (drop (w.last + 1) xs) → (judge a r).account ≡ refused a w.code w.field
    → RefusedBy w.code a r → ComparesWrongly w.code a r (numbers_told w) → BrokenRecord w xs
broken-record w xs a r b c next judged broken compares =
    record { next = rw b next; judged = rw (b, c) judged; broken = rw (b, c) broken; compares = rw (b, c) compares }

module _ {xs : List ℕ} {a : Account} {at : ℕ} (w : Way xs a at) where
  -- a whole record is refused
  record-truth : (n : ℕ) (f : front (drop at xs) ≡ whole) (k : n ≡ need (drop at xs)) → (judge a (take n (drop at xs))).account.stage ≡ 3
      → let r = take n (drop at xs) in
      let next = (judge a r).account in
      Truth (reason next.refusal.code a.records next.refusal.field at a r) xs
  record-truth n f k s =
      let r = take n (drop at xs) in
      let code = (judge a r).account.refusal.code in
      let l : length r ≡ n = length-take-le n (drop at xs) (record-in (drop at xs) n f k) in
      let d : at + length r - 1 + 1 ≡ at + n = omega (arith, l, some_bytes w n f k) in
      let g = faulty a r w.early s (record-whole (drop at xs) n f k) in
      let z = reason code a.records (judge a r).account.refusal.field at a r in
      record {
        many = w.many;
        bytes = w.bytes;
        accepted = w.accepted;
        account = before-is w ∙ sym w.account;
        group = ap (λ (b : Account). b.heading.group) (sym w.account);
        length = λ e. absurd (omega (arith, g.some));
        other = λ e.
            broken-record z xs a r (told-bytes z xs at n refl d) w.account
            (next-record w n f k ∙ ap (λ (m : ℕ). r ∷ records_of (drop m xs)) (sym d))
            (refused-is a r w.early s) g.broken
            (subst (λ (x : Compared). ComparesWrongly code a r x) (sym (kept code a r)) (compares-wrongly code a r g.broken));
      }

  -- a length that no record has
  length-truth : front (drop at xs) ≡ bad_length → Truth (reason 1 a.records 0 at a (take 2 (drop at xs))) xs
  unfolding compared
  length-truth f =
      let r = take 2 (drop at xs) in
      let m = meaning (drop at xs) bad_length f in
      let l : length r ≡ 2 = length-take-le 2 (drop at xs) m.0 in
      let d : at + length r - 1 + 1 ≡ at + 2 = omega (arith, l) in
      let z = reason 1 a.records 0 at a r in
      let off : (val_at r 0 2 < 4) ⊎ (26 < val_at r 0 2) =
      rw (length-take-two (drop at xs) 2 (omega arith)) (off-length (val_at (drop at xs) 0 2) m.1) in
      record {
        many = w.many;
        bytes = w.bytes;
        accepted = w.accepted;
        account = before-is w ∙ sym w.account;
        group = ap (λ (b : Account). b.heading.group) (sym w.account);
        length = λ e.
            record {
              field = refl;
              last = omega (arith, l);
              value = ap (λ (b : List ℕ). val_at b 0 2) (sym (told-bytes z xs at 2 refl d));
              beyond = length-beyond (val_at r 0 2) off;
            };
        other = λ e. absurd (e refl);
      }

-- ---- what is said of a refused book is true

same-reason : {v w : Reason} {xs : List ℕ} → Refused v ≡ Refused w → Truth v xs → Truth w xs
same-reason {v} {w} {xs} e t = let q : v ≡ w = cc in rw q at t

unread-truth : {xs : List ℕ} {a : Account} {at : ℕ} → Way xs a at → (w : Reason) (f : Front) → front (drop at xs) ≡ f → (f ≡ whole → ⊥)
    → unread f a at (drop at xs) ≡ Refused w → Truth w xs
unread-truth {xs} {a} {at} y w unfinished e n q = let u : Unfinished (Refused w) = rw q at (unfinished-said (drop at xs)) in absurd u
unread-truth y w bad_length e n q = same-reason q (length-truth y e)
unread-truth y w whole e n q = absurd (n refl)

ended-truth : {xs : List ℕ} {a : Account} {at : ℕ} (y : Way xs a at) (w : Reason) → front (drop at xs) ≡ whole
    → let r = take (need (drop at xs)) (drop at xs) in
    2 ≤ (judge a r).account.stage → ended a at r (judge a r).account (length xs) ≡ Refused w → Truth w xs
ended-truth {xs} {a} {at} y w f h = go (eqb (judge a r).account.stage 2) refl
  where
    r : List ℕ
    r = take (need (drop at xs)) (drop at xs)

    go : (b : Bool) → eqb (judge a r).account.stage 2 ≡ b
        → pick b (Accepted (at + length r) (ltb (at + length r) (length xs)))
        (Refused (reason (judge a r).account.refusal.code a.records (judge a r).account.refusal.field at a r)) ≡ Refused w
        → Truth w xs
    go true p q = no_answer cc
    go false p q =
        let most = stage-most (judge a r).account (in-range-judge a r y.range y.early) in
        let two : (judge a r).account.stage ≡ 2 → ⊥ = eqb-false _ _ p in
        let s : (judge a r).account.stage ≡ 3 = omega (arith, h, most, two) in
        same-reason q (record-truth y (need (drop at xs)) f refl s)

-- Whatever the bytes are: where a reason is told, it is true.
pub why-refused : (xs : List ℕ) (w : Reason) → why_of xs ≡ Refused w → Truth w xs
why-refused xs w e = go (every-end xs)
  where
    go : Ends xs → Truth w xs
    go (at-record a at y f h) = ended-truth y w f h (why-ended y (need (drop at xs)) f refl h ∙ e)
    go (at_rest a at y n) = unread-truth y w (front (drop at xs)) refl n (why-unread y (front (drop at xs)) refl n ∙ e)
