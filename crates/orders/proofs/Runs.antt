-- An accepted book, record by record: its bytes are its records joined, each is whole and not refused, and the book is open before it.
-- Assumes nothing.
use Prim.Native.Nat.{ℕ, zero, suc, ◌≤◌, ◌<◌}
use mathlib.Core.Path.{◌≡◌, refl, sym, ap, ◌∙◌, subst}
use mathlib.Core.List.{List, [], ◌∷◌, ◌++◌, append_assoc, append-nil}
use mathlib.Core.Logic.{⊎_elim}
use native.Mathlib.Omega.{arith}
use lib.ListN.{length, take, drop, length-append, length-drop, take-append-drop}
use Rattle.base.proofs.Tests.{lt-or-ge}
use Rattle.account.specs.declared.Account.{Account}
use Rattle.account.specs.declared.Heading.{Heading}
use Rattle.account.specs.Line.{joined}
use Rattle.account.specs.Range.{AccountInRange}
use Rattle.account.specs.Account.{no_record}
use Rattle.account.specs.Judge.{WholeRecord, NotRefused, judge}
use Rattle.account.proofs.Refusals.{judged-passes}
use Rattle.account.proofs.Details.{judge-counts}
use Rattle.account.proofs.Keeps.{in-range-none, in-range-judge}
use Rattle.book.specs.Front.{Front, unfinished, bad_length, whole, need, front}
use Rattle.book.specs.WholeRecords.{records_by, records_of}
use Rattle.book.specs.State.{no_record_yet, holding}
use Rattle.book.specs.Run.{Run, then, book, run}
use Rattle.book.proofs.Fronts.{meaning}
use Rattle.book.proofs.WholeRecords.{records-whole}
use Rattle.book.proofs.RecordRuns.{record-whole}
use Rattle.book.proofs.Runs.{book-ended, book-unfinished, book-bad, book-whole, book-none}
use Rattle.promises.specs.WholeLines.{last_heading}
use Rattle.promises.proofs.WholeLines.{shaped}
use Rattle.promises.proofs.SameLine.{book-record}
use Rattle.orders.specs.AnyOrder.{lines_of}

-- ---- the records of an accepted book

-- each is whole
abbrev pub Whole : List (List ℕ) → Type 0
Whole [] = Unit {0}
Whole (r ∷ rs) = WholeRecord r × Whole rs

-- the bytes xs are their records, one after the other
pub record Made (xs : List ℕ) : Type 0 where
  pub bytes : xs ≡ joined (records_of xs)
  pub whole : Whole (records_of xs)

made_none : (xs : List ℕ) → xs ≡ [] → Made xs
unfolding records_of records_by front
made_none xs e = rw e (record { bytes = refl; whole = tt })

made_one : (xs : List ℕ) → front xs ≡ whole → Made (drop (need xs) xs) → Made xs
made_one xs e m =
    let r : List ℕ = take (need xs) xs in
    let w : Whole (r ∷ records_of (drop (need xs) xs)) = (record-whole xs (need xs) e refl, m.whole) in
    record {
      bytes = sym (take-append-drop (need xs) xs) ∙ ap (λ (l : List ℕ). r ++ l) m.bytes ∙ ap joined (sym (records-whole xs e));
      whole = subst Whole (sym (records-whole xs e)) w;
    }

-- an ended book leaves all bytes
made-ended : (a : Account) (xs : List ℕ) → 2 ≤ a.stage → (book a xs).left ≡ [] → Made xs
made-ended a xs h l = made_none xs (rw (book-ended a xs h) at l)

made_at : (a : Account) (xs : List ℕ) → a.stage < 2
    → ((b : Account) (zs : List ℕ) → length zs < length xs → (book b zs).state.account.stage ≡ 2 → (book b zs).left ≡ [] → Made zs)
    → (book a xs).state.account.stage ≡ 2 → (book a xs).left ≡ [] → (f : Front) → front xs ≡ f → Made xs
made_at a xs k ih c l unfinished e = let z : a.stage ≡ 2 = rw (book-unfinished a xs k e) at c in absurd (omega arith)
made_at a xs k ih c l bad_length e = let z : ◌≡◌ {A = ℕ} 3 2 = rw (book-bad a xs k e) at c in absurd (omega arith)
made_at a xs k ih c l whole e =
    let m = meaning xs whole e in
    let short : length (drop (need xs) xs) < length xs = rw length-drop (omega arith) in
    made_one xs e
    (ih (judge a (take (need xs) xs)).account (drop (need xs) xs) short (rw (book-whole a xs k e) at c) (rw (book-whole a xs k e) at l))

made_by : (n : ℕ) (a : Account) (xs : List ℕ) → length xs < n → (book a xs).state.account.stage ≡ 2 → (book a xs).left ≡ [] → Made xs
made_by zero a xs h c l = absurd (omega arith)
made_by (suc n) a xs h c l =
    ⊎_elim (λ (k : a.stage < 2). made_at a xs k (λ b zs p. made_by n b zs (omega arith)) c l (front xs) refl)
    (λ (k : 2 ≤ a.stage). made-ended a xs k l) (lt-or-ge a.stage 2)

pub made : (xs : List ℕ) → (book no_record xs).state.account.stage ≡ 2 → (book no_record xs).left ≡ [] → Made xs
made xs c l = made_by (suc (length xs)) no_record xs (omega arith) c l

-- ---- each in its turn

pub record Takes (a : Account) (r : List ℕ) : Type 0 where
  pub whole : WholeRecord r
  pub early : a.stage < 2
  pub passes : NotRefused a r

abbrev pub Taken : Account → List (List ℕ) → Type 0
Taken a [] = Unit {0}
Taken a (r ∷ rs) = Takes a r × Taken (judge a r).account rs

-- the account that they reach, and the lines that they give
abbrev pub reached : Account → List (List ℕ) → Account
reached a [] = a
reached a (r ∷ rs) = reached (judge a r).account rs

abbrev pub given : Account → List (List ℕ) → List (List ℕ)
given a [] = []
given a (r ∷ rs) = (judge a r).lines ++ given (judge a r).account rs

no_bytes : (r l : List ℕ) → r ++ l ≡ [] → length r ≡ 0
no_bytes r l e = omega (arith, ap length e, length-append r l)

-- a record of a book that is accepted was refused nowhere
refused-stays : (b : Account) (ys : List ℕ) → (book b ys).state.account.stage ≡ 2 → b.stage ≡ 3 → ⊥
refused-stays b ys c e =
    let z : b.stage ≡ 2 = rw (book-ended b ys (omega arith)) at c in
    omega arith

pub taken : (rs : List (List ℕ)) (a : Account) → Whole rs → (book a (joined rs)).state.account.stage ≡ 2 → (book a (joined rs)).left ≡ [] → Taken a rs
taken [] a w c l = tt
taken (r ∷ rs) a w c l =
    ⊎_elim
    (λ (k : a.stage < 2).
    let one = book-record a r (joined rs) w.0 k in
    let c' : (book (judge a r).account (joined rs)).state.account.stage ≡ 2 = rw one at c in
    let t : NotRefused a r = judged-passes a r (refused-stays (judge a r).account (joined rs) c') in
    (record { whole = w.0; early = k; passes = t }, taken rs (judge a r).account w.1 c' (rw one at l)))
    (λ (k : 2 ≤ a.stage).
    let z : r ++ joined rs ≡ [] = rw (book-ended a (r ++ joined rs) k) at l in
    absurd (omega (arith, no_bytes r (joined rs) z, w.0.long)))
    (lt-or-ge a.stage 2)

-- ---- in parts

pub taken-first : (rs ss : List (List ℕ)) (a : Account) → Taken a (rs ++ ss) → Taken a rs
taken-first [] ss a t = tt
taken-first (r ∷ rs) ss a t = (t.0, taken-first rs ss (judge a r).account t.1)

pub taken-last : (rs ss : List (List ℕ)) (a : Account) → Taken a (rs ++ ss) → Taken (reached a rs) ss
taken-last [] ss a t = t
taken-last (r ∷ rs) ss a t = taken-last rs ss (judge a r).account t.1

pub reached-append : (rs ss : List (List ℕ)) (a : Account) → reached a (rs ++ ss) ≡ reached (reached a rs) ss
reached-append [] ss a = refl
reached-append (r ∷ rs) ss a = reached-append rs ss (judge a r).account

pub given-append : (rs ss : List (List ℕ)) (a : Account) → given a (rs ++ ss) ≡ given a rs ++ given (reached a rs) ss
given-append [] ss a = refl
given-append (r ∷ rs) ss a = rw (given-append rs ss (judge a r).account, append_assoc) refl

pub joined-append : (rs ss : List (List ℕ)) → joined (rs ++ ss) ≡ joined rs ++ joined ss
joined-append [] ss = refl
joined-append (r ∷ rs) ss = ap (λ (l : List ℕ). r ++ l) (joined-append rs ss) ∙ sym (append_assoc r (joined rs) (joined ss))

-- what they give, and then what the bytes behind them give
pub book-records : (rs : List (List ℕ)) (a : Account) (ys : List ℕ) → Taken a rs
    → book a (joined rs ++ ys) ≡ then (given a rs) (book (reached a rs) ys)
book-records [] a ys t = refl
book-records (r ∷ rs) a ys t =
    rw (
      append_assoc,
      book-record a r (joined rs ++ ys) t.0.whole t.0.early,
      book-records rs (judge a r).account ys t.1,
      append_assoc,
    ) refl

pub reached-range : (rs : List (List ℕ)) (a : Account) → AccountInRange a → Taken a rs → AccountInRange (reached a rs)
reached-range [] a v t = v
reached-range (r ∷ rs) a v t = reached-range rs (judge a r).account (in-range-judge a r v t.0.early) t.1

-- their account is under the last heading
pub reached-heading : (rs : List (List ℕ)) (a : Account) → Taken a rs → (reached a rs).heading ≡ last_heading a.heading rs
unfolding last_heading
reached-heading [] a t = refl
reached-heading (r ∷ rs) a t =
    reached-heading rs (judge a r).account t.1 ∙ ap (λ (h : Heading). last_heading h rs) (shaped a r (judge-counts a r t.0.passes)).heading

-- ---- from no record

pub run-records : (rs : List (List ℕ)) → Taken no_record rs
    → run no_record_yet (joined rs) ≡ record { state = holding (reached no_record rs) []; lines = given no_record rs; left = [] }
unfolding run
run-records rs t =
    rw (append-nil (joined rs), append-nil (given no_record rs)) at
    (book-records rs no_record [] t ∙ ap (then (given no_record rs)) (book-none (reached no_record rs) (reached-range rs no_record in-range-none t)))

pub goes_on : (a : Account) (ys : List ℕ) → run (holding a []) ys ≡ book a ys
unfolding run
goes_on a ys = refl

-- the lines of records behind others
pub lines-behind : (before rs : List (List ℕ)) → Taken no_record before → lines_of before rs ≡ (book (reached no_record before) (joined rs)).lines
lines-behind before rs t =
    ap (λ (r : Run). (run r.state (joined rs)).lines) (run-records before t)
    ∙ ap (λ (r : Run). r.lines) (goes_on (reached no_record before) (joined rs))
