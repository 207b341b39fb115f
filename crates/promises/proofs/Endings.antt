-- The byte that ends a book: a refusal takes it, drops the held bytes, keeps all the rest and stores code, records accepted so far and field; a close
-- takes it, and heading, day sums, grazed fraction, subtotal, sums and warming factors stay.
-- Assumes nothing.
use Prim.Native.Nat.{ℕ, ◌+◌, ◌≤◌, ◌<◌}
use mathlib.Core.Path.{◌≡◌, refl, sym, ap, ◌∙◌}
use mathlib.Core.List.{List, [], ◌∷◌, ◌++◌, append_assoc, append-nil}
use mathlib.Core.Bool.{false}
use mathlib.Core.Logic.{⊎_elim}
use native.Mathlib.Omega.{arith}
use lib.ListN.{length, take, drop, length-append, drop_of_length-le}
use lib.Seq.{take_all}
use lib.Dec.{eqb}
use Rattle.base.proofs.Tests.{lt-or-ge, of-choice}
use Rattle.account.specs.declared.Account.{Account}
use Rattle.account.specs.Sorts.{sort_of}
use Rattle.account.specs.Line.{subtotals, total_of}
use Rattle.account.specs.Range.{Numbered}
use Rattle.account.specs.Account.{closed}
use Rattle.account.specs.Judge.{record_row, refusals, first, Step, accepted, judge}
use Rattle.account.proofs.Sorts.{by-sort}
use Rattle.account.proofs.Keeps.{in-range-judge}
use Rattle.book.specs.declared.State.{State}
use Rattle.book.specs.Front.{Front, unfinished, bad_length, whole, need, bad, front}
use Rattle.book.specs.State.{held_of, holding, InRange}
use Rattle.book.specs.Run.{Run, then, run}
use Rattle.book.proofs.Fronts.{meaning, held-bad, held_whole, good_length}
use Rattle.book.proofs.Runs.{book-unfinished, book-bad, book-whole, book-none, run_none, run-ended, run-append}
use Rattle.book.proofs.RunLeaves.{run-leaves}
use Rattle.promises.specs.Endings.{account_after, refused_for, refusing, closing, EndsBy, KeepsRest}

-- ---- one record

-- where r ends the book, it is what a refusal of zs gives, or the close
record Decided (a : Account) (zs : List ℕ) (r : Run) : Type 0 where
  refuses : r.state.account.stage ≡ 3 → r ≡ record { state = holding (refused_for a zs) []; lines = []; left = [] }
  closes : r.state.account.stage ≡ 2 → r ≡ record { state = holding (closed a) []; lines = subtotals a ++ (total_of a ∷ []); left = [] }

open-yet : (a : Account) (zs : List ℕ) (r : Run) → r.state.account.stage < 2 → Decided a zs r
open-yet a zs r h = record { refuses = λ q. absurd (omega (arith, q)); closes = λ q. absurd (omega (arith, q)) }

-- the run of a step, with nothing left
abbrev ran : Step → Run
ran j = record { state = holding j.account []; lines = j.lines; left = [] }

judged : (a : Account) (zs : List ℕ) → a.stage < 2 → bad zs ≡ false → Decided a zs (ran (judge a zs))
unfolding judge accepted
judged a zs early good =
    of-choice (λ (j : Step). Decided a zs (ran j)) (eqb (first (refusals a zs)) 0)
    (λ e.
    by-sort (λ (j : Step). Decided a zs (ran j)) (sort_of (record_row zs))
    (λ k. open-yet a zs _ (omega (arith, early)))
    (λ k. open-yet a zs _ (omega (arith, early)))
    (λ k. open-yet a zs _ (omega (arith, early)))
    (λ k. open-yet a zs _ (omega (arith, early)))
    (λ k. record { refuses = λ q. absurd (omega (arith, q)); closes = λ q. refl }))
    (λ e. record { refuses = λ q. rw good refl; closes = λ q. absurd (omega (arith, q)) })

-- ---- one byte

module _ (s : State) (b : ℕ) (v : InRange s) (early : s.account.stage < 2) where
  abbrev zs : List ℕ
  zs = held_of s ++ (b ∷ [])

  one_at : (f : Front) → front zs ≡ f → Decided s.account zs (run s (b ∷ []))
  unfolding run
  one_at unfinished e = rw (book-unfinished s.account zs early e) (open-yet s.account zs _ early)
  one_at bad_length e =
      let h = held-bad (held_of s) (b ∷ []) v.begun e in
      let d : drop 2 zs ≡ [] = drop_of_length-le zs {i = 2} (omega (arith, length-append (held_of s) (b ∷ []))) in
      rw (book-bad s.account zs early e, d)
      (record { refuses = λ q. rw (meaning zs bad_length e).1 refl; closes = λ q. absurd (omega (arith, q)) })
  one_at whole e =
      let m = meaning zs whole e in
      let h = held_whole (held_of s) (b ∷ []) v.begun in
      let n : length zs ≤ need zs = omega (arith, length-append (held_of s) (b ∷ [])) in
      let d : drop (need zs) zs ≡ [] = drop_of_length-le zs {i = need zs} n in
      let t : take (need zs) zs ≡ zs = take_all (need zs) zs n in
      let j = in-range-judge s.account zs v.account early in
      rw (book-whole s.account zs early e, t, d, book-none (judge s.account zs).account j, append-nil)
      (judged s.account zs early (good_length zs m.1 m.2))

  one : Decided s.account zs (run s (b ∷ []))
  one = one_at (front zs) refl

-- ---- the byte that ends a book

-- some bytes of xs leave the book open, the byte behind them does not, and no byte behind that is taken
record Ends (s : State) (xs : List ℕ) : Type 0 where
  before : List ℕ
  byte : ℕ
  behind : List ℕ
  bytes : xs ≡ before ++ (byte ∷ behind)
  range : InRange (run s before).state
  early : (run s before).state.account.stage < 2
  is : run s xs ≡ record {
    state = (run (run s before).state (byte ∷ [])).state;
    lines = (run s before).lines ++ (run (run s before).state (byte ∷ [])).lines;
    left = (run (run s before).state (byte ∷ [])).left ++ behind;
  }

-- the first byte ends it, or leaves it open and one behind it does
module _ (s : State) (x : ℕ) (v : InRange s) where
  abbrev r : Run
  r = run s (x ∷ [])

  ends-here : (xs : List ℕ) → s.account.stage < 2 → 2 ≤ r.state.account.stage → Ends s (x ∷ xs)
  ends-here xs early h =
      record {
        before = [];
        byte = x;
        behind = xs;
        bytes = refl;
        range = rw (run_none s v) v;
        early = rw (run_none s v) early;
        is = run-append s (x ∷ []) xs ∙ rw (run-ended r.state (r.left ++ xs) (run-leaves s (x ∷ []) v).range h, run_none s v, append-nil) refl;
      }

  on : (ys : List ℕ) → r.state.account.stage < 2 → run s (x ∷ ys) ≡ then r.lines (run r.state ys)
  on ys h = rw ((run-leaves s (x ∷ []) v).all h) at (run-append s (x ∷ []) ys)

  ends_on : (xs : List ℕ) → r.state.account.stage < 2 → Ends r.state xs → Ends s (x ∷ xs)
  ends_on xs h i =
      let d : run s (x ∷ xs) ≡ then r.lines (run r.state xs) = on xs h in
      let f : run s (x ∷ i.before) ≡ then r.lines (run r.state i.before) = on i.before h in
      record {
        before = x ∷ i.before;
        byte = i.byte;
        behind = i.behind;
        bytes = ap (λ (l : List ℕ). x ∷ l) i.bytes;
        range = rw f i.range;
        early = rw f i.early;
        is = rw (d, i.is, f, append_assoc) refl;
      }

ends : (xs : List ℕ) (s : State) → InRange s → s.account.stage < 2 → 2 ≤ (run s xs).state.account.stage → Ends s xs
ends [] s v early q = let n : 2 ≤ s.account.stage = rw (run_none s v) at q in absurd (omega arith)
ends (x ∷ xs) s v early q =
    ⊎_elim
    (λ (h : (run s (x ∷ [])).state.account.stage < 2).
    ends_on s x v xs h (ends xs (run s (x ∷ [])).state (run-leaves s (x ∷ []) v).range h (rw (on s x v xs h) at q)))
    (λ (h : 2 ≤ (run s (x ∷ [])).state.account.stage). ends-here s x v xs early h)
    (lt-or-ge (run s (x ∷ [])).state.account.stage 2)

-- A run from an open state in range that is refused: some of its bytes leave the book open, and the byte behind them is the one that decides. It is
-- taken, and none behind it; nothing is held; the account is that of the records accepted before, all of it kept, with code, records accepted so far
-- and field stored; and there is no line more.
pub refusal-keeps : (s : State) (xs : List ℕ) → InRange s → s.account.stage < 2 → (run s xs).state.account.stage ≡ 3 → EndsBy refusing s xs
refusal-keeps s xs v early q =
    let e = ends xs s v early (omega arith) in
    let o = (one (run s e.before).state e.byte e.range e.early).refuses (sym (ap (λ (r : Run). r.state.account.stage) e.is) ∙ q) in
    record { before = e.before; byte = e.byte; behind = e.behind; bytes = e.bytes; early = e.early; is = e.is ∙ rw (o, append-nil) refl }

-- A run from an open state in range that closes the book: some of its bytes leave the book open, and the byte behind them closes it. It is taken,
-- and none behind it; nothing is held; the account is that of the records accepted before, all of it kept, with one record more; and the last lines
-- are the subtotal of the group that ends and the total.
pub close-keeps : (s : State) (xs : List ℕ) → InRange s → s.account.stage < 2 → (run s xs).state.account.stage ≡ 2 → EndsBy closing s xs
close-keeps s xs v early q =
    let e = ends xs s v early (omega arith) in
    let o = (one (run s e.before).state e.byte e.range e.early).closes (sym (ap (λ (r : Run). r.state.account.stage) e.is) ∙ q) in
    record { before = e.before; byte = e.byte; behind = e.behind; bytes = e.bytes; early = e.early; is = e.is ∙ rw o refl }

-- ---- all the rest

-- Refused: nothing is held; warming factors, heading, day sums, grazed fraction, subtotal and sums are those of the records accepted before, and so
-- is the count of records; the refusal stored has a code of 1..12, that count, and a field of 1..12 for code 7, else 0.
pub refusal-rest : (s : State) (xs : List ℕ) → InRange s → (run s xs).state.account.stage ≡ 3 → (e : EndsBy refusing s xs)
    → ((run s xs).state.count ≡ 0)
    × (KeepsRest (account_after s e.before) (run s xs).state.account
    × (((run s xs).state.account.records ≡ (account_after s e.before).records)
    × Numbered (run s xs).state.account.refusal (account_after s e.before).records))
refusal-rest s xs v q e =
    let n = (run-leaves s xs v).range.account.ended.refused q in
    let k : (run s xs).state.account.records ≡ (account_after s e.before).records = rw e.is refl in
    (rw e.is refl, (rw e.is refl, (k, rw k at n)))

-- Closed: nothing is held; warming factors, heading, day sums, grazed fraction, subtotal and sums are those of the records before the close, and
-- there is one record more.
pub close-rest : (s : State) (xs : List ℕ) → (e : EndsBy closing s xs)
    → ((run s xs).state.count ≡ 0)
    × (KeepsRest (account_after s e.before) (run s xs).state.account
    × ((run s xs).state.account.records ≡ (account_after s e.before).records + 1))
close-rest s xs e = (rw e.is refl, (rw e.is refl, rw e.is refl))
