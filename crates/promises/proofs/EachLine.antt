-- What holds of every line that a record can give holds of each line of a run and of a call.
-- Assumes nothing.
use Prim.Native.Nat.{ℕ, zero, suc, ◌≤◌, ◌<◌}
use native.Mathlib.Omega.{arith}
use mathlib.Core.Path.{◌≡◌, refl}
use mathlib.Core.Bool.{true, false}
use mathlib.Core.Logic.{◌⊎◌, inl, inr, ⊎_elim}
use mathlib.Core.List.{List, [], ◌∷◌, ◌++◌}
use borrow.Author.Tests.{eqb-true, eqb-false}
use lib.ListN.{take, drop}
use lib.Dec.{eqb, ltb}
use Rattle.base.proofs.Tests.{of-choice}
use Rattle.codec.specs.Table.{last_kind, last_row, is_row}
use Rattle.codec.proofs.EachKind.{row-least, row-most}
use Rattle.line_bytes.specs.Lines.{subtotal_kind}
use Rattle.grams.specs.declared.units.Co2.{Co2}
use Rattle.account.specs.declared.Account.{Account}
use Rattle.account.specs.declared.Figures.{Figures}
use Rattle.account.specs.Sorts.{by_sort, sort_of}
use Rattle.account.specs.Line.{line_with, total_with, subtotals, total_of, joined}
use Rattle.account.specs.Judge.{record_row, values_of, first, refusals, Step, accepted, judge}
use Rattle.account.proofs.Sorts.{by-sort, other-kind}
use Rattle.book.specs.declared.State.{State}
use Rattle.book.specs.Front.{Front, unfinished, bad_length, whole, need, front}
use Rattle.book.specs.State.{in_range}
use Rattle.book.specs.Run.{Run, by_front_lem, book_by, book, run}
use Rattle.book.specs.Call.{Call, call}
use Rattle.promises.proofs.Headings.{kind-in}

-- k is the kind of a detail's line or of a subtotal
pub record LineKind (k : ℕ) : Type 0 where
  pub shown : ((3 ≤ k) × (k ≤ last_kind)) ⊎ (k ≡ subtotal_kind)
  pub no-total : k ≡ 8 → ⊥

-- it is one byte
pub kind-small : (k : ℕ) → LineKind k → k < 256
kind-small k o = ⊎_elim (λ (h : (3 ≤ k) × (k ≤ last_kind)). omega (arith, h.1)) (λ (h : k ≡ subtotal_kind). omega (arith, h)) o.shown

-- P of each
abbrev pub Each : (List ℕ → Type 0) → List (List ℕ) → Type 0
Each P [] = Unit {0}
Each P (l ∷ ls) = P l × Each P ls

pub each_append : (P : List ℕ → Type 0) (ls ms : List (List ℕ)) → Each P ls → Each P ms → Each P (ls ++ ms)
each_append P [] ms v w = w
each_append P (l ∷ ls) ms v w = (v.0, each_append P ls ms v.1 w)

detail-kind : (k : ℕ) → is_row k ≡ true → by_sort (sort_of k) false false true true false ≡ true → LineKind k
unfolding sort_of
detail-kind k row d =
    let one = eqb-false k 1 (other-kind k 1 d refl) in
    let two = eqb-false k 2 (other-kind k 2 d refl) in
    let last = eqb-false k last_row (other-kind k last_row d refl) in
    let least = row-least k row in
    let most = row-most k row in
    record { shown = inl (omega arith, omega arith); no-total = eqb-false k 8 (other-kind k 8 d refl) }

module _ (P : List ℕ → Type 0) (line : (k g : ℕ) (f : Figures) → LineKind k → P (line_with k g f)) (total : (f : Figures) (c : Co2) → P (total_with f c))
  where
    subtotals-each : (a : Account) → Each P (subtotals a)
    subtotals-each a =
        of-choice (Each P) (eqb a.heading.group 0) (λ e. tt)
        (λ e. (line subtotal_kind _ _ (record { shown = inr refl; no-total = λ q. omega (arith, q) }), tt))

    accepted-each : (a : Account) (k : ℕ) (v : List ℕ) → is_row k ≡ true → Each P (accepted a k v).lines
    unfolding accepted
    accepted-each a k v h =
        by-sort (λ (j : Step). Each P j.lines) (sort_of k) (λ e. tt) (λ e. subtotals-each a) (λ e. (line k _ _ (detail-kind k h (rw e refl)), tt))
        (λ e. (line k _ _ (detail-kind k h (rw e refl)), tt)) (λ e. each_append P (subtotals a) (total_of a ∷ []) (subtotals-each a) (total _ _, tt))

    judge-each : (a : Account) (r : List ℕ) → Each P (judge a r).lines
    unfolding judge
    judge-each a r =
        of-choice (λ (j : Step). Each P j.lines) (eqb (first (refusals a r)) 0)
        (λ e. accepted-each a (record_row r) (values_of r) (kind-in a r (eqb-true _ _ e))) (λ e. tt)

    front-each : (f : Front) (a : Account) (xs : List ℕ) (behind : Run) → Each P behind.lines → Each P (by_front_lem f a xs behind).lines
    front-each unfinished a xs behind w = tt
    front-each bad_length a xs behind w = tt
    front-each whole a xs behind w = each_append P (judge a (take (need xs) xs)).lines behind.lines (judge-each a (take (need xs) xs)) w

    book-each : (n : ℕ) (a : Account) (xs : List ℕ) → Each P (book_by n a xs).lines
    unfolding book_by
    book-each zero a xs = tt
    book-each (suc n) a xs =
        of-choice (λ (r : Run). Each P r.lines) (ltb a.stage 2)
        (λ e. front-each (front xs) a xs _ (book-each n (judge a (take (need xs) xs)).account (drop (need xs) xs))) (λ e. tt)

    pub run-each : (s : State) (xs : List ℕ) → Each P (run s xs).lines
    unfolding run book
    run-each s xs = book-each _ s.account _

    -- the bytes of a call are such lines
    pub record OfLines (xs : List ℕ) : Type 0 where
      pub lines : List (List ℕ)
      pub joins : xs ≡ joined lines
      pub each : Each P lines

    pub call-each : (s : State) (xs : List ℕ) (room : ℕ) → OfLines (call s xs room).bytes
    unfolding call
    call-each s xs room =
        of-choice (λ (c : Call). OfLines c.bytes) (in_range s) (λ e. record { lines = (run s _).lines; joins = refl; each = run-each s _ })
        (λ e. record { lines = []; joins = refl; each = tt })
