-- Rations in whichever order.
-- Assumes nothing.
use Prim.Native.Nat.{ℕ}
use mathlib.Core.Path.{◌≡◌, refl, sym, ap, ◌∙◌, subst}
use mathlib.Core.List.{List, [], ◌∷◌, ◌++◌, map, append_assoc, append-nil}
use native.Mathlib.Omega.{arith}
use Rattle.account.specs.declared.Account.{Account}
use Rattle.account.specs.declared.Heading.{Heading}
use Rattle.account.specs.Line.{joined, total_of}
use Rattle.account.specs.Range.{AccountInRange}
use Rattle.account.specs.Account.{no_record}
use Rattle.account.proofs.Keeps.{in-range-none}
use Rattle.account.proofs.Told.{used-most}
use Rattle.book.specs.declared.State.{State}
use Rattle.book.specs.WholeRecords.{records_of}
use Rattle.book.specs.State.{no_record_yet}
use Rattle.book.specs.Run.{Run, then, book, run}
use Rattle.book.proofs.Runs.{book-none}
use Rattle.promises.specs.SameLine.{heading_before, line_under}
use Rattle.promises.specs.Totals.{last_of}
use Rattle.promises.proofs.StaysInRange.{new-in-range}
use Rattle.promises.proofs.Headings.{group-most}
use Rattle.promises.proofs.Totals.{ends-with-total}
use Rattle.promises.proofs.SameLine.{heading-is}
use Rattle.orders.specs.InOrder.{in_order_lem}
use Rattle.orders.specs.AnyOrder.{Accepted, Details, book_of, lines_of, InAnyOrder}
use Rattle.orders.proofs.Runs.{made, Taken, reached, given, taken, taken-first, taken-last, reached-append, joined-append, book-records}
use Rattle.orders.proofs.Runs.{reached-range, reached-heading, run-records, goes_on, lines-behind}
use Rattle.orders.proofs.Subtotals.{around}
use Rattle.orders.proofs.Orders.{InTurn, with_records, line_in, in-turn, reached-details, book-details, in_order, map-order}

parts : (before middle behind : List (List ℕ)) → book_of before middle behind ≡ joined before ++ (joined middle ++ joined behind)
parts before middle behind = joined-append before (middle ++ behind) ∙ ap (λ (l : List ℕ). joined before ++ l) (joined-append middle behind)

-- ---- records before, of which none is refused

module _ (before : List (List ℕ)) (t : Taken no_record before) where
  abbrev a : Account
  a = reached no_record before

  line-is : (r : List ℕ) → line_in a.heading r ≡ line_under (heading_before before) r
  line-is r = ap (λ (h : Heading). line_in h r) (reached-heading before no_record t ∙ heading-is before)

  -- a book with details in the middle
  run-with : (middle behind : List (List ℕ)) → InTurn a middle
      → run no_record_yet (book_of before middle behind)
      ≡ then (given no_record before) (then (map (line_in a.heading) middle) (book (with_records a middle) (joined behind)))
  unfolding run
  run-with middle behind i =
      rw (parts before middle behind, book-records before no_record (joined middle ++ joined behind) t, book-details middle a (joined behind) i) refl

  lines-before : lines_of [] before ≡ given no_record before
  lines-before =
      lines-behind [] before tt ∙ ap (λ (r : Run). r.lines) (sym (goes_on no_record (joined before)) ∙ run-records before t)

  module _ (middle : List (List ℕ)) (m : Taken a middle) (i : InTurn a middle) where
    none-behind : (book (with_records a middle) []).lines ≡ []
    none-behind =
        let v = reached-range middle a (reached-range before no_record in-range-none t) m in
        ap (λ (r : Run). r.lines) (book-none (with_records a middle) (subst AccountInRange (reached-details middle a i) v))

    lines-middle : lines_of before middle ≡ map (line_in a.heading) middle
    lines-middle =
        let ls : List (List ℕ) = map (line_in a.heading) middle in
        let e = ap (λ (r : Run). r.lines) (book-details middle a [] i) ∙ ap (λ (l : List (List ℕ)). ls ++ l) none-behind in
        lines-behind before middle t ∙ (rw (append-nil (joined middle), append-nil ls) at e)

    lines-last : (behind : List (List ℕ)) → Taken no_record (before ++ middle)
        → lines_of (before ++ middle) behind ≡ (book (with_records a middle) (joined behind)).lines
    lines-last behind b =
        lines-behind (before ++ middle) behind b
        ∙ ap (λ (c : Account). (book c (joined behind)).lines) (reached-append before middle no_record ∙ reached-details middle a i)

map_same : (f g : List ℕ → List ℕ) → ((r : List ℕ) → f r ≡ g r) → (rs : List (List ℕ)) → map f rs ≡ map g rs
map_same f g h [] = refl
map_same f g h (r ∷ rs) = rw (h r, map_same f g h rs) refl

-- the last line of a book that closes is the total of the account that it reaches
pub total-line : (xs : List ℕ) → (run no_record_yet xs).state.account.stage ≡ 2
    → last_of (run no_record_yet xs).lines ≡ total_of (run no_record_yet xs).state.account
total-line xs q = ends-with-total no_record_yet xs new-in-range (omega arith) q

-- ---- the theorem

in-any-order : (xs : List ℕ) (before middle behind : List (List ℕ)) (order : List ℕ)
    → Accepted xs → xs ≡ book_of before middle behind → Taken no_record (before ++ (middle ++ behind)) → Details middle
    → InAnyOrder xs before middle behind order
in-any-order xs before middle behind order ok e t d =
    let tb = taken-first before (middle ++ behind) no_record t in
    let tm = taken-first middle behind (reached no_record before) (taken-last before (middle ++ behind) no_record t) in
    let tbm = taken-first (before ++ middle) behind no_record (rw (append_assoc before middle behind) t) in
    let c = reached no_record before in
    let i = in-turn middle c d tm in
    let s = in_order order middle c (used-most c (reached-range before no_record in-range-none tb)) i in
    let one = run-with before tb middle behind i in
    let two = run-with before tb (in_order_lem order middle) behind s.turn in
    let last = lines-last before tb middle tm i behind tbm in
    let mid = lines-middle before tb middle tm i in
    let g = group-most c (reached-range before no_record in-range-none tb) in
    let ls = (book (with_records c middle) (joined behind)).lines in
    let k = given no_record before in
    let new = book_of before (in_order_lem order middle) behind in
    let shut : (run no_record_yet new).state.account.stage ≡ 2 = rw (two, s.account) (rw (e, one) at ok.closed) in
    let shut₀ : (run no_record_yet (book_of before middle behind)).state.account.stage ≡ 2 = rw e at ok.closed in
    let st : (run no_record_yet new).state ≡ (run no_record_yet (book_of before middle behind)).state = rw (one, two, s.account) refl in
    rw e
    (record {
      accepted = record { closed = shut; all = rw (two, s.account) (rw (e, one) at ok.all) };
      state = st;
      subtotals =
          rw (one, two, s.account)
          (around (in_order_lem order middle) c c.heading k ls g s.turn ∙ sym (around middle c c.heading k ls g i));
      total = total-line new shut ∙ ap (λ (s : State). total_of s.account) st ∙ sym (total-line (book_of before middle behind) shut₀);
      lines = rw (one, lines-before before tb, mid, last) refl;
      each = mid ∙ map_same (line_in c.heading) (line_under (heading_before before)) (line-is before tb) middle;
      same = rw (two, s.account, lines-before before tb, mid, last, map-order (line_in c.heading) order middle) refl;
    })

-- A book is accepted, and its records are some, then details of one heading or before any, then others. Put the details in any other order: the
-- book is still accepted, the records before and behind give the lines that they gave, subtotals and total among them, and each of the details
-- gives the line that it gave, in its new place.
pub any_order : (xs : List ℕ) (before middle behind : List (List ℕ)) (order : List ℕ)
    → Accepted xs → records_of xs ≡ before ++ (middle ++ behind) → Details middle
    → InAnyOrder xs before middle behind order
unfolding run
any_order xs before middle behind order ok e d =
    let m = made xs ok.closed ok.all in
    let b : xs ≡ joined (records_of xs) = m.bytes in
    let t = taken (records_of xs) no_record m.whole (rw b at ok.closed) (rw b at ok.all) in
    in-any-order xs before middle behind order ok (b ∙ ap joined e) (rw e at t) d
