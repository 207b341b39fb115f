-- The whole line of any one detail record: its kind, the group and the figures, from the last heading record before it and its own values.
-- Assumes nothing.
use Prim.Native.Nat.{ℕ, suc, ◌+◌, ◌-◌, ◌≤◌, ◌<◌}
use mathlib.Core.Path.{◌≡◌, refl, sym, ap, ◌∙◌}
use mathlib.Core.List.{List, [], ◌∷◌, ◌++◌, append_assoc}
use mathlib.Core.Bool.{true, false, not}
use mathlib.Core.Logic.{⊎_elim}
use native.Mathlib.Omega.{arith}
use lib.ListN.{length, get_or, take, drop}
use lib.Dec.{eqb}
use Rattle.base.proofs.Tests.{and_l, and_r, lt-or-ge, no_bool, not-true, of-choice}
use Rattle.account.specs.declared.Account.{Account}
use Rattle.account.specs.declared.Heading.{Heading}
use Rattle.account.specs.declared.sort.Sort.{Sort}
use Rattle.account.specs.declared.sort.Sort.TheVariants.{Opens, Heads, OfGroup, OfFarm, Closes}
use Rattle.account.specs.Sorts.{sort_of, by_sort}
use Rattle.account.specs.Line.{line_of}
use Rattle.account.specs.Range.{AccountInRange}
use Rattle.account.specs.Judge.{WholeRecord, record_row, values_of, first, refusals, Step, accepted, judge}
use Rattle.account.proofs.Sorts.{by-sort}
use Rattle.account.proofs.Keeps.{in-range-judge}
use Rattle.book.specs.declared.State.{State}
use Rattle.book.specs.Front.{Front, unfinished, bad_length, whole, need, front}
use Rattle.book.specs.WholeRecords.{records_of}
use Rattle.book.specs.State.{held_of, InRange}
use Rattle.book.specs.Run.{book, run}
use Rattle.book.proofs.WholeRecords.{records-whole}
use Rattle.book.proofs.RecordRuns.{record-whole}
use Rattle.book.proofs.Runs.{book-ended, book-unfinished, book-bad, book-whole}
use Rattle.promises.specs.Headings.{last_group, marks_of, accepted_records}
use Rattle.promises.specs.Subtotals.{heading_after}
use Rattle.promises.specs.WholeLines.{is_detail, last_heading, is_heading, heading_from, no_heading, Among}
use Rattle.promises.proofs.Headings.{Grown, Stopped, judged, marked, map-append}

-- ---- what one record does

-- it leaves the heading that the records make, and a detail gives its line alone
pub record Shaped (a : Account) (r : List ℕ) (j : Step) : Type 0 where
  pub heading : j.account.heading ≡ heading_after a.heading r
  pub detail : is_detail r ≡ true → j.lines ≡ line_of a.heading (record_row r) (values_of r) ∷ []

pub shaped : (a : Account) (r : List ℕ) → (judge a r).account.records ≡ a.records + 1 → Shaped a r (judge a r)
unfolding judge accepted
shaped a r =
    of-choice (λ (j : Step). j.account.records ≡ a.records + 1 → Shaped a r j) (eqb (first (refusals a r)) 0)
    (λ e.
    by-sort (λ (j : Step). j.account.records ≡ a.records + 1 → Shaped a r j) (sort_of (record_row r))
    (λ k n. record { heading = rw k refl; detail = λ q. no_bool (rw k at q) })
    (λ k n. record { heading = rw k refl; detail = λ q. no_bool (rw k at q) })
    (λ k n. record { heading = rw k refl; detail = λ q. refl })
    (λ k n. record { heading = rw k refl; detail = λ q. refl })
    (λ k n. record { heading = rw k refl; detail = λ q. no_bool (rw k at q) }))
    (λ e n. absurd (omega (arith, n)))

-- ---- the first of the records accepted

-- the records that a book of xs after the account a accepts
abbrev pub book_records : Account → List ℕ → List (List ℕ)
book_records a xs = take ((book a xs).state.account.records - a.records) (records_of xs)

-- r is the first of them, and those behind it are rs
pub record Next (a : Account) (xs r : List ℕ) (rs : List (List ℕ)) : Type 0 where
  pub early : a.stage < 2
  pub complete : WholeRecord r
  pub grown : Grown a r (judge a r)
  pub behind : List ℕ
  pub rest : book_records (judge a r).account behind ≡ rs
  pub lines : (book a xs).lines ≡ (judge a r).lines ++ (book (judge a r).account behind).lines

none_first : (n m : ℕ) (ls : List (List ℕ)) (r : List ℕ) (rs : List (List ℕ)) → n ≡ m → take (n - m) ls ≡ r ∷ rs → ⊥
none_first n m ls r rs e q =
    let z : n - m ≡ 0 = omega arith in
    let l : length (take 0 ls) ≡ length (r ∷ rs) = ap length (rw z at q) in
    omega (arith, l)

next-at : (a : Account) (xs r : List ℕ) (rs : List (List ℕ)) → AccountInRange a → a.stage < 2 → book_records a xs ≡ r ∷ rs
    → (f : Front) → front xs ≡ f → Next a xs r rs
next-at a xs r rs v k q unfinished e = absurd (none_first a.records a.records (records_of xs) r rs refl (rw (book-unfinished a xs k e) at q))
next-at a xs r rs v k q bad_length e = absurd (none_first a.records a.records (records_of xs) r rs refl (rw (book-bad a xs k e) at q))
next-at a xs r rs v k q whole e =
    let x : List ℕ = take (need xs) xs in
    let j = judge a x in
    let behind : List ℕ = drop (need xs) xs in
    let b = book j.account behind in
    ⊎_elim
    (λ (s : Stopped a j).
    let d : take (j.account.records - a.records) (records_of xs) ≡ r ∷ rs =
    rw (book-whole a xs k e, book-ended j.account behind (omega (arith, s.stage))) at q in
    absurd (none_first j.account.records a.records (records_of xs) r rs s.counted d))
    (λ (g : Grown a x j).
    let m = marked (suc (length behind)) j.account behind (omega arith) (in-range-judge a x v k) in
    let n : b.state.account.records - a.records ≡ suc (b.state.account.records - j.account.records) = omega (arith, g.counted, m.grows) in
    let d : x ∷ book_records j.account behind ≡ r ∷ rs = rw (book-whole a xs k e, n, records-whole xs e) at q in
    let h : x ≡ r = ap (λ (l : List (List ℕ)). get_or l 0 []) d in
    let t : book_records j.account behind ≡ rs = ap (λ (l : List (List ℕ)). drop 1 l) d in
    rw (← h) (record {
      early = k;
      complete = record-whole xs (need xs) e refl;
      grown = g;
      behind = behind;
      rest = t;
      lines = rw (book-whole a xs k e) refl;
    }))
    (judged a x v)

pub next : (a : Account) (xs r : List ℕ) (rs : List (List ℕ)) → AccountInRange a → book_records a xs ≡ r ∷ rs → Next a xs r rs
next a xs r rs v q =
    ⊎_elim (λ (k : a.stage < 2). next-at a xs r rs v k q (front xs) refl)
    (λ (k : 2 ≤ a.stage). absurd (none_first a.records a.records (records_of xs) r rs refl (rw (book-ended a xs k) at q)))
    (lt-or-ge a.stage 2)

-- ---- at any one record

among : (before after : List (List ℕ)) (r : List ℕ) → is_detail r ≡ true
    → (a : Account) (xs : List ℕ) → AccountInRange a → book_records a xs ≡ before ++ (r ∷ after)
    → Among (marks_of a.heading.group before) (line_of (last_heading a.heading before) (record_row r) (values_of r)) (book a xs).lines
unfolding marks_of last_heading
among [] after r d a xs v q =
    let n = next a xs r after v q in
    let s = shaped a r n.grown.counted in
    record { before = []; behind = (book (judge a r).account n.behind).lines; bear = refl; are = n.lines ∙ rw (s.detail d) refl }
among (b ∷ bs) after r d a xs v q =
    let n = next a xs b (bs ++ (r ∷ after)) v q in
    let j = judge a b in
    let s = shaped a b n.grown.counted in
    let i = among bs after r d j.account n.behind (in-range-judge a b v n.early) n.rest in
    let g : j.account.heading.group ≡ last_group a.heading.group (b ∷ []) = n.grown.group in
    let h : j.account.heading ≡ heading_after a.heading b = s.heading in
    let e : (book a xs).lines ≡ (j.lines ++ i.before) ++ (line_of (last_heading j.account.heading bs) (record_row r) (values_of r) ∷ i.behind) =
    n.lines ∙ rw (i.are, append_assoc) refl in
    record {
      before = j.lines ++ i.before;
      behind = i.behind;
      bear = map-append j.lines i.before ∙ rw (n.grown.marks, i.bear, g) refl;
      are = e ∙ ap (λ (h : Heading). (j.lines ++ i.before) ++ (line_of (last_heading h bs) (record_row r) (values_of r) ∷ i.behind)) h;
    }

-- Where the records that a run accepts are some, then a detail r, then others: among its lines, right behind those that the first ones bear, stands
-- the line of r, made of the last heading among the first ones (the state's where there is none) and r's values alone.
pub line-of-record : (s : State) (xs : List ℕ) → InRange s → (before after : List (List ℕ)) (r : List ℕ)
    → accepted_records s xs ≡ before ++ (r ∷ after) → is_detail r ≡ true
    → Among (marks_of s.account.heading.group before)
    (line_of (last_heading s.account.heading before) (record_row r) (values_of r))
    (run s xs).lines
unfolding run
line-of-record s xs v before after r e d = among before after r d s.account (held_of s ++ xs) v.account e

-- ---- under the last heading record before it

-- records among which is no heading leave the heading
stays : (h : Heading) (rs : List (List ℕ)) → no_heading rs ≡ true → last_heading h rs ≡ h
unfolding last_heading no_heading
stays h [] n = refl
stays h (r ∷ rs) n =
    let a : is_heading r ≡ false = not-true (is_heading r) (and_l (not (is_heading r)) (no_heading rs) n) in
    let e : heading_after h r ≡ h = other-stays (sort_of (record_row r)) h (heading_from r) a in
    ap (λ (g : Heading). last_heading g rs) e ∙ stays h rs (and_r (not (is_heading r)) (no_heading rs) n)
  where
    other-stays : (s : Sort) (g new : Heading) → by_sort s false true false false false ≡ false → by_sort s g new g g g ≡ g
    other-stays Opens g new e = refl
    other-stays Heads g new e = no_bool (sym e)
    other-stays OfGroup g new e = refl
    other-stays OfFarm g new e = refl
    other-stays Closes g new e = refl

-- a heading record brings its own
brings : (s : Sort) (g new : Heading) → by_sort s false true false false false ≡ true → by_sort s g new g g g ≡ new
brings Opens g new e = no_bool e
brings Heads g new e = refl
brings OfGroup g new e = no_bool e
brings OfFarm g new e = no_bool e
brings Closes g new e = no_bool e

last-is : (before between : List (List ℕ)) (l : List ℕ) (h : Heading) → is_heading l ≡ true → no_heading between ≡ true
    → last_heading h (before ++ (l ∷ between)) ≡ heading_from l
unfolding last_heading
last-is [] between l h e n =
    ap (λ (g : Heading). last_heading g between) (brings (sort_of (record_row l)) h (heading_from l) e) ∙ stays (heading_from l) between n
last-is (b ∷ before) between l h e n = last-is before between l (heading_after h b) e n

-- Where they are some, then a heading record l, then some without a heading, then a detail r, then others, r's line is made of l's group, class and
-- head and of r's values alone.
pub line-under-heading : (s : State) (xs : List ℕ) → InRange s → (before between after : List (List ℕ)) (l r : List ℕ)
    → accepted_records s xs ≡ (before ++ (l ∷ between)) ++ (r ∷ after) → is_heading l ≡ true → no_heading between ≡ true → is_detail r ≡ true
    → Among (marks_of s.account.heading.group (before ++ (l ∷ between))) (line_of (heading_from l) (record_row r) (values_of r)) (run s xs).lines
line-under-heading s xs v before between after l r e q n d =
    rw (last-is before between l s.account.heading q n) at (line-of-record s xs v (before ++ (l ∷ between)) after r e d)
