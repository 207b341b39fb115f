-- Headings: every line of a detail of the group bears the group of the last heading record before it; the state's, where held bytes and run
-- complete none before it.
-- Assumes nothing.
use Prim.Native.Nat.{ℕ, zero, suc, ◌+◌, ◌-◌, ◌*◌, ◌/◌, ◌%◌, ◌≤◌, ◌<◌}
use mathlib.Core.Path.{◌≡◌, refl, ap, ◌∙◌}
use mathlib.Core.List.{List, [], ◌∷◌, ◌++◌, map, append_assoc}
use mathlib.Core.Bool.{Bool, true, false}
use mathlib.Core.Logic.{◌⊎◌, inl, inr, ⊎_elim}
use native.Mathlib.Omega.{arith}
use borrow.Author.Tests.{eqb-true}
use lib.ListN.{length, get_or, take, drop, length-drop}
use lib.Dec.{eqb}
use Rattle.base.specs.Choice.{pick}
use Rattle.base.proofs.Tests.{lt-or-ge, not-false, of-choice}
use Rattle.codec.proofs.EachKind.{row-most, row-of-kind}
use Rattle.codec.specs.Table.{table, is_row}
use Rattle.codec.specs.Codec.{val_at, be, values_at, bytes_of}
use Rattle.line_bytes.specs.Lines.{line_fields, total_fields, line_bytes_lem, total_bytes}
use Rattle.account.specs.declared.Account.{Account}
use Rattle.account.specs.declared.sort.Sort.TheVariants.{Heads, OfGroup}
use Rattle.account.specs.Sorts.{sort_of}
use Rattle.account.specs.Line.{line_with, subtotals, total_of}
use Rattle.account.specs.Figures.{group_figures}
use Rattle.account.specs.Range.{AccountInRange}
use Rattle.account.specs.Account.{under_heading}
use Rattle.account.specs.Judge.{version_of, kind_byte, record_row, values_of, first, refusals, Step, accepted, judge}
use Rattle.account.proofs.Sorts.{by-sort, heads-two}
use Rattle.account.proofs.Refusals.{not-refused}
use Rattle.account.proofs.Under.{group-in}
use Rattle.account.proofs.Keeps.{in-range-judge}
use Rattle.book.specs.declared.State.{State}
use Rattle.book.specs.Front.{Front, unfinished, bad_length, whole, need, front}
use Rattle.book.specs.WholeRecords.{records_of}
use Rattle.book.specs.State.{held_of, InRange}
use Rattle.book.specs.Run.{Run, book, run}
use Rattle.book.proofs.Fronts.{meaning}
use Rattle.book.proofs.WholeRecords.{records-whole}
use Rattle.book.proofs.Runs.{book-ended, book-unfinished, book-bad, book-whole}
use Rattle.promises.specs.Headings.{accepted_records, group_by, last_group, Mark, mark_of, subtotal_mark, own_mark, marks_of}

-- ---- what a line bears

both-same : (k k' g g' : ℕ) → k ≡ k' → g ≡ g' → ◌≡◌ {A = Mark} (record { kind = k; group = g }) (record { kind = k'; group = g' })
both-same k k' g g' p q = rw (p, q)

pub line-mark : (k g : ℕ) (figures : List ℕ) → k < 256 → g < 65536 → mark_of (line_bytes_lem k g figures) ≡ record { kind = k; group = g }
unfolding line_bytes_lem line_fields bytes_of be val_at
line-mark k g figures p q =
    both-same (0 + k % 256) k ((0 + g / 256 % 256) * 256 + g % 256) g (omega arith) (omega arith)

pub total-mark : (sums : List ℕ) (co2e : ℕ) → mark_of (total_bytes sums co2e) ≡ record { kind = 8; group = 0 }
unfolding total_bytes total_fields bytes_of be val_at
total-mark sums co2e = refl

pub map-append : (xs ys : List (List ℕ)) → map mark_of (xs ++ ys) ≡ map mark_of xs ++ map mark_of ys
map-append [] ys = refl
map-append (x ∷ xs) ys = ap (λ (l : List Mark). mark_of x ∷ l) (map-append xs ys)

pub group-most : (a : Account) → AccountInRange a → a.heading.group ≤ 65535
group-most a f = group-in f.under

-- ---- what one record does

-- it is accepted: one record more, its line bears what it should, and the group is that of the last heading
pub record Grown (a : Account) (r : List ℕ) (j : Step) : Type 0 where
  pub counted : j.account.records ≡ a.records + 1
  pub marks : map mark_of j.lines ≡ own_mark a.heading.group (record_row r)
  pub group : j.account.heading.group ≡ last_group a.heading.group (r ∷ [])

-- or refused: no record more, and no line
pub record Stopped (a : Account) (j : Step) : Type 0 where
  pub stage : j.account.stage ≡ 3
  pub counted : j.account.records ≡ a.records
  pub none : j.lines ≡ []

module _ (a : Account) (r : List ℕ) (f : AccountInRange a) (kinds : is_row (record_row r) ≡ true) where
  small-kind : record_row r < 256
  small-kind = omega (arith, row-most (record_row r) kinds)

  -- the subtotal of the group that ends
  group-marks : map mark_of (subtotals a) ≡ subtotal_mark a.heading.group
  group-marks = go (eqb a.heading.group 0)
    where
      go : (b : Bool)
          → map mark_of (pick b [] (line_with 16 a.heading.group (group_figures a.subtotal) ∷ [])) ≡ pick b []
          (record { kind = 16; group = a.heading.group } ∷ [])
      go true = refl
      go false = ap (λ (m : Mark). m ∷ []) (line-mark _ _ _ (omega arith) (omega (arith, group-most a f)))

  -- a heading's first value is its group
  first-value : record_row r ≡ 2 → get_or (values_of r) 0 0 ≡ val_at r 4 2
  unfolding table values_at
  first-value k = rw k refl

  new-heading : sort_of (record_row r) ≡ Heads
      → Grown a r (record { account = under_heading a (get_or (values_of r) 0 0) (get_or (values_of r) 1 0) (get_or (values_of r) 2 0); lines = subtotals a })
  unfolding table values_at last_group
  new-heading e = let k = heads-two (record_row r) e in record { counted = refl; marks = group-marks ∙ rw e refl; group = rw e (first-value k) }

  close-marks : map mark_of (subtotals a ++ (total_of a ∷ [])) ≡ subtotal_mark a.heading.group ++ (record { kind = 8; group = 0 } ∷ [])
  close-marks =
      map-append (subtotals a) (total_of a ∷ []) ∙ rw group-marks (ap (λ (m : Mark). subtotal_mark a.heading.group ++ (m ∷ []))
      (total-mark _ _))

  grown : Grown a r (accepted a (record_row r) (values_of r))
  unfolding accepted last_group
  grown =
      by-sort (Grown a r) (sort_of (record_row r))
      (λ e. record { counted = refl; marks = rw e refl; group = rw e refl })
      new-heading
      (λ e. record {
        counted = refl;
        marks = rw e (ap (λ (m : Mark). m ∷ []) (line-mark _ _ _ small-kind (omega (arith, group-most a f))));
        group = rw e refl;
      })
      (λ e. record {
        counted = refl;
        marks = rw e (ap (λ (m : Mark). m ∷ []) (line-mark _ _ _ small-kind (omega arith)));
        group = rw e refl;
      })
      (λ e. record { counted = refl; marks = close-marks ∙ rw e refl; group = rw e refl })

pub kind-in : (a : Account) (r : List ℕ) → first (refusals a r) ≡ 0 → is_row (record_row r) ≡ true
kind-in a r e = row-of-kind (version_of r) (kind_byte r) (not-false _ (not-refused a r e).kind)

pub judged : (a : Account) (r : List ℕ) → AccountInRange a → Stopped a (judge a r) ⊎ Grown a r (judge a r)
unfolding judge
judged a r f =
    of-choice (λ (j : Step). Stopped a j ⊎ Grown a r j) (eqb (first (refusals a r)) 0)
    (λ e. inr (grown a r f (kind-in a r (eqb-true _ _ e))))
    (λ e. inl (record { stage = refl; counted = refl; none = refl }))

-- ---- a run of records

-- the lines of a run bear what those of the records accepted should
pub record Marked (a : Account) (xs : List ℕ) (r : Run) : Type 0 where
  pub grows : a.records ≤ r.state.account.records
  pub marks : map mark_of r.lines ≡ marks_of a.heading.group (take (r.state.account.records - a.records) (records_of xs))

-- nothing accepted, no line
none-marked : (a : Account) (xs : List ℕ) (r : Run) → r.state.account.records ≡ a.records → r.lines ≡ [] → Marked a xs r
unfolding marks_of
none-marked a xs r e n =
    let z : r.state.account.records - a.records ≡ 0 = omega arith in
    record { grows = omega arith; marks = rw (n, z) refl }

-- one accepted, and then those behind it
one-marked : (a : Account) (xs : List ℕ) (j : Step) (b : Run) → front xs ≡ whole → Grown a (take (need xs) xs) j
    → Marked j.account (drop (need xs) xs) b
    → Marked a xs (record { state = b.state; lines = j.lines ++ b.lines; left = b.left })
unfolding marks_of
one-marked a xs j b e g m =
    let n : b.state.account.records - a.records ≡ suc (b.state.account.records - j.account.records) = omega (arith, g.counted, m.grows) in
    record {
      grows = omega (arith, g.counted, m.grows);
      marks = rw (map-append, g.marks, m.marks, g.group, n, records-whole xs e) refl;
    }

marked-at : (a : Account) (xs : List ℕ) → AccountInRange a → a.stage < 2
    → ((t : Account) (zs : List ℕ) → length zs < length xs → AccountInRange t → Marked t zs (book t zs))
    → (f : Front) → front xs ≡ f → Marked a xs (book a xs)
marked-at a xs v k ih unfinished e = rw (book-unfinished a xs k e) (none-marked a xs _ refl refl)
marked-at a xs v k ih bad_length e = rw (book-bad a xs k e) (none-marked a xs _ refl refl)
marked-at a xs v k ih whole e =
    let m = meaning xs whole e in
    let j = judge a (take (need xs) xs) in
    let rest = drop (need xs) xs in
    let short : length rest < length xs = rw length-drop (omega arith) in
    rw (book-whole a xs k e)
    (⊎_elim
    (λ (s : Stopped a j).
    let c = s.counted in
    rw (book-ended j.account rest (omega (arith, s.stage)), s.none) (none-marked a xs _ c refl))
    (λ (g : Grown a (take (need xs) xs) j). one-marked a xs j (book j.account rest) e g
    (ih j.account rest short (in-range-judge a (take (need xs) xs) v k)))
    (judged a (take (need xs) xs) v))

pub marked : (n : ℕ) (a : Account) (xs : List ℕ) → length xs < n → AccountInRange a → Marked a xs (book a xs)
marked zero a xs h v = absurd (omega arith)
marked (suc n) a xs h v =
    ⊎_elim
    (λ (k : a.stage < 2). marked-at a xs v k (λ t zs p w. marked n t zs (omega arith) w) (front xs) refl)
    (λ (k : 2 ≤ a.stage). rw (book-ended a xs k) (none-marked a xs _ refl refl))
    (lt-or-ge a.stage 2)

-- Line by line: the lines of a run bear the kinds of the records accepted, and the groups of the last headings before them, beginning
-- with the group of the state.
pub headings : (s : State) (xs : List ℕ) → InRange s → map mark_of (run s xs).lines ≡ marks_of s.account.heading.group (accepted_records s xs)
unfolding run
headings s xs v = (marked (suc (length (held_of s ++ xs))) s.account (held_of s ++ xs) (omega arith) v.account).marks

-- ---- at any one record

marks-append : (g : ℕ) (xs ys : List (List ℕ)) → marks_of g (xs ++ ys) ≡ marks_of g xs ++ marks_of (last_group g xs) ys
unfolding marks_of last_group
marks-append g [] ys = refl
marks-append g (x ∷ xs) ys = rw (marks-append (group_by g x) xs ys, append_assoc)

under-heading : (g : ℕ) (r : List ℕ) (rs : List (List ℕ)) → sort_of (record_row r) ≡ OfGroup
    → marks_of g (r ∷ rs) ≡ record { kind = record_row r; group = g } ∷ marks_of g rs
unfolding marks_of last_group
under-heading g r rs e = rw e refl

-- Every ration and manure line bears the last group heading before it: where the records accepted are some, then r, a detail of a group, then
-- others, the lines are those of the first ones, then one of r's kind with the group of the last heading among the first ones (the
-- state's where there is none), then those of the others.
pub bears-last-heading : (s : State) (xs : List ℕ) → InRange s → (before after : List (List ℕ)) (r : List ℕ)
    → accepted_records s xs ≡ before ++ (r ∷ after) → sort_of (record_row r) ≡ OfGroup
    → map mark_of (run s xs).lines
    ≡ marks_of s.account.heading.group before
    ++ (record { kind = record_row r; group = last_group s.account.heading.group before }
    ∷ marks_of (last_group s.account.heading.group before) after)
bears-last-heading s xs v before after r e q =
    headings s xs v
    ∙ rw (
      e,
      marks-append s.account.heading.group before (r ∷ after),
      under-heading (last_group s.account.heading.group before) r after q,
    ) refl
