-- Subtotals: the lines of kind 16 are those of the groups that the records make; the sums are the farm's figures; and in a closed book the
-- farm's CH4, N2O, excreted and land nitrogen are the groups' subtotals added up.
-- Assumes nothing.
use Prim.Native.Nat.{ℕ, zero, suc, ◌+◌, ◌-◌, ◌≤◌, ◌<◌}
use mathlib.Core.Path.{◌≡◌, refl, sym, ap, ◌∙◌}
use mathlib.Core.List.{List, [], ◌∷◌, ◌++◌, map, append-nil}
use mathlib.Core.Bool.{Bool, true, false}
use mathlib.Core.Logic.{◌⊎◌, inl, inr, ⊎_elim}
use native.Mathlib.Omega.{arith}
use borrow.Author.Tests.{eqb-true, ne_eqb}
use lib.ListN.{length, take, drop, length-drop}
use lib.Dec.{eqb}
use Rattle.base.specs.Choice.{pick}
use Rattle.base.proofs.Tests.{lt-or-ge, no_bool, of-choice, true-or-false}
use Rattle.codec.proofs.EachKind.{row-most}
use Rattle.codec.specs.Table.{is_row}
use Rattle.codec.specs.Codec.{val_at}
use Rattle.account.specs.declared.Account.{Account}
use Rattle.account.specs.declared.Figures.{Figures}
use Rattle.account.specs.declared.Subtotal.{Subtotal}
use Rattle.account.specs.declared.sort.Sort.{Sort}
use Rattle.account.specs.declared.sort.Sort.TheVariants.{Opens, Heads, OfGroup, OfFarm, Closes}
use Rattle.account.specs.Sorts.{sort_of, by_sort}
use Rattle.account.specs.Figures.{no_figures, no_subtotal, added, grouped, group_figures}
use Rattle.account.specs.Line.{line_with, subtotals, total_of}
use Rattle.account.specs.Range.{Ungrouped, AccountInRange}
use Rattle.account.specs.Judge.{record_row, values_of, first, refusals, Step, accepted, judge}
use Rattle.account.proofs.Sorts.{by-sort}
use Rattle.account.proofs.EachFigure.{NotOfGroup, of-farm}
use Rattle.account.proofs.Keeps.{in-range-judge}
use Rattle.book.specs.declared.State.{State}
use Rattle.book.specs.Front.{Front, unfinished, bad_length, whole, need, front}
use Rattle.book.specs.WholeRecords.{records_of}
use Rattle.book.specs.State.{held_of, no_record_yet, InRange}
use Rattle.book.specs.Run.{Run, book, run}
use Rattle.book.proofs.Fronts.{meaning}
use Rattle.book.proofs.WholeRecords.{records-whole}
use Rattle.promises.proofs.StaysInRange.{new-in-range}
use Rattle.book.proofs.Runs.{book-ended, book-unfinished, book-bad, book-whole}
use Rattle.promises.specs.Headings.{Mark, accepted_records}
use Rattle.promises.specs.Subtotals.{detail_of, heading_after, group_after, farm_after, Group, group_under, ends, groups_of, farm_of, farm, groups}
use Rattle.promises.specs.Subtotals.{added_up, line_of_group, subtotal_lines}
use Rattle.promises.proofs.Headings.{line-mark, total-mark, group-most, kind-in}

-- ---- lines of kind 16

pub lines-append : (ls ms : List (List ℕ)) → subtotal_lines (ls ++ ms) ≡ subtotal_lines ls ++ subtotal_lines ms
unfolding subtotal_lines
lines-append [] ms = refl
lines-append (l ∷ ls) ms = go (eqb (val_at l 3 1) 16) (lines-append ls ms)
  where
    go : (b : Bool) → subtotal_lines (ls ++ ms) ≡ subtotal_lines ls ++ subtotal_lines ms
        → pick b (l ∷ subtotal_lines (ls ++ ms)) (subtotal_lines (ls ++ ms)) ≡ pick b (l ∷ subtotal_lines ls) (subtotal_lines ls) ++ subtotal_lines ms
    go true e = ap (λ (k : List (List ℕ)). l ∷ k) e
    go false e = e

-- a line of another kind is none
other-line : (l : List ℕ) (k : ℕ) → val_at l 3 1 ≡ k → (k ≡ 16 → ⊥) → subtotal_lines (l ∷ []) ≡ []
unfolding subtotal_lines
other-line l k e n = rw (e, ne_eqb k 16 n) refl

own_line : (l : List ℕ) → val_at l 3 1 ≡ 16 → subtotal_lines (l ∷ []) ≡ l ∷ []
unfolding subtotal_lines
own_line l e = rw e refl

line-kind : (k g : ℕ) (f : Figures) → k < 256 → g < 65536 → val_at (line_with k g f) 3 1 ≡ k
line-kind k g f p q = ap (λ (m : Mark). m.kind) (line-mark k g _ p q)

-- ---- what one record does

-- one of the four figures that a group has too
pub record Gas : Type 0 where
  pub farm : Figures → ℕ
  pub group : Subtotal → ℕ
  pub adds : (f g : Figures) → farm (added f g) ≡ farm f + farm g
  pub groups : (s : Subtotal) (f : Figures) → group (grouped s f) ≡ group s + farm f
  pub none : group no_subtotal ≡ 0
  pub other : (f : Figures) → NotOfGroup f → farm f ≡ 0
  pub ungrouped : (s : Subtotal) → Ungrouped s → group s ≡ 0

-- whether a record closes the book
abbrev closing : List ℕ → Bool
closing r = by_sort (sort_of (record_row r)) false false false false true

-- it is accepted, with the kind k: heading, subtotal, sums and subtotal lines are those that the records make
record Made (a : Account) (r : List ℕ) (j : Step) : Type 0 where
  counted : j.account.records ≡ a.records + 1
  heading : j.account.heading ≡ heading_after a.heading r
  subtotal : j.account.subtotal ≡ group_after a.heading a.subtotal r
  sums : j.account.sums ≡ farm_after a.heading a.sums r
  lines : subtotal_lines j.lines ≡ map line_of_group (ends a.heading a.subtotal r)
  still : a.stage < 2 → closing r ≡ false → j.account.stage < 2
  shut : closing r ≡ true → j.account.stage ≡ 2

module _ (a : Account) (r : List ℕ) (f : AccountInRange a) (kinds : is_row (record_row r) ≡ true) where
  -- the subtotal of the group that ends
  ending : subtotal_lines (subtotals a) ≡ map line_of_group (group_under a.heading a.subtotal)
  unfolding subtotal_lines
  ending = go (eqb a.heading.group 0)
    where
      go : (b : Bool)
          → subtotal_lines (pick b [] (line_with 16 a.heading.group (group_figures a.subtotal) ∷ []))
          ≡ map line_of_group (pick b [] (record { number = a.heading.group; subtotal = a.subtotal } ∷ []))
      go true = refl
      go false =
          own_line (line_with 16 a.heading.group (group_figures a.subtotal))
          (line-kind 16 a.heading.group _ (omega arith) (omega (arith, group-most a f)))

  -- a detail gives no subtotal line
  detail-line : (g : ℕ) → g < 65536 → subtotal_lines (line_with (record_row r) g (detail_of a.heading r) ∷ []) ≡ []
  detail-line g b =
      let most = row-most (record_row r) kinds in
      other-line (line_with (record_row r) g (detail_of a.heading r)) (record_row r) (line-kind (record_row r) _ _ (omega arith) b)
      (λ q. omega (arith, q, most))

  total-line : subtotal_lines (total_of a ∷ []) ≡ []
  total-line = other-line (total_of a) 8 (ap (λ (m : Mark). m.kind) (total-mark _ _)) (λ q. omega (arith, q))

  made : Made a r (accepted a (record_row r) (values_of r))
  unfolding accepted subtotal_lines
  made =
      by-sort (Made a r) (sort_of (record_row r))
      (λ e. record {
        counted = refl;
        heading = rw e refl;
        subtotal = rw e refl;
        sums = rw e refl;
        lines = rw e refl;
        still = λ h n. omega arith;
        shut = λ q. no_bool (rw e at q);
      })
      (λ e. record {
        counted = refl;
        heading = rw e refl;
        subtotal = rw e refl;
        sums = rw e refl;
        lines = ending ∙ rw e refl;
        still = λ h n. h;
        shut = λ q. no_bool (rw e at q);
      })
      (λ e. record {
        counted = refl;
        heading = rw e refl;
        subtotal = rw e refl;
        sums = rw e refl;
        lines = rw e (detail-line a.heading.group (omega (arith, group-most a f)));
        still = λ h n. h;
        shut = λ q. no_bool (rw e at q);
      })
      (λ e. record {
        counted = refl;
        heading = rw e refl;
        subtotal = rw e refl;
        sums = rw e refl;
        lines = rw e (detail-line 0 (omega arith));
        still = λ h n. h;
        shut = λ q. no_bool (rw e at q);
      })
      (λ e. record {
        counted = refl;
        heading = rw e refl;
        subtotal = rw e refl;
        sums = rw e refl;
        lines = lines-append (subtotals a) (total_of a ∷ []) ∙ rw (total-line, append-nil, e) ending;
        still = λ h n. no_bool (sym n ∙ rw e refl);
        shut = λ q. refl;
      })

-- ---- a run of records

-- what the records accepted make, beginning with the account a
pub record Summed (a : Account) (rs : List (List ℕ)) (r : Run) : Type 0 where
  pub sums : r.state.account.sums ≡ farm_of a.heading a.sums rs
  pub lines : subtotal_lines r.lines ≡ map line_of_group (groups_of a.heading a.subtotal rs)
  pub closed : (x : Gas) → a.stage < 2 → r.state.account.stage ≡ 2
      → x.farm r.state.account.sums + x.group a.subtotal ≡ x.farm a.sums + added_up x.group (groups_of a.heading a.subtotal rs)

record Grows (a : Account) (xs : List ℕ) (r : Run) : Type 0 where
  grows : a.records ≤ r.state.account.records
  summed : Summed a (take (r.state.account.records - a.records) (records_of xs)) r

map-append : (gs hs : List Group) → map line_of_group (gs ++ hs) ≡ map line_of_group gs ++ map line_of_group hs
map-append [] hs = refl
map-append (g ∷ gs) hs = ap (λ (l : List (List ℕ)). line_of_group g ∷ l) (map-append gs hs)

added-append : (one : Subtotal → ℕ) (gs hs : List Group) → added_up one (gs ++ hs) ≡ added_up one gs + added_up one hs
unfolding added_up
added-append one [] hs = omega arith
added-append one (g ∷ gs) hs = omega (arith, added-append one gs hs)

-- nothing accepted, and the book not closed
none-summed : (a : Account) (xs : List ℕ) (r : Run) → r.state.account.records ≡ a.records → r.state.account.sums ≡ a.sums → r.lines ≡ []
    → (a.stage < 2 → r.state.account.stage ≡ 2 → ⊥) → Grows a xs r
unfolding farm_of groups_of subtotal_lines
none-summed a xs r e s n c =
    let z : r.state.account.records - a.records ≡ 0 = omega arith in
    record { grows = omega arith; summed = rw z (record { sums = s; lines = rw n refl; closed = λ x early q. absurd (c early q) }) }

-- what the group that r ends has, where there is one; none has nothing
ended-group : (a : Account) → AccountInRange a → (x : Gas) → added_up x.group (group_under a.heading a.subtotal) ≡ x.group a.subtotal
unfolding added_up
ended-group a f x = go (eqb a.heading.group 0) refl
  where
    go : (b : Bool) → eqb a.heading.group 0 ≡ b
        → added_up x.group (pick b [] (record { number = a.heading.group; subtotal = a.subtotal } ∷ [])) ≡ x.group a.subtotal
    go true e = sym (x.ungrouped a.subtotal (f.under.ungrouped (eqb-true _ _ e)))
    go false e = omega arith

-- the balance of one record that does not close the book: what the farm gains is what its groups gain
module _ (a : Account) (r : List ℕ) (f : AccountInRange a) (x : Gas) where
  -- a detail of the farm gives none of a group's figures
  air-alone : sort_of (record_row r) ≡ OfFarm → x.farm (detail_of a.heading r) ≡ 0
  air-alone e = x.other _ (of-farm a.heading (record_row r) (values_of r) e)

  abbrev Balanced : Sort → Type 0
  Balanced s =
      x.farm (by_sort s a.sums a.sums (added a.sums (detail_of a.heading r)) (added a.sums (detail_of a.heading r)) a.sums) + x.group a.subtotal
      ≡ x.farm a.sums + added_up x.group (by_sort s [] (group_under a.heading a.subtotal) [] [] (group_under a.heading a.subtotal))
      + x.group (by_sort s a.subtotal no_subtotal (grouped a.subtotal (detail_of a.heading r)) a.subtotal a.subtotal)

  balance-by : (s : Sort) → sort_of (record_row r) ≡ s → by_sort s false false false false true ≡ false → Balanced s
  unfolding added_up
  balance-by Opens e n = omega arith
  balance-by Heads e n = omega (arith, ended-group a f x, x.none)
  balance-by OfGroup e n = omega (arith, x.adds a.sums (detail_of a.heading r), x.groups a.subtotal (detail_of a.heading r))
  balance-by OfFarm e n = omega (arith, x.adds a.sums (detail_of a.heading r), air-alone e)
  balance-by Closes e n = no_bool (sym n)

  balance : closing r ≡ false
      → x.farm (farm_after a.heading a.sums r) + x.group a.subtotal
      ≡ x.farm a.sums + added_up x.group (ends a.heading a.subtotal r) + x.group (group_after a.heading a.subtotal r)
  balance n = balance-by (sort_of (record_row r)) refl n

-- only the close closes
closes_by : (s : Sort) → by_sort s false false false false true ≡ true → s ≡ Closes
closes_by Opens e = no_bool e
closes_by Heads e = no_bool e
closes_by OfGroup e = no_bool e
closes_by OfFarm e = no_bool e
closes_by Closes e = refl

-- one record accepted, and then those behind it
module _ (a : Account) (xs : List ℕ) (j : Step) (b : Run) (f : AccountInRange a) (early : a.stage < 2) (e : front xs ≡ whole)
    (m : Made a (take (need xs) xs) j)
    (g : Grows j.account (drop (need xs) xs) b) (shut : j.account.stage ≡ 2 → b.state.account ≡ j.account) where
  abbrev r : List ℕ
  r = take (need xs) xs

  abbrev rs : List (List ℕ)
  rs = take (b.state.account.records - j.account.records) (records_of (drop (need xs) xs))

  one_more : b.state.account.records - a.records ≡ suc (b.state.account.records - j.account.records)
  one_more = omega (arith, m.counted, g.grows)

  -- what is behind it, from what it makes
  behind : groups_of j.account.heading j.account.subtotal rs ≡ groups_of (heading_after a.heading r)
      (group_after a.heading a.subtotal r) rs
  behind = rw (m.heading, m.subtotal) refl

  open-balance : (x : Gas) → closing r ≡ false → b.state.account.stage ≡ 2
      → x.farm b.state.account.sums + x.group a.subtotal ≡ x.farm a.sums + added_up x.group
      (ends a.heading a.subtotal r ++ groups_of (heading_after a.heading r) (group_after a.heading a.subtotal r) rs)
  open-balance x e8 q =
      let i = g.summed.closed x (m.still early e8) q in
      let c : x.farm j.account.sums + x.group a.subtotal ≡ x.farm a.sums + added_up x.group
      (ends a.heading a.subtotal r) + x.group j.account.subtotal =
      rw (m.sums, m.subtotal) (balance a r f x e8) in
      rw (
        added-append x.group (ends a.heading a.subtotal r) (groups_of (heading_after a.heading r)
            (group_after a.heading a.subtotal r) rs),
        ← behind,
      ) (omega arith)

  closing-balance : (x : Gas) → closing r ≡ true
      → x.farm b.state.account.sums + x.group a.subtotal ≡ x.farm a.sums + added_up x.group
      (ends a.heading a.subtotal r ++ groups_of (heading_after a.heading r) (group_after a.heading a.subtotal r) rs)
  unfolding groups_of
  closing-balance x e8 =
      let k = closes_by (sort_of (record_row r)) e8 in
      let same = shut (m.shut e8) in
      let z : b.state.account.records - j.account.records ≡ 0 = omega (arith, ap (λ (c : Account). c.records) same) in
      let sums : b.state.account.sums ≡ a.sums = ap (λ (c : Account). c.sums) same ∙ m.sums ∙ rw k refl in
      rw (sums, z, append-nil, k) (omega (arith, ended-group a f x))

  one-summed : Grows a xs (record { state = b.state; lines = j.lines ++ b.lines; left = b.left })
  unfolding farm_of groups_of
  one-summed =
      record {
        grows = omega (arith, m.counted, g.grows);
        summed =
            rw (one_more, records-whole xs e)
            (record {
              sums = rw (m.heading, m.sums) at g.summed.sums;
              lines =
                  lines-append j.lines b.lines ∙ rw (m.lines, g.summed.lines, behind, map-append (ends a.heading a.subtotal r)) refl;
              closed =
                  λ x h q. ⊎_elim (λ (e : closing r ≡ true). closing-balance x e) (λ (e : closing r ≡ false). open-balance x e q)
                  (true-or-false (closing r));
            });
      }

-- refused: nothing more, and no line
record Stopped (a : Account) (j : Step) : Type 0 where
  stage : j.account.stage ≡ 3
  counted : j.account.records ≡ a.records
  sums : j.account.sums ≡ a.sums
  none : j.lines ≡ []

judged : (a : Account) (r : List ℕ) → AccountInRange a → Stopped a (judge a r) ⊎ Made a r (judge a r)
unfolding judge
judged a r f =
    of-choice (λ (j : Step). Stopped a j ⊎ Made a r j) (eqb (first (refusals a r)) 0)
    (λ e. inr (made a r f (kind-in a r (eqb-true _ _ e))))
    (λ e. inl (record { stage = refl; counted = refl; sums = refl; none = refl }))

-- the sums after a record that is counted
pub sums-after : (a : Account) (r : List ℕ) → AccountInRange a → (judge a r).account.records ≡ a.records + 1
    → (judge a r).account.sums ≡ farm_after a.heading a.sums r
sums-after a r f n =
    ⊎_elim (λ (s : Stopped a (judge a r)). absurd (omega (arith, n, s.counted))) (λ (m : Made a r (judge a r)). m.sums) (judged a r f)

summed_at : (a : Account) (xs : List ℕ) → AccountInRange a → a.stage < 2
    → ((t : Account) (zs : List ℕ) → length zs < length xs → AccountInRange t → Grows t zs (book t zs))
    → (f : Front) → front xs ≡ f → Grows a xs (book a xs)
summed_at a xs v k ih unfinished e = rw (book-unfinished a xs k e) (none-summed a xs _ refl refl refl (λ h q. omega arith))
summed_at a xs v k ih bad_length e = rw (book-bad a xs k e) (none-summed a xs _ refl refl refl (λ h q. omega arith))
summed_at a xs v k ih whole e =
    let n = meaning xs whole e in
    let j = judge a (take (need xs) xs) in
    let rest = drop (need xs) xs in
    let short : length rest < length xs = rw length-drop (omega arith) in
    rw (book-whole a xs k e)
    (⊎_elim
    (λ (s : Stopped a j).
    let c = s.counted in
    let d = s.sums in
    let t = s.stage in
    rw (book-ended j.account rest (omega (arith, t)), s.none) (none-summed a xs _ c d refl (λ h q. omega (arith, t, q))))
    (λ (m : Made a (take (need xs) xs) j).
    one-summed a xs j (book j.account rest) v k e m (ih j.account rest short (in-range-judge a (take (need xs) xs) v k))
    (λ q. rw (book-ended j.account rest (omega (arith, q))) refl))
    (judged a (take (need xs) xs) v))

summed : (n : ℕ) (a : Account) (xs : List ℕ) → length xs < n → AccountInRange a → Grows a xs (book a xs)
summed zero a xs h v = absurd (omega arith)
summed (suc n) a xs h v =
    ⊎_elim
    (λ (k : a.stage < 2). summed_at a xs v k (λ t zs p w. summed n t zs (omega arith) w) (front xs) refl)
    (λ (k : 2 ≤ a.stage). rw (book-ended a xs k) (none-summed a xs _ refl refl refl (λ h q. omega arith)))
    (lt-or-ge a.stage 2)

pub from-state : (s : State) (xs : List ℕ) → InRange s → Summed s.account (accepted_records s xs) (run s xs)
unfolding run
from-state s xs v = (summed (suc (length (held_of s ++ xs))) s.account (held_of s ++ xs) (omega arith) v.account).summed

-- ---- the theorems

-- The subtotal lines of a run, in order, are those of the groups that end in the records accepted.
pub subtotal-lines : (s : State) (xs : List ℕ) → InRange s
    → subtotal_lines (run s xs).lines ≡ map line_of_group (groups_of s.account.heading s.account.subtotal (accepted_records s xs))
subtotal-lines s xs v = (from-state s xs v).lines

-- The sums of the state reached, which the total line bears, are the farm's figures.
pub sums-of-farm : (s : State) (xs : List ℕ) → InRange s
    → (run s xs).state.account.sums ≡ farm_of s.account.heading s.account.sums (accepted_records s xs)
sums-of-farm s xs v = (from-state s xs v).sums

-- the four figures that groups have
abbrev pub ch4 : Gas
ch4 =
    record {
      farm = λ (f : Figures). f.ch4;
      group = λ (s : Subtotal). s.ch4;
      adds = λ f g. refl;
      groups = λ s f. refl;
      none = refl;
      other = λ f n. n.ch4;
      ungrouped = λ s u. u.ch4;
    }

abbrev pub n2o : Gas
n2o =
    record {
      farm = λ (f : Figures). f.n2o.0;
      group = λ (s : Subtotal). s.n2o.0;
      adds = λ f g. refl;
      groups = λ s f. refl;
      none = refl;
      other = λ f n. n.n2o;
      ungrouped = λ s u. u.n2o;
    }

abbrev pub excreted : Gas
excreted =
    record {
      farm = λ (f : Figures). f.excreted;
      group = λ (s : Subtotal). s.excreted;
      adds = λ f g. refl;
      groups = λ s f. refl;
      none = refl;
      other = λ f n. n.excreted;
      ungrouped = λ s u. u.excreted;
    }

abbrev pub land : Gas
land =
    record {
      farm = λ (f : Figures). f.land;
      group = λ (s : Subtotal). s.land;
      adds = λ f g. refl;
      groups = λ s f. refl;
      none = refl;
      other = λ f n. n.land;
      ungrouped = λ s u. u.land;
    }

whole-book : (x : Gas) (xs : List ℕ) → (run no_record_yet xs).state.account.stage ≡ 2
    → x.farm (farm xs) + x.group no_subtotal ≡ x.farm no_figures + added_up x.group (groups xs)
whole-book x xs e = rw (sums-of-farm no_record_yet xs new-in-range) at ((from-state no_record_yet xs new-in-range).closed x (omega arith) e)

-- In a closed book the farm's CH4, N2O, excreted and land nitrogen, and those of its groups' subtotals added up, are equal: each made from
-- the records.
pub farm-is-groups : (xs : List ℕ) → (run no_record_yet xs).state.account.stage ≡ 2
    → ((farm xs).ch4 ≡ added_up (λ (s : Subtotal). s.ch4) (groups xs))
    × (((farm xs).n2o.0 ≡ added_up (λ (s : Subtotal). s.n2o.0) (groups xs))
    × (((farm xs).excreted ≡ added_up (λ (s : Subtotal). s.excreted) (groups xs)) × ((farm xs).land ≡ added_up (λ (s : Subtotal). s.land) (groups xs))))
farm-is-groups xs e =
    let a = whole-book ch4 xs e in
    let b = whole-book n2o xs e in
    let c = whole-book excreted xs e in
    let d = whole-book land xs e in
    (omega (arith, a), (omega (arith, b), (omega (arith, c), omega (arith, d))))
