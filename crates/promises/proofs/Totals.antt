-- The total line: a closed run ends with the total line of its sums; its CH4, N2O, excreted and land nitrogen, read from its bytes, are those of
-- the subtotal lines added up; and from any state in range what the farm gains is what its groups gain.
-- Assumes nothing.
use Prim.Native.Nat.{ℕ, zero, suc, ◌+◌, ◌≤◌, ◌<◌}
use mathlib.Core.Path.{◌≡◌, refl, sym, ap, ◌∙◌}
use mathlib.Core.List.{List, [], ◌∷◌, ◌++◌, map, append_assoc, append-nil}
use mathlib.Core.Logic.{⊎_elim}
use native.Mathlib.Omega.{arith}
use lib.ListN.{length, take, drop, length-drop}
use lib.Dec.{eqb}
use Rattle.base.proofs.Tests.{lt-or-ge, of-choice}
use Rattle.codec.specs.Codec.{bytes_hold, val_at}
use Rattle.line_bytes.proofs.Laid.{line-figure, total-figure}
use Rattle.grams.specs.Units.{co2_word}
use Rattle.grams.specs.declared.units.Co2.{Co2}
use Rattle.account.specs.declared.Account.{Account}
use Rattle.account.specs.declared.Figures.{Figures}
use Rattle.account.specs.declared.Subtotal.{Subtotal}
use Rattle.account.specs.Sorts.{sort_of}
use Rattle.account.specs.Figures.{no_figures, no_subtotal, listed, group_figures}
use Rattle.account.specs.Line.{line_with, subtotals, total_with, total_of}
use Rattle.account.specs.Range.{Bounded, AccountInRange}
use Rattle.account.specs.Account.{no_record}
use Rattle.account.specs.Judge.{record_row, first, refusals, Step, accepted, judge}
use Rattle.account.proofs.Sorts.{by-sort}
use Rattle.account.proofs.Keeps.{in-range-judge}
use Rattle.book.specs.declared.State.{State}
use Rattle.book.specs.Front.{Front, unfinished, bad_length, whole, need, front}
use Rattle.book.specs.State.{held_of, no_record_yet, InRange}
use Rattle.book.specs.Run.{Run, book, run}
use Rattle.book.proofs.Fronts.{meaning}
use Rattle.book.proofs.Runs.{book-ended, book-unfinished, book-bad, book-whole}
use Rattle.book.proofs.RunLeaves.{run-leaves}
use Rattle.promises.specs.Headings.{accepted_records}
use Rattle.promises.specs.Subtotals.{Group, groups_of, added_up, line_of_group, subtotal_lines}
use Rattle.promises.specs.Totals.{last_of, added_lines, EachOfGroup, Gains}
use Rattle.promises.proofs.StaysInRange.{new-in-range}
use Rattle.promises.proofs.Subtotals.{Gas, ch4, n2o, excreted, land, from-state, subtotal-lines}

-- ---- the last line

last-is : (ls : List (List ℕ)) (l : List ℕ) → last_of (ls ++ (l ∷ [])) ≡ l
unfolding last_of
last-is [] l = refl
last-is (k ∷ []) l = refl
last-is (k ∷ (m ∷ ls)) l = last-is (m ∷ ls) l

-- the lines ls end with the line l
record EndsWith (l : List ℕ) (ls : List (List ℕ)) : Type 0 where
  before : List (List ℕ)
  is : ls ≡ before ++ (l ∷ [])

put-before : (ks ls : List (List ℕ)) (l : List ℕ) → EndsWith l ls → EndsWith l (ks ++ ls)
put-before ks ls l e =
    record { before = ks ++ e.before; is = ap (λ (k : List (List ℕ)). ks ++ k) e.is ∙ sym (append_assoc ks e.before (l ∷ [])) }

-- a record that closes an open book gives the total line last
closes-with : (a : Account) (r : List ℕ) → a.stage < 2 → (judge a r).account.stage ≡ 2 → EndsWith (total_of (judge a r).account) (judge a r).lines
unfolding judge accepted
closes-with a r early =
    of-choice (λ (j : Step). j.account.stage ≡ 2 → EndsWith (total_of j.account) j.lines) (eqb (first (refusals a r)) 0)
    (λ e.
    by-sort (λ (j : Step). j.account.stage ≡ 2 → EndsWith (total_of j.account) j.lines) (sort_of (record_row r))
    (λ k q. absurd (omega (arith, q)))
    (λ k q. absurd (omega (arith, q)))
    (λ k q. absurd (omega (arith, q)))
    (λ k q. absurd (omega (arith, q)))
    (λ k q. record { before = subtotals a; is = refl }))
    (λ e q. absurd (omega (arith, q)))

abbrev Ends : Run → Type 0
Ends r = r.state.account.stage ≡ 2 → EndsWith (total_of r.state.account) r.lines

ends_at : (a : Account) (xs : List ℕ) → AccountInRange a → a.stage < 2
    → ((b : Account) (zs : List ℕ) → length zs < length xs → AccountInRange b → b.stage < 2 → Ends (book b zs))
    → (f : Front) → front xs ≡ f → Ends (book a xs)
ends_at a xs v k ih unfinished e = rw (book-unfinished a xs k e) (λ q. absurd (omega (arith, q)))
ends_at a xs v k ih bad_length e = rw (book-bad a xs k e) (λ q. absurd (omega (arith, q)))
ends_at a xs v k ih whole e =
    let m = meaning xs whole e in
    let j = judge a (take (need xs) xs) in
    let rest = drop (need xs) xs in
    let short : length rest < length xs = rw length-drop (omega arith) in
    rw (book-whole a xs k e)
    (⊎_elim
    (λ (h : j.account.stage < 2). λ q.
    put-before j.lines (book j.account rest).lines _ (ih j.account rest short (in-range-judge a (take (need xs) xs) v k) h q))
    (λ (h : 2 ≤ j.account.stage). rw (book-ended j.account rest h, append-nil) (closes-with a (take (need xs) xs) k))
    (lt-or-ge j.account.stage 2))

ends : (n : ℕ) (a : Account) (xs : List ℕ) → length xs < n → AccountInRange a → a.stage < 2 → Ends (book a xs)
ends zero a xs h v k = absurd (omega arith)
ends (suc n) a xs h v k = ends_at a xs v k (λ b zs p w i. ends n b zs (omega arith) w i) (front xs) refl

-- A run that closes the book ends with the total line of the account reached: its sums, and CO2e by its warming factors.
pub ends-with-total : (s : State) (xs : List ℕ) → InRange s → s.account.stage < 2 → (run s xs).state.account.stage ≡ 2
    → last_of (run s xs).lines ≡ total_of (run s xs).state.account
unfolding run
ends-with-total s xs v k q =
    let e = ends (suc (length (held_of s ++ xs))) s.account (held_of s ++ xs) (omega arith) v.account k q in
    ap last_of e.is ∙ last-is e.before _

-- ---- what the farm gains

-- From any state in range: where a run closes the book, the farm's CH4, N2O, excreted and land nitrogen have grown by those of the groups that end
-- in it, less what the first of them had before.
pub gains : (s : State) (xs : List ℕ) → InRange s → s.account.stage < 2 → (run s xs).state.account.stage ≡ 2
    → (let b = (run s xs).state.account in
    let gs = groups_of s.account.heading s.account.subtotal (accepted_records s xs) in
    Gains (λ (f : Figures). f.ch4) (λ (t : Subtotal). t.ch4) s.account b gs
    × (Gains (λ (f : Figures). f.n2o.0) (λ (t : Subtotal). t.n2o.0) s.account b gs
    × (Gains (λ (f : Figures). f.excreted) (λ (t : Subtotal). t.excreted) s.account b gs
    × Gains (λ (f : Figures). f.land) (λ (t : Subtotal). t.land) s.account b gs)))
gains s xs v k q =
    let g = from-state s xs v in
    (g.closed ch4 k q, (g.closed n2o k q, (g.closed excreted k q, g.closed land k q)))

-- ---- the figures in a line's bytes

-- where a figure of a group stands in a line: read from a subtotal line and from a total line it is itself, as no sum is too big for 8 bytes
record Placed (x : Gas) (at : ℕ) : Type 0 where
  line : (g : ℕ) (t : Subtotal) → x.group t < bytes_hold 8 → val_at (line_with 16 g (group_figures t)) at 8 ≡ x.group t
  total : (f : Figures) (co2e : Co2) → x.farm f < bytes_hold 8 → val_at (total_with f co2e) at 8 ≡ x.farm f
  small : (f : Figures) (records : ℕ) → Bounded f records → records ≤ 4096 → x.farm f < bytes_hold 8

ch4-placed : Placed ch4 6
unfolding bytes_hold
ch4-placed =
    record {
      line = λ g t h. line-figure (listed (group_figures t)) 0 (omega arith) h 16 g;
      total = λ f w h. total-figure (listed f) 0 (omega arith) h (co2_word w) refl;
      small = λ f r b m. omega (arith, b.ch4, m);
    }

n2o-placed : Placed n2o 14
unfolding bytes_hold
n2o-placed =
    record {
      line = λ g t h. line-figure (listed (group_figures t)) 1 (omega arith) h 16 g;
      total = λ f w h. total-figure (listed f) 1 (omega arith) h (co2_word w) refl;
      small = λ f r b m. omega (arith, b.n2o, m);
    }

excreted-placed : Placed excreted 30
unfolding bytes_hold
excreted-placed =
    record {
      line = λ g t h. line-figure (listed (group_figures t)) 3 (omega arith) h 16 g;
      total = λ f w h. total-figure (listed f) 3 (omega arith) h (co2_word w) refl;
      small = λ f r b m. omega (arith, b.excreted, m);
    }

land-placed : Placed land 38
unfolding bytes_hold
land-placed =
    record {
      line = λ g t h. line-figure (listed (group_figures t)) 4 (omega arith) h 16 g;
      total = λ f w h. total-figure (listed f) 4 (omega arith) h (co2_word w) refl;
      small = λ f r b m. omega (arith, b.land, m);
    }

-- the subtotal lines' figures added up are those of the groups, where these fit 8 bytes together
lines-of-groups : (x : Gas) (at : ℕ) → Placed x at → (gs : List Group) → added_up x.group gs < bytes_hold 8
    → added_lines at (map line_of_group gs) ≡ added_up x.group gs
unfolding added_up added_lines
lines-of-groups x at p [] h = refl
lines-of-groups x at p (g ∷ gs) h = omega (arith, p.line g.number g.subtotal (omega arith), lines-of-groups x at p gs (omega arith))

-- one figure of a whole book
from_bytes : (x : Gas) (at : ℕ) → Placed x at → x.farm no_figures ≡ 0 → (xs : List ℕ) → (run no_record_yet xs).state.account.stage ≡ 2
    → val_at (last_of (run no_record_yet xs).lines) at 8 ≡ added_lines at (subtotal_lines (run no_record_yet xs).lines)
from_bytes x at p z xs q =
    let b = (run no_record_yet xs).state.account in
    let gs = groups_of no_record.heading no_record.subtotal (accepted_records no_record_yet xs) in
    let v = (run-leaves no_record_yet xs new-in-range).range.account in
    let g : x.farm b.sums + x.group no_subtotal ≡ x.farm no_figures + added_up x.group gs =
    (from-state no_record_yet xs new-in-range).closed x (omega arith) q in
    let small : x.farm b.sums < bytes_hold 8 = p.small b.sums b.records v.sums v.started.counted.records-most in
    let e : added_up x.group gs ≡ x.farm b.sums = omega (arith, g, z, x.none) in
    let l : val_at (last_of (run no_record_yet xs).lines) at 8 ≡ x.farm b.sums =
    ap (λ (l : List ℕ). val_at l at 8) (ends-with-total no_record_yet xs new-in-range (omega arith) q) ∙ p.total b.sums _ small in
    let k : added_lines at (subtotal_lines (run no_record_yet xs).lines) ≡ added_up x.group gs =
    ap (added_lines at) (subtotal-lines no_record_yet xs new-in-range) ∙ lines-of-groups x at p gs (omega arith) in
    l ∙ sym e ∙ sym k

-- In a closed book the CH4, N2O, excreted and land nitrogen of the last line, which is the total, are those of the subtotal lines added up: each read
-- from the bytes of the lines.
pub total-is-subtotals : (xs : List ℕ) → (run no_record_yet xs).state.account.stage ≡ 2
    → EachOfGroup (λ at. val_at (last_of (run no_record_yet xs).lines) at 8 ≡ added_lines at (subtotal_lines (run no_record_yet xs).lines))
total-is-subtotals xs q = (
  from_bytes ch4 6 ch4-placed refl xs q,
  (from_bytes n2o 14 n2o-placed refl xs q, (from_bytes excreted 30 excreted-placed refl xs q, from_bytes land 38 land-placed refl xs q)),
)
