-- What a record keeps: the ranges of an account, whatever the record does, and the length of its lines.
-- Assumes nothing.
use Prim.Native.Nat.{ℕ, zero, suc, ◌+◌, ◌≤◌, ◌<◌}
use mathlib.Core.Path.{◌≡◌, refl}
use mathlib.Core.List.{List, [], ◌∷◌, ◌++◌, append-nil}
use mathlib.Core.Bool.{Bool, true, false, ◌&&◌, not}
use native.Mathlib.Omega.{arith}
use borrow.Author.Tests.{leb-true, eqb-true, eqb-false, eq-eqb, ne_eqb}
use lib.ListN.{length, get_or}
use lib.Dec.{eqb, leb}
use Rattle.base.specs.Choice.{pick}
use Rattle.base.proofs.Tests.{and_l, and_r, or_l, or_r, not-false, not-true, of-choice}
use Rattle.codec.proofs.EachKind.{row-of-kind}
use Rattle.codec.specs.declared.Field.{Field}
use Rattle.codec.specs.Table.{table, fields, is_row}
use Rattle.codec.specs.Codec.{first_bad}
use Rattle.codec.proofs.Within.{bad-position}
use Rattle.line_bytes.specs.Lines.{line_size, total_size, lines_most}
use Rattle.account.specs.declared.Account.{Account}
use Rattle.account.specs.declared.Farm.{Farm}
use Rattle.account.specs.declared.Figures.{Figures}
use Rattle.account.specs.declared.Heading.{Heading}
use Rattle.account.specs.declared.Subtotal.{Subtotal}
use Rattle.account.specs.declared.Used.{Used}
use Rattle.account.specs.declared.sort.Sort.TheVariants.{Heads, OfGroup, OfFarm}
use Rattle.account.specs.Sorts.{is_farm, sort_of}
use Rattle.account.specs.Figures.{figures_of, grouped, group_figures}
use Rattle.account.specs.Line.{joined, line_with, line_of, subtotals, total_of}
use Rattle.account.specs.Range.{FarmIn, UsedMost, Under, AccountInRange}
use Rattle.account.specs.Account.{no_record, refused, opened, under_heading, with_detail, closed}
use Rattle.account.specs.Judge.{version_of, kind_byte, record_row, values_of}
use Rattle.account.specs.Account.{farm_of, used_after}
use Rattle.account.specs.Judge.{heading_serves, in_place_lem, parts_wrong, refusals, with_line}
use Rattle.account.specs.Judge.{first, ValuesPass, Step, accepted, judge}
use Rattle.account.specs.Told.{Small}
use Rattle.account.proofs.Sorts.{by-sort, sort-farm, heads-two, not-of-group}
use Rattle.account.proofs.Sums.{bounded-none, bounded-next, bounded-added, grouped-added}
use Rattle.account.proofs.FarmSet.{farm-opened}
use Rattle.account.proofs.Started.{started_none, started-refused, started-opened, started-next, started-closed}
use Rattle.account.proofs.UsedUp.{fits-within}
use Rattle.account.proofs.Under.{under-nothing, under_next, under-headed, under_more}
use Rattle.account.proofs.Ended.{ended-none, ended-refused, ended-on}
use Rattle.account.proofs.Refusals.{passed, not-refused, refused-by, number-most}
use Rattle.account.proofs.Ranges.{heading-in}
use Rattle.account.proofs.Details.{DetailKind}
use Rattle.account.proofs.EachFigure.{figures-small}
use Rattle.account.proofs.Told.{head-most, used-most, line-long, total-long, both_long}

-- ---- an account in range

pub stage-most : (a : Account) → AccountInRange a → a.stage ≤ 3
stage-most a f = f.started.counted.stage-most

pub in-range-none : AccountInRange no_record
in-range-none = record { started = started_none; sums = bounded-none 0; under = under-nothing; ended = ended-none }

in-range-refused : (a : Account) (code field : ℕ) → AccountInRange a → 1 ≤ code → code ≤ 12 → field ≤ 12 → (code ≡ 7 → 1 ≤ field)
    → ((code ≡ 7 → ⊥) → field ≡ 0) → AccountInRange (refused a code field)
in-range-refused a code field f low high most some none =
    record {
      started = started-refused f.started;
      sums = f.sums;
      under = f.under;
      ended = ended-refused code field a.records low high most some none;
    }

-- a length outside 4..26
pub in-range-length : (a : Account) → AccountInRange a → AccountInRange (refused a 1 0)
in-range-length a f = in-range-refused a 1 0 f (omega arith) (omega arith) (omega arith) (λ e. absurd (omega arith)) (λ n. refl)

-- ---- the refusals of a whole record

-- no kind has more than 12 fields
unfoldable all_short : List (List Field) → Bool
all_short [] = true
all_short (r ∷ t) = leb (length r) 12 && all_short t

short-at : (t : List (List Field)) (k : ℕ) → all_short t ≡ true → length (get_or t k []) ≤ 12
unfolding all_short
short-at [] k s = omega arith
short-at (r ∷ t) zero s = leb-true _ _ (and_l _ _ s)
short-at (r ∷ t) (suc k) s = short-at t k (and_r (leb (length r) 12) _ s)

pub row-short : (k : ℕ) → length (fields k) ≤ 12
unfolding table all_short
row-short k = short-at table k refl

-- 7 is the number only where a field is out of range
seven-field : (a : Account) (r : List ℕ) → first (refusals a r) ≡ 7 → first_bad (fields (record_row r)) (values_of r) 0 ≡ 0 → ⊥
seven-field a r e = eqb-false _ _ (not-true _ ((refused-by a r 7 (omega arith) e).values.in_range.1 refl))

-- ---- an account after a record that is not refused

abbrev Kept : Step → Type 0
Kept s = AccountInRange s.account

-- a heading that serves a detail of the group has a class
class-least : (k class : ℕ) → sort_of k ≡ OfGroup → heading_serves class k ≡ true → 1 ≤ class
class-least k class e s = go (eqb k 5) (rw e at s)
  where
    go : (b : Bool) → pick b (eqb class 4) (leb 1 class && leb class 3) ≡ true → 1 ≤ class
    go true t = let four = eqb-true class 4 t in omega arith
    go false t = leb-true _ _ (and_l _ _ t)

module _ (a : Account) (f : AccountInRange a) (early : a.stage < 2) where
  in-range-opened : (farm : Farm) → FarmIn farm (a.records + 1) → a.records ≡ 0 → AccountInRange (opened a farm)
  in-range-opened farm i none =
      record {
        started = started-opened a.records farm i none;
        sums = bounded-next f.sums;
        under = under_next f.under;
        ended = ended-on f.ended early _ _ (omega arith);
      }

  -- a record that is not the first: its heading serves, and there is a record before it
  placed : (k : ℕ) (v : List ℕ) → ValuesPass a k v → is_farm k ≡ false → heading_serves a.heading.class k && not (eqb a.records 0) ≡ true
  unfolding in_place_lem
  placed k v c e = rw e at (passed a k v c).place

  after_first : (k : ℕ) (v : List ℕ) → ValuesPass a k v → is_farm k ≡ false → 1 ≤ a.records
  after_first k v c e =
      let n : a.records ≡ 0 → ⊥ = eqb-false _ _ (not-true _ (and_r (heading_serves a.heading.class k) _ (placed k v c e))) in
      omega arith

  -- from the second record on
  module _ (begun : 1 ≤ a.records) (room : a.records < 4096) where
    in-range-heading : (h : Heading) → 1 ≤ h.group → h.group ≤ 65535 → 1 ≤ h.class → h.class ≤ 4 → h.head ≤ 20000
        → AccountInRange (under_heading a h.group h.class h.head)
    in-range-heading h g1 g2 c1 c2 most =
        record {
          started = started-next f.started begun room early;
          sums = bounded-next f.sums;
          under = under-headed h a.records g1 g2 c1 c2 most begun;
          ended = ended-on f.ended early _ _ (omega arith);
        }

    in-range-closed : AccountInRange (closed a)
    in-range-closed =
        record {
          started = started-closed f.started begun room;
          sums = bounded-next f.sums;
          under = under_next f.under;
          ended = ended-on f.ended early _ _ (omega arith);
        }

    in-range-detail : (u : Used) (t : Subtotal) (g : Figures) → Small g → Under a.heading u t (a.records + 1)
        → AccountInRange (with_detail a u t g)
    in-range-detail u t g small under =
        record {
          started = started-next f.started begun room early;
          sums = bounded-added f.sums small;
          under = under;
          ended = ended-on f.ended early _ _ (omega arith);
        }

    -- ---- a detail, by its sort

    module _ (k : ℕ) (v : List ℕ) (c : ValuesPass a k v) (row : is_row k ≡ true) where
      detail-small : DetailKind k → Small (figures_of a.heading k v)
      detail-small d = figures-small a.heading v (head-most a f) k row d (passed a k v c).ranges (or_l _ _ c.together)

      used-with : UsedMost (used_after a.used k v)
      used-with = fits-within a.used k v (used-most a f) (record { days = c.days; grazed = or_r (parts_wrong k v) _ c.together })

      -- under a heading the subtotal takes the figures too
      detail-of-group : sort_of k ≡ OfGroup → Kept (with_line a k v (grouped a.subtotal (figures_of a.heading k v)))
      detail-of-group e =
          let class = class-least k _ e (and_l (heading_serves a.heading.class k) _ (placed k v c (rw e at (sort-farm k)))) in
          let small = detail-small (rw e refl) in
          in-range-detail _ _ _ small (under_more f.under _ _ class used-with (grouped-added f.under.grouped small))

      -- without one it stays
      detail-of-farm : sort_of k ≡ OfFarm → Kept (with_line a k v a.subtotal)
      detail-of-farm e =
          let q = not-of-group k e in
          rw (q.0, q.1.0, q.1.1.0, q.1.1.1) (in-range-detail _ _ _ (detail-small (rw e refl)) (under_next f.under))

  -- ---- by its sort

  kept-opens : (k : ℕ) (v : List ℕ) → ValuesPass a k v → is_farm k ≡ true → AccountInRange (opened a (farm_of k v))
  unfolding in_place_lem
  kept-opens k v c e =
      let empty = eqb-true _ _ (rw e at (passed a k v c).place) in
      in-range-opened (farm_of k v) (farm-opened k v (a.records + 1) (omega arith) (passed a k v c).ranges) empty

  kept-heading : (k : ℕ) (v : List ℕ) → ValuesPass a k v → sort_of k ≡ Heads → AccountInRange (under_heading a (get_or v 0 0) (get_or v 1 0) (get_or v 2 0))
  kept-heading k v c e =
      let i = heading-in v (rw (heads-two k e) at (passed a k v c).ranges) in
      in-range-heading (after_first k v c (rw e at (sort-farm k))) (passed a k v c).room
      (record { group = get_or v 0 0; class = get_or v 1 0; head = get_or v 2 0 }) i.group-least i.group-most i.class-least i.class-most
      i.head-most

  pub in-range-accepted : (k : ℕ) (v : List ℕ) → ValuesPass a k v → is_row k ≡ true → Kept (accepted a k v)
  unfolding accepted
  in-range-accepted k v c row =
      let begun : is_farm k ≡ false → 1 ≤ a.records = after_first k v c in
      let room = (passed a k v c).room in
      by-sort Kept (sort_of k) (λ e. kept-opens k v c (rw e at (sort-farm k))) (λ e. kept-heading k v c e)
      (λ e. detail-of-group (begun (rw e at (sort-farm k))) room k v c row e) (λ e. detail-of-farm (begun (rw e at (sort-farm k))) room k v c row e)
      (λ e. in-range-closed (begun (rw e at (sort-farm k))) room)

-- ---- a whole record

field_of : (c x : ℕ) → x ≤ 12 → pick (eqb c 7) x 0 ≤ 12
field_of c x h = of-choice (λ (n : ℕ). n ≤ 12) (eqb c 7) (λ e. h) (λ e. omega arith)

pub in-range-judge : (a : Account) (r : List ℕ) → AccountInRange a → a.stage < 2 → AccountInRange (judge a r).account
unfolding judge
in-range-judge a r f early =
    let code = first (refusals a r) in
    let bad = first_bad (fields (record_row r)) (values_of r) 0 in
    let short : bad ≤ 12 = omega (arith, bad-position (fields (record_row r)) (values_of r) 0, row-short (record_row r)) in
    of-choice Kept (eqb code 0)
    (λ e. let t = not-refused a r (eqb-true _ _ e) in
    in-range-accepted a f early (record_row r) (values_of r) t.values (row-of-kind (version_of r) (kind_byte r) (not-false _ t.kind)))
    (λ e.
    let some : code ≡ 0 → ⊥ = eqb-false _ _ e in
    in-range-refused a code (pick (eqb code 7) bad 0) f (omega arith) (number-most a r) (field_of code bad short)
    (λ q. let z = seven-field a r q in rw (eq-eqb _ _ q) (omega arith))
    (λ n. rw (ne_eqb _ _ n)))

-- ---- the length of its lines

abbrev ShortLines : Step → Type 0
ShortLines s = length (joined s.lines) ≤ lines_most

one_line : (l : List ℕ) (n : ℕ) → length l ≡ n → n ≤ lines_most → length (l ++ []) ≤ lines_most
one_line l n e h = rw (append-nil, e) h

-- a subtotal and the total are within the most
ends-short : (a : Account) → (length (joined (subtotals a)) ≤ lines_most) × (length (joined (subtotals a ++ (total_of a ∷ []))) ≤ lines_most)
ends-short a = go (eqb a.heading.group 0)
  where
    go : (b : Bool)
        → (length (joined (pick b [] (line_with 16 a.heading.group (group_figures a.subtotal) ∷ []))) ≤ lines_most)
        × (length (joined (pick b [] (line_with 16 a.heading.group (group_figures a.subtotal) ∷ []) ++ (total_of a ∷ []))) ≤ lines_most)
    go true = (omega arith, one_line (total_of a) total_size (total-long _ _) (omega arith))
    go false = (
      one_line (line_with 16 a.heading.group (group_figures a.subtotal)) line_size (line-long _ _ _) (omega arith),
      rw (append-nil, both_long _ _ _ _ _) (omega arith),
    )

pub judge-short : (a : Account) (r : List ℕ) → length (joined (judge a r).lines) ≤ lines_most
unfolding judge accepted
judge-short a r =
    of-choice ShortLines (eqb (first (refusals a r)) 0)
    (λ e. by-sort ShortLines (sort_of (record_row r)) (λ e. omega arith) (λ e. (ends-short a).0)
    (λ e. one_line (line_of a.heading (record_row r) (values_of r)) line_size (line-long _ _ _) (omega arith))
    (λ e. one_line (line_of a.heading (record_row r) (values_of r)) line_size (line-long _ _ _) (omega arith)) (λ e. (ends-short a).1))
    (λ e. omega arith)
