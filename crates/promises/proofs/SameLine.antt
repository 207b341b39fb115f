-- What a line may depend on: its record, and of a group's detail the last heading record before it. Nothing else.
-- Assumes nothing.
use Prim.Native.Nat.{ℕ, ◌<◌}
use mathlib.Core.Path.{◌≡◌, refl, sym, ap, ◌∙◌}
use mathlib.Core.List.{List, [], ◌∷◌, ◌++◌, append_assoc, append_cancel_left, head-eq_of_cons-eq}
use mathlib.Core.Bool.{true, false}
use native.Mathlib.Omega.{arith}
use lib.ListN.{length, drop}
use lib.Seq.{take-append_seam, drop-append_seam}
use Rattle.base.specs.Choice.{pick}
use Rattle.base.proofs.Tests.{no_bool}
use Rattle.codec.specs.Table.{table, size}
use Rattle.codec.specs.Codec.{val_at, be, values_at, bytes_of, first_bad}
use Rattle.line_bytes.specs.Lines.{line_fields, total_fields, line_bytes_lem, total_bytes}
use Rattle.grams.specs.Round.{round_div}
use Rattle.grams.specs.Cattle as cattle
use Rattle.grams.specs.Pig as pig
use Rattle.grams.specs.Farm.{energy_of, soil_of, co2e_of}
use Rattle.account.specs.declared.Account.{Account}
use Rattle.account.specs.declared.Heading.{Heading}
use Rattle.account.specs.declared.sort.Sort.{Sort}
use Rattle.account.specs.declared.sort.Sort.TheVariants.{Opens, Heads, OfGroup, OfFarm, Closes}
use Rattle.account.specs.Sorts.{sort_of, by_sort}
use Rattle.account.specs.Figures.{figures_of}
use Rattle.account.specs.Line.{joined, line_of}
use Rattle.account.specs.Range.{AccountInRange}
use Rattle.account.specs.Account.{no_record}
use Rattle.account.specs.Judge.{WholeRecord, record_row, values_of, first, in_place_lem, accepted, judge}
use Rattle.account.proofs.Sorts.{not-of-group}
use Rattle.account.proofs.Keeps.{in-range-none, in-range-judge}
use Rattle.book.specs.Front.{need, front}
use Rattle.book.specs.WholeRecords.{records_by, records_of}
use Rattle.book.specs.State.{no_record_yet}
use Rattle.book.specs.Run.{then, book_by, book, run}
use Rattle.book.proofs.Fronts.{is-whole, length-append-two, whole_append}
use Rattle.book.proofs.Runs.{book-whole, book-none}
use Rattle.promises.specs.EveryKind.{every_kind}
use Rattle.promises.specs.WholeLines.{is_detail, last_heading, heading_from}
use Rattle.promises.specs.SameLine.{last_heading_from, heading_before, Accepts, Gives, line_under, shared_heading, shared_pig, every_kind_before}
use Rattle.promises.specs.SameLine.{other_before, other_book, shared_line}
use Rattle.promises.proofs.WholeLines.{next, shaped, book_records}

-- ---- a record at the front of a book

pub book-record : (a : Account) (r ys : List ℕ) → WholeRecord r → a.stage < 2
    → book a (r ++ ys) ≡ then (judge a r).lines (book (judge a r).account ys)
book-record a r ys w early =
    let e = whole_append r ys (is-whole r (omega (arith, w.long), w.low, w.high, omega (arith, w.long))) in
    let n : need (r ++ ys) ≡ length r = rw (length-append-two r ys (omega (arith, w.long))) (sym w.long) in
    rw (n, take-append_seam r ys, drop-append_seam r ys) at (book-whole a (r ++ ys) early e)

-- ---- the last heading

heading-after : (h r : List ℕ) (s : Sort)
    → by_sort s (heading_from h) (heading_from r) (heading_from h) (heading_from h) (heading_from h)
    ≡ heading_from (pick (by_sort s false true false false false) r h)
heading-after h r Opens = refl
heading-after h r Heads = refl
heading-after h r OfGroup = refl
heading-after h r OfFarm = refl
heading-after h r Closes = refl

-- what the last heading record says is the last heading
last-is : (rs : List (List ℕ)) (h : List ℕ) → last_heading (heading_from h) rs ≡ heading_from (last_heading_from h rs)
unfolding last_heading last_heading_from
last-is [] h = refl
last-is (r ∷ rs) h =
    ap (λ (g : Heading). last_heading g rs) (heading-after h r (sort_of (record_row r)))
    ∙ last-is rs (pick (by_sort (sort_of (record_row r)) false true false false false) r h)

-- no bytes say what there is before any heading
no-heading : heading_from [] ≡ no_record.heading
unfolding table values_at
no-heading = refl

-- before any record there is none
pub heading-is : (before : List (List ℕ)) → last_heading no_record.heading before ≡ heading_from (heading_before before)
heading-is before = ap (λ (g : Heading). last_heading g before) (sym no-heading) ∙ last-is before []

-- ---- one book

-- its lines: those that the records before r give, r's, and others
record Stands (a : Account) (xs : List ℕ) (before : List (List ℕ)) (l : List ℕ) : Type 0 where
  others : List (List ℕ)
  lines : (book a xs).lines ≡ (book a (joined before)).lines ++ (l ∷ others)

stands : (before after : List (List ℕ)) (r : List ℕ) → is_detail r ≡ true
    → (a : Account) (xs : List ℕ) → AccountInRange a → book_records a xs ≡ before ++ (r ∷ after)
    → Stands a xs before (line_of (last_heading a.heading before) (record_row r) (values_of r))
unfolding last_heading
stands [] after r d a xs v q =
    let n = next a xs r after v q in
    let s = shaped a r n.grown.counted in
    record { others = (book (judge a r).account n.behind).lines; lines = n.lines ∙ rw (s.detail d, book-none a v) refl }
stands (b ∷ bs) after r d a xs v q =
    let n = next a xs b (bs ++ (r ∷ after)) v q in
    let j = judge a b in
    let s = shaped a b n.grown.counted in
    let i = stands bs after r d j.account n.behind (in-range-judge a b v n.early) n.rest in
    let l : Heading → List ℕ = λ h. line_of (last_heading h bs) (record_row r) (values_of r) in
    let e : (book a xs).lines ≡ (j.lines ++ (book j.account (joined bs)).lines) ++ (l j.account.heading ∷ i.others) =
    n.lines ∙ rw (i.lines, append_assoc) refl in
    record {
      others = i.others;
      lines =
          rw (book-record a b (joined bs) n.complete n.early)
          (e ∙ ap (λ (h : Heading). (j.lines ++ (book j.account (joined bs)).lines) ++ (l h ∷ i.others)) s.heading);
    }

-- A detail record that a book accepts gives a line: that of its own values under the last heading record before it,
pub gives_line : (xs : List ℕ) (before : List (List ℕ)) (r : List ℕ) → Accepts xs before r → is_detail r ≡ true
    → Gives xs before (line_under (heading_before before) r)
unfolding run
gives_line xs before r k d =
    let s = stands before k.after r d no_record xs in-range-none k.records in
    record {
      others = s.others;
      lines =
          s.lines ∙ ap (λ (g : Heading). (book no_record (joined before)).lines ++ (line_of g (record_row r) (values_of r) ∷ s.others)) (heading-is before);
    }

-- and no other.
pub one_line : (xs : List ℕ) (before : List (List ℕ)) (r l : List ℕ) → Accepts xs before r → is_detail r ≡ true → Gives xs before l
    → l ≡ line_under (heading_before before) r
one_line xs before r l k d g =
    head-eq_of_cons-eq (append_cancel_left (run no_record_yet (joined before)).lines _ _ (sym g.lines ∙ (gives_line xs before r k d).lines))

-- ---- two books

-- a detail of the farm has the same line under any heading
farm-line : (g h : Heading) (k : ℕ) (v : List ℕ) → sort_of k ≡ OfFarm → line_of g k v ≡ line_of h k v
unfolding figures_of
farm-line g h k v e = let n = not-of-group k e in rw (e, n.0, n.1.0, n.1.1.0, n.1.1.1) refl

same-under : (r g h : List ℕ) (s : Sort) → sort_of (record_row r) ≡ s → by_sort s false false true true false ≡ true
    → (sort_of (record_row r) ≡ OfGroup → g ≡ h) → line_under g r ≡ line_under h r
same-under r g h Opens e d q = no_bool d
same-under r g h Heads e d q = no_bool d
same-under r g h OfGroup e d q = rw (q e) refl
same-under r g h OfFarm e d q = farm-line (heading_from g) (heading_from h) (record_row r) (values_of r) e
same-under r g h Closes e d q = no_bool d

-- Two books, any bytes, each accepted up to and with the detail record r; where r is a detail of the group, the last heading records before it are
-- the same. Then its line is the same. All else is free: the other records before it and their number, the farm record with its warming set among
-- them, and whatever stands behind it.
pub same_line : (xs ys : List ℕ) (before before' : List (List ℕ)) (r l l' : List ℕ)
    → Accepts xs before r → Accepts ys before' r
    → is_detail r ≡ true → (sort_of (record_row r) ≡ OfGroup → heading_before before ≡ heading_before before')
    → Gives xs before l → Gives ys before' l' → l ≡ l'
same_line xs ys before before' r l l' k k' d h g g' =
    one_line xs before r l k d g
    ∙ same-under r (heading_before before) (heading_before before') (sort_of (record_row r)) refl d h
    ∙ sym (one_line ys before' r l' k' d g')

-- ---- the premises are met

-- The pig record is accepted in both books, behind the records before it,
pub shared-accepted : Accepts every_kind every_kind_before shared_pig × Accepts other_book other_before shared_pig
unfolding table size val_at values_at first_bad first in_place_lem accepted cattle.below_zero sort_of judge front book_by book run records_by records_of
shared-accepted = (record { after = drop 8 (records_of every_kind); records = refl }, record { after = []; records = refl })

-- it is a detail of the group, and the last heading records before it are the same:
pub shared-heading : (sort_of (record_row shared_pig) ≡ OfGroup) × ((heading_before every_kind_before ≡ shared_heading) ×
    (heading_before other_before ≡ shared_heading))
unfolding sort_of val_at front records_by records_of last_heading_from
shared-heading = (refl, (refl, refl))

-- it gives the same line in both, byte for byte.
pub shared-line : Gives every_kind every_kind_before shared_line × Gives other_book other_before shared_line
unfolding table size val_at be values_at first_bad bytes_of line_bytes_lem total_bytes line_fields total_fields round_div cattle.enteric_of cattle.below_zero cattle.manure_of pig.manure_of energy_of soil_of co2e_of figures_of first in_place_lem accepted sort_of judge front book_by book run records_by records_of
shared-line = (record { others = drop 6 (run no_record_yet every_kind).lines; lines = refl }, record { others = []; lines = refl })
