-- Details: what a detail does only adds, and whether it is refused goes by its heading, the count of records and what is used under it; so
-- two neighbours may change places.
-- Assumes nothing.
use Prim.Native.Nat.{ℕ, ◌+◌, ◌≤◌, ◌<◌}
use mathlib.Core.Path.{◌≡◌, refl, sym, ap, ◌∙◌, subst}
use mathlib.Core.List.{List, [], ◌∷◌}
use mathlib.Core.Bool.{Bool, true, false, ◌&&◌, not}
use native.Mathlib.Omega.{arith}
use borrow.Author.Tests.{leb-false, lt-leb, eqb-false, ne_eqb}
use lib.Dec.{eqb}
use Rattle.base.specs.Choice.{pick}
use Rattle.base.proofs.Tests.{no_bool, not-true, not-false, and_l, and_r, or_l, or_r}
use Rattle.codec.specs.Table.{last_row}
use Rattle.grams.specs.Units.{grams_n2o, plus_co2, grams_grazed}
use Rattle.grams.specs.declared.units.Co2.{Co2}
use Rattle.grams.proofs.Carbon.{plus_comm, plus_assoc}
use Rattle.account.specs.declared.Account.{Account}
use Rattle.account.specs.declared.Figures.{Figures}
use Rattle.account.specs.declared.Heading.{Heading}
use Rattle.account.specs.declared.Subtotal.{Subtotal}
use Rattle.account.specs.declared.sort.Sort.{Sort}
use Rattle.account.specs.Sorts.{sort_of, by_sort}
use Rattle.account.specs.Figures.{added, grouped, figures_of}
use Rattle.account.specs.Line.{line_of}
use Rattle.account.specs.Range.{UsedMost}
use Rattle.account.specs.Account.{with_detail, used_after}
use Rattle.account.specs.Judge.{record_row, values_of, heading_serves, in_place_lem, parts_wrong}
use Rattle.account.specs.Judge.{NotRefused, Step, accepted, judge}
use Rattle.account.proofs.Sorts.{by-sort, other-kind}
use Rattle.account.proofs.Refusals.{none-refuses}
use Rattle.account.proofs.UsedUp.{Fits, used-swap, fits-within, within-fits, within-before}

-- a kind of details, of the group or of the farm
abbrev pub DetailKind : ℕ → Type 0
DetailKind k = by_sort (sort_of k) false false true true false ≡ true

-- ---- a record that is not refused

pub judge-accepted : (a : Account) (r : List ℕ) → NotRefused a r → judge a r ≡ accepted a (record_row r) (values_of r)
unfolding judge
judge-accepted a r t = rw (none-refuses a r t) refl

-- it counts
pub judge-counts : (a : Account) (r : List ℕ) → NotRefused a r → (judge a r).account.records ≡ a.records + 1
unfolding accepted
judge-counts a r t =
    rw (judge-accepted a r t)
    (by-sort (λ (s : Step). s.account.records ≡ a.records + 1) (sort_of (record_row r)) (λ e. refl) (λ e. refl) (λ e. refl) (λ e. refl) (λ e. refl))

-- ---- what a detail does

-- it counts in the subtotal
abbrev counts : Sort → Bool
counts s = by_sort s false false true false false

abbrev figures_in : Heading → List ℕ → Figures
figures_in h r = figures_of h (record_row r) (values_of r)

-- the account with the detail r
abbrev pub with_record : Account → List ℕ → Account
with_record a r =
    with_detail a (used_after a.used (record_row r) (values_of r))
    (pick (counts (sort_of (record_row r))) (grouped a.subtotal (figures_in a.heading r)) a.subtotal)
    (figures_in a.heading r)

-- a detail that is not refused adds its days and figures, and gives its line
pub judge-detail : (a : Account) (r : List ℕ) → DetailKind (record_row r) → NotRefused a r
    → judge a r ≡ record { account = with_record a r; lines = line_of a.heading (record_row r) (values_of r) ∷ [] }
unfolding accepted
judge-detail a r d t =
    judge-accepted a r t
    ∙ by-sort (λ (s : Step). s ≡ record { account = with_record a r; lines = line_of a.heading (record_row r) (values_of r) ∷ [] }) (sort_of (record_row r))
    (λ e. no_bool (rw e at d)) (λ e. no_bool (rw e at d)) (λ e. rw e refl) (λ e. rw e refl) (λ e. no_bool (rw e at d))

-- ---- what is added may be added in either order

plus-swap : (x m n : ℕ) → x + m + n ≡ x + n + m
plus-swap x m n = omega arith

co2-swap : (x m n : Co2) → plus_co2 (plus_co2 x m) n ≡ plus_co2 (plus_co2 x n) m
co2-swap x m n = plus_assoc x m n ∙ ap (plus_co2 x) (plus_comm m n) ∙ sym (plus_assoc x n m)

figures-same : {ch4 ch4' n2o n2o' excreted excreted' land land' grazing grazing' : ℕ} {co2 co2' : Co2}
    → ch4 ≡ ch4' → n2o ≡ n2o' → co2 ≡ co2' → excreted ≡ excreted' → land ≡ land' → grazing ≡ grazing'
    → ◌≡◌ {A = Figures} (record { ch4 = ch4; n2o = grams_n2o n2o; co2 = co2; excreted = excreted; land = land; grazing = grams_grazed grazing })
    (record { ch4 = ch4'; n2o = grams_n2o n2o'; co2 = co2'; excreted = excreted'; land = land'; grazing = grams_grazed grazing' })
figures-same p q r s t u = rw (p, q, r, s, t, u) refl

added-swap : (s f g : Figures) → added (added s f) g ≡ added (added s g) f
added-swap s f g =
    figures-same (plus-swap s.ch4 f.ch4 g.ch4) (plus-swap s.n2o.0 f.n2o.0 g.n2o.0) (co2-swap s.co2 f.co2 g.co2)
    (plus-swap s.excreted f.excreted g.excreted) (plus-swap s.land f.land g.land)
    (plus-swap s.grazing.0 f.grazing.0 g.grazing.0)

subtotal-same : {ch4 ch4' n2o n2o' excreted excreted' land land' : ℕ} → ch4 ≡ ch4' → n2o ≡ n2o' → excreted ≡ excreted' → land ≡ land'
    → ◌≡◌ {A = Subtotal} (record { ch4 = ch4; n2o = grams_n2o n2o; excreted = excreted; land = land })
    (record { ch4 = ch4'; n2o = grams_n2o n2o'; excreted = excreted'; land = land' })
subtotal-same p q r s = rw (p, q, r, s) refl

grouped-swap : (s : Subtotal) (f g : Figures) → grouped (grouped s f) g ≡ grouped (grouped s g) f
grouped-swap s f g =
    subtotal-same (plus-swap s.ch4 f.ch4 g.ch4) (plus-swap s.n2o.0 f.n2o.0 g.n2o.0)
    (plus-swap s.excreted f.excreted g.excreted) (plus-swap s.land f.land g.land)

subtotal-swap : (b c : Bool) (s : Subtotal) (f g : Figures)
    → pick c (grouped (pick b (grouped s f) s) g) (pick b (grouped s f) s) ≡ pick b (grouped (pick c (grouped s g) s) f) (pick c (grouped s g) s)
subtotal-swap true true s f g = grouped-swap s f g
subtotal-swap true false s f g = refl
subtotal-swap false true s f g = refl
subtotal-swap false false s f g = refl

-- two details give the same account in either order
pub same-account : (a : Account) (r s : List ℕ) → with_record (with_record a r) s ≡ with_record (with_record a s) r
same-account a r s =
    rw (
      used-swap a.used (record_row r) (record_row s) (values_of r) (values_of s),
      subtotal-swap (counts (sort_of (record_row r))) (counts (sort_of (record_row s))) a.subtotal (figures_in a.heading r) (figures_in a.heading s),
      added-swap a.sums (figures_in a.heading r) (figures_in a.heading s),
    ) refl

-- ---- what is used under a heading, each within its bound

abbrev pub Within : Account → Type 0
Within a = UsedMost a.used

-- ---- a detail that is accepted after some records is accepted after others

-- what acceptance says of the account
record Found (a : Account) (r : List ℕ) : Type 0 where
  room : a.records < 4096
  begun : 1 ≤ a.records
  serves : heading_serves a.heading.class (record_row r) ≡ true
  fits : Fits a.used (record_row r) (values_of r)

-- in its place: the heading serves, and there is a record before it
in_place : (a : Account) (k : ℕ) → DetailKind k → in_place_lem a k ≡ heading_serves a.heading.class k && not (eqb a.records 0)
unfolding in_place_lem sort_of
in_place a k d = rw (other-kind k 1 d refl, other-kind k last_row d refl) refl

found : (a : Account) (r : List ℕ) → DetailKind (record_row r) → NotRefused a r → Found a r
found a r d t =
    let place = rw (in_place a (record_row r) d) at (not-false (in_place_lem a (record_row r)) t.values.place) in
    let some : a.records ≡ 0 → ⊥ = eqb-false _ _ (not-true _ (and_r (heading_serves a.heading.class (record_row r)) _ place)) in
    record {
      room = leb-false _ _ t.values.room;
      begun = omega arith;
      serves = and_l (heading_serves a.heading.class (record_row r)) _ place;
      fits = record { days = t.values.days; grazed = or_r (parts_wrong (record_row r) (values_of r)) _ t.values.together };
    }

-- under the same heading, with room for one record more, where it fits
accepted-too : (a b : Account) (r : List ℕ) → DetailKind (record_row r) → b.heading ≡ a.heading → 1 ≤ b.records → b.records < 4096
    → NotRefused a r → Fits b.used (record_row r) (values_of r) → NotRefused b r
unfolding sort_of
accepted-too a b r d h begun room t f =
    let some : b.records ≡ 0 → ⊥ = λ z. omega (arith, z) in
    record {
      version = t.version;
      kind = t.kind;
      long = t.long;
      values = record {
        room = lt-leb _ _ room;
        place = rw (in_place b (record_row r) d, h, (found a r d t).serves, ne_eqb _ _ some) refl;
        in_range = t.values.in_range;
        rising = rw h t.values.rising;
        days = f.days;
        together = rw (or_l (parts_wrong (record_row r) (values_of r)) _ t.values.together, f.grazed) refl;
        feed = t.values.feed;
        count = rw (other-kind (record_row r) 8 d refl) refl;
      };
    }

-- what is used stays within
pub within-after : (a : Account) (r : List ℕ) → DetailKind (record_row r) → Within a → NotRefused a r → Within (with_record a r)
within-after a r d w t = fits-within a.used (record_row r) (values_of r) w (found a r d t).fits

-- ---- two neighbours change places

module _ (a : Account) (r s : List ℕ) (dr : DetailKind (record_row r)) (ds : DetailKind (record_row s)) (w : Within a)
    (tr : NotRefused a r) (ts : NotRefused (with_record a r) s) where
  -- with both of them what is used is within, in either order
  within_both : Within (with_record (with_record a s) r)
  within_both = subst Within (same-account a r s) (within-after (with_record a r) s ds (within-after a r dr w tr) ts)

  pub second-first : NotRefused a s
  second-first =
      let f = found a r dr tr in
      let b = within-before (with_record a s).used (record_row r) (values_of r) within_both in
      accepted-too (with_record a r) a s ds refl f.begun f.room ts (within-fits a.used (record_row s) (values_of s) b)

  pub first-second : NotRefused (with_record a s) r
  first-second =
      let f = found (with_record a r) s ds ts in
      accepted-too a (with_record a s) r dr refl f.begun f.room tr
      (within-fits (with_record a s).used (record_row r) (values_of r) within_both)
