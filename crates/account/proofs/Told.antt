-- How the answer of a function tells what the rules say.
-- Assumes nothing.
use Prim.Native.Nat.{ℕ, ◌+◌, ◌^◌, ◌≤◌, ◌<◌}
use mathlib.Core.Path.{◌≡◌, refl, sym, ap, ◌∙◌}
use mathlib.Core.List.{List, [], ◌∷◌, ◌++◌, append-nil}
use mathlib.Core.Bool.{Bool, true, false, not}
use native.Mathlib.Omega.{arith}
use borrow.Author.Tests.{leb-false, le-leb, lt-leb, eqb-true, eq-eqb, ne_eqb}
use lib.ListN.{length, length-append}
use lib.Dec.{leb, eqb}
use Rattle.base.specs.Choice.{pick}
use Rattle.base.proofs.Tests.{not-false}
use Rattle.codec.specs.Table.{fields, length_of}
use Rattle.codec.specs.Codec.{val_at, values_at, first_bad}
use Rattle.line_bytes.specs.Lines.{line_size, total_size, lines_most}
use Rattle.line_bytes.proofs.Rows.{line-length, total-length}
use Rattle.grams.specs.Cattle.{below_zero, manure_of, CattleSmall, Nitrogen}
use Rattle.grams.specs.Pig.{Manure}
use Rattle.grams.specs.Units.{no_co2, co2_word, Co2Within}
use Rattle.grams.specs.declared.units.Co2.{Co2}
use Rattle.grams.specs.declared.units.Grazed.{Grazed}
use Rattle.grams.specs.declared.cattle.CattleRation.{CattleRation}
use Rattle.grams.specs.declared.cattle.CattleManure.{CattleManure}
use Rattle.std.specs.Prelude.{Option, None, Some}
use Rattle.grams.specs.declared.pig.PigRation.{PigRation}
use Rattle.grams.specs.declared.pig.PigManure.{PigManure}
use Rattle.account.specs.declared.Account.{Account}
use Rattle.account.specs.declared.Figures.{Figures}
use Rattle.account.specs.declared.Subtotal.{Subtotal}
use Rattle.account.specs.declared.Used.{Used}
use Rattle.account.specs.declared.Judged.{Judged}
use Rattle.account.specs.declared.line.Line.{Line}
use Rattle.account.specs.Figures.{listed, group_figures, ch4_alone, co2_alone, grazing_alone, cattle_figures, pig_figures}
use Rattle.account.specs.Line.{joined, bytes_of, line_with, total_with, co2e_in, subtotals, total_of}
use Rattle.account.specs.Range.{UsedMost, Bounded, Grouped, AccountInRange}
use Rattle.account.specs.Judge.{wrong_version, wrong_kind, judge, first, in_place_lem, not_rising, days_over, parts_wrong, grazed_over, feed_below}
use Rattle.account.specs.Judge.{wrong_count, value_refusals}
use Rattle.account.specs.Account.{refused, under_heading, with_detail, closed}
use Rattle.account.specs.Judge.{Step, accepted, weigh}
use Rattle.account.specs.Told.{Tells, TellsIn, in_room, Kind, Small, no_line_lem, quiet, refusing, detailing, heading, closing, outside_by, refusing_outside}
use Rattle.account.proofs.Sums.{ch4-small, co2-small, grazing-small, cattle-small, pig-small, bounded-more, grouped-more}
use Rattle.account.proofs.Under.{head_in, used-in}
use Rattle.account.proofs.First.{three-clear, three-first}

-- ---- an account in range, in what the arithmetic asks

pub head-most : (a : Account) → AccountInRange a → a.heading.head ≤ 20000
head-most a f = head_in f.under

pub used-most : (a : Account) → AccountInRange a → UsedMost a.used
used-most a f = used-in f.under

pub sums-most : (a : Account) → AccountInRange a → Bounded a.sums 4096
sums-most a f = bounded-more f.started.counted.records-most f.sums

pub subtotal-most : (a : Account) → AccountInRange a → Grouped a.subtotal 4096
subtotal-most a f = grouped-more f.started.counted.records-most f.under.grouped

-- ---- figures of one line

pub small-ch4 : (f : Figures) (g : ℕ) → f ≡ ch4_alone g → g ≤ 10 ^ 11 → Small f
small-ch4 f g e h = rw e (ch4-small g h)

pub small-co2 : (f : Figures) (g : Co2) → f ≡ co2_alone g → Co2Within 1 g → Small f
small-co2 f g e h = rw e (co2-small g h)

pub small-grazing : (f : Figures) (g : Grazed) → f ≡ grazing_alone g → g.0 ≤ 10 ^ 11 → Small f
small-grazing f g e h = rw e (grazing-small g h)

pub small-pig : (f : Figures) (p : PigRation) (head : ℕ) (m : PigManure) → f ≡ pig_figures m → Manure p head m → Small f
small-pig f p head m e s = rw e (pig-small m s.ch4-small s.n2o-small s.excreted-small s.land-small)

-- what the nitrogen of a cattle ration is, by its answer
module _ (r : CattleRation) (head : ℕ) (n : Option CattleManure) (w : Nitrogen r head n) where
  pub below-zero : n ≡ None → below_zero r ≡ true
  below-zero e = go (below_zero r) (sym w.exact ∙ e)
    where
      go : (b : Bool) → pick b None (Some (manure_of r head)) ≡ None → b ≡ true
      go true q = refl
      go false q = let z : ◌≡◌ {A = ℕ} 0 1 = cc in absurd (omega arith)

  module _ (m : CattleManure) (e : n ≡ Some m) where
    above_zero : (b : Bool) → pick b None (Some (manure_of r head)) ≡ Some m → (b ≡ false) × (m ≡ manure_of r head)
    above_zero true q = let z : ◌≡◌ {A = ℕ} 0 1 = cc in absurd (omega arith)
    above_zero false q = (refl, cc)

    pub not-below : below_zero r ≡ false
    not-below = (above_zero (below_zero r) (sym w.exact ∙ e)).0

    pub manure-is : m ≡ manure_of r head
    manure-is = (above_zero (below_zero r) (sym w.exact ∙ e)).1

    pub small-cattle : (f : Figures) → f ≡ cattle_figures m → Small f
    small-cattle f q =
        let s : CattleSmall (Some m) = rw e at w.small in
        rw q (cattle-small m s.1 s.0)

-- ---- answers without a line, with a detail's, with the close's

abbrev pub step : Account → List (List ℕ) → Step
step a ls = record { account = a; lines = ls }

-- how many bytes a line has, the total, and a subtotal with the total
pub line-long : (k g : ℕ) (f : Figures) → length (line_with k g f) ≡ line_size
line-long k g f = line-length k g (listed f)

pub total-long : (f : Figures) (c : Co2) → length (total_with f c) ≡ total_size
total-long f c = total-length (listed f) (co2_word c)

pub both_long : (k g : ℕ) (f h : Figures) (c : Co2) → length (line_with k g f ++ total_with h c) ≡ lines_most
both_long k g f h c = omega (arith, length-append (line_with k g f) (total_with h c), line-long k g f, total-long h c)

pub tells-quiet : (a : Account) → Tells (step a []) (quiet a)
unfolding bytes_of
tells-quiet a = record { account = refl; bytes = refl; long = refl; short = omega arith }

pub tells-detail : (a : Account) (kind group : ℕ) (u : Used) (s : Subtotal) (f : Figures)
    → Tells (step (with_detail a u s f) (line_with kind group f ∷ [])) (detailing a kind group u s f)
unfolding bytes_of
tells-detail a kind group u s f =
    record { account = refl; bytes = sym (append-nil _); long = line-long _ _ _; short = omega arith }

-- a new heading: the subtotal of the last one, where there was one
pub tells-heading : (a : Account) (group class head : ℕ) → Tells (step (under_heading a group class head) (subtotals a)) (heading a group class head)
unfolding bytes_of
tells-heading a group class head = go (eqb a.heading.group 0)
  where
    go : (b : Bool)
        → Tells (step (under_heading a group class head) (pick b [] (line_with 16 a.heading.group (group_figures a.subtotal) ∷ [])))
        (record {
          account = under_heading a group class head;
          line = pick b no_line_lem (record {
            given = line_size;
            kind = 16;
            group = a.heading.group;
            figures = group_figures a.subtotal;
            co2e = no_co2;
          });
        })
    go true = record { account = refl; bytes = refl; long = refl; short = omega arith }
    go false = record { account = refl; bytes = sym (append-nil _); long = line-long _ _ _; short = omega arith }

-- the close: the total alone, or the last group's subtotal before it
pub tells-close : (a : Account) → Tells (step (closed a) (subtotals a ++ (total_of a ∷ []))) (closing a)
unfolding bytes_of
tells-close a = go (eqb a.heading.group 0)
  where
    go : (b : Bool)
        → Tells (step (closed a) (pick b [] (line_with 16 a.heading.group (group_figures a.subtotal) ∷ []) ++ (total_of a ∷ [])))
        (record {
          account = closed a;
          line = record {
            given = pick b total_size lines_most;
            kind = 16;
            group = a.heading.group;
            figures = group_figures a.subtotal;
            co2e = co2e_in a;
          };
        })
    go true = record { account = refl; bytes = sym (append-nil _); long = total-long _ _; short = omega arith }
    go false =
        record {
          account = refl;
          bytes = ap (λ (t : List ℕ). line_with 16 a.heading.group (group_figures a.subtotal) ++ t) (sym (append-nil (total_of a)));
          long = both_long _ _ _ _ _;
          short = omega arith;
        }

-- ---- in a room

-- no line fits any room
pub quiet-in : (room : ℕ) (a b : Account) (s : Step) (r : Judged) → r ≡ quiet b → Tells s r → TellsIn room a s r
quiet-in room a b s r e t = record { whole = r; tells = t; is = rw (e, le-leb 0 room (omega arith)) refl }

-- what fits is told whole; of what does not fit the account is the one before
pub in-fit : (room : ℕ) (a : Account) (j : Judged) → j.line.given ≤ room → in_room room a j ≡ j
in-fit room a j h = rw (le-leb j.line.given room h) refl

pub in-full : (room : ℕ) (a : Account) (j : Judged) → room < j.line.given → in_room room a j ≡ record { account = a; line = j.line }
in-full room a j h = rw (lt-leb j.line.given room h) refl

-- the same of an answer by its account and its line
pub stays-full : (room : ℕ) (a : Account) (j r : Judged) (l : Line) → r ≡ record { account = a; line = l } → l ≡ j.line → room < l.given
    → r ≡ in_room room a j
stays-full room a j r l q e h =
    let h2 : room < j.line.given = rw e at h in
    q ∙ rw e (sym (in-full room a j h2))

pub fits_whole : (room : ℕ) (a : Account) (j r : Judged) → r.account ≡ j.account → r.line ≡ j.line → r.line.given ≤ room → r ≡ in_room room a j
fits_whole room a j r p e h =
    let h2 : j.line.given ≤ room = rw e at h in
    let same : r ≡ j = rw (p, e) refl in
    same ∙ sym (in-fit room a j h2)

pub told_in : (room : ℕ) (a : Account) (s : Step) (r w : Judged) → r ≡ in_room room a w → Tells s w → TellsIn room a s r
told_in room a s r w e t = record { whole = w; tells = t; is = e }

module _ {room : ℕ} {a : Account} {s : Step} {r : Judged} (t : TellsIn room a s r) where
  same_line : r.line ≡ t.whole.line
  same_line = rw t.is refl

  -- the lines fit
  pub tells-fit : r.line.given ≤ room → Tells s r
  tells-fit h =
      let h2 : t.whole.line.given ≤ room = rw same_line at h in
      let same : r ≡ t.whole = t.is ∙ in-fit room a t.whole h2 in
      rw same t.tells

  -- they do not: the account is the one before
  pub account-kept : room < r.line.given → r.account ≡ a
  account-kept h =
      let h2 : room < t.whole.line.given = rw same_line at h in
      ap (λ (j : Judged). j.account) (t.is ∙ in-full room a t.whole h2)

  -- their length is that of what the rules say, whether they fit or not
  pub lines_long : length (joined s.lines) ≡ r.line.given
  lines_long = rw same_line (rw t.tells.bytes at t.tells.long)

  pub lines-short : r.line.given ≤ lines_most
  lines-short = rw same_line t.tells.short

-- ---- the refusals of values

-- the refusals from 8 on
abbrev pub later_refusals : Account → ℕ → List ℕ → List (Bool × ℕ)
later_refusals a k v =
    (not_rising a k v, 8)
    ∷ (days_over a.used k v, 9)
    ∷ (parts_wrong k v, 10)
    ∷ (grazed_over a.used k v, 10)
    ∷ (feed_below k v, 11)
    ∷ (wrong_count a k v, 12)
    ∷ []

-- what values that 5, 6 and 7 let through have
pub record Passes (a : Account) (k : ℕ) (v : List ℕ) : Type 0 where
  pub room : a.records < 4096
  pub place : in_place_lem a k ≡ true
  pub ranges : first_bad (fields k) v 0 ≡ 0

module _ (a : Account) (k : ℕ) (v : List ℕ) (placed : Bool) (bad code : ℕ) (p : placed ≡ in_place_lem a k) (b : bad ≡ first_bad (fields k) v 0)
    (c : code ≡ first ((leb 4096 a.records, 5) ∷ (not placed, 6) ∷ (not (eqb bad 0), 7) ∷ [])) where
  pub passes : code ≡ 0 → Passes a k v
  passes z =
      let t = three-clear (leb 4096 a.records) (not placed) (not (eqb bad 0)) (sym c ∙ z) in
      record {
        room = leb-false _ _ t.0;
        place = sym p ∙ not-false placed t.1;
        ranges = sym b ∙ eqb-true _ _ (not-false (eqb bad 0) t.2);
      }

  -- refused by 5, 6 or 7
  pub stops : (room : ℕ) (r : Judged) → (code ≡ 0 → ⊥) → r ≡ refusing a code (pick (eqb code 7) bad 0) → TellsIn room a (weigh a k v) r
  unfolding weigh
  stops room r n e =
      let same : first (value_refusals a k v) ≡ code =
      rw (← p, ← b) (three-first (leb 4096 a.records) (not placed) (not (eqb bad 0)) (later_refusals a k v) (λ z. n (c ∙ z)) ∙ sym c) in
      quiet-in room a _ (weigh a k v) r e (rw (same, ne_eqb code 0 n, ← b, e) (tells-quiet (refused a code (pick (eqb code 7) bad 0))))

-- a value out of its range at that position: one of 5, 6 and 7 refuses
pub outside-tells : (a : Account) (row : ℕ) (v : List ℕ) (position : ℕ) (r : Judged) → (position ≡ 0 → ⊥) → position ≡ first_bad (fields row) v 0
    → r ≡ refusing_outside a row position → Tells (weigh a row v) r
outside-tells a row v position r n e q =
    let some : outside_by a row position ≡ 0 → ⊥ = λ z. n (e ∙ (passes a row v (in_place_lem a row) position (outside_by a row position) refl e refl z).ranges) in
    let t = stops a row v (in_place_lem a row) position (outside_by a row position) refl e refl lines_most r some q in
    tells-fit t (lines-short t)

-- what is left are the refusals from 8 on
module _ (a : Account) (k : ℕ) (v : List ℕ) (p : Passes a k v) where
  later : first (value_refusals a k v) ≡ first (later_refusals a k v)
  unfolding first
  later = rw (lt-leb _ _ p.room, p.place, p.ranges)

  pub refuses : (room c : ℕ) (r : Judged) → first (later_refusals a k v) ≡ c → (eqb c 0 ≡ false) → (eqb c 7 ≡ false) → r ≡ refusing a c 0
      → TellsIn room a (weigh a k v) r
  unfolding weigh
  refuses room c r e n m q = quiet-in room a _ (weigh a k v) r q (rw (later, e, n, m, q) (tells-quiet (refused a c 0)))

  pub accepts : first (later_refusals a k v) ≡ 0 → weigh a k v ≡ accepted a k v
  unfolding weigh
  accepts e = rw (later, e)

-- ---- a whole record

-- 2 and 3 let r through, and it is of the row k
module _ (a : Account) (k : ℕ) (r : List ℕ) (n : ℕ) (w : Kind k r) (size : length_of k + 2 ≡ n) where
  -- its length is not the kind's
  pub wrong-length : (room : ℕ) (j : Judged) → (length r ≡ n → ⊥) → j ≡ refusing a 4 0 → TellsIn room a (judge a r) j
  unfolding judge first
  wrong-length room j h e =
      let other : val_at r 0 2 ≡ length_of k → ⊥ = λ q. h (omega (arith, w.whole.long, size)) in
      quiet-in room a _ (judge a r) j e (rw (w.version, w.listed, w.kind, ne_eqb _ _ other, e) (tells-quiet (refused a 4 0)))

  -- its length is the kind's: its values decide
  pub right-length : length r ≡ n → judge a r ≡ weigh a k (values_at (fields k) r 4)
  unfolding judge weigh first
  right-length h =
      let same : val_at r 0 2 ≡ length_of k = omega (arith, w.whole.long, size) in
      rw (w.version, w.listed, w.kind, eq-eqb _ _ same)

pub wrong-version : (room : ℕ) (a : Account) (r : List ℕ) (j : Judged) → wrong_version r ≡ true → j ≡ refusing a 2 0 → TellsIn room a (judge a r) j
unfolding judge first
wrong-version room a r j h e = quiet-in room a _ (judge a r) j e (rw (h, e) (tells-quiet (refused a 2 0)))

pub wrong-kind : (room : ℕ) (a : Account) (r : List ℕ) (j : Judged) → wrong_version r ≡ false → wrong_kind r ≡ true → j ≡ refusing a 3 0
    → TellsIn room a (judge a r) j
unfolding judge first
wrong-kind room a r j v h e = quiet-in room a _ (judge a r) j e (rw (v, h, e) (tells-quiet (refused a 3 0)))
