-- The rows of the groups, record by record: while a book is open the rows so far and its open group make the sums of the account; with the close the
-- rows alone make them. And the bars of the rows only rise.
-- Assumes nothing.
use Prim.Native.Nat.{ℕ, ◌+◌, ◌-◌, ◌^◌, ◌≤◌, ◌<◌}
use mathlib.Core.Path.{◌≡◌, refl, sym, ap, ◌∙◌, subst}
use mathlib.Core.List.{List, [], ◌∷◌, ◌++◌, map, append-nil}
use mathlib.Core.Bool.{true, false, not}
use native.Mathlib.Omega.{arith}
use native.Mathlib.Nat.{le_refl, mul-zero}
use borrow.Author.Tests.{eqb-true, eqb-false, ltb-true}
use lib.Dec.{eqb, ltb}
use Rattle.base.specs.Choice.{pick}
use Rattle.base.proofs.Tests.{by-test, of-choice, not-true, not-false, and_l, and_r}
use Rattle.codec.specs.Table.{is_kind}
use Rattle.codec.proofs.EachKind.{row-of-kind}
use Rattle.account.specs.declared.Account.{Account}
use Rattle.account.specs.declared.Farm.{Farm}
use Rattle.account.specs.Account.{no_record}
use Rattle.account.specs.Sorts.{sort_of}
use Rattle.account.specs.Range.{AccountInRange}
use Rattle.account.specs.Judge.{Step, version_of, kind_byte, record_row, values_of, in_place_lem, first, refusals, accepted, judge}
use Rattle.account.proofs.Sorts.{by-sort, sort-farm}
use Rattle.account.proofs.Refusals.{not-refused}
use Rattle.account.proofs.EachFigure.{of-farm}
use Rattle.account.proofs.Keeps.{in-range-none, in-range-judge}
use Rattle.book.specs.WholeRecords.{records_of}
use Rattle.walk.specs.Walk.{accepts}
use Rattle.page.specs.declared.Group.{Group}
use Rattle.page.specs.Over.{over}
use Rattle.page.specs.Bars.{no_step}
use Rattle.page.specs.Figures.{next_account, last_of, warmed, group_step, group_of}
use Rattle.page_sums.specs.Tables.{GroupRows, next_groups, no_groups, groups_of, group_bar, sum_by}
use Rattle.page_sums.proofs.Columns.{map-append, sum_more, Grows, grows-append}
use Rattle.page_sums.proofs.Plain.{plainly, warmed-plain, plain-plus, all_most, step-plain}
use Rattle.page_sums.proofs.OtherKinds.{none-grazed}
use Rattle.page_sums.proofs.RowKinds.{kind-heads, kind-closes, not-heading, not-close, detail-headed}

-- ---- the columns of the groups, and the step that their CO2e come to

abbrev pub of_ch4 : Group → ℕ
of_ch4 g = g.ch4

abbrev pub of_n2o : Group → ℕ
of_n2o g = g.n2o

abbrev pub of_excreted : Group → ℕ
of_excreted g = g.excreted

abbrev pub of_land : Group → ℕ
of_land g = g.land

abbrev pub of_grazing : Group → ℕ
of_grazing g = g.grazing

abbrev pub step_of : Farm → List Group → ℕ
step_of f gs = no_step + plainly f (sum_by of_ch4 gs) (sum_by of_n2o gs) (sum_by of_grazing gs)

-- with a group open
pub record Begun (x : GroupRows) (a : Account) : Type 0 where
  pub ch4 : a.sums.ch4 ≡ sum_by of_ch4 x.rows + a.subtotal.ch4
  pub n2o : a.sums.n2o.0 ≡ sum_by of_n2o x.rows + a.subtotal.n2o.0
  pub excreted : a.sums.excreted ≡ sum_by of_excreted x.rows + a.subtotal.excreted
  pub land : a.sums.land ≡ sum_by of_land x.rows + a.subtotal.land
  pub grazed : x.grazed ≡ sum_by of_grazing x.rows
  pub grazing : x.grazed ≤ a.sums.grazing.0
  pub nothing : a.heading.group ≡ 0 → a.sums.grazing.0 ≡ x.grazed
  pub from : x.from ≡ step_of a.farm x.rows
  pub bars : Grows no_step (map group_bar x.rows) x.from

-- with none
pub record Ended (gs : List Group) (a : Account) : Type 0 where
  pub ch4 : sum_by of_ch4 gs ≡ a.sums.ch4
  pub n2o : sum_by of_n2o gs ≡ a.sums.n2o.0
  pub excreted : sum_by of_excreted gs ≡ a.sums.excreted
  pub land : sum_by of_land gs ≡ a.sums.land
  pub grazing : sum_by of_grazing gs ≡ a.sums.grazing.0
  pub bars : Grows no_step (map group_bar gs) (group_step a)

-- ---- the row that a heading or the close ends

plain-same : (f : Farm) {x y z u v w : ℕ} → x ≡ u → y ≡ v → z ≡ w → plainly f x y z ≡ plainly f u v w
plain-same f p q r = rw (p, q, r) refl

module _ (x : GroupRows) (a : Account) (range : AccountInRange a) (s : Begun x a) where
  abbrev row : Group
  row = group_of a x.from x.grazed

  -- no heading stands: no row, and nothing was added
  none-ended : a.heading.group ≡ 0 → Ended x.rows a
  none-ended e =
      let u = range.under.ungrouped e in
      let c : sum_by of_ch4 x.rows ≡ a.sums.ch4 = omega (arith, s.ch4, u.ch4) in
      let n : sum_by of_n2o x.rows ≡ a.sums.n2o.0 = omega (arith, s.n2o, u.n2o) in
      let g : sum_by of_grazing x.rows ≡ a.sums.grazing.0 = sym (s.nothing e ∙ s.grazed) in
      let step : x.from ≡ group_step a =
      s.from ∙ ap (λ (m : ℕ). no_step + m) (plain-same a.farm c n g) ∙ sym (step-plain a range) in
      record {
        ch4 = c;
        n2o = n;
        excreted = omega (arith, s.excreted, u.excreted);
        land = omega (arith, s.land, u.land);
        grazing = g;
        bars = rw step at s.bars;
      }

  -- what the open group has
  abbrev here : ℕ
  here = plainly a.farm a.subtotal.ch4 a.subtotal.n2o.0 (a.sums.grazing.0 - x.grazed)

  all-is : plainly a.farm a.sums.ch4 a.sums.n2o.0 a.sums.grazing.0
      ≡ plainly a.farm (sum_by of_ch4 x.rows) (sum_by of_n2o x.rows) (sum_by of_grazing x.rows) + here
  all-is =
      let g : a.sums.grazing.0 ≡ sum_by of_grazing x.rows + (a.sums.grazing.0 - x.grazed) = omega (arith, s.grazed, s.grazing) in
      plain-same a.farm s.ch4 s.n2o g ∙ plain-plus a.farm _ _ _ _ _ _

  here-plain : warmed a.farm a.subtotal.ch4 a.subtotal.n2o.0 (a.sums.grazing.0 - x.grazed) ≡ here
  here-plain = warmed-plain a.farm _ _ _ (omega (arith, all-is, all_most a range))

  row-grows : Grows x.from (group_bar row ∷ []) (group_step a)
  unfolding group_of
  row-grows =
      let most : here < 2 ^ 63 = omega (arith, all-is, all_most a range) in
      let step : group_step a ≡ x.from + here = omega (arith, step-plain a range, all-is, s.from) in
      (refl, (rw here-plain step, (rw here-plain most, refl)))

  one_ended : Ended (x.rows ++ (row ∷ [])) a
  unfolding group_of
  one_ended =
      let g = sum_more of_grazing x.rows row in
      record {
        ch4 = sum_more of_ch4 x.rows row ∙ sym s.ch4;
        n2o = sum_more of_n2o x.rows row ∙ sym s.n2o;
        excreted = sum_more of_excreted x.rows row ∙ sym s.excreted;
        land = sum_more of_land x.rows row ∙ sym s.land;
        grazing = omega (arith, g, s.grazed, s.grazing);
        bars =
            rw (map-append group_bar x.rows (row ∷ []))
            (grows-append no_step (map group_bar x.rows) (group_bar row ∷ []) x.from (group_step a) s.bars row-grows);
      }

  ended : Ended (x.rows ++ pick (not (eqb a.heading.group 0)) (row ∷ []) []) a
  ended = by-test (eqb a.heading.group 0)
      (λ t. rw (t, append-nil x.rows) (none-ended (eqb-true _ _ t)))
      (λ t. rw t one_ended)

-- ---- each record keeps it

pub record Kept (x : GroupRows) (a : Account) : Type 0 where
  pub range : AccountInRange a
  pub begun : a.stage < 2 → Begun x a
  pub shut : a.stage ≡ 2 → Ended x.rows a

module _ (x : GroupRows) (a : Account) (range : AccountInRange a) (early : a.stage < 2) (s : Begun x a) (r : List ℕ) where
  abbrev Keeps : Step → Type 0
  Keeps t = (t.account.stage ≡ 3 → ⊥) → AccountInRange t.account → Kept (next_groups x a r) t.account

  -- a record that ends no group changes no row
  same_rows : eqb (kind_byte r) 2 ≡ false → eqb (kind_byte r) 8 ≡ false → x ≡ next_groups x a r
  same_rows h c = rw (h, c, append-nil x.rows) refl

  still-begun : {b : Account} → eqb (kind_byte r) 2 ≡ false → eqb (kind_byte r) 8 ≡ false → AccountInRange b → (b.stage ≡ 2 → ⊥) → Begun x b
      → Kept (next_groups x a r) b
  still-begun {b} h c i n k =
      subst (λ (y : GroupRows). Kept y b) (same_rows h c) (record { range = i; begun = λ e. k; shut = λ e. absurd (n e) })

  none_open : a.stage ≡ 2 → ⊥
  none_open e = omega (arith, e, early)

  -- before the farm record there is nothing, whatever the factors
  farm-any : a.records ≡ 0 → (f : Farm) → x.from ≡ step_of f x.rows
  farm-any z f =
      let c : sum_by of_ch4 x.rows ≡ 0 = omega (arith, s.ch4, range.sums.ch4, z) in
      let n : sum_by of_n2o x.rows ≡ 0 = omega (arith, s.n2o, range.sums.n2o, z) in
      let g : sum_by of_grazing x.rows ≡ 0 = omega (arith, s.grazed, s.grazing, range.sums.grazing, z) in
      let none : (h : Farm) → step_of h x.rows ≡ no_step = λ h.
      ap (λ (m : ℕ). no_step + m) (plain-same h c n g) ∙ (rw (mul-zero h.ch4, mul-zero h.n2o) refl) in
      s.from ∙ none a.farm ∙ sym (none f)

  accepted-keeps : eqb (first (refusals a r)) 0 ≡ true → Keeps (accepted a (record_row r) (values_of r))
  unfolding accepted in_place_lem
  accepted-keeps e =
      let t = not-refused a r (eqb-true _ _ e) in
      let v = ended x a range s in
      by-sort Keeps (sort_of (record_row r))
      (λ q m i.
      let empty : a.records ≡ 0 = eqb-true _ _ (rw (sort-farm (record_row r), q) at (not-false (in_place_lem a (record_row r)) t.values.place)) in
      still-begun (not-heading r (rw q refl)) (not-close r (rw q refl)) i (λ f. omega (arith, f))
      (record {
        ch4 = s.ch4;
        n2o = s.n2o;
        excreted = s.excreted;
        land = s.land;
        grazed = s.grazed;
        grazing = s.grazing;
        nothing = s.nothing;
        from = farm-any empty _;
        bars = s.bars;
      }))
      (λ q m i. rw (kind-heads r q)
      (record {
        range = i;
        begun = λ o.
            record {
              ch4 = omega (arith, v.ch4);
              n2o = omega (arith, v.n2o);
              excreted = omega (arith, v.excreted);
              land = omega (arith, v.land);
              grazed = sym v.grazing;
              grazing = le_refl _;
              nothing = λ z. refl;
              from = step-plain a range ∙ ap (λ (m : ℕ). no_step + m) (plain-same a.farm (sym v.ch4) (sym v.n2o) (sym v.grazing));
              bars = v.bars;
            };
        shut = λ o. absurd (none_open o);
      }))
      (λ q m i.
      let headed = detail-headed a r range t q in
      still-begun (not-heading r (rw q refl)) (not-close r (rw q refl)) i none_open
      (record {
        ch4 = omega (arith, s.ch4);
        n2o = omega (arith, s.n2o);
        excreted = omega (arith, s.excreted);
        land = omega (arith, s.land);
        grazed = s.grazed;
        grazing = omega (arith, s.grazing);
        nothing = λ z. absurd (omega (arith, headed, z));
        from = s.from;
        bars = s.bars;
      }))
      (λ q m i.
      let z = of-farm a.heading (record_row r) (values_of r) q in
      let k = row-of-kind (version_of r) (kind_byte r) (not-false (is_kind (kind_byte r)) t.kind) in
      let g = none-grazed a.heading (values_of r) (record_row r) k q in
      still-begun (not-heading r (rw q refl)) (not-close r (rw q refl)) i none_open
      (record {
        ch4 = omega (arith, s.ch4, z.ch4);
        n2o = omega (arith, s.n2o, z.n2o);
        excreted = omega (arith, s.excreted, z.excreted);
        land = omega (arith, s.land, z.land);
        grazed = s.grazed;
        grazing = omega (arith, s.grazing);
        nothing = λ e. let k = s.nothing e in omega (arith, k, g);
        from = s.from;
        bars = s.bars;
      }))
      (λ q m i. rw (not-heading r (rw q refl), kind-closes r q)
      (record {
        range = i;
        begun = λ o. absurd (omega (arith, o));
        shut = λ o.
            record { ch4 = v.ch4; n2o = v.n2o; excreted = v.excreted; land = v.land; grazing = v.grazing; bars = v.bars };
      }))

  judge-keeps : Keeps (judge a r)
  unfolding judge
  judge-keeps = of-choice Keeps (eqb (first (refusals a r)) 0) accepted-keeps (λ e m i. absurd (m refl))

-- ---- all records of a book

walked : (x : GroupRows) (a : Account) (rs : List (List ℕ)) → Kept x a → Kept (over next_groups x a rs) (over next_account a a rs)
unfolding over
walked x a [] k = k
walked x a (r ∷ rs) k =
    by-test (accepts a r)
    (λ t.
    let early : a.stage < 2 = ltb-true _ _ (and_l (ltb a.stage 2) _ t) in
    let still : (judge a r).account.stage ≡ 3 → ⊥ = eqb-false _ _ (not-true _ (and_r (ltb a.stage 2) _ t)) in
    let next = judge-keeps x a k.range early (k.begun early) r still (in-range-judge a r k.range early) in
    rw t (walked (next_groups x a r) (judge a r).account rs next))
    (λ t. rw t k)

kept-none : Kept no_groups no_record
unfolding sum_by
kept-none =
    record {
      range = in-range-none;
      begun = λ e.
          record {
            ch4 = refl;
            n2o = refl;
            excreted = refl;
            land = refl;
            grazed = refl;
            grazing = omega arith;
            nothing = λ z. refl;
            from = refl;
            bars = refl;
          };
      shut = λ e. absurd (omega (arith, e));
    }

-- the account after the accepted records is in its ranges
pub last-range : (xs : List ℕ) → AccountInRange (last_of xs)
unfolding last_of
last-range xs = (walked no_groups no_record (records_of xs) kept-none).range

-- the rows of a closed book
pub groups-make : (xs : List ℕ) → (last_of xs).stage ≡ 2 → Ended (groups_of xs) (last_of xs)
unfolding last_of groups_of
groups-make xs e = (walked no_groups no_record (records_of xs) kept-none).shut e
