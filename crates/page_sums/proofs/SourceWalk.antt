-- The rows of the sources, record by record: CH4, N2O and grazing of the seven kinds make those of the account; CO2 is energy's and soil's, not below
-- zero, and tillage's, with its sign.
-- Assumes nothing.
use Prim.Native.Nat.{ℕ, ◌+◌, ◌-◌, ◌*◌, ◌^◌, ◌%◌, ◌≤◌, ◌<◌}
use mathlib.Core.Path.{◌≡◌, refl, sym, ap, ◌∙◌, subst}
use mathlib.Core.List.{List, [], ◌∷◌}
use mathlib.Core.Bool.{Bool, true, false}
use native.Mathlib.Omega.{arith}
use borrow.Author.Tests.{eqb-true, eqb-false, ltb-true}
use lib.Dec.{eqb, ltb}
use lib.IntN.{ℤ, pos, negsuc, nat_abs, ◌+ℤ◌, +ℤ_assoc, +ℤ_comm, +ℤ_idr}
use Rattle.base.specs.Choice.{pick}
use Rattle.base.specs.Signed.{word_of, signed_of}
use Rattle.base.proofs.Signed.{signed_word, words-plus, abs-plus}
use Rattle.base.proofs.Tests.{of-choice, by-test, no_bool, not-true, not-false, and_l, and_r}
use Rattle.codec.specs.Table.{is_kind}
use Rattle.codec.proofs.EachKind.{row-of-kind}
use Rattle.account.specs.declared.Account.{Account}
use Rattle.account.specs.Account.{no_record}
use Rattle.account.specs.Range.{AccountInRange}
use Rattle.account.specs.Sorts.{sort_of}
use Rattle.account.specs.Judge.{Step, version_of, kind_byte, record_row, values_of, first, refusals, accepted, judge}
use Rattle.account.proofs.Sorts.{by-sort}
use Rattle.account.proofs.Refusals.{not-refused}
use Rattle.account.proofs.EachFigure.{of-farm}
use Rattle.account.proofs.Keeps.{in-range-none, in-range-judge}
use Rattle.book.specs.WholeRecords.{records_of}
use Rattle.walk.specs.Walk.{accepts}
use Rattle.page.specs.declared.Sum.{Sum}
use Rattle.page.specs.Over.{over}
use Rattle.page.specs.Bars.{plus8}
use Rattle.page.specs.Figures.{next_account, last_of, no_sum, with_record, add_kind, sum_of}
use Rattle.page.proofs.Gathers.{sums-rise}
use Rattle.page_sums.proofs.Carbon.{Moves, judge-moves}
use Rattle.page_sums.proofs.OtherKinds.{has_co2, is_source, none-grazed, group-source, detail-row}

-- ---- one of seven numbers grows

abbrev pub seven : (ℕ → ℕ) → ℕ
seven s = s 3 + s 4 + s 5 + s 10 + s 6 + s 7 + s 9

bump : (k d : ℕ) (s : ℕ → ℕ) → (is_source k ≡ false → d ≡ 0) → seven (λ i. pick (eqb k i) (s i + d) (s i)) ≡ seven s + d
bump k d s z =
    by-test (eqb k 3) (λ t. rw (eqb-true k 3 t) (omega arith))
    (λ t3. by-test (eqb k 4) (λ t. rw (eqb-true k 4 t) (omega arith))
    (λ t4. by-test (eqb k 5) (λ t. rw (eqb-true k 5 t) (omega arith))
    (λ t5. by-test (eqb k 10) (λ t. rw (eqb-true k 10 t) (omega arith))
    (λ t10. by-test (eqb k 6) (λ t. rw (eqb-true k 6 t) (omega arith))
    (λ t6. by-test (eqb k 7) (λ t. rw (eqb-true k 7 t) (omega arith))
    (λ t7. by-test (eqb k 9) (λ t. rw (eqb-true k 9 t) (omega arith))
    (λ t9. let e : d ≡ 0 = z (rw (t3, t4, t5, t10, t6, t7, t9) refl) in rw (t3, t4, t5, t10, t6, t7, t9) (omega (arith, e)))))))))

-- ---- a record that is accepted is of one of these kinds, or changes no sum

module _ (a : Account) (r : List ℕ) where
  -- what the record adds to a sum is nothing where its kind is none of the seven
  abbrev Still : Step → Type 0
  Still s =
      is_source (kind_byte r) ≡ false
      → (s.account.sums.ch4 - a.sums.ch4 ≡ 0)
      × ((s.account.sums.n2o.0 - a.sums.n2o.0 ≡ 0) × (s.account.sums.grazing.0 - a.sums.grazing.0 ≡ 0))

  still-accepted : eqb (first (refusals a r)) 0 ≡ true → Still (accepted a (record_row r) (values_of r))
  unfolding accepted
  still-accepted e =
      let t = not-refused a r (eqb-true _ _ e) in
      let k = not-false (is_kind (kind_byte r)) t.kind in
      let row = row-of-kind (version_of r) (kind_byte r) k in
      by-sort Still (sort_of (record_row r)) (λ q z. (omega arith, (omega arith, omega arith))) (λ q z. (omega arith, (omega arith, omega arith)))
      (λ q z. no_bool (sym z ∙ subst (λ (kind : ℕ). is_source kind ≡ true) (detail-row r (rw q refl)) (group-source (record_row r) row q)))
      (λ q z.
      let none = of-farm a.heading (record_row r) (values_of r) q in
      let g = none-grazed a.heading (values_of r) (record_row r) row q in
      (omega (arith, none.ch4), (omega (arith, none.n2o), omega (arith, g))))
      (λ q z. (omega arith, (omega arith, omega arith)))

  still-judged : ((judge a r).account.stage ≡ 3 → ⊥) → Still (judge a r)
  unfolding judge
  still-judged n =
      of-choice (λ (s : Step). (s.account.stage ≡ 3 → ⊥) → Still s) (eqb (first (refusals a r)) 0) (λ e m. still-accepted e)
      (λ e m. absurd (m refl)) n

-- ---- the seven sums make those of the account

pub record Makes (s : ℕ → Sum) (a : Account) : Type 0 where
  pub ch4 : seven (λ k. (s k).ch4) ≡ a.sums.ch4
  pub n2o : seven (λ k. (s k).n2o) ≡ a.sums.n2o.0
  pub grazing : seven (λ k. (s k).grazing) ≡ a.sums.grazing.0

-- a figure of a choice
picked : (f : Sum → ℕ) (b : Bool) (s t : Sum) → f (pick b s t) ≡ pick b (f s) (f t)
picked f true s t = refl
picked f false s t = refl

-- of the seven, where each is a choice
seven-picked : (f : Sum → ℕ) (k : ℕ) (s t : ℕ → Sum) → seven (λ i. f (pick (eqb k i) (s i) (t i))) ≡ seven (λ i. pick (eqb k i) (f (s i)) (f (t i)))
seven-picked f k s t =
    rw (
      picked f (eqb k 3) (s 3) (t 3),
      picked f (eqb k 4) (s 4) (t 4),
      picked f (eqb k 5) (s 5) (t 5),
      picked f (eqb k 10) (s 10) (t 10),
      picked f (eqb k 6) (s 6) (t 6),
      picked f (eqb k 7) (s 7) (t 7),
      picked f (eqb k 9) (s 9) (t 9),
    ) refl

grown : (t f g : ℕ) → t ≡ f → f ≤ g → t + (g - f) ≡ g
grown t f g e h = omega (arith, e, h)

makes-next : (s : ℕ → Sum) (a : Account) (r : List ℕ) → ((judge a r).account.stage ≡ 3 → ⊥) → Makes s a
    → Makes (λ k. add_kind k (s k) a r) (judge a r).account
makes-next s a r n m =
    let b = (judge a r).account in
    let up = sums-rise a r in
    let z = still-judged a r n in
    let with : ℕ → Sum = λ k. with_record (s k) a.sums b.sums in
    record {
      ch4 =
          seven-picked (λ (x : Sum). x.ch4) (kind_byte r) with s
          ∙ bump (kind_byte r) (b.sums.ch4 - a.sums.ch4) (λ k. (s k).ch4) (λ e. (z e).0)
          ∙ grown _ _ _ m.ch4 up.ch4;
      n2o =
          seven-picked (λ (x : Sum). x.n2o) (kind_byte r) with s
          ∙ bump (kind_byte r) (b.sums.n2o.0 - a.sums.n2o.0) (λ k. (s k).n2o) (λ e. (z e).1.0)
          ∙ grown _ _ _ m.n2o up.n2o;
      grazing =
          seven-picked (λ (x : Sum). x.grazing) (kind_byte r) with s
          ∙ bump (kind_byte r) (b.sums.grazing.0 - a.sums.grazing.0) (λ k. (s k).grazing) (λ e. (z e).1.1)
          ∙ grown _ _ _ m.grazing up.grazing;
    }

-- ---- CO2

-- none of the group's kinds; energy's and soil's as they are, tillage's with its sign; of a kind that the book has not, none
pub record Carbons (s : ℕ → Sum) (a : Account) : Type 0 where
  pub enteric : (s 3).co2 ≡ 0
  pub cattle : (s 4).co2 ≡ 0
  pub pig : (s 5).co2 ≡ 0
  pub grazing : (s 10).co2 ≡ 0
  pub sum : signed_of a.sums.co2.0 ≡ pos ((s 6).co2 + (s 7).co2) +ℤ signed_of (s 9).co2
  pub most : (s 6).co2 + (s 7).co2 + nat_abs (signed_of (s 9).co2) ≤ a.records * 10 ^ 13
  pub word : (s 9).co2 < 2 ^ 64
  pub all : a.sums.co2.0 < 2 ^ 64
  pub energy-none : (s 6).seen ≡ false → (s 6).co2 ≡ 0
  pub soil-none : (s 7).seen ≡ false → (s 7).co2 ≡ 0
  pub tillage-none : (s 9).seen ≡ false → (s 9).co2 ≡ 0

-- a number that is not below zero
pos_word : (z : ℤ) → nat_abs z ≤ 10 ^ 13 → word_of z ≤ 10 ^ 13 → z ≡ pos (word_of z)
pos_word (pos n) h w = refl
pos_word (negsuc n) h w = absurd (omega (arith, h, w))

-- a word to which a number is added
signed-added : (w : ℕ) (z : ℤ) → w < 2 ^ 64 → nat_abs (signed_of w) ≤ 2 ^ 62 → nat_abs z ≤ 10 ^ 13
    → signed_of (plus8 w (word_of z)) ≡ signed_of w +ℤ z
signed-added w z h p q =
    let e : signed_of (word_of z) ≡ z = signed_word z (omega (arith, q)) in
    let most = abs-plus (signed_of w) z in
    ap signed_of (sym (words-plus w (word_of z) h (small z q))) ∙ (rw e (signed_word (signed_of w +ℤ z) (omega (arith, most, p, q))))
  where
    small : (z : ℤ) → nat_abs z ≤ 10 ^ 13 → word_of z < 2 ^ 64
    small (pos n) m = omega (arith, m)
    small (negsuc n) m = omega arith

add_low : (n w : ℕ) (z : ℤ) → pos n +ℤ z +ℤ pos w ≡ pos (n + w) +ℤ z
add_low n w z =
    +ℤ_assoc (pos n) z (pos w) ∙ ap (λ (y : ℤ). pos n +ℤ y) (+ℤ_comm z (pos w)) ∙ sym (+ℤ_assoc (pos n) (pos w) z)

module _ (s : ℕ → Sum) (a : Account) (r : List ℕ) (few : a.records ≤ 4096) (c : Carbons s a) (x : Moves (kind_byte r) a (judge a r).account) where
  abbrev after : ℕ → Sum
  after i = add_kind i (s i) a r

  -- a kind's CO2 with the record
  with-record : (i : ℕ) → eqb (kind_byte r) i ≡ true → (after i).co2 ≡ plus8 (s i).co2 (word_of x.grams)
  with-record i t = rw (t, x.word) refl

  without : (i : ℕ) → eqb (kind_byte r) i ≡ false → (after i).co2 ≡ (s i).co2
  without i t = rw t refl

  no-gas : (i : ℕ) → has_co2 i ≡ false → (s i).co2 ≡ 0 → (after i).co2 ≡ 0
  no-gas i f z =
      by-test (eqb (kind_byte r) i)
      (λ t. with-record i t ∙ (rw (z, x.none (rw (eqb-true (kind_byte r) i t) f)) refl))
      (λ t. without i t ∙ z)

  seen_none : (i : ℕ) → ((s i).seen ≡ false → (s i).co2 ≡ 0) → (after i).seen ≡ false → (after i).co2 ≡ 0
  seen_none i n = by-test (eqb (kind_byte r) i) (λ t. rw t (λ e. no_bool (sym e))) (λ t. rw t n)

  -- with so much more, of which the parts are known
  carbons-with : (after 6).co2 + (after 7).co2 + nat_abs (signed_of (after 9).co2) ≤ a.records * 10 ^ 13 + 10 ^ 13 → (after 9).co2 < 2 ^ 64
      → signed_of (judge a r).account.sums.co2.0 ≡ pos ((after 6).co2 + (after 7).co2) +ℤ signed_of (after 9).co2
      → Carbons after (judge a r).account
  carbons-with m w e =
      record {
        enteric = no-gas 3 refl c.enteric;
        cattle = no-gas 4 refl c.cattle;
        pig = no-gas 5 refl c.pig;
        grazing = no-gas 10 refl c.grazing;
        sum = e;
        most = omega (arith, m, x.counts);
        word = w;
        all = x.small;
        energy-none = seen_none 6 c.energy-none;
        soil-none = seen_none 7 c.soil-none;
        tillage-none = seen_none 9 c.tillage-none;
      }

  -- energy or soil: not below zero
  low : (i : ℕ) → eqb i 9 ≡ false → eqb (kind_byte r) i ≡ true → (s i).co2 ≤ a.records * 10 ^ 13
      → ((after i).co2 ≡ (s i).co2 + word_of x.grams) × ((word_of x.grams ≤ 10 ^ 13) × (x.grams ≡ pos (word_of x.grams)))
  low i n t h =
      let w = x.up (rw (eqb-true (kind_byte r) i t) n) in
      let e : ((s i).co2 + word_of x.grams) % 2 ^ 64 ≡ (s i).co2 + word_of x.grams = omega (arith, h, w, few) in
      (with-record i t ∙ e, (w, pos_word x.grams x.most w))

  abbrev c6 : ℕ
  c6 = (s 6).co2

  abbrev c7 : ℕ
  c7 = (s 7).co2

  abbrev c9 : ℕ
  c9 = (s 9).co2

  with-energy : eqb (kind_byte r) 6 ≡ true → Carbons after (judge a r).account
  with-energy t =
      let k : kind_byte r ≡ 6 = eqb-true _ _ t in
      let l = low 6 refl t (omega (arith, c.most)) in
      let e7 = without 7 (rw k refl) in
      let e9 = without 9 (rw k refl) in
      let w = word_of x.grams in
      let more : c6 + c7 + w ≡ c6 + w + c7 = omega arith in
      carbons-with (rw (l.0, e7, e9) (omega (arith, c.most, l.1.0))) (rw e9 c.word)
      (rw (l.0, e7, e9, ← more)
      (x.sum ∙ ap (λ (z : ℤ). z +ℤ x.grams) c.sum ∙ ap (λ (z : ℤ). pos (c6 + c7) +ℤ signed_of c9 +ℤ z) l.1.1
      ∙ add_low (c6 + c7) w (signed_of c9)))

  with-soil : eqb (kind_byte r) 7 ≡ true → Carbons after (judge a r).account
  with-soil t =
      let k : kind_byte r ≡ 7 = eqb-true _ _ t in
      let l = low 7 refl t (omega (arith, c.most)) in
      let e6 = without 6 (rw k refl) in
      let e9 = without 9 (rw k refl) in
      let w = word_of x.grams in
      let more : c6 + c7 + w ≡ c6 + (c7 + w) = omega arith in
      carbons-with (rw (l.0, e6, e9) (omega (arith, c.most, l.1.0))) (rw e9 c.word)
      (rw (l.0, e6, e9, ← more)
      (x.sum ∙ ap (λ (z : ℤ). z +ℤ x.grams) c.sum ∙ ap (λ (z : ℤ). pos (c6 + c7) +ℤ signed_of c9 +ℤ z) l.1.1
      ∙ add_low (c6 + c7) w (signed_of c9)))

  with-tillage : eqb (kind_byte r) 9 ≡ true → Carbons after (judge a r).account
  with-tillage t =
      let k : kind_byte r ≡ 9 = eqb-true _ _ t in
      let e6 = without 6 (rw k refl) in
      let e7 = without 7 (rw k refl) in
      let e9 = with-record 9 t in
      let near : nat_abs (signed_of c9) ≤ 2 ^ 62 = omega (arith, c.most, few) in
      let g = signed-added c9 x.grams c.word near x.most in
      let m = abs-plus (signed_of c9) x.grams in
      carbons-with (rw (e6, e7, e9, g) (omega (arith, c.most, m, x.most))) (rw e9 (omega arith))
      (rw (e6, e7, e9, g)
      (x.sum ∙ ap (λ (z : ℤ). z +ℤ x.grams) c.sum ∙ +ℤ_assoc (pos (c6 + c7)) (signed_of c9) x.grams))

  with-other : eqb (kind_byte r) 6 ≡ false → eqb (kind_byte r) 7 ≡ false → eqb (kind_byte r) 9 ≡ false → Carbons after (judge a r).account
  with-other t6 t7 t9 =
      let none = x.none (rw (t6, t7, t9) refl) in
      carbons-with (rw (without 6 t6, without 7 t7, without 9 t9) (omega (arith, c.most))) (rw (without 9 t9) c.word)
      (rw (without 6 t6, without 7 t7, without 9 t9)
      (x.sum ∙ ap (λ (z : ℤ). signed_of a.sums.co2.0 +ℤ z) none ∙ +ℤ_idr (signed_of a.sums.co2.0) ∙ c.sum))

  carbons-next : Carbons after (judge a r).account
  carbons-next =
      by-test (eqb (kind_byte r) 6) with-energy
      (λ t6. by-test (eqb (kind_byte r) 7) with-soil (λ t7. by-test (eqb (kind_byte r) 9) with-tillage (λ t9. with-other t6 t7 t9)))

-- ---- all records of a book

pub record Made (s : ℕ → Sum) (a : Account) : Type 0 where
  pub range : AccountInRange a
  pub makes : Makes s a
  pub carbons : Carbons s a

made-over : (s : ℕ → Sum) (a : Account) (rs : List (List ℕ)) → Made s a → Made (λ k. over (add_kind k) (s k) a rs) (over next_account a a rs)
unfolding over
made-over s a [] m = m
made-over s a (r ∷ rs) m =
    by-test (accepts a r)
    (λ t.
    let early : a.stage < 2 = ltb-true _ _ (and_l (ltb a.stage 2) _ t) in
    let n : (judge a r).account.stage ≡ 3 → ⊥ = eqb-false _ _ (not-true _ (and_r (ltb a.stage 2) _ t)) in
    let moved = judge-moves a m.range m.carbons.all r n in
    rw t
    (made-over (λ k. add_kind k (s k) a r) (judge a r).account rs
    (record {
      range = in-range-judge a r m.range early;
      makes = makes-next s a r n m.makes;
      carbons = carbons-next s a r m.range.started.counted.records-most m.carbons moved;
    })))
    (λ t. rw t m)

-- the seven sums of a book
pub sources-make : (xs : List ℕ) → Made (λ k. sum_of k xs) (last_of xs)
unfolding sum_of last_of
sources-make xs =
    made-over (λ k. no_sum) no_record (records_of xs)
    (record {
      range = in-range-none;
      makes = record { ch4 = refl; n2o = refl; grazing = refl };
      carbons =
          record {
            enteric = refl;
            cattle = refl;
            pig = refl;
            grazing = refl;
            sum = refl;
            most = omega arith;
            word = omega arith;
            all = omega arith;
            energy-none = λ e. refl;
            soil-none = λ e. refl;
            tillage-none = λ e. refl;
          };
    })
