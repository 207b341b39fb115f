-- Theorem: each piece of the page is shorter than its buffer, since it is fixed text with so many numbers of eight bytes in it.
-- Assumes nothing.
use Prim.Native.Nat.{ℕ, zero, suc, ◌+◌, ◌-◌, ◌*◌, ◌/◌, ◌^◌, ◌≤◌, ◌<◌, min}
use mathlib.Core.Path.{◌≡◌}
use mathlib.Core.List.{List, [], ◌∷◌, ◌++◌}
use mathlib.Core.Bool.{Bool, true, false}
use native.Mathlib.Omega.{arith}
use native.Mathlib.Nat.{le_refl, le_trans, lt_of_le_of_lt, div-le_self, mul-le-mul, mul-one}
use borrow.Author.Tests.{eqb-false, leb-true}
use lib.Dec.{T, leb, ltb, eqb, lit≤, lit<}
use lib.ListN.{length, take, drop, length-append, length-drop}
use Rattle.std.specs.Prelude.{Option, Some, None, IfSome}
use Rattle.base.specs.Choice.{pick}
use Rattle.base.proofs.Tests.{by-test}
use Rattle.printing.specs.Ascii.{thin_space}
use Rattle.printing.specs.Decimal.{decimal}
use Rattle.printing.proofs.Digits.{length-u64}
use Rattle.base.specs.Bytes.{index_of}
use Rattle.typed_words.specs.Words.{leading_of, trimmed, nth_word, nth_part}
use Rattle.names.specs.Names.{no_row, table_line, choice_table, choices_of, class_name}
use Rattle.grams.proofs.Round.{round-le}
use Rattle.why.specs.declared.Verdict.{Verdict}
use Rattle.page.specs.declared.Group.{Group}
use Rattle.page.specs.declared.Named.{Named}
use Rattle.page.specs.declared.Scale.{Scale}
use Rattle.page.specs.declared.Source.{Source}
use Rattle.page.specs.declared.Survey.{Survey}
use Rattle.page.specs.Text.{last_three, threes_by, amount_text, below, kilograms, figure_text, cell_text}
use Rattle.page.specs.Bars.{plus8, no_step, lesser, greater, place_of, rect_text, mark_text, bar_text}
use Rattle.page.specs.Style.{type_style, table_style, narrow_style, print_style, style_text}
use Rattle.page.specs.Figures.{of_farm, group_scale, source_scale}
use Rattle.page.specs.Parts.{named_text, name_text, title_text, head_text, total_text, groups_head, top_text, heading_text, per_head, count_text}
use Rattle.page.specs.Parts.{figures_text}
use Rattle.page.specs.Parts.{together_text, bars_text, group_text, farm_text, groups_foot, source_table, words_table, source_name, words_text}
use Rattle.page.specs.Parts.{gases_text, source_text, animals_text, land_text, sources_foot, sources_text, gas_text, factors_text, carbon_text}
use Rattle.page.specs.Parts.{source_head, gas_table}
use Rattle.page.specs.Parts.{counted_text, exact_text, foot_text, rest_text, warning_text, advice_text, before_text, after_text}
use Rattle.page.specs.Page.{is_refused, first_text, last_text}
use Rattle.page_sums.specs.Buffers.{part_buffer, row_buffer, Word, GroupWords, SourceWords, NameWords, SurveyWords}

-- ---- texts one after the other

record Short (n : ℕ) (t : List ℕ) : Type 0 where
  most : length t ≤ n

-- so many bytes of fixed text, and then the rest
skip : (k : ℕ) {t : List ℕ} {n : ℕ} → Short n (drop k t) → Short (k + n) t
skip k {t} s = record { most = omega (arith, length-drop k t, s.most) }

none : Short 0 []
none = record { most = omega arith }

infixr 5 ◌⊞◌
◌⊞◌ : {s t : List ℕ} {m n : ℕ} → Short m s → Short n t → Short (m + n) (s ++ t)
◌⊞◌ {s} {t} a b = record { most = omega (arith, length-append s t, a.most, b.most) }

within : {t : List ℕ} {n : ℕ} (m : ℕ) → Short n t → T (leb n m) → Short m t
within m s h = record { most = le_trans s.most (lit≤ h) }

either : (b : Bool) {s t : List ℕ} {n : ℕ} → Short n s → Short n t → Short n (pick b s t)
either true a c = a
either false a c = c

nothing : (n : ℕ) → Short n []
nothing n = record { most = omega arith }

-- ---- numbers

number : {n : ℕ} → Word n → Short 20 (decimal n)
number {n} w = record { most = length-u64 n w }

threes-short : (f n : ℕ) → Word n → Short (20 + 6 * f) (threes_by f n)
unfolding threes_by
threes-short zero n w = within 20 (number w) tt
threes-short (suc f) n w =
    let less : Word (n / 1000) = omega (arith, w) in
    let more = threes-short f (n / 1000) less in
    let long = length-append (threes_by f (n / 1000)) (thin_space ++ last_three n) in
    let all = number w in
    either (ltb n 1000) (record { most = omega (arith, all.most) }) (record { most = omega (arith, more.most, long) })

amount-short : {n : ℕ} → Word n → Short 80 (amount_text n)
unfolding amount_text
amount-short {n} w =
    let less : Word (n / 1000) = omega (arith, w) in
    within 80 (threes-short 6 (n / 1000) less ⊞ skip 19 none) tt

kilograms-short : {w : ℕ} → Word w → Short 83 (kilograms w)
unfolding kilograms
kilograms-short {w} h =
    by-test (below w)
    (λ t.
    let up = leb-true (2 ^ 63) w t in
    let less : Word (2 ^ 64 - w) = omega (arith, up) in
    rw t (within 83 (skip 3 (amount-short less)) tt))
    (λ t. rw t (within 83 (amount-short h) tt))

figure-short : {w : ℕ} → Word w → Short 83 (figure_text w)
unfolding figure_text
figure-short {w} h = either (eqb w 0) (nothing 83) (kilograms-short h)

cell-short : {label : List ℕ} {n w : ℕ} → Short n label → Word w → Short (12 + (n + (2 + (83 + (5 + 0))))) (cell_text label w)
unfolding cell_text
cell-short l h = skip 12 (l ⊞ skip 2 (figure-short h ⊞ skip 5 none))

label-short : (label : List ℕ) → Short (length label) label
label-short label = record { most = le_refl (length label) }

-- ---- bars

lesser-word : {a b : ℕ} → Word a → Word b → Word (lesser a b)
lesser-word {a} {b} h k = by-test (ltb a b) (λ t. rw t h) (λ t. rw t k)

apart-word : {a b : ℕ} → Word a → Word b → Word (greater a b - lesser a b)
apart-word {a} {b} h k = by-test (ltb a b) (λ t. rw t (omega (arith, k))) (λ t. rw t (omega (arith, h)))

place-word : (sc : Scale) {step : ℕ} → Word step → Word (place_of sc step)
place-word sc {step} h =
    let less = div-le_self (step - sc.lo) sc.unit in
    omega (arith, less, h)

rect-short : (up : Bool) {p q : ℕ} → Word p → Word q → Short 90 (rect_text up p q)
unfolding rect_text
rect-short up h k =
    either up
    (within 90 (skip 15 (number (lesser-word h k) ⊞ skip 15 (number (apart-word h k) ⊞ skip 12 none))) tt)
    (within 90 (skip 4 (number (lesser-word h k) ⊞ skip 15 (number (apart-word h k) ⊞ skip 12 none))) tt)

mark-short : (sc : Scale) → Short 100 (mark_text sc)
unfolding mark_text
mark-short sc =
    let zero_word : Word no_step = omega arith in
    let z = place-word sc zero_word in
    either (ltb sc.lo no_step) (within 100 (skip 23 (number z ⊞ skip 13 (number z ⊞ skip 16 none))) tt) (nothing 100)

bar-short : (sc : Scale) {from to : ℕ} (up : Bool) → Word from → Word to → Short 300 (bar_text sc from to up)
unfolding bar_text
bar-short sc up h k =
    within 300 (skip 77 (rect-short up (place-word sc h) (place-word sc k) ⊞ skip 8 (mark-short sc ⊞ skip 6 none))) tt

-- ---- rows

taken-most : (i : ℕ) (l : List ℕ) → length (take i l) ≤ length l
taken-most zero l = omega arith
taken-most (suc i) [] = omega arith
taken-most (suc i) (x ∷ xs) = let h = taken-most i xs in omega (arith, h)

-- a piece of a list is no longer than the list
part-short : (sep n : ℕ) (s : List ℕ) → Short (length s) (nth_part sep n s)
unfolding nth_part
part-short sep zero s = record { most = taken-most (index_of sep s) s }
part-short sep (suc n) s =
    let p = part-short sep n (drop (index_of sep s + 1) s) in
    record { most = omega (arith, p.most, length-drop (index_of sep s + 1) s) }

word-short : (s : List ℕ) → Short (length s) (nth_word 0 s)
unfolding nth_word
word-short s =
    let t = trimmed s in
    record { most = omega (arith, taken-most (leading_of false t) t, length-drop (leading_of true s) s) }

class-short : (class : ℕ) → Short 500 (class_name class)
unfolding choice_table
class-short class =
    let p = part-short 44 (class - 1) (choices_of 2 1) in
    let w = word-short (nth_part 44 (class - 1) (choices_of 2 1)) in
    let c = part-short 59 1 (table_line no_row 2 choice_table) in
    let l = part-short 10 (min 2 no_row) choice_table in
    record { most = le_trans (le_trans (le_trans w.most p.most) c.most) (le_trans l.most (lit≤ tt)) }

heading-short : (class : ℕ) {group : ℕ} → Word group → Short 600 (heading_text group class)
unfolding heading_text
heading-short class g =
    within 600 (skip 23 (number g ⊞ skip 15 (number g ⊞ skip 5 (class-short class ⊞ skip 5 none)))) tt

per-head-short : (head : ℕ) {co2e : ℕ} → Word co2e → Short 83 (per_head co2e head)
unfolding per_head
per-head-short head {co2e} w =
    by-test (eqb head 0) (λ t. rw t (nothing 83))
    (λ t.
    let some : head ≡ 0 → ⊥ = eqb-false head 0 t in
    let few = round-le co2e head co2e (omega (arith, some)) (times head (omega (arith, some))) in
    rw t (kilograms-short (lt_of_le_of_lt few w)))
  where
    times : (head : ℕ) → 1 ≤ head → co2e ≤ co2e * head
    times head h = rw (mul-one co2e) at (mul-le-mul (le_refl co2e) h)

count-short : {head co2e : ℕ} → Word head → Word co2e → Short 180 (count_text head co2e)
unfolding count_text
count-short {head} h c = within 180 (skip 18 (number h ⊞ skip 38 (per-head-short head c ⊞ skip 5 none))) tt

figures-short : {e l c n g : ℕ} → Word e → Word l → Word c → Word n → Word g → Short 650 (figures_text e l c n g)
unfolding figures_text
figures-short e l c n g =
    within 650
    (cell-short (label-short _) e
    ⊞ (cell-short (label-short _) l ⊞ (cell-short (label-short _) c ⊞ (cell-short (label-short _) n ⊞ cell-short (label-short _) g)))) tt

together-short : {w : ℕ} → Word w → Short 110 (together_text w)
unfolding together_text
together-short w = within 110 (skip 17 (kilograms-short w)) tt

bars-short : {columns : ℕ} (sc : Scale) {from to : ℕ} (up : Bool) → Word columns → Word from → Word to → Short 400 (bars_text columns sc from to up)
unfolding bars_text
bars-short sc up c h k = within 400 (skip 41 (number c ⊞ skip 2 (bar-short sc up h k ⊞ skip 19 none))) tt

row-short : (sc : Scale) (g : Group) → GroupWords g → Short 2000 (group_text sc g)
unfolding group_text
row-short sc g w =
    let nine : Word 9 = omega arith in
    within 2000
    (heading-short g.class w.group
    ⊞ (count-short w.head w.co2e
    ⊞ (figures-short w.excreted w.land w.ch4 w.n2o w.grazing ⊞ (together-short w.co2e ⊞ bars-short sc false nine w.from w.to))))
    tt

-- ---- before the rows

style-short : Short 7500 style_text
unfolding style_text type_style table_style narrow_style print_style
style-short = within 7500 (label-short style_text) tt

named-short : (name : Option Named) → IfSome name (λ (n : Named). NameWords n) → Short 60 (named_text name)
named-short None w = within 60 (skip 7 none) tt
named-short (Some n) w = within 60 (skip 5 (number w.farm ⊞ skip 2 (number w.year))) tt

module _ (s : Survey) (w : SurveyWords s) where
  name-short : Short 60 (name_text s)
  unfolding name_text
  name-short = named-short s.name w.name

  title-short : Short 30 (title_text s.closed)
  unfolding title_text
  title-short = either s.closed (within 30 (label-short _) tt) (within 30 (label-short _) tt)

  head-short : Short 8300 (head_text s)
  unfolding head_text
  head-short =
      within 8300
      (skip 122 (name-short ⊞ (title-short ⊞ (style-short ⊞ (name-short ⊞ skip 88 (name-short ⊞ skip 48 none)))))) tt

  total-short : Short 600 (total_text s)
  unfolding total_text
  total-short = within 600 (skip 71 (kilograms-short w.total ⊞ skip 232 none)) tt

  groups-head-short : Short 900 (groups_head s)
  unfolding groups_head
  groups-head-short = within 900 (skip 64 (number w.a ⊞ skip 26 (number w.b ⊞ skip 403 none))) tt

  top-short : Short 9800 (top_text s)
  unfolding top_text
  top-short = within 9800 (head-short ⊞ (total-short ⊞ groups-head-short)) tt

  before-short : (refused : Bool) → Short 9000 (before_text s refused)
  unfolding before_text warning_text
  before-short refused =
      within 9000 (head-short ⊞ either refused (within 500 (skip 221 none) tt) (within 500 (skip 220 none) tt)) tt

  -- ---- after them

  farm-short : Short 700 (farm_text s)
  unfolding farm_text
  farm-short =
      let nine : Word 9 = omega arith in
      let end : Word (plus8 s.groups s.co2) = omega arith in
      either (of_farm s)
      (within 700 (skip 97 (kilograms-short w.co2 ⊞ bars-short (group_scale s) (below s.co2) nine w.groups end)) tt) (nothing 700)

  groups-foot-short : Short 900 (groups_foot s)
  unfolding groups_foot
  groups-foot-short =
      within 900
      (skip 43 (figures-short w.excreted w.land w.ch4 w.n2o w.grazing ⊞ (together-short w.total ⊞ skip 39 none))) tt

  words-short : (kind : ℕ) (seen up : Bool) → Short 100 (words_text kind seen up)
  unfolding words_text words_table
  words-short kind seen up =
      either seen (either up (within 100 (skip 8 none) tt) (within 100 (part-short 10 kind words_table) tt)) (within 100 (skip 16 none) tt)

  source-name-short : (kind : ℕ) → Short 120 (source_name kind)
  unfolding source_table
  source-name-short kind = within 120 (part-short 10 kind source_table) tt

  source-head-short : {kind : ℕ} (seen up : Bool) → Word kind → Short 300 (source_head kind seen up)
  unfolding source_head
  source-head-short {kind} seen up k =
      within 300 (skip 22 (number k ⊞ skip 9 (source-name-short kind ⊞ skip 5 (words-short kind seen up ⊞ skip 5 none)))) tt

  gases-short : {c n d : ℕ} → Word c → Word n → Word d → Short 400 (gases_text c n d)
  unfolding gases_text
  gases-short c n d = within 400 (cell-short (label-short _) c ⊞ (cell-short (label-short _) n ⊞ cell-short (label-short _) d)) tt

  source-short : {kind : ℕ} (x : Source) → SourceWords x → Word kind → Short 1250 (source_text (source_scale s) kind x)
  unfolding source_text
  source-short x v k =
      let five : Word 5 = omega arith in
      within 1250
      (source-head-short x.seen (below x.co2e) k
      ⊞ (gases-short v.ch4 v.n2o v.co2
      ⊞ (together-short v.co2e ⊞ bars-short (source_scale s) (below x.co2e) five v.from v.to)))
      tt

  small_word : (k : ℕ) → k ≤ 10 → Word k
  small_word k h = omega (arith, h)

  animals-short : Short 5600 (animals_text (source_scale s) s.sources)
  unfolding animals_text
  animals-short =
      let v = w.sources in
      let t = s.sources in
      within 5600
      (skip 359 (source-short t.enteric v.enteric (small_word 3 (omega arith))
      ⊞ (source-short t.cattle v.cattle (small_word 4 (omega arith))
      ⊞ (source-short t.pig v.pig (small_word 5 (omega arith)) ⊞ source-short t.grazing v.grazing (small_word 10 (omega arith))))))
      tt

  land-short : Short 3800 (land_text (source_scale s) s.sources)
  unfolding land_text
  land-short =
      let v = w.sources in
      let t = s.sources in
      within 3800
      (source-short t.energy v.energy (small_word 6 (omega arith))
      ⊞ (source-short t.soil v.soil (small_word 7 (omega arith)) ⊞ source-short t.tillage v.tillage (small_word 9 (omega arith))))
      tt

  sources-foot-short : Short 600 (sources_foot s)
  unfolding sources_foot
  sources-foot-short = within 600 (skip 25 (gases-short w.ch4 w.n2o w.co2 ⊞ (together-short w.total ⊞ skip 39 none))) tt

  sources-short : Short 10000 (sources_text s)
  unfolding sources_text
  sources-short = within 10000 (animals-short ⊞ (land-short ⊞ sources-foot-short)) tt

  gas-short : {g f c : ℕ} → Word g → Word f → Word c → Short 250 (gas_text g f c)
  unfolding gas_text
  gas-short g f c = within 250 (figure-short g ⊞ skip 17 (number f ⊞ skip 22 (kilograms-short c))) tt

  factors-short : Short 450 (factors_text s)
  unfolding factors_text
  factors-short = within 450 (skip 82 (number w.a ⊞ skip 69 (number w.b ⊞ skip 235 none))) tt

  carbon-short : Short 500 (carbon_text s)
  unfolding carbon_text
  carbon-short =
      within 500 (skip 64 (figure-short w.co2 ⊞ skip 40 (kilograms-short w.co2 ⊞ skip 104 (kilograms-short w.grazing)))) tt

  gas-table-short : Short 1800 (gas_table s)
  unfolding gas_table
  gas-table-short =
      within 1800
      (factors-short
      ⊞ (gas-short w.ch4 w.a w.methane
      ⊞ skip 63 (gas-short w.n2o w.b w.oxide ⊞ (carbon-short ⊞ skip 79 (kilograms-short w.total ⊞ skip 39 none)))))
      tt

  foot-short : Short 250 (foot_text s)
  unfolding foot_text
  foot-short = within 250 (skip 25 (name-short ⊞ skip 31 (number w.records ⊞ skip 48 none))) tt

  rest-short : Short 16000 (rest_text s)
  unfolding rest_text counted_text exact_text
  rest-short =
      within 16000
      (farm-short ⊞ (groups-foot-short ⊞ (sources-short ⊞ (gas-table-short ⊞ (label-short counted_text ⊞ (label-short exact_text ⊞ foot-short)))))) tt

  after-short : (refused : Bool) → Short 900 (after_text s refused)
  unfolding after_text advice_text
  after-short refused =
      within 900
      (either refused (within 400 (skip 281 none) tt) (within 400 (skip 261 none) tt)
      ⊞ skip 25
      (name-short ⊞ (either refused (within 60 (skip 41 none) tt) (within 60 (skip 42 none) tt) ⊞ (number w.records ⊞ skip 48 none))))
      tt

-- ---- the promises

-- A row of the groups, of a scale and a group with any numbers, is shorter than its buffer.
pub page-row-fits : (sc : Scale) (g : Group) → GroupWords g → length (group_text sc g) < row_buffer
page-row-fits sc g w = lt_of_le_of_lt (row-short sc g w).most (lit< tt)

-- So is what stands before the rows, and what stands after them.
pub page-parts-fit : (s : Survey) (v : Verdict) → SurveyWords s → (length (first_text s v) < part_buffer) × (length (last_text s v) < part_buffer)
page-parts-fit s v w =
    let first : Short 9800 (first_text s v) = either s.closed (top-short s w) (within 9800 (before-short s w (is_refused v)) tt) in
    let last : Short 16000 (last_text s v) = either s.closed (rest-short s w) (within 16000 (after-short s w (is_refused v)) tt) in
    (lt_of_le_of_lt first.most (lit< tt), lt_of_le_of_lt last.most (lit< tt))
