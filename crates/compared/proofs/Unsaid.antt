-- What is not printed is the same in both books: of each record of either.
-- Assumes nothing.
use Prim.Native.Nat.{ℕ, zero, suc, ◌+◌, ◌-◌, ◌≤◌, ◌<◌}
use mathlib.Core.Path.{◌≡◌, refl, sym, ap, ◌∙◌, subst}
use mathlib.Core.List.{List, [], ◌∷◌, ◌++◌}
use mathlib.Core.Bool.{Bool, true, false, ◌&&◌, not}
use native.Mathlib.Omega.{arith}
use borrow.Author.Tests.{eqb-true, eqb-false, ltb-true, ltb-false}
use lib.ListN.{length, take, drop, length-drop, take-append-drop}
use lib.Seq.{drop-drop, length-take-le}
use lib.Dec.{eqb, ltb}
use Rattle.base.specs.Choice.{pick}
use Rattle.base.proofs.Tests.{by-test, of-choice, and_l, and_r, and-false, not-true, or_right}
use Rattle.codec.specs.Table.{row_of}
use Rattle.account.specs.declared.Account.{Account}
use Rattle.account.specs.declared.sort.Sort.TheVariants.{Heads, Closes}
use Rattle.account.specs.Sorts.{sort_of}
use Rattle.account.specs.Judge.{version_of, kind_byte, record_row, first, refusals, Step, accepted, judge}
use Rattle.account.specs.Account.{no_record}
use Rattle.printing.specs.Ascii.{ascii}
use Rattle.line_bytes.specs.Lines.{figure_count}
use Rattle.book.specs.WholeRecords.{records_of}
use Rattle.walk.specs.Walk.{Entry, accepts, entries_from, entries_of}
use Rattle.walk.proofs.Walks.{entries-ended}
use Rattle.why.specs.Why.{why_of}
use Rattle.why.specs.Remarks.{machine_text}
use Rattle.compare.specs.Records.{same}
use Rattle.compare.specs.Places.{heads, closes, ends, part_of, after_part, no_group, group_at, group_size, after_group, subtotal_of}
use Rattle.compare.specs.Plans.{plan_of, old_told, new_told, moved_many}
use Rattle.compare.specs.Figures.{sum_text}
use Rattle.compare.specs.Values.{own_line_lem, first_pair, pair_text}
use Rattle.compare.specs.Sections.{alones_text, told_text, moved_text, others_text, tail_text, silent, parts_text, group_title, both_groups_text}
use Rattle.compare.specs.Sections.{removed_text}
use Rattle.compare.specs.Sections.{added_text, total_text, groups_from, groups_text, last_text, book_text, before_text, beginnings_text}
use Rattle.compare.proofs.SameBytes.{same_true}
use Rattle.compare.proofs.Onward.{take-of-take}
use Rattle.compare.proofs.Sides.{part-few, part-take}
use Rattle.compared.specs.Reported.{entry_at, Prints, Fate, kept, alone, close, Reported}
use Rattle.compare.proofs.GroupNumbers.{AllLow, all-low, row-two}
use Rattle.compared.proofs.Whole.{after-drop, low-drop, group-low, some-there, shorter}
use Rattle.compared.proofs.Fates.{prints-all, prints-left, prints-right, prints-in, reported-both, reported-here}
use Rattle.compared.proofs.SectionFates.{section-reported, pair-old, pair-new, alones-at}

-- ---- the close is the last record

row-eight : (version kind : ℕ) → kind ≡ 8 → row_of version kind ≡ 8
row-eight version kind e = rw (e, and-false (eqb version 2)) refl

sort-eight : sort_of 8 ≡ Closes
unfolding sort_of
sort-eight = refl

sort-two : sort_of 2 ≡ Heads
unfolding sort_of
sort-two = refl

closes-sort : (r : List ℕ) → kind_byte r ≡ 8 → sort_of (record_row r) ≡ Closes
closes-sort r e = ap sort_of (row-eight (version_of r) (kind_byte r) e) ∙ sort-eight

close-stage : (a : Account) (r : List ℕ) → sort_of (record_row r) ≡ Closes → ((judge a r).account.stage ≡ 3 → ⊥) → 2 ≤ (judge a r).account.stage
unfolding judge accepted
close-stage a r s =
    of-choice (λ (j : Step). (j.account.stage ≡ 3 → ⊥) → 2 ≤ j.account.stage) (eqb (first (refusals a r)) 0) (λ e n. rw s (omega arith))
    (λ e n. absurd (n refl))

-- nothing stands after a close
unfoldable pub CloseLast : List Entry → Type 0
CloseLast [] = Unit {0}
CloseLast (e ∷ es) = (closes e ≡ true → es ≡ []) × CloseLast es

pub close-last : (a : Account) (rs : List (List ℕ)) → CloseLast (entries_from a rs)
unfolding CloseLast entries_from
close-last a [] = tt
close-last a (r ∷ rs) =
    of-choice CloseLast (accepts a r)
    (λ t. (
      λ c.
          entries-ended (judge a r).account rs
          (close-stage a r (closes-sort r (eqb-true _ _ c)) (eqb-false _ _
          (not-true _ (and_r (ltb a.stage 2) (not (eqb (judge a r).account.stage 3)) t)))),
      close-last (judge a r).account rs,
    ))
    (λ t. tt)

last-drop : (n : ℕ) (es : List Entry) → CloseLast es → CloseLast (drop n es)
unfolding CloseLast
last-drop zero es l = l
last-drop (suc n) [] l = tt
last-drop (suc n) (e ∷ es) l = last-drop n es l.1

last-after : (es : List Entry) → CloseLast es → CloseLast (after_part es)
last-after es l = subst CloseLast (after-drop es) (last-drop (length (part_of es)) es l)

-- ---- what follows a part begins with a heading or the close

abbrev pub Begins : List Entry → Type 0
Begins [] = Unit {0}
Begins (e ∷ es) = ends e ≡ true

after-begins : (es : List Entry) → Begins (after_part es)
unfolding after_part
after-begins [] = tt
after-begins (e ∷ es) = of-choice Begins (ends e) (λ t. t) (λ t. after-begins es)

-- ---- a part's text

not-silent : (under : Bool) (o n moved others : ℕ) (s t : List ℕ) → (moved ≡ 0 → ⊥) → silent under o n moved others s t ≡ false
not-silent under o n moved others s t z =
    by-test (silent under o n moved others s t)
    (λ h.
    let records = eqb o 0 && (eqb n 0 && (eqb moved 0 && eqb others 0)) in
    let r : records ≡ true = and_l records (same s t) (and_r under (records && same s t) h) in
    let q : eqb moved 0 && eqb others 0 ≡ true =
    and_r (eqb n 0) (eqb moved 0 && eqb others 0) (and_r (eqb o 0) (eqb n 0 && (eqb moved 0 && eqb others 0)) r) in
    absurd (z (eqb-true moved 0 (and_l (eqb moved 0) (eqb others 0) q))))
    (λ h. h)

plan-long : (es ns : List Entry) → ((plan_of es ns).old ≡ length es) × ((plan_of es ns).new ≡ length ns)
unfolding plan_of
plan-long es ns = (refl, refl)

-- no more are told than stand after the first
few-old : (es ns : List Entry) → old_told (plan_of es ns) ≤ length es - (plan_of es ns).front
few-old es ns =
    let l = (plan-long es ns).0 in
    by-test (plan_of es ns).moved (λ t. rw t (omega arith)) (λ t. rw t (omega (arith, l)))

few-new : (es ns : List Entry) → new_told (plan_of es ns) ≤ length ns - (plan_of es ns).front
few-new es ns =
    let l = (plan-long es ns).1 in
    by-test (plan_of es ns).moved (λ t. rw t (omega arith)) (λ t. rw t (omega (arith, l)))

in-part : (o f : ℕ) (es : List Entry) → o ≤ length (part_of es) - f → take o (drop f es) ≡ take o (drop f (part_of es))
in-part o f es h =
    sym (take-of-take o f (length (part_of es)) es h) ∙ ap (λ (l : List Entry). take o (drop f l)) (part-take es)

module _ (title headings : List ℕ) (under grouped : Bool) (i : ℕ) (es : List Entry) (j : ℕ) (ns : List Entry) where
  abbrev f : ℕ
  f = (plan_of (part_of es) (part_of ns)).front

  abbrev o : ℕ
  o = old_told (plan_of (part_of es) (part_of ns))

  abbrev n : ℕ
  n = new_told (plan_of (part_of es) (part_of ns))

  abbrev many : ℕ
  many = moved_many (plan_of (part_of es) (part_of ns))

  abbrev others : ℕ
  others = (plan_of (part_of es) (part_of ns)).others

  abbrev paired : Bool
  paired = (plan_of (part_of es) (part_of ns)).paired

  abbrev s : List ℕ
  s = subtotal_of grouped (after_part es)

  abbrev t : List ℕ
  t = subtotal_of grouped (after_part ns)

  abbrev quiet : Bool
  quiet = silent under o n many others s t

  abbrev begin : List ℕ
  begin = title ++ (headings ++ moved_text under (i + f) (j + f) many)

  abbrev told_here_lem : List ℕ
  told_here_lem = told_text paired (i + f) (take o (drop f es)) (j + f) (take n (drop f ns))

  abbrev text : List ℕ
  text = parts_text title headings under grouped i es j ns

  is : text ≡ pick quiet [] begin ++ (told_here_lem ++ tail_text others s t)
  unfolding parts_text
  is = refl

  has : {p : List ℕ} → Prints (pick quiet [] begin ++ (told_here_lem ++ tail_text others s t)) p → Prints text p
  has {p = p} x = subst (λ (l : List ℕ). Prints l p) (sym is) x

  begun : quiet ≡ false → Prints text begin
  begun q = has (prints-left (told_here_lem ++ tail_text others s t)
      (subst (λ (b : Bool). Prints (pick b [] begin) begin) (sym q) (prints-all begin)))

  pub headings-printed : quiet ≡ false → Prints text headings
  headings-printed q =
      prints-in (begun q) (prints-right title (prints-left (moved_text under (i + f) (j + f) many) (prints-all headings)))

  others-here : Prints text (others_text others)
  unfolding tail_text
  others-here =
      has (prints-right (pick quiet [] begin)
      (prints-right told_here_lem (prints-left (sum_text (ascii "subtotal") figure_count s t) (prints-all (others_text others)))))

  pub sums-here : Prints text (sum_text (ascii "subtotal") figure_count s t)
  unfolding tail_text
  sums-here =
      has (prints-right (pick quiet [] begin)
      (prints-right told_here_lem (prints-right (others_text others) (prints-all (sum_text (ascii "subtotal") figure_count s t)))))

  told_here : Prints text told_here_lem
  told_here = has (prints-right (pick quiet [] begin) (prints-left (tail_text others s t) (prints-all told_here_lem)))

  pub parts-reported : Reported text i (part_of es) j (part_of ns)
  parts-reported =
      section-reported (part_of es) (part_of ns) under text i j
      (record {
        told =
            subst (λ (l : List Entry). Prints text (told_text paired (i + f) l (j + f) (take n (drop f (part_of ns)))))
            (in-part o f es (few-old (part_of es) (part_of ns)))
            (subst (λ (l : List Entry). Prints text (told_text paired (i + f) (take o (drop f es)) (j + f) l))
            (in-part n f ns (few-new (part_of es) (part_of ns))) told_here);
        order = λ h.
            prints-in (begun (not-silent under o n many others s t (λ z. absurd (omega (arith, h, z)))))
            (prints-right title (prints-right headings (prints-all (moved_text under (i + f) (j + f) many))));
        others = others-here;
      })

-- ---- the headings

head-own : (e : Entry) → heads e ≡ true → own_line_lem e.bytes e.lines ≡ []
head-own e h =
    let k : sort_of (record_row e.bytes) ≡ Heads =
    ap sort_of (row-two (version_of e.bytes) (kind_byte e.bytes) (eqb-true _ _ h)) ∙ sort-two in
    rw k refl

one-old : (new : Bool) (text : List ℕ) (i : ℕ) (e : Entry) (j : ℕ) (ns : List Entry) → Fate new text (i + 0) e j ns
    → (m : ℕ) → m < 1 → Fate new text (i + m) (entry_at (e ∷ []) m) j ns
one-old new text i e j ns f zero h = f
one-old new text i e j ns f (suc m) h = absurd (omega (arith, h))

heading-reported : (text : List ℕ) (i : ℕ) (e : Entry) (j : ℕ) (n : Entry) → heads e ≡ true → heads n ≡ true
    → (same e.bytes n.bytes ≡ false → Prints text (pair_text i e.bytes e.lines j n.bytes n.lines))
    → Reported text i (e ∷ []) j (n ∷ [])
heading-reported text i e j n h k p =
    by-test (same e.bytes n.bytes)
    (λ t.
    let b = same_true e.bytes n.bytes t in
    let l : own_line_lem e.bytes e.lines ≡ own_line_lem n.bytes n.lines = head-own e h ∙ sym (head-own n k) in
    record {
      old = one-old false text i e j (n ∷ []) (kept 0 (omega arith) (record { bytes = b; line = l }));
      new = one-old true text j n i (e ∷ []) (kept 0 (omega arith) (record { bytes = sym b; line = sym l }));
    })
    (λ t.
    let z : i ≡ i + 0 = omega arith in
    let w : j ≡ j + 0 = omega arith in
    let q : Prints text (pair_text (i + 0) e.bytes e.lines (j + 0) n.bytes n.lines) =
    subst (λ (x : ℕ). Prints text (pair_text x e.bytes e.lines (j + 0) n.bytes n.lines)) z
    (subst (λ (x : ℕ). Prints text (pair_text i e.bytes e.lines x n.bytes n.lines)) w (p t)) in
    record {
      old = one-old false text i e j (n ∷ []) (pair-old text i j 0 0 (e ∷ []) (n ∷ []) q (omega arith) (omega arith) t);
      new = one-old true text j n i (e ∷ []) (pair-new text i j 0 0 (e ∷ []) (n ∷ []) q (omega arith) (omega arith) t);
    })

-- ---- a group

pub group-long : (es : List Entry) → 0 < length es → length (take (group_size es) es) ≡ group_size es
group-long es h =
    let f = part-few (drop 1 es) in
    let l = length-drop 1 es in
    length-take-le (group_size es) es (omega (arith, f, l, h))

pub group-rest : (es : List Entry) → drop (group_size es) es ≡ after_group es
group-rest es =
    let z : 1 + length (part_of (drop 1 es)) ≡ group_size es = omega arith in
    ap (λ (n : ℕ). drop n es) (sym z) ∙ sym (drop-drop (length (part_of (drop 1 es))) 1 es) ∙ after-drop (drop 1 es)

group-split : (es : List Entry) → take (group_size es) es ++ after_group es ≡ es
group-split es = ap (λ (l : List Entry). take (group_size es) es ++ l) (sym (group-rest es)) ∙ take-append-drop (group_size es) es

-- a group that both books have
both-reported : (i : ℕ) (e : Entry) (es : List Entry) (j : ℕ) (n : Entry) (ns : List Entry) → heads e ≡ true → heads n ≡ true
    → Reported (both_groups_text i (e ∷ es) j (n ∷ ns)) i (take (group_size (e ∷ es)) (e ∷ es)) j (take (group_size (n ∷ ns)) (n ∷ ns))
unfolding both_groups_text
both-reported i e es j n ns h k =
    let title = group_title (group_at (e ∷ es)) (ascii ":\n") in
    let pair = first_pair i (e ∷ es) j (n ∷ ns) in
    let under = same e.bytes n.bytes in
    let text = parts_text title pair under true (i + 1) es (j + 1) ns in
    let first =
    heading-reported text i e j n h k (λ t. headings-printed title pair under true (i + 1) es (j + 1) ns (rw t refl)) in
    let rest = parts-reported title pair under true (i + 1) es (j + 1) ns in
    let whole = reported-both text (prints-all text) (prints-all text) i (e ∷ []) (part_of es) j (n ∷ []) (part_of ns) first rest in
    subst (λ (l : List Entry). Reported text i l j (take (group_size (n ∷ ns)) (n ∷ ns))) (ap (λ (l : List Entry). e ∷ l) (sym (part-take es)))
    (subst (λ (l : List Entry). Reported text i (e ∷ part_of es) j l) (ap (λ (l : List Entry). n ∷ l) (sym (part-take ns))) whole)

-- one that only the old book has, and one that only the new one has
removed-reported : (i j : ℕ) (es : List Entry) → Reported (removed_text i es) i (take (group_size es) es) j []
unfolding removed_text
removed-reported i j es =
    record {
      old = λ m h.
          alone (prints-in (prints-right (group_title (group_at es) (ascii ", removed:\n"))
          (prints-left _ (prints-all (alones_text false i (take (group_size es) es)))))
          (alones-at false i m (take (group_size es) es) h));
      new = λ m h. absurd (omega (arith, h));
    }

added-reported : (i j : ℕ) (ns : List Entry) → Reported (added_text j ns) i [] j (take (group_size ns) ns)
unfolding added_text
added-reported i j ns =
    record {
      old = λ m h. absurd (omega (arith, h));
      new = λ m h.
          alone (prints-in (prints-right (group_title (group_at ns) (ascii ", added:\n"))
          (prints-left _ (prints-all (alones_text true j (take (group_size ns) ns)))))
          (alones-at true j m (take (group_size ns) ns) h));
    }

-- ---- all groups

-- a book from the end of a part on
pub record Rest (es : List Entry) : Type 0 where
  pub low : AllLow es
  pub last : CloseLast es
  pub begins : Begins es

pub rest-after : (es : List Entry) → AllLow es → CloseLast es → Rest (after_part es)
rest-after es l c =
    record {
      low = subst AllLow (after-drop es) (low-drop (length (part_of es)) es l);
      last = last-after es c;
      begins = after-begins es;
    }

pub rest-group : (es : List Entry) → Rest es → Rest (after_group es)
rest-group es r = rest-after (drop 1 es) (low-drop 1 es r.low) (last-drop 1 es r.last)

-- where there is no group, the close is all that is left
only-close : (new : Bool) (text : List ℕ) (i : ℕ) (es : List Entry) (j : ℕ) (ns : List Entry) → Rest es → group_at es ≡ no_group
    → (m : ℕ) → m < length es → Fate new text (i + m) (entry_at es m) j ns
unfolding AllLow CloseLast
only-close new text i [] j ns r g m h = absurd (omega (arith, h))
only-close new text i (e ∷ es) j ns r g m h =
    let b = r.begins in
    let f : heads e ≡ false = by-test (heads e) (λ t. let v = r.low.0 t in let w = (rw t at g) in absurd (omega (arith, v, w))) (λ t. t) in
    let c : closes e ≡ true = or_right (heads e) (closes e) b f in
    let l = ap length (r.last.0 c) in
    let z : m ≡ 0 = omega (arith, h, l) in
    subst (λ (k : ℕ). Fate new text (i + k) (entry_at (e ∷ es) k) j ns) (sym z) (close c)

pub some-heads : (e : Entry) (es : List Entry) → group_at (e ∷ es) < no_group → heads e ≡ true
some-heads e es g = by-test (heads e) (λ t. t) (λ t. let w = (rw t at g) in absurd (omega (arith, w)))

module _ (k i : ℕ) (es : List Entry) (j : ℕ) (ns : List Entry) (r : Rest es) (q : Rest ns)
    (ih : (i' : ℕ) (es' : List Entry) (j' : ℕ) (ns' : List Entry) → Rest es' → Rest ns' → length es' + length ns' < length es + length ns
    → Reported (groups_from k i' es' j' ns') i' es' j' ns') where
  removed-next : ltb (group_at es) (group_at ns) ≡ true
      → Reported (removed_text i es ++ groups_from k (i + group_size es) (after_group es) j ns) i es j ns
  removed-next t =
      let n : 0 < length es = let g = ltb-true (group_at es) (group_at ns) t in let u = group-low ns q.low in some-there es (omega (arith, g, u)) in
      let later = groups_from k (i + group_size es) (after_group es) j ns in
      let text = removed_text i es ++ later in
      let l = group-long es n in
      let w : j ≡ j + 0 = omega arith in
      let s = shorter es n in
      let next =
      subst (λ (x : ℕ). Reported later (i + x) (after_group es) (j + 0) ns) (sym l)
      (subst (λ (x : ℕ). Reported later (i + group_size es) (after_group es) x ns) w (ih _ _ _ _ (rest-group es r) q (omega (arith, s)))) in
      subst (λ (x : List Entry). Reported text i x j ns) (group-split es)
      (reported-both text (prints-left later (prints-all (removed_text i es))) (prints-right (removed_text i es) (prints-all later)) i
      (take (group_size es) es)
      (after_group es) j [] ns (removed-reported i j es) next)

  added_next : ltb (group_at ns) (group_at es) ≡ true
      → Reported (added_text j ns ++ groups_from k i es (j + group_size ns) (after_group ns)) i es j ns
  added_next t =
      let n : 0 < length ns = let g = ltb-true (group_at ns) (group_at es) t in let u = group-low es r.low in some-there ns (omega (arith, g, u)) in
      let later = groups_from k i es (j + group_size ns) (after_group ns) in
      let text = added_text j ns ++ later in
      let l = group-long ns n in
      let w : i ≡ i + 0 = omega arith in
      let s = shorter ns n in
      let next =
      subst (λ (x : ℕ). Reported later (i + 0) es (j + x) (after_group ns)) (sym l)
      (subst (λ (x : ℕ). Reported later x es (j + group_size ns) (after_group ns)) w (ih _ _ _ _ r (rest-group ns q) (omega (arith, s)))) in
      subst (λ (x : List Entry). Reported text i es j x) (group-split ns)
      (reported-both text (prints-left later (prints-all (added_text j ns))) (prints-right (added_text j ns) (prints-all later)) i [] es j
      (take (group_size ns) ns) (after_group ns) (added-reported i j ns) next)

  both-next : 0 < length es → 0 < length ns
      → Reported (both_groups_text i es j ns) i (take (group_size es) es) j (take (group_size ns) ns)
      → Reported (both_groups_text i es j ns ++ groups_from k (i + group_size es) (after_group es) (j + group_size ns) (after_group ns)) i es j ns
  both-next n m b =
      let later = groups_from k (i + group_size es) (after_group es) (j + group_size ns) (after_group ns) in
      let here = both_groups_text i es j ns in
      let text = here ++ later in
      let s = shorter es n in
      let u = shorter ns m in
      let next =
      subst (λ (x : ℕ). Reported later (i + x) (after_group es) (j + length (take (group_size ns) ns)) (after_group ns)) (sym (group-long es n))
      (subst (λ (x : ℕ). Reported later (i + group_size es) (after_group es) (j + x) (after_group ns)) (sym (group-long ns m))
      (ih _ _ _ _ (rest-group es r) (rest-group ns q) (omega (arith, s, u)))) in
      subst (λ (x : List Entry). Reported text i x j ns) (group-split es)
      (subst (λ (x : List Entry). Reported text i (take (group_size es) es ++ after_group es) j x) (group-split ns)
      (reported-both text (prints-left later (prints-all here)) (prints-right here (prints-all later)) i (take (group_size es) es) (after_group es) j
      (take (group_size ns) ns) (after_group ns) b next))

both-here : (i : ℕ) (es : List Entry) (j : ℕ) (ns : List Entry) → group_at es < no_group → group_at ns < no_group
    → Reported (both_groups_text i es j ns) i (take (group_size es) es) j (take (group_size ns) ns)
both-here i [] j ns g h = absurd (omega (arith, g))
both-here i (e ∷ es) j [] g h = absurd (omega (arith, h))
both-here i (e ∷ es) j (n ∷ ns) g h = both-reported i e es j n ns (some-heads e es g) (some-heads n ns h)

groups-reported : (k i : ℕ) (es : List Entry) (j : ℕ) (ns : List Entry) → Rest es → Rest ns → length es + length ns ≤ k
    → Reported (groups_from k i es j ns) i es j ns
unfolding groups_from
groups-reported zero i es j ns r q h = record { old = λ m l. absurd (omega (arith, h, l)); new = λ m l. absurd (omega (arith, h, l)) }
groups-reported (suc k) i es j ns r q h = go (λ i' es' j' ns' a b l. groups-reported k i' es' j' ns' a b (omega (arith, h, l)))
  where
    go : ((i' : ℕ) (es' : List Entry) (j' : ℕ) (ns' : List Entry) → Rest es' → Rest ns' → length es' + length ns' < length es + length ns
        → Reported (groups_from k i' es' j' ns') i' es' j' ns') → Reported (groups_from (suc k) i es j ns) i es j ns
    go ih =
        by-test (ltb (group_at es) (group_at ns)) (λ t. rw t (removed-next k i es j ns r q ih t))
        (λ t. by-test (ltb (group_at ns) (group_at es)) (λ u. rw (t, u) (added_next k i es j ns r q ih u))
        (λ u.
        let x = ltb-false (group_at es) (group_at ns) t in
        let y = ltb-false (group_at ns) (group_at es) u in
        by-test (eqb (group_at es) no_group)
        (λ v.
        let g = eqb-true (group_at es) no_group v in
        rw (t, u, v)
        (record {
          old = only-close false (total_text es ns) i es j ns r g;
          new = only-close true (total_text es ns) j ns i es q (omega (arith, g, x, y));
        }))
        (λ v.
        let g = eqb-false (group_at es) no_group v in
        let a = group-low es r.low in
        let c : group_at es < no_group = omega (arith, g, a) in
        let d : group_at ns < no_group = omega (arith, c, x, y) in
        rw (t, u, v) (both-next k i es j ns r q ih (some-there es c) (some-there ns d) (both-here i es j ns c d)))))

-- ---- the whole books

part-split : (es : List Entry) → part_of es ++ after_part es ≡ es
part-split es =
    ap (λ (l : List Entry). l ++ after_part es) (sym (part-take es)) ∙ ap (λ (l : List Entry). take (length (part_of es)) es ++ l)
    (sym (after-drop es))
    ∙ take-append-drop (length (part_of es)) es

-- The theorem, of what is printed of two books: each accepted record of either is in the other too, with the same line, or the text names it. Nobody
-- has to know how the comparison goes to read this; alike says only which last word is printed.
pub unsaid-same : (alike : Bool) (old new : List ℕ) → Reported (beginnings_text alike old new) 0 (entries_of old) 0 (entries_of new)
unfolding beginnings_text before_text
unsaid-same alike old new =
    let es = entries_of old in
    let ns = entries_of new in
    let before = before_text es ns in
    let groups = groups_text (length (part_of es)) (after_part es) (length (part_of ns)) (after_part ns) in
    let text = before ++ (groups ++ last_text alike old new) in
    let r = rest-after es (all-low no_record (records_of old)) (close-last no_record (records_of old)) in
    let q = rest-after ns (all-low no_record (records_of new)) (close-last no_record (records_of new)) in
    let a : length (part_of es) ≡ 0 + length (part_of es) = omega arith in
    let c : length (part_of ns) ≡ 0 + length (part_of ns) = omega arith in
    let g =
    subst (λ (x : ℕ). Reported groups x (after_part es) (0 + length (part_of ns)) (after_part ns)) a
    (subst (λ (x : ℕ). Reported groups (length (part_of es)) (after_part es) x (after_part ns)) c
    (groups-reported (length (after_part es) + length (after_part ns)) (length (part_of es)) (after_part es) (length (part_of ns)) (after_part ns) r q
    (omega arith))) in
    let b = parts-reported (ascii "before the groups:\n") [] true false 0 es 0 ns in
    let whole =
    reported-both text (prints-left (groups ++ last_text alike old new) (prints-all before))
    (prints-right before (prints-left (last_text alike old new) (prints-all groups))) 0 (part_of es) (after_part es) 0 (part_of ns)
    (after_part ns) b g in
    let both =
    subst (λ (x : List Entry). Reported text 0 x 0 ns) (part-split es)
    (subst (λ (x : List Entry). Reported text 0 (part_of es ++ after_part es) 0 x) (part-split ns) whole) in
    reported-here 0 es 0 ns
    (prints-right (book_text false)
    (prints-right (machine_text (why_of old)) (prints-right (book_text true) (prints-right (machine_text (why_of new)) (prints-all text))))) both
