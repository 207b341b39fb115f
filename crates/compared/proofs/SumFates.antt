-- Sums: each subtotal of either book and the total are the same in both or printed.
-- Assumes nothing.
use Prim.Native.Nat.{ℕ, zero, suc, ◌+◌, ◌-◌, ◌≤◌, ◌<◌}
use mathlib.Core.Path.{◌≡◌, refl, sym, ap, ◌∙◌, subst}
use mathlib.Core.List.{List, [], ◌∷◌, ◌++◌}
use mathlib.Core.Bool.{Bool, true, false}
use mathlib.Core.Logic.{⊎_elim}
use native.Mathlib.Omega.{arith}
use borrow.Author.Tests.{eqb-true, eqb-false, ltb-true, ltb-false}
use lib.ListN.{length, take, drop, length-drop}
use lib.Seq.{drop-drop, drop-nil}
use lib.Dec.{eqb, ltb}
use Rattle.base.specs.Choice.{pick}
use Rattle.base.proofs.Tests.{by-test, neither, or_right, lt-or-ge}
use Rattle.account.specs.Account.{no_record}
use Rattle.account.specs.Judge.{kind_byte}
use Rattle.printing.specs.Ascii.{ascii}
use Rattle.line_bytes.specs.Lines.{figure_count, total_size}
use Rattle.book.specs.WholeRecords.{records_of}
use Rattle.walk.specs.Walk.{Entry, entries_of}
use Rattle.why.specs.Why.{why_of}
use Rattle.why.specs.Remarks.{machine_text}
use Rattle.compare.specs.Records.{same}
use Rattle.compare.specs.Places.{heads, closes, ends, part_of, after_part, no_group, group_at, group_size, after_group, first_bytes, subtotal_of}
use Rattle.compare.specs.Places.{close_lines, last_line_lem}
use Rattle.compare.specs.Figures.{two_sums_text, sum_text}
use Rattle.compare.specs.Values.{first_pair}
use Rattle.compare.specs.Sections.{alones_text, others_text, tail_text, group_title, both_groups_text, removed_text, added_text}
use Rattle.compare.specs.Sections.{total_text}
use Rattle.compare.specs.Sections.{groups_from}
use Rattle.compare.specs.Sections.{groups_text, last_text, book_text, before_text, beginnings_text}
use Rattle.compare.proofs.SameBytes.{same_true}
use Rattle.compared.specs.Reported.{Prints, subtotal_at, total_of, subtotals_text, SumFate, both, single, SumsReported}
use Rattle.compare.proofs.GroupNumbers.{AllLow, all-low}
use Rattle.compared.proofs.Whole.{after-drop, group-low, some-there, shorter}
use Rattle.compared.proofs.Fates.{prints-all, prints-left, prints-right, prints-in}
use Rattle.compared.proofs.Unsaid.{CloseLast, close-last, Rest, rest-after, rest-group, group-rest, some-heads, sums-here}

-- ---- where there are headings

-- none in a part
part_none : (x : ℕ) (es : List Entry) → x < length (part_of es) → group_at (drop x es) ≡ no_group
unfolding part_of
part_none x [] h = absurd (omega (arith, h))
part_none x (e ∷ es) h = go (λ y. part_none y es) x (ends e) refl h
  where
    go : ((y : ℕ) → y < length (part_of es) → group_at (drop y es) ≡ no_group) → (x : ℕ) (b : Bool) → ends e ≡ b
        → x < length (pick b [] (e ∷ part_of es)) → group_at (drop x (e ∷ es)) ≡ no_group
    go ih x true t h = absurd (omega (arith, h))
    go ih zero false t h = rw (neither (heads e) (closes e) t).0 refl
    go ih (suc x) false t h = ih x (omega (arith, h))

-- nor among the others of a group
group-none : (m : ℕ) (es : List Entry) → 0 < m → m < group_size es → group_at (drop m es) ≡ no_group
group-none zero es h k = absurd (omega (arith, h))
group-none (suc m) [] h k = refl
group-none (suc m) (e ∷ es) h k = part_none m es (omega (arith, k))

after-group : (m : ℕ) (es : List Entry) → group_size es ≤ m → drop (m - group_size es) (after_group es) ≡ drop m es
after-group m es h =
    let z : group_size es + (m - group_size es) ≡ m = omega (arith, h) in
    ap (λ (l : List Entry). drop (m - group_size es) l) (sym (group-rest es)) ∙ drop-drop (m - group_size es) (group_size es) es
    ∙ ap (λ (n : ℕ). drop n es) z

-- ---- a fate in a longer text, among more records

sum-in : {new : Bool} {t t' : List ℕ} {g : ℕ} {s : List ℕ} (shift : ℕ) (ns ns' : List Entry) → Prints t' t
    → ((m : ℕ) → m < length ns → (shift + m < length ns') × (drop (shift + m) ns' ≡ drop m ns)) → SumFate new t g s ns → SumFate new t' g s ns'
sum-in {new = new} {t} {t'} {g} {s} shift ns ns' x f (both m h e p) =
    let d = (f m h).1 in
    both (shift + m) (f m h).0 (ap group_at d ∙ e)
    (prints-in x (subst (λ (l : List Entry). Prints t (subtotals_text new s (subtotal_of true (after_group l)))) (sym d) p))
sum-in shift ns ns' x f (single p) = single (prints-in x p)

-- in the same records
sum-here : {new : Bool} {t t' : List ℕ} {g : ℕ} {s : List ℕ} (ns : List Entry) → Prints t' t → SumFate new t g s ns → SumFate new t' g s ns
sum-here ns x f =
    sum-in 0 ns ns x (λ m h. let z : 0 + m ≡ m = omega arith in (omega (arith, h), ap (λ (n : ℕ). drop n ns) z)) f

-- among those after a group
sum-later : {new : Bool} {t t' : List ℕ} {g : ℕ} {s : List ℕ} (ns : List Entry) → Prints t' t → SumFate new t g s (after_group ns)
    → SumFate new t' g s ns
sum-later ns x f =
    sum-in (group_size ns) (after_group ns) ns x
    (λ m h.
    let z : group_size ns + m - group_size ns ≡ m = omega arith in
    let l = ap length (sym (group-rest ns)) ∙ length-drop (group_size ns) ns in (
      omega (arith, h, l),
      sym (after-group (group_size ns + m) ns (omega arith)) ∙ ap (λ (n : ℕ). drop n (after_group ns)) z,
    )) f

-- the next group, and those after it
sum_step : (new : Bool) (text : List ℕ) (es ns : List Entry) → SumFate new text (group_at es) (subtotal_at es 0) ns
    → ((m : ℕ) → group_at (drop m (after_group es)) < no_group
    → SumFate new text (group_at (drop m (after_group es))) (subtotal_at (after_group es) m) ns)
    → (m : ℕ) → group_at (drop m es) < no_group → SumFate new text (group_at (drop m es)) (subtotal_at es m) ns
sum_step new text es ns f g zero h = f
sum_step new text es ns f g (suc m) h =
    ⊎_elim
    (λ (k : suc m < group_size es). let n = group-none (suc m) es (omega arith) k in absurd (omega (arith, h, n)))
    (λ (k : group_size es ≤ suc m).
    let d = after-group (suc m) es k in
    subst (λ (l : List Entry). SumFate new text (group_at l) (subtotal_of true (after_group l)) ns) d
    (g (suc m - group_size es) (subst (λ (l : List Entry). group_at l < no_group) (sym d) h)))
    (lt-or-ge (suc m) (group_size es))

-- ---- a group's sums

removed-sums : (i : ℕ) (es : List Entry) → Prints (removed_text i es) (sum_text (ascii "subtotal") figure_count (subtotal_at es 0) [])
unfolding removed_text tail_text
removed-sums i es =
    prints-right (group_title (group_at es) (ascii ", removed:\n"))
    (prints-right (alones_text false i (take (group_size es) es)) (prints-right (others_text 0) (prints-all _)))

added-sums : (j : ℕ) (ns : List Entry) → Prints (added_text j ns) (sum_text (ascii "subtotal") figure_count [] (subtotal_at ns 0))
unfolding added_text tail_text
added-sums j ns =
    prints-right (group_title (group_at ns) (ascii ", added:\n"))
    (prints-right (alones_text true j (take (group_size ns) ns)) (prints-right (others_text 0) (prints-all _)))

both_sums : (i : ℕ) (es : List Entry) (j : ℕ) (ns : List Entry)
    → Prints (both_groups_text i es j ns) (sum_text (ascii "subtotal") figure_count (subtotal_at es 0) (subtotal_at ns 0))
unfolding both_groups_text
both_sums i es j ns =
    sums-here (group_title (group_at es) (ascii ":\n")) (first_pair i es j ns) (same (first_bytes es) (first_bytes ns)) true (i + 1) (drop 1 es)
    (j + 1)
    (drop 1 ns)

-- ---- the total

total-part : (es : List Entry) → total_of (after_part es) ≡ total_of es
unfolding total_of after_part
total-part [] = refl
total-part (e ∷ es) = go (total-part es) (ends e) refl
  where
    go : total_of (after_part es) ≡ total_of es → (b : Bool) → ends e ≡ b → total_of (pick b (e ∷ es) (after_part es)) ≡ total_of (e ∷ es)
    go ih true t = refl
    go ih false t = rw (neither (heads e) (closes e) t).1 ih

no-close : (kind : ℕ) → kind ≡ 2 → eqb kind 8 ≡ false
no-close kind e = rw e refl

total-group : (es : List Entry) → group_at es < no_group → total_of (after_group es) ≡ total_of es
unfolding total_of
total-group [] g = absurd (omega (arith, g))
total-group (e ∷ es) g =
    let c : closes e ≡ false = no-close (kind_byte e.bytes) (eqb-true _ _ (some-heads e es g)) in
    total-part es ∙ sym (rw c refl)

-- where there is no group, the close comes next
total-close : (es : List Entry) → Rest es → group_at es ≡ no_group → last_line_lem (close_lines es) ≡ total_of es
unfolding total_of close_lines AllLow
total-close [] r g = drop-nil {A = ℕ} (length {A = ℕ} [] - total_size)
total-close (e ∷ es) r g =
    let f : heads e ≡ false = by-test (heads e) (λ t. let v = r.low.0 t in let w = (rw t at g) in absurd (omega (arith, v, w))) (λ t. t) in
    let c : closes e ≡ true = or_right (heads e) (closes e) r.begins f in
    rw c refl

-- ---- all groups

module _ (k i : ℕ) (es : List Entry) (j : ℕ) (ns : List Entry) (r : Rest es) (q : Rest ns)
    (ih : (i' : ℕ) (es' : List Entry) (j' : ℕ) (ns' : List Entry) → Rest es' → Rest ns' → length es' + length ns' < length es + length ns
    → SumsReported (groups_from k i' es' j' ns') es' ns') where
  removed-next : group_at es < no_group → SumsReported (removed_text i es ++ groups_from k (i + group_size es) (after_group es) j ns) es ns
  removed-next g =
      let here = removed_text i es in
      let later = groups_from k (i + group_size es) (after_group es) j ns in
      let s = shorter es (some-there es g) in
      let n = ih (i + group_size es) (after_group es) j ns (rest-group es r) q (omega (arith, s)) in
      let x = prints-right here (prints-all later) in
      record {
        old =
            sum_step false (here ++ later) es ns (single (prints-left later (removed-sums i es))) (λ m h. sum-here ns x (n.old m h));
        new = λ m h. sum-later es x (n.new m h);
        total =
            prints-in x
            (subst (λ (l : List ℕ). Prints later (sum_text (ascii "total") (figure_count + 1) l (total_of ns))) (total-group es g) n.total);
      }

  added_next : group_at ns < no_group → SumsReported (added_text j ns ++ groups_from k i es (j + group_size ns) (after_group ns)) es ns
  added_next g =
      let here = added_text j ns in
      let later = groups_from k i es (j + group_size ns) (after_group ns) in
      let s = shorter ns (some-there ns g) in
      let n = ih i es (j + group_size ns) (after_group ns) r (rest-group ns q) (omega (arith, s)) in
      let x = prints-right here (prints-all later) in
      record {
        old = λ m h. sum-later ns x (n.old m h);
        new = sum_step true (here ++ later) ns es (single (prints-left later (added-sums j ns))) (λ m h. sum-here es x (n.new m h));
        total =
            prints-in x
            (subst (λ (l : List ℕ). Prints later (sum_text (ascii "total") (figure_count + 1) (total_of es) l)) (total-group ns g) n.total);
      }

  both-next : group_at es < no_group → group_at es ≡ group_at ns
      → SumsReported (both_groups_text i es j ns ++ groups_from k (i + group_size es) (after_group es) (j + group_size ns) (after_group ns)) es ns
  both-next g e =
      let h : group_at ns < no_group = omega (arith, g, e) in
      let here = both_groups_text i es j ns in
      let later = groups_from k (i + group_size es) (after_group es) (j + group_size ns) (after_group ns) in
      let s = shorter es (some-there es g) in
      let u = shorter ns (some-there ns h) in
      let n = ih (i + group_size es) (after_group es) (j + group_size ns) (after_group ns) (rest-group es r) (rest-group ns q)
      (omega (arith, s, u)) in
      let x = prints-right here (prints-all later) in
      let p = prints-left later (both_sums i es j ns) in
      record {
        old = sum_step false (here ++ later) es ns (both 0 (some-there ns h) (sym e) p) (λ m l. sum-later ns x (n.old m l));
        new = sum_step true (here ++ later) ns es (both 0 (some-there es g) e p) (λ m l. sum-later es x (n.new m l));
        total =
            prints-in x
            (subst (λ (l : List ℕ). Prints later (sum_text (ascii "total") (figure_count + 1) l (total_of ns))) (total-group es g)
            (subst (λ (l : List ℕ). Prints later (sum_text (ascii "total") (figure_count + 1) (total_of (after_group es)) l)) (total-group ns h)
            n.total));
      }

-- no group is left
none_after : (m : ℕ) (es : List Entry) → Rest es → group_at es ≡ no_group → group_at (drop m es) ≡ no_group
unfolding AllLow CloseLast
none_after zero es r g = g
none_after (suc m) [] r g = refl
none_after (suc m) (e ∷ es) r g =
    let f : heads e ≡ false = by-test (heads e) (λ t. let v = r.low.0 t in let w = (rw t at g) in absurd (omega (arith, v, w))) (λ t. t) in
    let c : closes e ≡ true = or_right (heads e) (closes e) r.begins f in
    rw (r.last.0 c, drop-nil {A = Entry} m) refl

last-sums : (es ns : List Entry) → Rest es → Rest ns → group_at es ≡ no_group → group_at ns ≡ no_group → SumsReported (total_text es ns) es ns
unfolding total_text
last-sums es ns r q g h =
    record {
      old = λ m l. let z = none_after m es r g in absurd (omega (arith, l, z));
      new = λ m l. let z = none_after m ns q h in absurd (omega (arith, l, z));
      total =
          subst
          (λ (l : List ℕ).
          Prints (sum_text (ascii "total") (figure_count + 1) (last_line_lem (close_lines es)) (last_line_lem (close_lines ns)))
          (sum_text (ascii "total") (figure_count + 1) l (total_of ns)))
          (total-close es r g)
          (subst
          (λ (l : List ℕ).
          Prints (sum_text (ascii "total") (figure_count + 1) (last_line_lem (close_lines es)) (last_line_lem (close_lines ns)))
          (sum_text (ascii "total") (figure_count + 1) (last_line_lem (close_lines es)) l))
          (total-close ns q h) (prints-all _));
    }

none_at_all : (es : List Entry) → length es ≤ 0 → group_at es ≡ no_group
none_at_all [] h = refl
none_at_all (e ∷ es) h = absurd (omega (arith, h))

groups-sums : (k i : ℕ) (es : List Entry) (j : ℕ) (ns : List Entry) → Rest es → Rest ns → length es + length ns ≤ k
    → SumsReported (groups_from k i es j ns) es ns
unfolding groups_from
groups-sums zero i es j ns r q h = last-sums es ns r q (none_at_all es (omega (arith, h))) (none_at_all ns (omega (arith, h)))
groups-sums (suc k) i es j ns r q h = go (λ i' es' j' ns' a b l. groups-sums k i' es' j' ns' a b (omega (arith, h, l)))
  where
    go : ((i' : ℕ) (es' : List Entry) (j' : ℕ) (ns' : List Entry) → Rest es' → Rest ns' → length es' + length ns' < length es + length ns
        → SumsReported (groups_from k i' es' j' ns') es' ns') → SumsReported (groups_from (suc k) i es j ns) es ns
    go ih =
        let a = group-low es r.low in
        let b = group-low ns q.low in
        by-test (ltb (group_at es) (group_at ns))
        (λ t. rw t (removed-next k i es j ns r q ih (let g = ltb-true (group_at es) (group_at ns) t in omega (arith, g, b))))
        (λ t. by-test (ltb (group_at ns) (group_at es))
        (λ u. rw (t, u) (added_next k i es j ns r q ih (let g = ltb-true (group_at ns) (group_at es) u in omega (arith, g, a))))
        (λ u.
        let x = ltb-false (group_at es) (group_at ns) t in
        let y = ltb-false (group_at ns) (group_at es) u in
        by-test (eqb (group_at es) no_group)
        (λ v.
        let g = eqb-true (group_at es) no_group v in
        rw (t, u, v) (last-sums es ns r q g (omega (arith, g, x, y))))
        (λ v.
        let g = eqb-false (group_at es) no_group v in
        rw (t, u, v) (both-next k i es j ns r q ih (omega (arith, g, a)) (omega (arith, x, y))))))

-- ---- the whole books

-- what stands before the groups has no heading
sum-before : (new : Bool) (text : List ℕ) (es ns : List Entry)
    → ((m : ℕ) → group_at (drop m (after_part es)) < no_group → SumFate new text (group_at (drop m (after_part es))) (subtotal_at (after_part es) m)
    ns)
    → (m : ℕ) → group_at (drop m es) < no_group → SumFate new text (group_at (drop m es)) (subtotal_at es m) ns
sum-before new text es ns g m h =
    let n = length (part_of es) in
    ⊎_elim (λ (k : m < n). let z = part_none m es k in absurd (omega (arith, h, z)))
    (λ (k : n ≤ m).
    let z : n + (m - n) ≡ m = omega (arith, k) in
    let d : drop (m - n) (after_part es) ≡ drop m es =
    ap (λ (l : List Entry). drop (m - n) l) (sym (after-drop es)) ∙ drop-drop (m - n) n es ∙ ap (λ (x : ℕ). drop x es) z in
    subst (λ (l : List Entry). SumFate new text (group_at l) (subtotal_of true (after_group l)) ns) d
    (g (m - n) (subst (λ (l : List Entry). group_at l < no_group) (sym d) h)))
    (lt-or-ge m n)

sum-all : {new : Bool} {t t' : List ℕ} {g : ℕ} {s : List ℕ} (ns : List Entry) → Prints t' t → SumFate new t g s (after_part ns)
    → SumFate new t' g s ns
sum-all ns x f =
    let n = length (part_of ns) in
    let l = ap length (sym (after-drop ns)) ∙ length-drop n ns in
    sum-in n (after_part ns) ns x
    (λ m h. (omega (arith, h, l), sym (drop-drop m n ns) ∙ ap (λ (y : List Entry). drop m y) (after-drop ns))) f

-- The theorem, of what is printed of two books: the subtotal of each group of either is printed as far as it differs from that of the same group in
-- the other, or as a whole; and the total as far as it differs.
pub sums-said : (alike : Bool) (old new : List ℕ) → SumsReported (beginnings_text alike old new) (entries_of old) (entries_of new)
unfolding beginnings_text
sums-said alike old new =
    let es = entries_of old in
    let ns = entries_of new in
    let before = before_text es ns in
    let groups = groups_text (length (part_of es)) (after_part es) (length (part_of ns)) (after_part ns) in
    let r = rest-after es (all-low no_record (records_of old)) (close-last no_record (records_of old)) in
    let q = rest-after ns (all-low no_record (records_of new)) (close-last no_record (records_of new)) in
    let g =
    groups-sums (length (after_part es) + length (after_part ns)) (length (part_of es)) (after_part es) (length (part_of ns)) (after_part ns) r q
    (omega arith) in
    let x =
    prints-right (book_text false)
    (prints-right (machine_text (why_of old))
    (prints-right (book_text true)
    (prints-right (machine_text (why_of new)) (prints-right before (prints-left (last_text alike old new) (prints-all groups)))))) in
    record {
      old = sum-before false _ es ns (λ m h. sum-all ns x (g.old m h));
      new = sum-before true _ ns es (λ m h. sum-all es x (g.new m h));
      total =
          prints-in x
          (subst (λ (l : List ℕ). Prints groups (sum_text (ascii "total") (figure_count + 1) l (total_of ns))) (total-part es)
          (subst (λ (l : List ℕ). Prints groups (sum_text (ascii "total") (figure_count + 1) (total_of (after_part es)) l)) (total-part ns) g.total));
    }

-- ---- a sum that prints nothing is the same

none-long : (l : List ℕ) → eqb (length l) 0 ≡ true → l ≡ []
none-long [] h = refl
none-long (x ∷ l) h = absurd (let z = eqb-true (length (x ∷ l)) 0 h in omega (arith, z))

word_some : (w l : List ℕ) → 0 < length w → w ++ l ≡ [] → ⊥
word_some [] l h e = omega (arith, h)
word_some (x ∷ w) l h e = let z = ap length e in absurd (omega (arith, z))

pub silent-sum : (word : List ℕ) (n : ℕ) (s t : List ℕ) → 0 < length word → sum_text word n s t ≡ [] → s ≡ t
unfolding sum_text two_sums_text
silent-sum word n s t h e =
    by-test (eqb (length s) 0)
    (λ a. by-test (eqb (length t) 0) (λ b. none-long s a ∙ sym (none-long t b)) (λ b. absurd (word_some word _ h (rw (a, b) at e))))
    (λ a. by-test (eqb (length t) 0) (λ b. absurd (word_some word _ h (rw (a, b) at e)))
    (λ b. by-test (same s t) (λ c. same_true s t c) (λ c. absurd (word_some word _ h (rw (a, b, c) at e)))))
