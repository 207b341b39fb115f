-- The pieces that the program prints, one after the other, are what the definition says of the two books.
-- Assumes nothing.
use Prim.Native.Nat.{ℕ, zero, suc, ◌+◌, ◌-◌, ◌≤◌, ◌<◌}
use mathlib.Core.Path.{◌≡◌, refl, sym, ap, ◌∙◌, subst}
use mathlib.Core.List.{List, [], ◌∷◌, ◌++◌, append_assoc, append-nil}
use mathlib.Core.Bool.{Bool, true, false, ◌&&◌, not}
use native.Mathlib.Omega.{arith}
use borrow.Author.Tests.{eqb-true, eqb-false, ltb-true, ltb-false, le-leb}
use lib.ListN.{length, take, drop, length-drop}
use lib.Seq.{take-nil}
use lib.Dec.{eqb, ltb, leb}
use Rattle.base.specs.Choice.{pick}
use Rattle.base.proofs.Tests.{by-test, and_r, both_true}
use Rattle.account.proofs.Clauses.{in-range-test}
use Rattle.account.specs.Range.{account_in_range}
use Rattle.printing.specs.Ascii.{ascii}
use Rattle.why.specs.Why.{why_of}
use Rattle.why.specs.Remarks.{machine_text}
use Rattle.book.specs.WholeRecords.{records_of}
use Rattle.walk.specs.Walk.{Entry, entries_of}
use Rattle.compare.specs.declared.Cursor.{Cursor}
use Rattle.compare.specs.declared.Side.{Side}
use Rattle.compare.specs.declared.Stage.{Stage}
use Rattle.compare.specs.declared.Stage.TheVariants.{OldName, OldVerdict, NewName, NewVerdict, Before, Section, NextGroup, End}
use Rattle.compare.specs.declared.places.Place.{Place}
use Rattle.compare.specs.declared.plans.Plan.{Plan}
use Rattle.compare.specs.Records.{same}
use Rattle.compare.specs.Places.{start, left_of, onward, stands_in, heads, ends, part_of, after_part, no_group, group_at, group_size, after_group}
use Rattle.compare.specs.Places.{first_bytes}
use Rattle.compare.specs.Places.{part_end_lem, subtotal_of}
use Rattle.compare.specs.Plans.{plan_of, moved_of, front_of, back_of, old_told, new_told}
use Rattle.compare.specs.Values.{first_alone, first_pair}
use Rattle.compare.specs.Sections.{alones_text, pairs_text, told_text, tail_text, parts_text, group_title, both_groups_text, removed_text}
use Rattle.compare.specs.Sections.{added_text}
use Rattle.compare.specs.Sections.{total_text, groups_from, groups_text, last_text, book_text, before_text, beginnings_text}
use Rattle.compare.specs.Steps.{Stepping, idle, at_places, beginning, ended, opened, one_told, subtotal_at, open_text}
use Rattle.compare.specs.Steps.{before_step}
use Rattle.compare.specs.Steps.{old_step, new_step, pair_step, tail_step, section_step, removed_step, added_step, both_step, last_step_lem}
use Rattle.compare.specs.Steps.{group_step}
use Rattle.compare.specs.Steps.{no_step, step_in, stage_step, side_in, step_of, text_in, cursor_after}
use Rattle.compare.specs.Inner.{Valid}
use Rattle.compare.specs.InnerSides.{ValidSide}
use Rattle.compare.proofs.Walks.{valid-start}
use Rattle.compare.proofs.GroupNumbers.{AllLow, all-low}
use Rattle.compare.proofs.Onward.{valid-onward, left-onward, number-onward}
use Rattle.compare.proofs.Sides.{part-few, plan-front}

-- ---- lists

-- what follows a part
pub after-drop : (es : List Entry) → drop (length (part_of es)) es ≡ after_part es
unfolding part_of after_part
after-drop [] = refl
after-drop (e ∷ es) = go (ends e) (after-drop es)
  where
    go : (b : Bool) → drop (length (part_of es)) es ≡ after_part es
        → drop (length (pick b [] (e ∷ part_of es))) (e ∷ es) ≡ pick b (e ∷ es) (after_part es)
    go true h = refl
    go false h = h

-- ---- the end of a part

module _ (xs : List ℕ) (p : Place) (v : Valid xs p) where
  pub end-left : left_of xs (part_end_lem xs p) ≡ after_part (left_of xs p)
  end-left = left-onward (length (part_of (left_of xs p))) xs p v ∙ after-drop (left_of xs p)

  pub end-number : (part_end_lem xs p).number ≡ p.number + length (part_of (left_of xs p))
  end-number =
      let n = number-onward (length (part_of (left_of xs p))) xs p v in
      let f = part-few (left_of xs p) in
      omega (arith, n, f)

-- ---- group numbers, and how many sections there are

pub low-drop : (n : ℕ) (es : List Entry) → AllLow es → AllLow (drop n es)
unfolding AllLow
low-drop zero es l = l
low-drop (suc n) [] l = tt
low-drop (suc n) (e ∷ es) l = low-drop n es l.1

pub low-after : (es : List Entry) → AllLow es → AllLow (after_group es)
low-after es l = subst AllLow (after-drop (drop 1 es)) (low-drop (length (part_of (drop 1 es))) (drop 1 es) (low-drop 1 es l))

pub group-low : (es : List Entry) → AllLow es → group_at es ≤ no_group
unfolding AllLow
group-low [] l = omega arith
group-low (e ∷ es) l =
    by-test (heads e) (λ t. rw t (let v = l.0 t in omega (arith, v))) (λ t. rw t (omega arith))

pub some-there : (es : List Entry) → group_at es < no_group → 0 < length es
some-there [] h = absurd (omega (arith, h))
some-there (e ∷ es) h = omega arith

pub shorter : (es : List Entry) → 0 < length es → length (after_group es) < length es
shorter es h =
    let l = ap length (sym (after-drop (drop 1 es))) ∙ length-drop (length (part_of (drop 1 es))) (drop 1 es) in
    let m = length-drop 1 es in
    omega (arith, l, m, h)

-- any number of sections from that of the records on gives the same text
enough : (k l i j : ℕ) (es ns : List Entry) → AllLow es → AllLow ns → length es + length ns ≤ k → length es + length ns ≤ l
    → groups_from k i es j ns ≡ groups_from l i es j ns
unfolding groups_from
enough zero zero i j es ns a b h m = refl
enough zero (suc l) i j [] [] a b h m = refl
enough zero (suc l) i j (e ∷ es) ns a b h m = absurd (omega (arith, h))
enough zero (suc l) i j [] (n ∷ ns) a b h m = absurd (omega (arith, h))
enough (suc k) zero i j [] [] a b h m = refl
enough (suc k) zero i j (e ∷ es) ns a b h m = absurd (omega (arith, m))
enough (suc k) zero i j [] (n ∷ ns) a b h m = absurd (omega (arith, m))
enough (suc k) (suc l) i j es ns a b h m =
    go (λ i' es' j' ns' p q r s. enough k l i' j' es' ns' p q r s)
  where
    go : ((i' : ℕ) (es' : List Entry) (j' : ℕ) (ns' : List Entry) → AllLow es' → AllLow ns' → length es' + length ns' ≤ k
        → length es' + length ns' ≤ l
        → groups_from k i' es' j' ns' ≡ groups_from l i' es' j' ns')
        → groups_from (suc k) i es j ns ≡ groups_from (suc l) i es j ns
    go ih =
        by-test (ltb (group_at es) (group_at ns))
        (λ t.
        let n : 0 < length es = let g = ltb-true (group_at es) (group_at ns) t in let u = group-low ns b in some-there es (omega (arith, g, u)) in
        let s = shorter es n in
        rw t (ap (λ (x : List ℕ). removed_text i es ++ x) (ih _ _ _ _ (low-after es a) b (omega (arith, s, h)) (omega (arith, s, m)))))
        (λ t. by-test (ltb (group_at ns) (group_at es))
        (λ u.
        let n : 0 < length ns = let g = ltb-true (group_at ns) (group_at es) u in let v = group-low es a in some-there ns (omega (arith, g, v)) in
        let s = shorter ns n in
        rw (t, u) (ap (λ (x : List ℕ). added_text j ns ++ x) (ih _ _ _ _ a (low-after ns b) (omega (arith, s, h)) (omega (arith, s, m)))))
        (λ u. by-test (eqb (group_at es) no_group)
        (λ v. rw (t, u, v) refl)
        (λ v.
        let g = eqb-false (group_at es) no_group v in
        let low' = group-low es a in
        let x = ltb-false (group_at es) (group_at ns) t in
        let y = ltb-false (group_at ns) (group_at es) u in
        let n : 0 < length es = some-there es (omega (arith, g, low')) in
        let o : 0 < length ns = some-there ns (omega (arith, g, low', x, y)) in
        let s = shorter es n in
        let r = shorter ns o in
        rw (t, u, v) (ap (λ (z : List ℕ). both_groups_text i es j ns ++ z)
        (ih _ _ _ _ (low-after es a) (low-after ns b) (omega (arith, s, r, h)) (omega (arith, s, r, m)))))))

-- ---- what is left to print

-- from two places at the end of a section on
abbrev groups_rest : Bool → List ℕ → List ℕ → Place → Place → List ℕ
groups_rest alike old new p q = groups_text p.number (left_of old p) q.number (left_of new q) ++ last_text alike old new

-- in a section
abbrev told_rest : List ℕ → List ℕ → Cursor → List ℕ
told_rest old new c =
    told_text c.paired c.old.place.number (take c.old.left (left_of old c.old.place)) c.new.place.number
    (take c.new.left (left_of new c.new.place))

abbrev section_rest : Bool → List ℕ → List ℕ → Cursor → List ℕ
section_rest alike old new c =
    told_rest old new c
    ++ (tail_text c.others (subtotal_at old c.old) (subtotal_at new c.new) ++ groups_rest alike old new c.old.end c.new.end)

abbrev before_rest : Bool → List ℕ → List ℕ → List ℕ
before_rest alike old new =
    before_text (entries_of old) (entries_of new)
    ++ (groups_text (length (part_of (entries_of old))) (after_part (entries_of old)) (length (part_of (entries_of new)))
    (after_part (entries_of new))
    ++ last_text alike old new)

-- text is what is left to print at the cursor c
pub data Left (alike : Bool) (old new : List ℕ) (c : Cursor) (text : List ℕ) : Type 0 where
  first : c ≡ at_places OldName start start → text ≡ beginnings_text alike old new → Left alike old new c text
  second : c ≡ at_places OldVerdict start start
      → text ≡ machine_text (why_of old) ++ (book_text true ++ (machine_text (why_of new) ++ before_rest alike old new))
      → Left alike old new c text
  third : c ≡ at_places NewName start start → text ≡ book_text true ++ (machine_text (why_of new) ++ before_rest alike old new) → Left alike old new c text
  fourth : c ≡ at_places NewVerdict start start → text ≡ machine_text (why_of new) ++ before_rest alike old new → Left alike old new c text
  before : c ≡ at_places Before start start → text ≡ before_rest alike old new → Left alike old new c text
  section : c.stage ≡ Section → ValidSide old c.old → ValidSide new c.new → (c.paired ≡ true → c.old.left ≡ c.new.left)
      → text ≡ section_rest alike old new c → Left alike old new c text
  group : (p q : Place) → Valid old p → Valid new q → c ≡ at_places NextGroup p q → text ≡ groups_rest alike old new p q → Left alike old new c text
  over : c ≡ ended → text ≡ [] → Left alike old new c text

-- one step: its text, and what is left after it
pub record Onwards (alike : Bool) (old new : List ℕ) (x : Stepping) (text : List ℕ) : Type 0 where
  pub rest : List ℕ
  pub is : text ≡ x.text ++ rest
  pub left : Left alike old new x.cursor rest

-- ---- a cursor of these books takes the step of its stage

stands-valid : (xs : List ℕ) (p : Place) → Valid xs p → stands_in xs p ≡ true
stands-valid xs p v =
    both_true (account_in_range p.account) (leb p.number p.at && leb p.at (length xs)) (in-range-test p.account v.range)
    (both_true (leb p.number p.at) (leb p.at (length xs)) (le-leb _ _ v.few) (le-leb _ _ v.inside))

side-valid : (xs : List ℕ) (s : Side) → ValidSide xs s → side_in xs s ≡ true
side-valid xs s v =
    both_true (stands_in xs s.place) (stands_in xs s.end) (stands-valid xs s.place v.place) (stands-valid xs s.end v.end)

step-valid : (alike : Bool) (old new : List ℕ) (c : Cursor) → ValidSide old c.old → ValidSide new c.new
    → step_of alike old new c ≡ stage_step alike old new c
unfolding step_of
step-valid alike old new c v w =
    let z : side_in old c.old && side_in new c.new ≡ true =
    both_true (side_in old c.old) (side_in new c.new) (side-valid old c.old v) (side-valid new c.new w) in
    ap (λ (b : Bool). pick b (stage_step alike old new c) no_step) z

idle-valid : (xs : List ℕ) (p : Place) → Valid xs p → ValidSide xs (idle p)
idle-valid xs p v = record { place = v; end = v }

step-places : (alike : Bool) (old new : List ℕ) (stage : Stage) (p q : Place) → Valid old p → Valid new q
    → step_of alike old new (at_places stage p q) ≡ stage_step alike old new (at_places stage p q)
step-places alike old new stage p q v w = step-valid alike old new (at_places stage p q) (idle-valid old p v) (idle-valid new q w)

-- ---- the records of a section

none-alones : (new : Bool) (i n : ℕ) → alones_text new i (take n []) ≡ []
unfolding alones_text
none-alones new i n = rw (take-nil {A = Entry} n) refl

-- one record alone: where there is none nothing is left
one-alone : (new : Bool) (i j n : ℕ) (es : List Entry) → (0 < length es → j ≡ i + 1)
    → alones_text new i (take (suc n) es) ≡ first_alone new i es ++ alones_text new j (take n (drop 1 es))
unfolding alones_text
one-alone new i j n [] h = sym (none-alones new j n)
one-alone new i j n (e ∷ es) h = let z : j ≡ i + 1 = h (omega arith) in rw z refl

right-nil : (i j : ℕ) (es : List Entry) → pairs_text i es j [] ≡ []
unfolding pairs_text
right-nil i j [] = refl
right-nil i j (e ∷ es) = refl

one-pair : (i i' j j' n : ℕ) (es ns : List Entry) → (0 < length es → i' ≡ i + 1) → (0 < length ns → j' ≡ j + 1)
    → pairs_text i (take (suc n) es) j (take (suc n) ns) ≡ first_pair i es j ns ++ pairs_text i' (take n (drop 1 es)) j' (take n (drop 1 ns))
unfolding pairs_text
one-pair i i' j j' n [] ns h k = rw (take-nil {A = Entry} n) refl
one-pair i i' j j' n (e ∷ es) [] h k = rw (take-nil {A = Entry} n) (sym (right-nil i' j' (take n es)))
one-pair i i' j j' n (e ∷ es) (x ∷ ns) h k =
    let y : i' ≡ i + 1 = h (omega arith) in
    let z : j' ≡ j + 1 = k (omega arith) in
    rw (y, z) refl

plan-even : (es ns : List Entry) → (plan_of es ns).paired ≡ true → old_told (plan_of es ns) ≡ new_told (plan_of es ns)
unfolding plan_of
plan-even es ns h =
    let m = moved_of (front_of es ns) (back_of es ns) es ns in
    let e : length es ≡ length ns = eqb-true _ _ (and_r (not m) (eqb (length es) (length ns)) h) in
    ap (λ (n : ℕ). pick m 0 (n - front_of es ns - back_of es ns)) e

-- ---- a section, step by step

told_none : (paired : Bool) (i j o n : ℕ) (es ns : List Entry) → o ≡ 0 → n ≡ 0 → told_text paired i (take o es) j (take n ns) ≡ []
unfolding told_text alones_text pairs_text
told_none true i j o n es ns p q = rw p refl
told_none false i j o n es ns p q = rw (p, q) refl

told-new : (paired : Bool) (i j j' o n : ℕ) (es ns ns' : List Entry) → paired ≡ false → o ≡ 0 → (n ≡ 0 → ⊥) → ns' ≡ drop 1 ns
    → (0 < length ns → j' ≡ j + 1)
    → told_text paired i (take o es) j (take n ns) ≡ first_alone true j ns ++ told_text paired i (take o es) j' (take (n - 1) ns')
unfolding told_text alones_text
told-new paired i j j' o zero es ns ns' p q r s k = absurd (r refl)
told-new paired i j j' o (suc n) es ns ns' p q r s k =
    let z : suc n - 1 ≡ n = omega arith in
    rw (p, q, s, z) (one-alone true j j' n ns k)

told-old : (paired : Bool) (i i' j o n : ℕ) (es es' ns : List Entry) → paired ≡ false → (o ≡ 0 → ⊥) → es' ≡ drop 1 es → (0 < length es → i' ≡ i + 1)
    → told_text paired i (take o es) j (take n ns) ≡ first_alone false i es ++ told_text paired i' (take (o - 1) es') j (take n ns)
unfolding told_text
told-old paired i i' j zero n es es' ns p r s k = absurd (r refl)
told-old paired i i' j (suc o) n es es' ns p r s k =
    let z : suc o - 1 ≡ o = omega arith in
    rw (p, s, z, one-alone false i i' o es k)
    (append_assoc (first_alone false i es) (alones_text false i' (take o (drop 1 es))) (alones_text true j (take n ns)))

told-pair : (paired : Bool) (i i' j j' o n : ℕ) (es es' ns ns' : List Entry) → paired ≡ true → (o ≡ 0 → ⊥) → o ≡ n → es' ≡ drop 1 es → ns' ≡ drop 1 ns
    → (0 < length es → i' ≡ i + 1) → (0 < length ns → j' ≡ j + 1)
    → told_text paired i (take o es) j (take n ns) ≡ first_pair i es j ns ++ told_text paired i' (take (o - 1) es') j' (take (n - 1) ns')
unfolding told_text
told-pair paired i i' j j' zero n es es' ns ns' p r e s t k l = absurd (r refl)
told-pair paired i i' j j' (suc o) n es es' ns ns' p r e s t k l =
    let z : suc o - 1 ≡ o = omega arith in
    rw (p, ← e, s, t, z) (one-pair i i' j j' o es ns k l)

-- one record on
one_number : (xs : List ℕ) (p : Place) → Valid xs p → 0 < length (left_of xs p) → (onward 1 xs p).number ≡ p.number + 1
one_number xs p v h = let n = number-onward 1 xs p v in omega (arith, n, h)

one-valid : (xs : List ℕ) (s : Side) → ValidSide xs s → ValidSide xs (one_told xs s)
one-valid xs s v = record { place = valid-onward 1 xs s.place v.place; end = v.end }

-- what is said first, and then the rest
split : (a b c d e : List ℕ) → a ≡ b ++ c → a ++ (d ++ e) ≡ b ++ (c ++ (d ++ e))
split a b c d e h = ap (λ (l : List ℕ). l ++ (d ++ e)) h ∙ append_assoc b c (d ++ e)

in_section : (alike : Bool) (old new : List ℕ) (c : Cursor) → c.stage ≡ Section → stage_step alike old new c ≡ section_step old new c
unfolding stage_step
in_section alike old new c e = ap (λ (s : Stage). step_in s alike old new c) e

module _ (alike : Bool) (old new : List ℕ) (c : Cursor) (text : List ℕ) (stage : c.stage ≡ Section) (v : ValidSide old c.old)
    (w : ValidSide new c.new)
    (even : c.paired ≡ true → c.old.left ≡ c.new.left) (is : text ≡ section_rest alike old new c) where
  abbrev tail_here : List ℕ
  tail_here = tail_text c.others (subtotal_at old c.old) (subtotal_at new c.new)

  abbrev rest_here : List ℕ
  rest_here = groups_rest alike old new c.old.end c.new.end

  tail-on : c.old.left ≡ 0 → c.new.left ≡ 0 → Onwards alike old new (tail_step old new c) text
  tail-on p q =
      record {
        rest = groups_rest alike old new c.old.end c.new.end;
        is = is ∙ ap (λ (l : List ℕ). l ++ (tail_text c.others (subtotal_at old c.old) (subtotal_at new c.new) ++ groups_rest alike old new
            c.old.end c.new.end))
            (told_none c.paired _ _ _ _ _ _ p q);
        left = group c.old.end c.new.end v.end w.end refl refl;
      }

  new-on : c.old.left ≡ 0 → (c.new.left ≡ 0 → ⊥) → Onwards alike old new (new_step new c) text
  new-on p q =
      let f : c.paired ≡ false = by-test c.paired (λ t. absurd (q (sym (even t) ∙ p))) (λ t. t) in
      let d = (new_step new c).cursor in
      record {
        rest = section_rest alike old new d;
        is =
            is ∙ split (told_rest old new c) (new_step new c).text (told_rest old new d) tail_here rest_here
            (told-new c.paired c.old.place.number c.new.place.number d.new.place.number c.old.left c.new.left
            (left_of old c.old.place) (left_of new c.new.place) (left_of new d.new.place) f p q
            (left-onward 1 new c.new.place w.place) (one_number new c.new.place w.place));
        left = section refl v (one-valid new c.new w) (λ t. absurd (no_both f t)) refl;
      }
    where
      no_both : c.paired ≡ false → c.paired ≡ true → ⊥
      no_both f t = let z : ◌≡◌ {A = ℕ} 0 1 = cc (f, t) in absurd (omega (arith, z))

  old-on : (c.old.left ≡ 0 → ⊥) → c.paired ≡ false → Onwards alike old new (old_step old c) text
  old-on q f =
      let d = (old_step old c).cursor in
      record {
        rest = section_rest alike old new d;
        is =
            is ∙ split (told_rest old new c) (old_step old c).text (told_rest old new d) tail_here rest_here
            (told-old c.paired c.old.place.number d.old.place.number c.new.place.number c.old.left c.new.left
            (left_of old c.old.place) (left_of old d.old.place) (left_of new c.new.place) f q
            (left-onward 1 old c.old.place v.place) (one_number old c.old.place v.place));
        left = section refl (one-valid old c.old v) w (λ t. absurd (no_both t)) refl;
      }
    where
      no_both : c.paired ≡ true → ⊥
      no_both t = let z : ◌≡◌ {A = ℕ} 0 1 = cc (f, t) in absurd (omega (arith, z))

  pair-on : (c.old.left ≡ 0 → ⊥) → c.paired ≡ true → Onwards alike old new (pair_step old new c) text
  pair-on q t =
      let d = (pair_step old new c).cursor in
      record {
        rest = section_rest alike old new d;
        is =
            is ∙ split (told_rest old new c) (pair_step old new c).text (told_rest old new d) tail_here rest_here
            (told-pair c.paired c.old.place.number d.old.place.number c.new.place.number d.new.place.number c.old.left
            c.new.left (left_of old c.old.place) (left_of old d.old.place) (left_of new c.new.place) (left_of new d.new.place) t q
            (even t) (left-onward 1 old c.old.place v.place) (left-onward 1 new c.new.place w.place)
            (one_number old c.old.place v.place) (one_number new c.new.place w.place));
        left =
            section refl (one-valid old c.old v) (one-valid new c.new w) (λ z. ap (λ (n : ℕ). n - 1) (even z)) refl;
      }

  section-on : Onwards alike old new (section_step old new c) text
  unfolding section_step
  section-on =
      by-test (eqb c.old.left 0)
      (λ p. by-test (eqb c.new.left 0)
      (λ q. rw (p, q) (tail-on (eqb-true _ _ p) (eqb-true _ _ q)))
      (λ q. rw (p, q) (new-on (eqb-true _ _ p) (eqb-false _ _ q))))
      (λ p. by-test c.paired
      (λ t. rw p (subst (λ (b : Bool). Onwards alike old new (pick b (pair_step old new c) (old_step old c)) text) (sym t)
      (pair-on (eqb-false _ _ p) t)))
      (λ t. rw p (subst (λ (b : Bool). Onwards alike old new (pick b (pair_step old new c) (old_step old c)) text) (sym t)
      (old-on (eqb-false _ _ p) t))))

  pub section-left : Onwards alike old new (step_of alike old new c) text
  section-left =
      subst (λ (x : Stepping). Onwards alike old new x text) (sym (step-valid alike old new c v w ∙ in_section alike old new c stage)) section-on

-- ---- a section that is opened

module _ (alike grouped : Bool) (old new : List ℕ) (p q : Place) (v : Valid old p) (w : Valid new q) where
  abbrev d : Cursor
  d = opened grouped old p new q

  abbrev plan : Plan
  plan = plan_of (part_of (left_of old p)) (part_of (left_of new q))

  front-old : (onward plan.front old p).number ≡ p.number + plan.front
  front-old =
      let n = number-onward plan.front old p v in
      let f = (plan-front (part_of (left_of old p)) (part_of (left_of new q))).0 in
      let l = part-few (left_of old p) in
      omega (arith, n, f, l)

  front-new : (onward plan.front new q).number ≡ q.number + plan.front
  front-new =
      let n = number-onward plan.front new q w in
      let f = (plan-front (part_of (left_of old p)) (part_of (left_of new q))).1 in
      let l = part-few (left_of new q) in
      omega (arith, n, f, l)

  opened-text : (under : Bool) (title headings : List ℕ)
      → parts_text title headings under grouped p.number (left_of old p) q.number (left_of new q)
      ≡ open_text under title headings old new d
      ++ (told_rest old new d ++ tail_text d.others (subtotal_at old d.old) (subtotal_at new d.new))
  unfolding parts_text opened
  opened-text under title headings =
      rw (front-old, front-new, left-onward plan.front old p v, left-onward plan.front new q w, end-left old p v, end-left new q w) refl

  opened-old : ValidSide old d.old
  unfolding opened
  opened-old = record { place = valid-onward plan.front old p v; end = valid-onward (length (part_of (left_of old p))) old p v }

  opened-new : ValidSide new d.new
  unfolding opened
  opened-new = record { place = valid-onward plan.front new q w; end = valid-onward (length (part_of (left_of new q))) new q w }

  opened-even : d.paired ≡ true → d.old.left ≡ d.new.left
  unfolding opened
  opened-even h = plan-even (part_of (left_of old p)) (part_of (left_of new q)) h

  opened-stage : d.stage ≡ Section
  unfolding opened
  opened-stage = refl

  opened-ends : (d.old.end ≡ part_end_lem old p) × (d.new.end ≡ part_end_lem new q)
  unfolding opened
  opened-ends = (refl, refl)

  -- its beginning, then its rest; x is what follows it
  opened-on : (under : Bool) (title headings x text : List ℕ) → x ≡ groups_rest alike old new (part_end_lem old p) (part_end_lem new q)
      → text ≡ parts_text title headings under grouped p.number (left_of old p) q.number (left_of new q) ++ x
      → Onwards alike old new (record { text = open_text under title headings old new d; cursor = d }) text
  opened-on under title headings x text e is =
      let tail = tail_text d.others (subtotal_at old d.old) (subtotal_at new d.new) in
      let o = open_text under title headings old new d in
      let g : x ≡ groups_rest alike old new d.old.end d.new.end =
      e ∙ ap (λ (z : Place). groups_rest alike old new z (part_end_lem new q)) (sym opened-ends.0)
      ∙ ap (λ (z : Place). groups_rest alike old new d.old.end z) (sym opened-ends.1) in
      record {
        rest = section_rest alike old new d;
        is =
            is ∙ ap (λ (l : List ℕ). l ++ x) (opened-text under title headings)
            ∙ append_assoc o (told_rest old new d ++ tail) x
            ∙ ap (λ (l : List ℕ). o ++ l) (append_assoc (told_rest old new d) tail x)
            ∙ ap (λ (l : List ℕ). o ++ (told_rest old new d ++ (tail ++ l))) g;
        left = section opened-stage opened-old opened-new opened-even refl;
      }

-- ---- the next group

module _ (xs : List ℕ) (p : Place) (v : Valid xs p) where
  group-left : left_of xs (part_end_lem xs (onward 1 xs p)) ≡ after_group (left_of xs p)
  group-left = end-left xs (onward 1 xs p) (valid-onward 1 xs p v) ∙ ap after_part (left-onward 1 xs p v)

  group-number : 0 < length (left_of xs p) → (part_end_lem xs (onward 1 xs p)).number ≡ p.number + group_size (left_of xs p)
  group-number h =
      let n = end-number xs (onward 1 xs p) (valid-onward 1 xs p v) in
      let m = one_number xs p v h in
      let l : length (part_of (left_of xs (onward 1 xs p))) ≡ length (part_of (drop 1 (left_of xs p))) =
      ap (λ (es : List Entry). length (part_of es)) (left-onward 1 xs p v) in
      omega (arith, n, m, l)

  group-valid : Valid xs (part_end_lem xs (onward 1 xs p))
  group-valid = valid-onward (length (part_of (left_of xs (onward 1 xs p)))) xs (onward 1 xs p) (valid-onward 1 xs p v)

  places-low : AllLow (left_of xs p)
  places-low = all-low p.account (records_of (drop p.at xs))

-- what follows a section is what is left at its end
follows : (alike : Bool) (old new : List ℕ) (k i j : ℕ) (es ns : List Entry) (a b : Place) → AllLow es → AllLow ns → length es + length ns ≤ k
    → a.number ≡ i → left_of old a ≡ es → b.number ≡ j → left_of new b ≡ ns
    → groups_from k i es j ns ++ last_text alike old new ≡ groups_rest alike old new a b
follows alike old new k i j es ns a b l m h e f g n =
    ap (λ (x : List ℕ). x ++ last_text alike old new) (enough k (length es + length ns) i j es ns l m h (omega arith))
    ∙ sym (rw (e, f, g, n) refl)

none-subtotal : (es : List Entry) → subtotal_of false es ≡ []
unfolding subtotal_of
none-subtotal [] = refl
none-subtotal (e ∷ es) = refl

old-alone : (i j : ℕ) (es ns : List Entry) → told_text false i es j (take 0 ns) ≡ alones_text false i es
unfolding told_text alones_text
old-alone i j es ns = append-nil (alones_text false i es)

new-alone : (i j : ℕ) (es ns : List Entry) → told_text false i (take 0 es) j ns ≡ alones_text true j ns
unfolding told_text alones_text
new-alone i j es ns = refl

module _ (alike : Bool) (old new : List ℕ) (p q : Place) (v : Valid old p) (w : Valid new q) (text : List ℕ)
    (is : text ≡ groups_rest alike old new p q) where
  abbrev es : List Entry
  es = left_of old p

  abbrev ns : List Entry
  ns = left_of new q

  abbrev n : ℕ
  n = length es + length ns

  abbrev i : ℕ
  i = p.number

  abbrev j : ℕ
  j = q.number

  -- one section less
  lesser : 0 < n → n ≡ suc (n - 1)
  lesser h = omega (arith, h)

  -- a group of the old book alone
  module _ (t : ltb (group_at es) (group_at ns) ≡ true) where
    some-old : 0 < length es
    some-old = let g = ltb-true (group_at es) (group_at ns) t in let u = group-low ns (places-low new q w) in some-there es (omega (arith, g, u))

    removed-is : groups_from n i es j ns ≡ removed_text i es ++ groups_from (n - 1) (i + group_size es) (after_group es) j ns
    unfolding groups_from
    removed-is = let z = lesser (omega (arith, some-old)) in ap (λ (k : ℕ). groups_from k i es j ns) z ∙ rw t refl

    removed-on : Onwards alike old new (removed_step old p q) text
    unfolding removed_text
    removed-on =
        let c = (removed_step old p q).cursor in
        let e = part_end_lem old (onward 1 old p) in
        let title = group_title (group_at es) (ascii ", removed:\n") in
        let many : e.number - p.number ≡ group_size es = let m = group-number old p v some-old in omega (arith, m) in
        let s = shorter es some-old in
        let f =
        follows alike old new (n - 1) (i + group_size es) j (after_group es) ns e q (low-after es (places-low old p v)) (places-low new q w)
        (omega (arith, s))
        (group-number old p v some-old) (group-left old p v) refl refl in
        let alones = alones_text false i (take (group_size es) es) in
        let tail = tail_text 0 (subtotal_of true (after_group es)) [] in
        let g = groups_from (n - 1) (i + group_size es) (after_group es) j ns in
        record {
          rest = section_rest alike old new c;
          is =
              is ∙ ap (λ (x : List ℕ). x ++ last_text alike old new) removed-is
              ∙ append_assoc (title ++ (alones ++ tail)) g (last_text alike old new)
              ∙ append_assoc title (alones ++ tail) (g ++ last_text alike old new)
              ∙ ap (λ (x : List ℕ). title ++ x) (append_assoc alones tail (g ++ last_text alike old new))
              ∙ ap (λ (x : List ℕ). title ++ (alones ++ (tail ++ x))) f
              ∙ ap (λ (x : List ℕ). title ++ (alones ++ (x ++ groups_rest alike old new e q)))
              (ap (λ (l : List Entry). tail_text 0 (subtotal_of true l) []) (sym (group-left old p v))
              ∙ ap (λ (l : List ℕ). tail_text 0 (subtotal_of true (left_of old e)) l) (sym (none-subtotal ns)))
              ∙ ap (λ (x : List ℕ). title ++ (x ++ (tail_text 0 (subtotal_of true (left_of old e)) (subtotal_of false ns)
              ++ groups_rest alike old new e q)))
              (ap (λ (m : ℕ). alones_text false i (take m es)) (sym many) ∙ sym (old-alone i j (take (e.number - p.number) es) ns));
          left =
              section refl (record { place = v; end = group-valid old p v }) (record { place = w; end = w })
              (λ z. absurd (let y : ◌≡◌ {A = ℕ} 0 1 = cc (z) in absurd (omega (arith, y)))) refl;
        }

  -- a group of the new book alone
  module _ (t : ltb (group_at es) (group_at ns) ≡ false) (u : ltb (group_at ns) (group_at es) ≡ true) where
    some-new : 0 < length ns
    some-new = let g = ltb-true (group_at ns) (group_at es) u in let z = group-low es (places-low old p v) in some-there ns (omega (arith, g, z))

    added_is : groups_from n i es j ns ≡ added_text j ns ++ groups_from (n - 1) i es (j + group_size ns) (after_group ns)
    unfolding groups_from
    added_is = let z = lesser (omega (arith, some-new)) in ap (λ (k : ℕ). groups_from k i es j ns) z ∙ rw (t, u) refl

    added-on : Onwards alike old new (added_step new p q) text
    unfolding added_text
    added-on =
        let c = (added_step new p q).cursor in
        let e = part_end_lem new (onward 1 new q) in
        let title = group_title (group_at ns) (ascii ", added:\n") in
        let many : e.number - q.number ≡ group_size ns = let m = group-number new q w some-new in omega (arith, m) in
        let s = shorter ns some-new in
        let f =
        follows alike old new (n - 1) i (j + group_size ns) es (after_group ns) p e (places-low old p v) (low-after ns (places-low new q w))
        (omega (arith, s))
        refl refl (group-number new q w some-new) (group-left new q w) in
        let alones = alones_text true j (take (group_size ns) ns) in
        let tail = tail_text 0 [] (subtotal_of true (after_group ns)) in
        let g = groups_from (n - 1) i es (j + group_size ns) (after_group ns) in
        record {
          rest = section_rest alike old new c;
          is =
              is ∙ ap (λ (x : List ℕ). x ++ last_text alike old new) added_is
              ∙ append_assoc (title ++ (alones ++ tail)) g (last_text alike old new)
              ∙ append_assoc title (alones ++ tail) (g ++ last_text alike old new)
              ∙ ap (λ (x : List ℕ). title ++ x) (append_assoc alones tail (g ++ last_text alike old new))
              ∙ ap (λ (x : List ℕ). title ++ (alones ++ (tail ++ x))) f
              ∙ ap (λ (x : List ℕ). title ++ (alones ++ (x ++ groups_rest alike old new p e)))
              (ap (λ (l : List Entry). tail_text 0 [] (subtotal_of true l)) (sym (group-left new q w))
              ∙ ap (λ (l : List ℕ). tail_text 0 l (subtotal_of true (left_of new e))) (sym (none-subtotal es)))
              ∙ ap (λ (x : List ℕ). title ++ (x ++ (tail_text 0 (subtotal_of false es) (subtotal_of true (left_of new e))
              ++ groups_rest alike old new p e)))
              (ap (λ (m : ℕ). alones_text true j (take m ns)) (sym many) ∙ sym (new-alone i j es (take (e.number - q.number) ns)));
          left =
              section refl (record { place = v; end = v }) (record { place = w; end = group-valid new q w })
              (λ z. absurd (let y : ◌≡◌ {A = ℕ} 0 1 = cc (z) in absurd (omega (arith, y)))) refl;
        }

  module _ (t : ltb (group_at es) (group_at ns) ≡ false) (u : ltb (group_at ns) (group_at es) ≡ false) where
    -- no group
    last-is : (m : ℕ) → eqb (group_at es) no_group ≡ true → groups_from m i es j ns ≡ total_text es ns
    unfolding groups_from
    last-is zero x = refl
    last-is (suc m) x = rw (t, u, x) refl

    last_on : eqb (group_at es) no_group ≡ true → Onwards alike old new (last_step_lem alike old new p q) text
    last_on x =
        record {
          rest = [];
          is = is ∙ ap (λ (l : List ℕ). l ++ last_text alike old new) (last-is n x) ∙ sym (append-nil (total_text es ns ++ last_text alike old new));
          left = over refl refl;
        }

    -- a group of both books
    module _ (x : eqb (group_at es) no_group ≡ false) where
      both-old : 0 < length es
      both-old = let g = eqb-false (group_at es) no_group x in let l = group-low es (places-low old p v) in some-there es (omega (arith, g, l))

      both-new : 0 < length ns
      both-new =
          let g = eqb-false (group_at es) no_group x in
          let l = group-low es (places-low old p v) in
          let a = ltb-false (group_at es) (group_at ns) t in
          let b = ltb-false (group_at ns) (group_at es) u in
          some-there ns (omega (arith, g, l, a, b))

      both_is : groups_from n i es j ns
          ≡ both_groups_text i es j ns ++ groups_from (n - 1) (i + group_size es) (after_group es) (j + group_size ns) (after_group ns)
      unfolding groups_from
      both_is = let z = lesser (omega (arith, both-old)) in ap (λ (k : ℕ). groups_from k i es j ns) z ∙ rw (t, u, x) refl

      -- its parts begin after the headings
      both-parts : both_groups_text i es j ns
          ≡ parts_text (group_title (group_at es) (ascii ":\n")) (first_pair i es j ns) (same (first_bytes es) (first_bytes ns)) true
          (onward 1 old p).number (left_of old (onward 1 old p)) (onward 1 new q).number (left_of new (onward 1 new q))
      unfolding both_groups_text
      both-parts =
          sym (rw (left-onward 1 old p v, left-onward 1 new q w, one_number old p v both-old, one_number new q w both-new) refl)

      both-on : Onwards alike old new (both_step old new p q) text
      unfolding both_step
      both-on =
          let s = shorter es both-old in
          let r = shorter ns both-new in
          let f =
          follows alike old new (n - 1) (i + group_size es) (j + group_size ns) (after_group es) (after_group ns) (part_end_lem old (onward 1 old p))
          (part_end_lem new (onward 1 new q))
          (low-after es (places-low old p v)) (low-after ns (places-low new q w)) (omega (arith, s, r))
          (group-number old p v both-old) (group-left old p v) (group-number new q w both-new) (group-left new q w) in
          let parts =
          parts_text (group_title (group_at es) (ascii ":\n")) (first_pair i es j ns) (same (first_bytes es) (first_bytes ns)) true
          (onward 1 old p).number (left_of old (onward 1 old p)) (onward 1 new q).number (left_of new (onward 1 new q)) in
          let g = groups_from (n - 1) (i + group_size es) (after_group es) (j + group_size ns) (after_group ns) in
          opened-on alike true old new (onward 1 old p) (onward 1 new q) (valid-onward 1 old p v) (valid-onward 1 new q w)
          (same (first_bytes es) (first_bytes ns)) (group_title (group_at es) (ascii ":\n")) (first_pair i es j ns) (g ++ last_text alike old new)
          text f
          (is ∙ ap (λ (l : List ℕ). l ++ last_text alike old new) (both_is ∙ ap (λ (l : List ℕ). l ++ g) both-parts)
          ∙ append_assoc parts g (last_text alike old new))

  group-on : Onwards alike old new (group_step alike old new p q) text
  unfolding group_step
  group-on =
      by-test (ltb (group_at es) (group_at ns)) (λ t. rw t (removed-on t))
      (λ t. by-test (ltb (group_at ns) (group_at es)) (λ u. rw (t, u) (added-on t u))
      (λ u. by-test (eqb (group_at es) no_group) (λ x. rw (t, u, x) (last_on t u x)) (λ x. rw (t, u, x) (both-on t u x))))

  at-six : stage_step alike old new (at_places NextGroup p q) ≡ group_step alike old new p q
  unfolding stage_step
  at-six = refl

  pub group-step : Onwards alike old new (step_of alike old new (at_places NextGroup p q)) text
  group-step = subst (λ (x : Stepping). Onwards alike old new x text) (sym (step-places alike old new NextGroup p q v w ∙ at-six)) group-on

-- ---- the other stages

module _ (alike : Bool) (old new : List ℕ) where
  at_stage : (stage : Stage) → step_of alike old new (at_places stage start start) ≡ stage_step alike old new (at_places stage start start)
  at_stage stage = step-places alike old new stage start start (valid-start old) (valid-start new)

  first_on : (text : List ℕ) → text ≡ beginnings_text alike old new → Onwards alike old new (step_of alike old new (at_places OldName start start)) text
  unfolding stage_step beginnings_text
  first_on text e =
      subst (λ (x : Stepping). Onwards alike old new x text) (sym (at_stage OldName))
      (record {
        rest = machine_text (why_of old) ++ (book_text true ++
            (machine_text (why_of new) ++ before_rest alike old new));
        is = e;
        left = second refl refl;
      })

  second-on : (text : List ℕ) → text ≡ machine_text (why_of old) ++ (book_text true ++ (machine_text (why_of new) ++ before_rest alike old new))
      → Onwards alike old new (step_of alike old new (at_places OldVerdict start start)) text
  unfolding stage_step
  second-on text e =
      subst (λ (x : Stepping). Onwards alike old new x text) (sym (at_stage OldVerdict))
      (record { rest = book_text true ++ (machine_text (why_of new) ++ before_rest alike old new); is = e; left = third refl refl })

  third-on : (text : List ℕ) → text ≡ book_text true ++ (machine_text (why_of new) ++ before_rest alike old new)
      → Onwards alike old new (step_of alike old new (at_places NewName start start)) text
  unfolding stage_step
  third-on text e =
      subst (λ (x : Stepping). Onwards alike old new x text) (sym (at_stage NewName))
      (record { rest = machine_text (why_of new) ++ before_rest alike old new; is = e; left = fourth refl refl })

  fourth-on : (text : List ℕ) → text ≡ machine_text (why_of new) ++ before_rest alike old new
      → Onwards alike old new (step_of alike old new (at_places NewVerdict start start)) text
  unfolding stage_step
  fourth-on text e =
      subst (λ (x : Stepping). Onwards alike old new x text) (sym (at_stage NewVerdict))
      (record { rest = before_rest alike old new; is = e; left = before refl refl })

  before_on : (text : List ℕ) → text ≡ before_rest alike old new → Onwards alike old new (step_of alike old new (at_places Before start start)) text
  unfolding stage_step before_step before_text
  before_on text e =
      let es = entries_of old in
      let ns = entries_of new in
      let a : (part_end_lem old start).number ≡ length (part_of es) = let m = end-number old start (valid-start old) in omega (arith, m) in
      let b : (part_end_lem new start).number ≡ length (part_of ns) = let m = end-number new start (valid-start new) in omega (arith, m) in
      let l = low_end es (places-low old start (valid-start old)) in
      let m = low_end ns (places-low new start (valid-start new)) in
      subst (λ (x : Stepping). Onwards alike old new x text) (sym (at_stage Before))
      (opened-on alike false old new start start (valid-start old) (valid-start new) true (ascii "before the groups:\n") [] _ text
      (follows alike old new (length (after_part es) + length (after_part ns)) (length (part_of es)) (length (part_of ns)) (after_part es)
      (after_part ns)
      (part_end_lem old start)
      (part_end_lem new start) l m (omega arith) a (end-left old start (valid-start old)) b (end-left new start (valid-start new))) e)
    where
      low_end : (es : List Entry) → AllLow es → AllLow (after_part es)
      low_end es l = subst AllLow (after-drop es) (low-drop (length (part_of es)) es l)

  over-on : (text : List ℕ) → text ≡ [] → Onwards alike old new (step_of alike old new ended) text
  unfolding stage_step
  over-on text e =
      subst (λ (x : Stepping). Onwards alike old new x text) (sym (at_stage End)) (record { rest = []; is = e; left = over refl refl })

  step-on : (c : Cursor) (text : List ℕ) → Left alike old new c text → Onwards alike old new (step_of alike old new c) text
  step-on c text (first e t) = subst (λ (x : Cursor). Onwards alike old new (step_of alike old new x) text) (sym e) (first_on text t)
  step-on c text (second e t) = subst (λ (x : Cursor). Onwards alike old new (step_of alike old new x) text) (sym e) (second-on text t)
  step-on c text (third e t) = subst (λ (x : Cursor). Onwards alike old new (step_of alike old new x) text) (sym e) (third-on text t)
  step-on c text (fourth e t) = subst (λ (x : Cursor). Onwards alike old new (step_of alike old new x) text) (sym e) (fourth-on text t)
  step-on c text (before e t) = subst (λ (x : Cursor). Onwards alike old new (step_of alike old new x) text) (sym e) (before_on text t)
  step-on c text (section s v w h t) = section-left alike old new c text s v w h t
  step-on c text (group p q v w e t) = subst (λ (x : Cursor). Onwards alike old new (step_of alike old new x) text) (sym e)
      (group-step alike old new p q v w text t)
  step-on c text (over e t) = subst (λ (x : Cursor). Onwards alike old new (step_of alike old new x) text) (sym e) (over-on text t)

  -- at the end nothing is left
  none_left : (c : Cursor) (text : List ℕ) → Left alike old new c text → c.stage ≡ End → [] ≡ text
  none_left c text (first e t) h = let s = ap (λ (x : Cursor). x.stage) e in cc (s, h)
  none_left c text (second e t) h = let s = ap (λ (x : Cursor). x.stage) e in cc (s, h)
  none_left c text (third e t) h = let s = ap (λ (x : Cursor). x.stage) e in cc (s, h)
  none_left c text (fourth e t) h = let s = ap (λ (x : Cursor). x.stage) e in cc (s, h)
  none_left c text (before e t) h = let s = ap (λ (x : Cursor). x.stage) e in cc (s, h)
  none_left c text (section s v w k t) h = cc (s, h)
  none_left c text (group p q v w e t) h = let s = ap (λ (x : Cursor). x.stage) e in cc (s, h)
  none_left c text (over e t) h = sym t

  steps-left : (k : ℕ) (c : Cursor) (text : List ℕ) → Left alike old new c text → (cursor_after k alike old new c).stage ≡ End
      → text_in k alike old new c ≡ text
  unfolding text_in cursor_after
  steps-left zero c text l h = none_left c text l h
  steps-left (suc k) c text l h =
      let o = step-on c text l in
      ap (λ (x : List ℕ). (step_of alike old new c).text ++ x) (steps-left k (step_of alike old new c).cursor o.rest o.left h) ∙ sym o.is

  -- Where the steps have come to their end, however many they were, their pieces, one after the other, are what is said of the two books.
  pub compared-in-parts : (k : ℕ) → (cursor_after k alike old new beginning).stage ≡ End
      → text_in k alike old new beginning ≡ beginnings_text alike old new
  compared-in-parts k h = steps-left k beginning (beginnings_text alike old new) (first refl refl) h
