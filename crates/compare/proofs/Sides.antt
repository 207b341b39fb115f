-- Sections, as the code opens them and tells of them.
-- Assumes nothing.
use Prim.Native.Nat.{ℕ, ◌+◌, ◌-◌, ◌≤◌}
use mathlib.Core.Path.{◌≡◌, refl, ap, ◌∙◌}
use mathlib.Core.List.{List, [], ◌∷◌}
use mathlib.Core.Bool.{Bool, true, false, not}
use native.Mathlib.Omega.{arith}
use borrow.Author.Tests.{eqb-true}
use lib.ListN.{length, take}
use lib.Dec.{eqb}
use Rattle.base.specs.Choice.{pick}
use Rattle.base.proofs.Tests.{by-test, and_l, and_r}
use Rattle.walk.specs.Walk.{Entry}
use Rattle.compare.specs.declared.Cursor.{Cursor}
use Rattle.compare.specs.declared.Side.{Side}
use Rattle.compare.specs.declared.Stage.{Stage}
use Rattle.compare.specs.declared.Stage.TheVariants.{Section}
use Rattle.compare.specs.declared.places.Place.{Place}
use Rattle.compare.specs.declared.plans.Plan.{Plan}
use Rattle.compare.specs.Inner.{Valid}
use Rattle.compare.specs.InnerSides.{ValidSide, Opens}
use Rattle.compare.specs.Places.{start, left_of, onward, ends, part_of, part_end_lem}
use Rattle.compare.specs.Plans.{front_of, back_of, plan_of, old_told, new_told, moved_many}
use Rattle.compare.specs.Steps.{at_places, side_after, opened}
use Rattle.compare.proofs.Onward.{number-onward}
use Rattle.compare.proofs.Pairs.{leading-left, leading-right}

pub at-start : (stage : Stage) (p q : Place) (c : Cursor) → c ≡ at_places stage p q → p ≡ start → q ≡ start → c ≡ at_places stage start start
at-start stage p q c e f g = e ∙ ap (λ (x : Place). at_places stage x q) f ∙ ap (λ (x : Place). at_places stage start x) g

-- ---- a side

module _ (xs : List ℕ) (p : Place) (front told : ℕ) (end : Place) (grouped : Bool) (q : Place) (e : q ≡ onward front xs p) where
  pub side-is : record { place = q; left = told; end = end; grouped = grouped } ≡ side_after xs p front told end grouped
  side-is = ap (λ (x : Place). side_after-at x) e
    where
      side_after-at : Place → Side
      side_after-at x = record { place = x; left = told; end = end; grouped = grouped }

  pub side-valid : Valid xs q → Valid xs end → ValidSide xs (record { place = q; left = told; end = end; grouped = grouped })
  side-valid v w = record { place = v; end = w }

-- ---- a part is the first records

pub part-few : (es : List Entry) → length (part_of es) ≤ length es
unfolding part_of
part-few [] = omega arith
part-few (e ∷ es) = go (ends e) (part-few es)
  where
    go : (b : Bool) → length (part_of es) ≤ length es → length (pick b [] (e ∷ part_of es)) ≤ length (e ∷ es)
    go true h = omega arith
    go false h = omega (arith, h)

pub part-take : (es : List Entry) → take (length (part_of es)) es ≡ part_of es
unfolding part_of
part-take [] = refl
part-take (e ∷ es) = go (ends e) (part-take es)
  where
    go : (b : Bool) → take (length (part_of es)) es ≡ part_of es → take (length (pick b [] (e ∷ part_of es))) (e ∷ es) ≡ pick b [] (e ∷ part_of es)
    go true h = refl
    go false h = ap (λ (l : List Entry). e ∷ l) h

-- ---- a section that is opened

pub plan-front : (es ns : List Entry) → ((plan_of es ns).front ≤ length es) × ((plan_of es ns).front ≤ length ns)
unfolding plan_of
plan-front es ns = (leading-left es ns, leading-right es ns)

-- no more are in another order than stand between
moved-old : (p : Plan) → moved_many p ≤ p.old - p.front
moved-old p = by-test p.moved (λ t. rw t (omega arith)) (λ t. rw t (omega arith))

moved-even : (es ns : List Entry) → (plan_of es ns).moved ≡ true → (plan_of es ns).old ≡ (plan_of es ns).new
unfolding plan_of
moved-even es ns t =
    eqb-true _ _ (and_l _ _ (and_r (not (eqb (length es - front_of es ns - back_of es ns) 0)) _ t))

moved_new : (es ns : List Entry) → moved_many (plan_of es ns) ≤ (plan_of es ns).new - (plan_of es ns).front
moved_new es ns =
    let p = plan_of es ns in
    by-test p.moved (λ t. rw t (let e = moved-even es ns t in omega (arith, e))) (λ t. rw t (omega arith))

plan-lengths : (es ns : List Entry) → ((plan_of es ns).old ≡ length es) × ((plan_of es ns).new ≡ length ns)
unfolding plan_of
plan-lengths es ns = (refl, refl)

-- what stands between is in the book
inside : (xs : List ℕ) (p s : Place) (front many : ℕ) → Valid xs p → Valid xs s → s.number ≡ p.number + length (part_of (left_of xs p))
    → front ≤ length (part_of (left_of xs p)) → many ≤ length (part_of (left_of xs p)) - front → (onward front xs p).number + many ≤ length xs
inside xs p s front many v w n h k =
    omega (arith, number-onward front xs p v, n, h, k, w.few, w.inside)

module _ (grouped : Bool) (xs ys : List ℕ) (p q s t : Place) (v : Valid xs p) (w : Valid ys q)
    (e : s ≡ part_end_lem xs p) (se : Valid xs s) (sn : s.number ≡ p.number + length (part_of (left_of xs p)))
    (f : t ≡ part_end_lem ys q) (te : Valid ys t) (tn : t.number ≡ q.number + length (part_of (left_of ys q))) where
  pub old-many : s.number - p.number ≡ length (part_of (left_of xs p))
  old-many = omega (arith, sn)

  pub new-many : t.number - q.number ≡ length (part_of (left_of ys q))
  new-many = omega (arith, tn)

  module _ (b : Plan) (g : b ≡ plan_of (take (s.number - p.number) (left_of xs p)) (take (t.number - q.number) (left_of ys q))) where
    abbrev plan : Plan
    plan = plan_of (part_of (left_of xs p)) (part_of (left_of ys q))

    is-plan : b ≡ plan
    is-plan =
        g
        ∙ ap (λ (n : ℕ). plan_of (take n (left_of xs p)) (take (t.number - q.number) (left_of ys q))) old-many
        ∙ ap (λ (n : ℕ). plan_of (take (length (part_of (left_of xs p))) (left_of xs p)) (take n (left_of ys q))) new-many
        ∙ ap (λ (l : List Entry). plan_of l (take (length (part_of (left_of ys q))) (left_of ys q))) (part-take (left_of xs p))
        ∙ ap (λ (l : List Entry). plan_of (part_of (left_of xs p)) l) (part-take (left_of ys q))

    module _ (m : ℕ) (mm : m ≡ moved_many b) (first second : Side) (k l : ℕ) (kk : k ≡ old_told b) (ll : l ≡ new_told b)
        (fs : first ≡ side_after xs p b.front k s grouped) (fv : ValidSide xs first)
        (ss : second ≡ side_after ys q b.front l t grouped) (sv : ValidSide ys second) where
      abbrev made : Cursor
      made = record { stage = Section; old = first; new = second; paired = b.paired; moved = m; others = b.others }

      with-plan : (z : Plan) (a c : Place) → Cursor
      with-plan z a c =
          record {
            stage = Section;
            old = side_after xs p z.front (old_told z) a grouped;
            new = side_after ys q z.front (new_told z) c grouped;
            paired = z.paired;
            moved = moved_many z;
            others = z.others;
          }

      pub opened-is : made ≡ opened grouped xs p ys q
      unfolding opened with-plan
      opened-is =
          ap (λ (x : Side). record { stage = Section; old = x; new = second; paired = b.paired; moved = m; others = b.others })
          (fs ∙ ap (λ (n : ℕ). side_after xs p b.front n s grouped) kk)
          ∙ ap (λ (x : Side). record {
            stage = Section;
            old = side_after xs p b.front (old_told b) s grouped;
            new = x;
            paired = b.paired;
            moved = m;
            others = b.others;
          })
          (ss ∙ ap (λ (n : ℕ). side_after ys q b.front n t grouped) ll)
          ∙ ap (λ (n : ℕ). record {
            stage = Section;
            old = side_after xs p b.front (old_told b) s grouped;
            new = side_after ys q b.front (new_told b) t grouped;
            paired = b.paired;
            moved = n;
            others = b.others;
          }) mm
          ∙ ap (λ (x : Place). with-plan b x t) e
          ∙ ap (λ (x : Place). with-plan b (part_end_lem xs p) x) f
          ∙ ap (λ (z : Plan). with-plan z (part_end_lem xs p) (part_end_lem ys q)) is-plan

      pub opens : Opens xs ys made
      opens =
          let pf = plan-front (part_of (left_of xs p)) (part_of (left_of ys q)) in
          let pl = plan-lengths (part_of (left_of xs p)) (part_of (left_of ys q)) in
          let bf : b.front ≡ plan.front = ap (λ (z : Plan). z.front) is-plan in
          let bm : m ≡ moved_many plan = mm ∙ ap moved_many is-plan in
          let mo = moved-old plan in
          let mn = moved_new (part_of (left_of xs p)) (part_of (left_of ys q)) in
          let a : first.place ≡ onward b.front xs p = ap (λ (x : Side). x.place) fs in
          let c : second.place ≡ onward b.front ys q = ap (λ (x : Side). x.place) ss in
          let an : first.place.number ≡ (onward b.front xs p).number = ap (λ (x : Place). x.number) a in
          let cn : second.place.number ≡ (onward b.front ys q).number = ap (λ (x : Place). x.number) c in
          let i = inside xs p s b.front m v se sn (omega (arith, bf, pf.0)) (omega (arith, bm, bf, mo, pl.0)) in
          let j = inside ys q t b.front m w te tn (omega (arith, bf, pf.1)) (omega (arith, bm, bf, mn, pl.1)) in
          record { old = fv; new = sv; moved = omega (arith, an, i); moved' = omega (arith, cn, j) }
