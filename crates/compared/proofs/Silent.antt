-- What a section that prints nothing means: both parts have the same records with the same lines, and the same sum.
-- Assumes nothing.
use Prim.Native.Nat.{ℕ, zero, suc, ◌+◌, ◌-◌, ◌≤◌, min}
use mathlib.Core.Path.{◌≡◌, refl, sym, ap, ◌∙◌}
use mathlib.Core.List.{List, [], ◌∷◌, ◌++◌}
use mathlib.Core.Bool.{Bool, true, false, ◌&&◌, not}
use native.Mathlib.Omega.{arith}
use borrow.Author.Tests.{eq-eqb, eqb-true}
use lib.ListN.{length, take, drop, length-drop, take-append-drop}
use lib.Dec.{eqb}
use Rattle.base.specs.Choice.{pick}
use Rattle.base.proofs.Tests.{by-test, and_l, and_r}
use Rattle.walk.specs.Walk.{Entry, records_in}
use Rattle.compare.specs.declared.runs.Counts.{Counts}
use Rattle.compare.specs.Records.{same}
use Rattle.compare.specs.Plans.{no_runs, one_more_lem, runs_from, runs_of, front_of, back_most, back_runs, back_of, moved_of, paired_of}
use Rattle.compare.specs.Plans.{plan_of}
use Rattle.compare.specs.Plans.{old_told, new_told, moved_many}
use Rattle.compare.specs.Sections.{silent}
use Rattle.compare.proofs.SameBytes.{same_true, same_self}
use Rattle.compare.proofs.Pairs.{leading-left, leading-right, trailing-left}
use Rattle.compared.proofs.Truths.{front_same, back-same}

-- ---- the same records with no other lines are the same entries

pub others-kept : (b : Bool) (n : ℕ) → n ≤ pick b (n + 1) n
others-kept true n = omega arith
others-kept false n = omega arith

pub others-grow : (u : Counts) (es ns : List Entry) → u.others ≤ (runs_from u es ns).others
unfolding runs_from
others-grow u [] ns = omega arith
others-grow u (e ∷ es) [] = omega arith
others-grow u (e ∷ es) (n ∷ ns) =
    let b = same e.bytes n.bytes in
    let c = same e.lines n.lines in
    let i = others-grow (one_more_lem u b c) es ns in
    let k = others-kept (b && not c) u.others in
    omega (arith, i, k)

same_entries : (u : Counts) (es ns : List Entry) → records_in es ≡ records_in ns → (runs_from u es ns).others ≡ u.others → es ≡ ns
unfolding runs_from records_in
same_entries u [] [] r h = refl
same_entries u [] (n ∷ ns) r h = let l = ap length r in absurd (omega (arith, l))
same_entries u (e ∷ es) [] r h = let l = ap length r in absurd (omega (arith, l))
same_entries u (e ∷ es) (n ∷ ns) r h =
    let b : e.bytes ≡ n.bytes = ap (λ (l : List (List ℕ)). first l) r in
    let rest : records_in es ≡ records_in ns = ap (λ (l : List (List ℕ)). drop 1 l) r in
    let s : same e.bytes n.bytes ≡ true = ap (λ (x : List ℕ). same x n.bytes) b ∙ same_self n.bytes in
    let v = one_more_lem u (same e.bytes n.bytes) (same e.lines n.lines) in
    let g = others-grow v es ns in
    let c : same e.lines n.lines ≡ true =
    by-test (same e.lines n.lines) (λ t. t)
    (λ t. let o : v.others ≡ u.others + 1 = rw (s, t) refl in absurd (omega (arith, g, h, o))) in
    let o : v.others ≡ u.others = rw (s, c) refl in
    both b (same_true e.lines n.lines c) (same_entries v es ns rest (omega (arith, h, o)))
  where
    first : List (List ℕ) → List ℕ
    first [] = []
    first (x ∷ xs) = x

    both : e.bytes ≡ n.bytes → e.lines ≡ n.lines → es ≡ ns → e ∷ es ≡ n ∷ ns
    both p q z =
        ap (λ (x : List ℕ). record { bytes = x; lines = e.lines } ∷ es) p ∙ ap (λ (x : List ℕ). record { bytes = n.bytes; lines = x } ∷ es) q
        ∙ ap (λ (l : List Entry). n ∷ l) z

-- ---- nothing between, and no other lines

pub records-drop : (k : ℕ) (es : List Entry) → records_in (drop k es) ≡ drop k (records_in es)
unfolding records_in
records-drop zero es = refl
records-drop (suc k) [] = refl
records-drop (suc k) (e ∷ es) = records-drop k es

-- numbers, apart from the lists that they count
most-is : (x y f b : ℕ) → x ≡ f + b → y ≡ f + b → min x y - f ≡ b
most-is x y f b p q = omega (arith, p, q)

rest-is : (x m f b : ℕ) → x ≡ f + b → m ≡ b → x - m ≡ f
rest-is x m f b p q = omega (arith, p, q)

none_is : (l x f b t : ℕ) → l ≡ x - f → x ≡ f + b → b ≡ t → l - t ≡ 0
none_is l x f b t p q r = omega (arith, p, q, r)

even_is : (l k x y f b : ℕ) → l ≡ x - f → k ≡ y - f → x ≡ f + b → y ≡ f + b → l ≡ k
even_is l k x y f b p q r s = omega (arith, p, q, r, s)

module _ (es ns : List Entry) where
  abbrev f : ℕ
  f = front_of es ns

  abbrev b : ℕ
  b = back_of es ns

  pub back-few : b ≤ min (length es) (length ns) - f
  back-few =
      let m = back_most es ns in
      let t = trailing-left (drop (length es - m) es) (drop (length ns - m) ns) in
      let l = length-drop (length es - m) es in
      omega (arith, t, l)

  module _ (o : length es - f - b ≡ 0) (n : length ns - f - b ≡ 0) where
    all_old : length es ≡ f + b
    all_old = let l = leading-left es ns in let r = leading-right es ns in omega (arith, o, back-few, l, r)

    all_new : length ns ≡ f + b
    all_new = let l = leading-left es ns in let r = leading-right es ns in omega (arith, n, back-few, l, r)

    -- all are the same at the beginning or at the end
    all-records : records_in es ≡ records_in ns
    all-records =
        let m : back_most es ns ≡ b = most-is (length es) (length ns) f b all_old all_new in
        let a : length es - back_most es ns ≡ f = rest-is (length es) (back_most es ns) f b all_old m in
        let c : length ns - back_most es ns ≡ f = rest-is (length ns) (back_most es ns) f b all_new m in
        let t : back_runs es ns ≡ runs_of (drop f es) (drop f ns) =
        ap (λ (k : ℕ). runs_of (drop k es) (drop (length ns - back_most es ns) ns)) a ∙ ap (λ (k : ℕ). runs_of (drop f es) (drop k ns)) c in
        let l = length-drop f es in
        let k = length-drop f ns in
        let w : b ≡ (runs_of (drop f es) (drop f ns)).trailing = ap (λ (x : Counts). x.trailing) t in
        let z : length (drop f es) - (runs_of (drop f es) (drop f ns)).trailing ≡ 0 = none_is (length (drop f es)) (length es) f b _ l all_old w in
        let s = back-same (drop f es) (drop f ns) (even_is (length (drop f es)) (length (drop f ns)) (length es)
        (length ns) f b l k all_old all_new) in
        let e : records_in (drop f es) ≡ records_in (drop f ns) = rw z at s in
        let d : drop f (records_in es) ≡ drop f (records_in ns) = sym (records-drop f es) ∙ e ∙ records-drop f ns in
        sym (take-append-drop f (records_in es))
        ∙ ap (λ (x : List (List ℕ)). x ++ drop f (records_in es)) (front_same es ns)
        ∙ ap (λ (x : List (List ℕ)). take f (records_in ns) ++ x) d
        ∙ take-append-drop f (records_in ns)

-- Where nothing is told of two parts, they are the same records with the same lines.
pub quiet-parts : (es ns : List Entry) → old_told (plan_of es ns) ≡ 0 → new_told (plan_of es ns) ≡ 0 → moved_many (plan_of es ns) ≡ 0
    → (plan_of es ns).others ≡ 0 → es ≡ ns
unfolding plan_of
quiet-parts es ns p q r s =
    let m = moved_of (front_of es ns) (back_of es ns) es ns in
    let o : length es - front_of es ns - back_of es ns ≡ 0 = by-test m (λ t. rw t at r) (λ t. rw t at p) in
    let z : eqb (length es - front_of es ns - back_of es ns) 0 ≡ true = eq-eqb _ _ o in
    let not-moved : m ≡ false = rw z refl in
    let n : length ns - front_of es ns - back_of es ns ≡ 0 = rw not-moved at q in
    let l : length es ≡ length ns = all_old es ns o n ∙ sym (all_new es ns o n) in
    let y : paired_of m es ns ≡ true = rw (not-moved, eq-eqb _ _ l) refl in
    let x : (runs_of es ns).others ≡ 0 = rw y at s in
    same_entries no_runs es ns (all-records es ns o n) x

-- A section that prints nothing: the headings are the same record, the two parts the same records with the same lines, and their sums the same.
pub record SameSection (under : Bool) (es ns : List Entry) (s t : List ℕ) : Type 0 where
  pub headings : under ≡ true
  pub records : es ≡ ns
  pub sums : s ≡ t

pub silent-section : (under : Bool) (es ns : List Entry) (s t : List ℕ)
    → silent under (old_told (plan_of es ns)) (new_told (plan_of es ns)) (moved_many (plan_of es ns)) (plan_of es ns).others s t ≡ true
    → SameSection under es ns s t
silent-section under es ns s t h =
    let p = plan_of es ns in
    let all = and_r under _ h in
    let quiet = and_l (eqb (old_told p) 0 && (eqb (new_told p) 0 && (eqb (moved_many p) 0 && eqb p.others 0))) (same s t) all in
    let more = and_r (eqb (old_told p) 0) (eqb (new_told p) 0 && (eqb (moved_many p) 0 && eqb p.others 0)) quiet in
    let last = and_r (eqb (new_told p) 0) (eqb (moved_many p) 0 && eqb p.others 0) more in
    record {
      headings = and_l under ((eqb (old_told p) 0 && (eqb (new_told p) 0 && (eqb (moved_many p) 0 && eqb p.others 0))) && same s t) h;
      records =
          quiet-parts es ns (eqb-true _ _ (and_l (eqb (old_told p) 0) (eqb (new_told p) 0 && (eqb (moved_many p) 0 && eqb p.others 0)) quiet))
          (eqb-true _ _ (and_l (eqb (new_told p) 0) (eqb (moved_many p) 0 && eqb p.others 0) more))
          (eqb-true _ _ (and_l (eqb (moved_many p) 0) (eqb p.others 0) last)) (eqb-true _ _ (and_r (eqb (moved_many p) 0) (eqb p.others 0) last));
      sums = same_true s t (and_r (eqb (old_told p) 0 && (eqb (new_told p) 0 && (eqb (moved_many p) 0 && eqb p.others 0))) (same s t) all);
    }
