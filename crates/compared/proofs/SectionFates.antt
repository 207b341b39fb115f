-- A section: each record of the two parts is the same in both or printed.
-- Assumes nothing.
use Prim.Native.Nat.{ℕ, zero, suc, ◌+◌, ◌-◌, ◌≤◌, ◌<◌, min}
use mathlib.Core.Path.{◌≡◌, refl, sym, ap, ◌∙◌, subst}
use mathlib.Core.List.{List, [], ◌∷◌, ◌++◌}
use mathlib.Core.Bool.{Bool, true, false, ◌&&◌, not}
use mathlib.Core.Logic.{⊎_elim}
use native.Mathlib.Omega.{arith}
use borrow.Author.Tests.{eqb-true}
use lib.ListN.{length, get_or, take, drop, length-drop}
use lib.Seq.{get_or-take, get_or-drop, length-take-le}
use lib.Dec.{eqb}
use Rattle.base.proofs.Tests.{by-test, of-choice, no_bool, and_l, and_r, lt-or-ge}
use Rattle.account.specs.Judge.{record_row}
use Rattle.walk.specs.Walk.{Entry, records_in}
use Rattle.compare.specs.Records.{same}
use Rattle.compare.specs.Moved.{each_as_often}
use Rattle.compare.specs.Plans.{front_of, back_most, back_of, moved_of, paired_of, plan_of, old_told, new_told}
use Rattle.compare.specs.Plans.{moved_many}
use Rattle.compare.specs.Values.{own_line_lem, alone_text, changed_text, pair_text}
use Rattle.compare.specs.Sections.{alones_text, pairs_text, told_text, moved_text, others_text}
use Rattle.compare.proofs.SameBytes.{same_true, same_self}
use Rattle.compare.proofs.Pairs.{leading-left, leading-right}
use Rattle.compared.specs.Reported.{no_entry, entry_at, Prints, Fate, kept, counted, changed, alone, moved, Reported}
use Rattle.compared.proofs.Truths.{front_same, back-same}
use Rattle.compared.proofs.Silent.{back-few}
use Rattle.compared.proofs.Counted.{some-others, some_first, some-last}
use Rattle.compared.proofs.InAnotherOrder.{OneOf, has-partner}
use Rattle.compared.proofs.Fates.{prints-all, prints-left, prints-right, prints-in}

-- ---- the bytes of entry m

record-at : (m : ℕ) (es : List Entry) → get_or (records_in es) m [] ≡ (entry_at es m).bytes
unfolding records_in
record-at zero [] = refl
record-at (suc m) [] = refl
record-at zero (e ∷ es) = refl
record-at (suc m) (e ∷ es) = record-at m es

records-long : (es : List Entry) → length (records_in es) ≡ length es
unfolding records_in
records-long [] = refl
records-long (e ∷ es) = ap (λ (n : ℕ). suc n) (records-long es)

same_first : (f m : ℕ) (es ns : List Entry) → take f (records_in es) ≡ take f (records_in ns) → m < f → (entry_at es m).bytes ≡ (entry_at ns m).bytes
same_first f m es ns e h =
    sym (record-at m es) ∙ sym (get_or-take f (records_in es) m [] h) ∙ ap (λ (l : List (List ℕ)). get_or l m []) e
    ∙ get_or-take f (records_in ns) m [] h ∙ record-at m ns

same-last : (k y : ℕ) (es ns : List Entry) → drop k (records_in es) ≡ drop k (records_in ns) → k ≤ y → (entry_at es y).bytes ≡ (entry_at ns y).bytes
same-last k y es ns e h =
    let z : y ≡ k + (y - k) = omega arith in
    sym (record-at y es) ∙ ap (λ (i : ℕ). get_or (records_in es) i []) z ∙ sym (get_or-drop k (records_in es) (y - k) [])
    ∙ ap (λ (l : List (List ℕ)). get_or l (y - k) []) e
    ∙ get_or-drop k (records_in ns) (y - k) [] ∙ ap (λ (i : ℕ). get_or (records_in ns) i []) (sym z) ∙ record-at y ns

same-swap : (xs ys : List ℕ) → same xs ys ≡ false → same ys xs ≡ false
same-swap xs ys h =
    by-test (same ys xs) (λ t. no_bool (sym h ∙ ap (λ (z : List ℕ). same xs z) (same_true ys xs t) ∙ same_self xs)) (λ t. t)

-- ---- a record that is the same in both

same-fate : (new : Bool) (text : List ℕ) (i : ℕ) (e : Entry) (j : ℕ) (ns : List Entry) (m c : ℕ) → m < length ns → e.bytes ≡ (entry_at ns m).bytes
    → (same e.lines (entry_at ns m).lines ≡ false → 0 < c) → Prints text (others_text c) → Fate new text i e j ns
same-fate new text i e j ns m c h b o p =
    by-test (same e.lines (entry_at ns m).lines)
    (λ t.
    kept m h
    (record {
      bytes = b;
      line =
          ap (λ (r : List ℕ). own_line_lem r e.lines) b
          ∙ ap (λ (l : List ℕ). own_line_lem (entry_at ns m).bytes l) (same_true e.lines (entry_at ns m).lines t);
    }))
    (λ t. counted m c h b (o t) p)

-- ---- a pair that is printed

pair-changed : (i : ℕ) (r l : List ℕ) (j : ℕ) (s k : List ℕ) → same r s ≡ false → eqb (record_row r) (record_row s) ≡ true
    → pair_text i r l j s k ≡ changed_text i r l j s k
unfolding pair_text
pair-changed i r l j s k d t = rw (d, t) refl

pair-alone : (i : ℕ) (r l : List ℕ) (j : ℕ) (s k : List ℕ) → same r s ≡ false → eqb (record_row r) (record_row s) ≡ false
    → pair_text i r l j s k ≡ alone_text false i r l ++ alone_text true j s k
unfolding pair_text
pair-alone i r l j s k d t = rw (d, t) refl

module _ (text : List ℕ) (i j m k : ℕ) (es ns : List Entry) (p : Prints text
    (pair_text (i + m) (entry_at es m).bytes (entry_at es m).lines (j + k) (entry_at ns k).bytes (entry_at ns k).lines)) (g : m < length es)
    (h : k < length ns)
    (d : same (entry_at es m).bytes (entry_at ns k).bytes ≡ false) where
  abbrev r : List ℕ
  r = (entry_at es m).bytes

  abbrev s : List ℕ
  s = (entry_at ns k).bytes

  as-changed : eqb (record_row r) (record_row s) ≡ true → Prints text (changed_text (i + m) r (entry_at es m).lines (j + k) s (entry_at ns k).lines)
  as-changed t = subst (λ (l : List ℕ). Prints text l) (pair-changed (i + m) r (entry_at es m).lines (j + k) s (entry_at ns k).lines d t) p

  as-alone : eqb (record_row r) (record_row s) ≡ false
      → Prints text (alone_text false (i + m) r (entry_at es m).lines ++ alone_text true (j + k) s (entry_at ns k).lines)
  as-alone t = subst (λ (l : List ℕ). Prints text l) (pair-alone (i + m) r (entry_at es m).lines (j + k) s (entry_at ns k).lines d t) p

  pub pair-old : Fate false text (i + m) (entry_at es m) j ns
  pair-old =
      by-test (eqb (record_row r) (record_row s)) (λ t. changed k h (as-changed t))
      (λ t. alone (prints-in (as-alone t) (prints-left (alone_text true (j + k) s (entry_at ns k).lines) (prints-all _))))

  pub pair-new : Fate true text (j + k) (entry_at ns k) i es
  pair-new =
      by-test (eqb (record_row r) (record_row s)) (λ t. changed m g (as-changed t))
      (λ t. alone (prints-in (as-alone t) (prints-right (alone_text false (i + m) r (entry_at es m).lines) (prints-all _))))

-- ---- runs of records that are printed

pub alones-at : (new : Bool) (i m : ℕ) (es : List Entry) → m < length es
    → Prints (alones_text new i es) (alone_text new (i + m) (entry_at es m).bytes (entry_at es m).lines)
unfolding alones_text
alones-at new i m [] h = absurd (omega (arith, h))
alones-at new i zero (e ∷ es) h =
    let z : i ≡ i + 0 = omega arith in
    subst (λ (k : ℕ). Prints (alone_text new i e.bytes e.lines ++ alones_text new (i + 1) es) (alone_text new k e.bytes e.lines)) z
    (prints-left (alones_text new (i + 1) es) (prints-all (alone_text new i e.bytes e.lines)))
alones-at new i (suc m) (e ∷ es) h =
    let z : i + 1 + m ≡ i + suc m = omega arith in
    subst
    (λ (k : ℕ). Prints (alone_text new i e.bytes e.lines ++ alones_text new (i + 1) es)
    (alone_text new k (entry_at es m).bytes (entry_at es m).lines)) z
    (prints-right (alone_text new i e.bytes e.lines) (alones-at new (i + 1) m es (omega (arith, h))))

pairs-at : (i j m : ℕ) (es ns : List Entry) → m < length es → m < length ns
    → Prints (pairs_text i es j ns) (pair_text (i + m) (entry_at es m).bytes (entry_at es m).lines (j + m) (entry_at ns m).bytes
    (entry_at ns m).lines)
unfolding pairs_text
pairs-at i j m [] ns h k = absurd (omega (arith, h))
pairs-at i j m (e ∷ es) [] h k = absurd (omega (arith, k))
pairs-at i j zero (e ∷ es) (n ∷ ns) h k =
    let z : i ≡ i + 0 = omega arith in
    let w : j ≡ j + 0 = omega arith in
    let here = pair_text i e.bytes e.lines j n.bytes n.lines in
    let rest = pairs_text (i + 1) es (j + 1) ns in
    subst (λ (x : ℕ). Prints (here ++ rest) (pair_text x e.bytes e.lines (j + 0) n.bytes n.lines)) z
    (subst (λ (x : ℕ). Prints (here ++ rest) (pair_text i e.bytes e.lines x n.bytes n.lines)) w (prints-left rest (prints-all here)))
pairs-at i j (suc m) (e ∷ es) (n ∷ ns) h k =
    let z : i + 1 + m ≡ i + suc m = omega arith in
    let w : j + 1 + m ≡ j + suc m = omega arith in
    let here = pair_text i e.bytes e.lines j n.bytes n.lines in
    let rest = pairs_text (i + 1) es (j + 1) ns in
    subst (λ (x : ℕ). Prints (here ++ rest) (pair_text x (entry_at es m).bytes (entry_at es m).lines (j + suc m) (entry_at ns m).bytes
    (entry_at ns m).lines)) z
    (subst (λ (x : ℕ). Prints (here ++ rest) (pair_text (i + 1 + m) (entry_at es m).bytes (entry_at es m).lines x (entry_at ns m).bytes
    (entry_at ns m).lines)) w
    (prints-right here (pairs-at (i + 1) (j + 1) m es ns (omega (arith, h)) (omega (arith, k)))))

-- entry x of those that stand between
between-at : (o f x : ℕ) (es : List Entry) → x < o → entry_at (take o (drop f es)) x ≡ entry_at es (f + x)
between-at o f x es h = get_or-take o (drop f es) x no_entry h ∙ get_or-drop f es x no_entry

between-long : (o f : ℕ) (es : List Entry) → o ≤ length es - f → length (take o (drop f es)) ≡ o
between-long o f es h = length-take-le o (drop f es) (let l = length-drop f es in omega (arith, l, h))

-- ---- a section

-- the text has what the plan of two parts asks for
pub record Covers (under : Bool) (text : List ℕ) (i : ℕ) (es : List Entry) (j : ℕ) (ns : List Entry) : Type 0 where
  pub told : Prints text
      (told_text (plan_of es ns).paired (i + (plan_of es ns).front) (take (old_told (plan_of es ns)) (drop (plan_of es ns).front es))
      (j + (plan_of es ns).front) (take (new_told (plan_of es ns)) (drop (plan_of es ns).front ns)))
  pub order : 0 < moved_many (plan_of es ns)
      → Prints text (moved_text under (i + (plan_of es ns).front) (j + (plan_of es ns).front) (moved_many (plan_of es ns)))
  pub others : Prints text (others_text (plan_of es ns).others)

module _ (es ns : List Entry) where
  abbrev f : ℕ
  f = front_of es ns

  abbrev b : ℕ
  b = back_of es ns

  abbrev most : ℕ
  most = back_most es ns

  abbrev es' : List Entry
  es' = drop (length es - most) es

  abbrev ns' : List Entry
  ns' = drop (length ns - most) ns

  abbrev is_moved : Bool
  is_moved = moved_of f b es ns

  front-old : f ≤ length es
  front-old = leading-left es ns

  front-new : f ≤ length ns
  front-new = leading-right es ns

  few : b ≤ min (length es) (length ns) - f
  few = back-few es ns

  long-old : length es' ≡ most
  long-old = let l = length-drop (length es - most) es in omega (arith, l)

  long-new : length ns' ≡ most
  long-new = let l = length-drop (length ns - most) ns in omega (arith, l)

  even : paired_of is_moved es ns ≡ true → length es ≡ length ns
  even t = eqb-true _ _ (and_r (not is_moved) (eqb (length es) (length ns)) t)

  front_bytes : (m : ℕ) → m < f → (entry_at es m).bytes ≡ (entry_at ns m).bytes
  front_bytes m h = same_first f m es ns (front_same es ns) h

  back-bytes : (y : ℕ) → most ≤ b + y → (entry_at es' y).bytes ≡ (entry_at ns' y).bytes
  back-bytes y h =
      same-last (length es' - b) y es' ns' (back-same es' ns' (long-old ∙ sym long-new)) (let l = long-old in omega (arith, l, h))

  front-others : (m : ℕ) → m < f → same (entry_at es m).lines (entry_at ns m).lines ≡ false → 0 < (plan_of es ns).others
  unfolding plan_of
  front-others m h q =
      let k : m < length es = omega (arith, h, front-old) in
      let l : m < length ns = omega (arith, h, front-new) in
      let s : same (entry_at es m).bytes (entry_at ns m).bytes ≡ true =
      ap (λ (r : List ℕ). same r (entry_at ns m).bytes) (front_bytes m h) ∙ same_self (entry_at ns m).bytes in
      of-choice (λ (n : ℕ). 0 < n) (paired_of is_moved es ns) (λ t. some-others m es ns k l q s)
      (λ t. let g = some_first m es ns k l q h in omega (arith, g))

  back-others : (y : ℕ) → y < most → most ≤ b + y → same (entry_at es' y).lines (entry_at ns' y).lines ≡ false → 0 < (plan_of es ns).others
  unfolding plan_of
  back-others y h k q =
      let lo = long-old in
      let ln = long-new in
      let x = get_or-drop (length es - most) es y no_entry in
      let z = get_or-drop (length ns - most) ns y no_entry in
      of-choice (λ (n : ℕ). 0 < n) (paired_of is_moved es ns)
      (λ t.
      let e : length ns - most ≡ length es - most = ap (λ (n : ℕ). n - most) (sym (even t)) in
      let w : entry_at ns' y ≡ entry_at ns (length es - most + y) = z ∙ ap (λ (n : ℕ). entry_at ns (n + y)) e in
      let s : same (entry_at es (length es - most + y)).bytes (entry_at ns (length es - most + y)).bytes ≡ true =
      ap (λ (r : List ℕ). same r (entry_at ns (length es - most + y)).bytes)
      (ap (λ (n : Entry). n.bytes) (sym x) ∙ back-bytes y k ∙ ap (λ (n : Entry). n.bytes) w)
      ∙ same_self (entry_at ns (length es - most + y)).bytes in
      let d : same (entry_at es (length es - most + y)).lines (entry_at ns (length es - most + y)).lines ≡ false =
      ap (λ (n : Entry). same n.lines (entry_at ns (length es - most + y)).lines) (sym x)
      ∙ ap (λ (n : Entry). same (entry_at es' y).lines n.lines) (sym w) ∙ q in
      some-others (length es - most + y) es ns (omega (arith, h)) (let v = even t in omega (arith, h, v)) d s)
      (λ t.
      let g = some-last y es' ns' (omega (arith, h, lo)) (omega (arith, h, ln)) q (omega (arith, lo, k)) in
      omega (arith, g))

  -- those between go one by one
  pair-others : (m : ℕ) → paired_of is_moved es ns ≡ true → m < length es → same (entry_at es m).bytes (entry_at ns m).bytes ≡ true
      → same (entry_at es m).lines (entry_at ns m).lines ≡ false → 0 < (plan_of es ns).others
  unfolding plan_of
  pair-others m t h s q = rw t (some-others m es ns h (let v = even t in omega (arith, h, v)) q s)

  module _ (under : Bool) (text : List ℕ) (i j : ℕ) (c : Covers under text i es j ns) where
    -- at the beginning
    front-here : (m : ℕ) → m < f → Fate false text (i + m) (entry_at es m) j ns
    front-here m h =
        same-fate false text (i + m) (entry_at es m) j ns m (plan_of es ns).others (omega (arith, h, front-new)) (front_bytes m h) (front-others m h)
        c.others

    front-there : (m : ℕ) → m < f → Fate true text (j + m) (entry_at ns m) i es
    front-there m h =
        same-fate true text (j + m) (entry_at ns m) i es m (plan_of es ns).others (omega (arith, h, front-old)) (sym (front_bytes m h))
        (λ q. front-others m h (same-swap (entry_at ns m).lines (entry_at es m).lines q)) c.others

    -- at the end
    back-here : (m : ℕ) → m < length es → length es - b ≤ m → Fate false text (i + m) (entry_at es m) j ns
    back-here m h k =
        let y = m - (length es - most) in
        let u = few in
        let fo = front-old in
        let fn = front-new in
        let z : length es - most + y ≡ m = omega (arith, h, k, u) in
        let x : entry_at es' y ≡ entry_at es m = get_or-drop (length es - most) es y no_entry ∙ ap (λ (n : ℕ). entry_at es n) z in
        let w : entry_at ns' y ≡ entry_at ns (length ns - most + y) = get_or-drop (length ns - most) ns y no_entry in
        let o : most ≤ b + y = omega (arith, h, k, u, fo, fn) in
        let l : y < most = omega (arith, h, k, u, fo, fn) in
        same-fate false text (i + m) (entry_at es m) j ns (length ns - most + y) (plan_of es ns).others (omega (arith, l, fo, fn))
        (ap (λ (n : Entry). n.bytes) (sym x) ∙ back-bytes y o ∙ ap (λ (n : Entry). n.bytes) w)
        (λ q. back-others y l o (ap (λ (n : Entry). same n.lines (entry_at ns' y).lines) x
        ∙ ap (λ (n : Entry). same (entry_at es m).lines n.lines) w ∙ q))
        c.others

    back-there : (m : ℕ) → m < length ns → length ns - b ≤ m → Fate true text (j + m) (entry_at ns m) i es
    back-there m h k =
        let y = m - (length ns - most) in
        let u = few in
        let fo = front-old in
        let fn = front-new in
        let z : length ns - most + y ≡ m = omega (arith, h, k, u) in
        let x : entry_at ns' y ≡ entry_at ns m = get_or-drop (length ns - most) ns y no_entry ∙ ap (λ (n : ℕ). entry_at ns n) z in
        let w : entry_at es' y ≡ entry_at es (length es - most + y) = get_or-drop (length es - most) es y no_entry in
        let o : most ≤ b + y = omega (arith, h, k, u, fo, fn) in
        let l : y < most = omega (arith, h, k, u, fo, fn) in
        same-fate true text (j + m) (entry_at ns m) i es (length es - most + y) (plan_of es ns).others (omega (arith, l, fo, fn))
        (sym (ap (λ (n : Entry). n.bytes) (sym w) ∙ back-bytes y o ∙ ap (λ (n : Entry). n.bytes) x))
        (λ q. back-others y l o
        (ap (λ (n : Entry). same n.lines (entry_at ns' y).lines) w
        ∙ ap (λ (n : Entry). same (entry_at es (length es - most + y)).lines n.lines) x
        ∙ same-swap (entry_at ns m).lines (entry_at es (length es - most + y)).lines q))
        c.others

    -- between
    told-as : (paired : Bool) (o n : ℕ) → (plan_of es ns).paired ≡ paired → old_told (plan_of es ns) ≡ o → new_told (plan_of es ns) ≡ n
        → Prints text (told_text paired (i + f) (take o (drop f es)) (j + f) (take n (drop f ns)))
    unfolding plan_of
    told-as paired o n p q r =
        subst (λ (x : Bool). Prints text (told_text x (i + f) (take o (drop f es)) (j + f) (take n (drop f ns)))) p
        (subst (λ (x : ℕ). Prints text (told_text (plan_of es ns).paired (i + f) (take x (drop f es)) (j + f) (take n (drop f ns)))) q
        (subst (λ (x : ℕ). Prints text (told_text (plan_of es ns).paired (i + f) (take (old_told (plan_of es ns)) (drop f es)) (j + f)
        (take x (drop f ns)))) r
        c.told))

    plan-paired : (plan_of es ns).paired ≡ paired_of is_moved es ns
    unfolding plan_of
    plan-paired = refl

    plan-old : is_moved ≡ false → old_told (plan_of es ns) ≡ length es - f - b
    unfolding plan_of
    plan-old t = rw t refl

    plan_new : is_moved ≡ false → new_told (plan_of es ns) ≡ length ns - f - b
    unfolding plan_of
    plan_new t = rw t refl

    -- only in another order
    order-as : is_moved ≡ true → 0 < length es - f - b → Prints text (moved_text under (i + f) (j + f) (length es - f - b))
    unfolding plan_of
    order-as t h =
        let k : moved_many (plan_of es ns) ≡ length es - f - b = rw t refl in
        subst (λ (n : ℕ). Prints text (moved_text under (i + f) (j + f) n)) k (c.order (omega (arith, k, h)))

    moved-even : is_moved ≡ true → length es ≡ length ns
    moved-even t =
        eqb-true _ _ (and_l (eqb (length es) (length ns)) _ (and_r (not (eqb (length es - f - b) 0)) _ t))

    between-records : (l : List Entry) (o m : ℕ) → o ≤ length l - f → f ≤ m → m < f + o
        → (m - f < length (records_in (take o (drop f l)))) × (get_or (records_in (take o (drop f l))) (m - f) [] ≡ (entry_at l m).bytes)
    between-records l o m g h k =
        let w : f + (m - f) ≡ m = omega (arith, h) in
        let n = records-long (take o (drop f l)) in
        let z = between-long o f l g in (
          omega (arith, h, k, n, z),
          record-at (m - f) (take o (drop f l)) ∙ ap (λ (e : Entry). e.bytes) (between-at o f (m - f) l (omega (arith, h, k)))
              ∙ ap (λ (y : ℕ). (entry_at l y).bytes) w,
        )

    -- the partner of a record that is in another order
    module _ (l k : List Entry) (o p m : ℕ) (u : o ≤ length l - f) (v : p ≤ length k - f) (g : f ≤ m) (h : m < f + o)
        (t : each_as_often (records_in (take o (drop f l))) (records_in (take p (drop f k))) ≡ true) where
      one : OneOf (get_or (records_in (take o (drop f l))) (m - f) []) (records_in (take p (drop f k)))
      one = has-partner (records_in (take o (drop f l))) (records_in (take p (drop f k))) (m - f) t (between-records l o m u g h).0

      there : f + one.place < f + p
      there =
          let i = one.inside in
          let n = records-long (take p (drop f k)) in
          let z = between-long p f k v in
          omega (arith, i, n, z)

      partner-inside : f + one.place < length k
      partner-inside = let q = there in omega (arith, q, v)

      partner-same : (entry_at l m).bytes ≡ (entry_at k (f + one.place)).bytes
      partner-same =
          let z : f + one.place - f ≡ one.place = omega arith in
          sym (between-records l o m u g h).1 ∙ one.is ∙ ap (λ (y : ℕ). get_or (records_in (take p (drop f k))) y []) (sym z)
          ∙ (between-records k p (f + one.place) v (omega arith) there).1

    moved-each : is_moved ≡ true
        → each_as_often (records_in (take (length es - f - b) (drop f es))) (records_in (take (length ns - f - b) (drop f ns)))
        && each_as_often (records_in (take (length ns - f - b) (drop f ns))) (records_in (take (length es - f - b) (drop f es))) ≡ true
    moved-each t =
        and_r (eqb (length es) (length ns)) _ (and_r (not (eqb (length es - f - b) 0)) _ t)

    -- one by one
    module _ (t : is_moved ≡ false) (u : paired_of is_moved es ns ≡ true) (m : ℕ) (h : f ≤ m) (k : m < length es - b) where
      pairs-told : Prints text (pairs_text (i + f) (take (length es - f - b) (drop f es)) (j + f) (take (length ns - f - b) (drop f ns)))
      unfolding told_text
      pairs-told = told-as true (length es - f - b) (length ns - f - b) (plan-paired ∙ u) (plan-old t) (plan_new t)

      pair-told : Prints text (pair_text (i + m) (entry_at es m).bytes (entry_at es m).lines (j + m) (entry_at ns m).bytes (entry_at ns m).lines)
      pair-told =
          let v = even u in
          let o = length es - f - b in
          let n = length ns - f - b in
          let x = m - f in
          let w : f + x ≡ m = omega (arith, h) in
          let p : i + f + x ≡ i + m = omega (arith, h) in
          let q : j + f + x ≡ j + m = omega (arith, h) in
          let e : entry_at (take o (drop f es)) x ≡ entry_at es m = between-at o f x es (omega (arith, h, k)) ∙ ap (λ (y : ℕ). entry_at es y) w in
          let g : entry_at (take n (drop f ns)) x ≡ entry_at ns m = between-at n f x ns (omega (arith, h, k, v)) ∙ ap (λ (y : ℕ). entry_at ns y) w in
          let lo = between-long o f es (omega arith) in
          let ln = between-long n f ns (omega arith) in
          subst (λ (y : ℕ). Prints text (pair_text y (entry_at es m).bytes (entry_at es m).lines (j + m) (entry_at ns m).bytes
          (entry_at ns m).lines)) p
          (subst (λ (y : ℕ). Prints text (pair_text (i + f + x) (entry_at es m).bytes (entry_at es m).lines y (entry_at ns m).bytes
          (entry_at ns m).lines)) q
          (subst (λ (y : Entry). Prints text (pair_text (i + f + x) y.bytes y.lines (j + f + x) (entry_at ns m).bytes (entry_at ns m).lines)) e
          (subst
          (λ (y : Entry).
          Prints text
          (pair_text (i + f + x) (entry_at (take o (drop f es)) x).bytes (entry_at (take o (drop f es)) x).lines (j + f + x) y.bytes y.lines)) g
          (prints-in pairs-told
          (pairs-at (i + f) (j + f) x (take o (drop f es)) (take n (drop f ns)) (omega (arith, h, k, lo)) (omega (arith, h, k, ln, v)))))))

      pair-here : Fate false text (i + m) (entry_at es m) j ns
      pair-here =
          let v = even u in
          by-test (same (entry_at es m).bytes (entry_at ns m).bytes)
          (λ s.
          same-fate false text (i + m) (entry_at es m) j ns m (plan_of es ns).others (omega (arith, k, v))
          (same_true (entry_at es m).bytes (entry_at ns m).bytes s)
          (λ q. pair-others m u (omega (arith, k)) s q) c.others)
          (λ s. pair-old text i j m m es ns pair-told (omega (arith, k)) (omega (arith, k, v)) s)

      pair-there : Fate true text (j + m) (entry_at ns m) i es
      pair-there =
          let v = even u in
          by-test (same (entry_at es m).bytes (entry_at ns m).bytes)
          (λ s.
          same-fate true text (j + m) (entry_at ns m) i es m (plan_of es ns).others (omega (arith, k))
          (sym (same_true (entry_at es m).bytes (entry_at ns m).bytes s))
          (λ q. pair-others m u (omega (arith, k)) s (same-swap (entry_at ns m).lines (entry_at es m).lines q)) c.others)
          (λ s. pair-new text i j m m es ns pair-told (omega (arith, k)) (omega (arith, k, v)) s)

    -- each alone
    module _ (t : is_moved ≡ false) (u : paired_of is_moved es ns ≡ false) where
      alones-told : Prints text
          (alones_text false (i + f) (take (length es - f - b) (drop f es)) ++ alones_text true (j + f) (take (length ns - f - b) (drop f ns)))
      unfolding told_text
      alones-told = told-as false (length es - f - b) (length ns - f - b) (plan-paired ∙ u) (plan-old t) (plan_new t)

      -- record m of a run that is printed from f on
      alone_at : (new : Bool) (a m o : ℕ) (l : List Entry) → f ≤ m → m < f + o → o ≤ length l - f
          → Prints text (alones_text new (a + f) (take o (drop f l)))
          → Prints text (alone_text new (a + m) (entry_at l m).bytes (entry_at l m).lines)
      alone_at new a m o l h k g p =
          let x = m - f in
          let w : f + x ≡ m = omega (arith, h) in
          let q : a + f + x ≡ a + m = omega (arith, h) in
          let e : entry_at (take o (drop f l)) x ≡ entry_at l m = between-at o f x l (omega (arith, h, k)) ∙ ap (λ (y : ℕ). entry_at l y) w in
          let n = between-long o f l g in
          subst (λ (y : ℕ). Prints text (alone_text new y (entry_at l m).bytes (entry_at l m).lines)) q
          (subst (λ (y : Entry). Prints text (alone_text new (a + f + x) y.bytes y.lines)) e
          (prints-in p (alones-at new (a + f) x (take o (drop f l)) (omega (arith, h, k, n)))))

      alone-here : (m : ℕ) → f ≤ m → m < length es - b → Fate false text (i + m) (entry_at es m) j ns
      alone-here m h k =
          alone (alone_at false i m (length es - f - b) es h (omega (arith, h, k)) (omega arith)
          (prints-in alones-told (prints-left (alones_text true (j + f) (take (length ns - f - b) (drop f ns))) (prints-all _))))

      alone-there : (m : ℕ) → f ≤ m → m < length ns - b → Fate true text (j + m) (entry_at ns m) i es
      alone-there m h k =
          alone (alone_at true j m (length ns - f - b) ns h (omega (arith, h, k)) (omega arith)
          (prints-in alones-told (prints-right (alones_text false (i + f) (take (length es - f - b) (drop f es))) (prints-all _))))

    between-here : (m : ℕ) → f ≤ m → m < length es - b → Fate false text (i + m) (entry_at es m) j ns
    between-here m h k =
        by-test is_moved
        (λ t.
        let o = length es - f - b in
        let n = length ns - f - b in
        let a = and_l (each_as_often (records_in (take o (drop f es))) (records_in (take n (drop f ns)))) _ (moved-each t) in
        let u : o ≤ length es - f = omega arith in
        let v : n ≤ length ns - f = omega arith in
        let w : m < f + o = omega (arith, h, k) in
        moved (f + (one es ns o n m u v h w a).place) under (i + f) (j + f) o (partner-inside es ns o n m u v h w a)
        (partner-same es ns o n m u v h w a) (omega (arith, h)) (omega (arith, h, k)) (order-as t (omega (arith, h, k))))
        (λ t. by-test (paired_of is_moved es ns) (λ u. pair-here t u m h k) (λ u. alone-here t u m h k))

    between-there : (m : ℕ) → f ≤ m → m < length ns - b → Fate true text (j + m) (entry_at ns m) i es
    between-there m h k =
        by-test is_moved
        (λ t.
        let v = moved-even t in
        let o = length ns - f - b in
        let n = length es - f - b in
        let a = and_r (each_as_often (records_in (take n (drop f es))) (records_in (take o (drop f ns)))) _ (moved-each t) in
        let u : o ≤ length ns - f = omega arith in
        let w : n ≤ length es - f = omega arith in
        let x : m < f + o = omega (arith, h, k) in
        moved (f + (one ns es o n m u w h x a).place) under (j + f) (i + f) n (partner-inside ns es o n m u w h x a)
        (partner-same ns es o n m u w h x a) (omega (arith, h)) (omega (arith, h, k, v)) (order-as t (omega (arith, h, k, v))))
        (λ t. by-test (paired_of is_moved es ns) (λ u. pair-there t u m h (let v = even u in omega (arith, k, v))) (λ u. alone-there t u m h k))

    pub section-reported : Reported text i es j ns
    section-reported =
        record {
          old = λ m h.
              ⊎_elim (λ (k : m < f). front-here m k)
              (λ (k : f ≤ m). ⊎_elim (λ (l : m < length es - b). between-here m k l) (λ (l : length es - b ≤ m). back-here m h l)
              (lt-or-ge m (length es - b)))
              (lt-or-ge m f);
          new = λ m h.
              ⊎_elim (λ (k : m < f). front-there m k)
              (λ (k : f ≤ m). ⊎_elim (λ (l : m < length ns - b). between-there m k l) (λ (l : length ns - b ≤ m). back-there m h l)
              (lt-or-ge m (length ns - b)))
              (lt-or-ge m f);
        }
