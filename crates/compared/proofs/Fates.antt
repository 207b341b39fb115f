-- Fates in a longer text and among more records.
-- Assumes nothing.
use Prim.Native.Nat.{ℕ, zero, suc, ◌+◌, ◌-◌, ◌≤◌, ◌<◌}
use mathlib.Core.Path.{◌≡◌, refl, sym, ap, ◌∙◌, subst}
use mathlib.Core.List.{List, [], ◌∷◌, ◌++◌, append_assoc, append-nil}
use mathlib.Core.Bool.{Bool, true, false}
use mathlib.Core.Logic.{⊎_elim}
use native.Mathlib.Omega.{arith}
use lib.ListN.{length, length-append}
use lib.Seq.{get_or-append-add}
use Rattle.base.proofs.Tests.{lt-or-ge}
use Rattle.walk.specs.Walk.{Entry}
use Rattle.compared.specs.Reported.{no_entry, entry_at, Prints, SameRecord, change_text, Fate, kept, counted, changed, alone, moved, close}
use Rattle.compared.specs.Reported.{Reported}

-- ---- pieces of a text

pub prints-all : (p : List ℕ) → Prints p p
prints-all p = record { before = []; after = []; is = sym (append-nil p) }

pub prints-left : {t p : List ℕ} (u : List ℕ) → Prints t p → Prints (t ++ u) p
prints-left {t = t} {p} u x =
    record {
      before = x.before;
      after = x.after ++ u;
      is =
          ap (λ (l : List ℕ). l ++ u) x.is ∙ append_assoc x.before (p ++ x.after) u
          ∙ ap (λ (l : List ℕ). x.before ++ l) (append_assoc p x.after u);
    }

pub prints-right : {t p : List ℕ} (u : List ℕ) → Prints t p → Prints (u ++ t) p
prints-right {t = t} {p} u x =
    record {
      before = u ++ x.before;
      after = x.after;
      is = ap (λ (l : List ℕ). u ++ l) x.is ∙ sym (append_assoc u x.before (p ++ x.after));
    }

pub prints-in : {t p q : List ℕ} → Prints t p → Prints p q → Prints t q
prints-in {t = t} {p} {q} x y = subst (λ (l : List ℕ). Prints l q) (sym x.is) (prints-right x.before (prints-left x.after y))

-- ---- one record

-- among the records ns of the other book, which stand in ns' from number shift on
pub fate-in : {new : Bool} {t t' : List ℕ} {i : ℕ} {e : Entry} (j shift : ℕ) (ns ns' : List Entry) → Prints t' t
    → ((m : ℕ) → m < length ns → (shift + m < length ns') × (entry_at ns' (shift + m) ≡ entry_at ns m))
    → Fate new t i e (j + shift) ns → Fate new t' i e j ns'
fate-in {e = e} j shift ns ns' x f (kept m h a) = kept (shift + m) (f m h).0 (subst (λ (n : Entry). SameRecord e n) (sym (f m h).1) a)
fate-in {e = e} j shift ns ns' x f (counted m many h b c p) =
    counted (shift + m) many (f m h).0 (b ∙ ap (λ (n : Entry). n.bytes) (sym (f m h).1)) c (prints-in x p)
fate-in {new = new} {t} {t'} {i} {e} j shift ns ns' x f (changed m h p) =
    let z : j + shift + m ≡ j + (shift + m) = omega arith in
    changed (shift + m) (f m h).0
    (prints-in x
    (subst (λ (n : Entry). Prints t (change_text new i e (j + (shift + m)) n)) (sym (f m h).1)
    (subst (λ (k : ℕ). Prints t (change_text new i e k (entry_at ns m))) z p)))
fate-in j shift ns ns' x f (alone p) = alone (prints-in x p)
fate-in j shift ns ns' x f (moved m under first other many h b k l p) =
    moved (shift + m) under first other many (f m h).0 (b ∙ ap (λ (n : Entry). n.bytes) (sym (f m h).1)) k l (prints-in x p)
fate-in j shift ns ns' x f (close c) = close c

none_before : (m : ℕ) (ns : List Entry) → entry_at ns (0 + m) ≡ entry_at ns m
none_before m ns = let z : 0 + m ≡ m = omega arith in ap (λ (k : ℕ). entry_at ns k) z

-- in a longer text, among the same records
pub fate-here : {new : Bool} {t t' : List ℕ} {i : ℕ} {e : Entry} (j : ℕ) (ns : List Entry) → Prints t' t → Fate new t i e j ns → Fate new t' i e j ns
fate-here {new = new} {t} {t'} {i} {e} j ns x f =
    let z : j ≡ j + 0 = omega arith in
    fate-in j 0 ns ns x (λ m h. (omega (arith, h), none_before m ns)) (subst (λ (k : ℕ). Fate new t i e k ns) z f)

-- ---- two runs of records, one after the other

entry-left : (m : ℕ) (es es' : List Entry) → m < length es → entry_at (es ++ es') m ≡ entry_at es m
entry-left m [] es' h = absurd (omega (arith, h))
entry-left zero (e ∷ es) es' h = refl
entry-left (suc m) (e ∷ es) es' h = entry-left m es es' (omega (arith, h))

module _ (text : List ℕ) {t t' : List ℕ} (here : Prints text t) (there : Prints text t') where
  either : (i : ℕ) (es es' : List Entry) (j : ℕ) (ns ns' : List Entry) (new : Bool)
      → ((m : ℕ) → m < length es → Fate new t (i + m) (entry_at es m) j ns)
      → ((m : ℕ) → m < length es' → Fate new t' (i + length es + m) (entry_at es' m) (j + length ns) ns')
      → (m : ℕ) → m < length (es ++ es') → Fate new text (i + m) (entry_at (es ++ es') m) j (ns ++ ns')
  either i es es' j ns ns' new f g m h =
      let l = length-append ns ns' in
      ⊎_elim
      (λ (k : m < length es).
      subst (λ (x : Entry). Fate new text (i + m) x j (ns ++ ns')) (sym (entry-left m es es' k))
      (fate-in j 0 ns (ns ++ ns') here (λ n q. (omega (arith, q, l), none_before n (ns ++ ns') ∙ entry-left n ns ns' q))
      (let z : j ≡ j + 0 = omega arith in subst (λ (y : ℕ). Fate new t (i + m) (entry_at es m) y ns) z (f m k))))
      (λ (k : length es ≤ m).
      let q : m ≡ length es + (m - length es) = omega arith in
      let r : m - length es < length es' = let a = length-append es es' in omega (arith, a, h, k) in
      let y : i + length es + (m - length es) ≡ i + m = omega arith in
      let x : entry_at (es ++ es') m ≡ entry_at es' (m - length es) =
      ap (λ (z : ℕ). entry_at (es ++ es') z) q ∙ get_or-append-add es es' (m - length es) no_entry in
      subst (λ (z : Entry). Fate new text (i + m) z j (ns ++ ns')) (sym x)
      (fate-in j (length ns) ns' (ns ++ ns') there (λ n s. (omega (arith, s, l), get_or-append-add ns ns' n no_entry))
      (subst (λ (z : ℕ). Fate new t' z (entry_at es' (m - length es)) (j + length ns) ns') y (g (m - length es) r))))
      (lt-or-ge m (length es))

  pub reported-both : (i : ℕ) (es es' : List Entry) (j : ℕ) (ns ns' : List Entry) → Reported t i es j ns
      → Reported t' (i + length es) es' (j + length ns) ns' → Reported text i (es ++ es') j (ns ++ ns')
  reported-both i es es' j ns ns' f g =
      record {
        old = either i es es' j ns ns' false f.old g.old;
        new = either j ns ns' i es es' true f.new g.new;
      }

-- in a longer text
pub reported-here : {t t' : List ℕ} (i : ℕ) (es : List Entry) (j : ℕ) (ns : List Entry) → Prints t' t → Reported t i es j ns → Reported t' i es j ns
reported-here i es j ns x f =
    record { old = λ m h. fate-here j ns x (f.old m h); new = λ m h. fate-here i es x (f.new m h) }
