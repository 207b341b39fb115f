-- Laws of what stands at the front of some bytes.
use Prim.Native.Nat.{ℕ, ◌+◌, ◌*◌, ◌≤◌, ◌<◌}
use mathlib.Core.Path.{◌≡◌, refl, sym, ◌∙◌}
use mathlib.Core.List.{List, [], ◌∷◌, ◌++◌}
use mathlib.Core.Bool.{true, false}
use mathlib.Core.Logic.{⊎_elim}
use native.Mathlib.Omega.{arith}
use borrow.Author.Tests.{ltb-true, ltb-false, lt-ltb, le-ltb}
use lib.ListN.{length, get_or, take, length-append, get_or-append}
use lib.Seq.{length-take-le, get_or-take}
use lib.Dec.{ltb}
use Rattle.base.specs.Choice.{pick}
use Rattle.base.proofs.Tests.{lt-or-ge, neither, no_bool, of-choice}
use Rattle.codec.specs.Codec.{val_at}
use Rattle.codec.proofs.BigEndian.{val_at-same}
use Rattle.book.specs.Front.{Front, unfinished, bad_length, whole, need, bad, front}
use Rattle.book.specs.State.{is_unfinished}
use Rattle.book.specs.Inner.{by_length_lem, told}
use Rattle.book.specs.declared.front.Front.TheVariants.{Unfinished, Whole}

-- ---- the length stands in the first two bytes

pub length-take-two : (xs : List ℕ) (n : ℕ) → 2 ≤ n → val_at (take n xs) 0 2 ≡ val_at xs 0 2
length-take-two xs n p = val_at-same (take n xs) xs 0 0 2 (λ k h. get_or-take n xs (0 + k) 0 (omega arith))

pub length-append-two : (xs ys : List ℕ) → 2 ≤ length xs → val_at (xs ++ ys) 0 2 ≡ val_at xs 0 2
length-append-two xs ys p = val_at-same (xs ++ ys) xs 0 0 2 (λ k h. get_or-append xs ys 0 (0 + k) (omega arith))

-- where the first n of the bytes held stand before others
pub length-held : (held xs : List ℕ) (n : ℕ) → 2 ≤ n → n ≤ length held → val_at (take n held ++ xs) 0 2 ≡ val_at held 0 2
length-held held xs n p q = length-append-two (take n held) xs (rw (length-take-le n held q) p) ∙ length-take-two held n p

pub length_cut : (held xs : List ℕ) → 1 ≤ length held → val_at (take 1 held ++ xs) 0 2 ≡ get_or held 0 0 * 256 + get_or xs 0 0
unfolding val_at
length_cut [] xs p = absurd (omega arith)
length_cut (h ∷ held) xs p = omega arith

-- the front of the first n bytes, read off all of them
pub front-take : (xs : List ℕ) (n : ℕ) → n ≤ length xs
    → front (take n xs) ≡ pick (ltb n 2) unfinished (by_length_lem (val_at xs 0 2) n)
unfolding front
front-take xs n p =
    ⊎_elim
    (λ (k : n < 2). rw (length-take-le n xs p, lt-ltb n 2 k))
    (λ (k : 2 ≤ n). rw (length-take-le n xs p, length-take-two xs n k))
    (lt-or-ge n 2)

-- ---- what each front means

abbrev pub Means : List ℕ → Front → Type 0
Means xs unfinished = 2 ≤ length xs → (4 ≤ val_at xs 0 2) × (val_at xs 0 2 ≤ 26) × (length xs < need xs)
Means xs bad_length = (2 ≤ length xs) × (bad xs ≡ true)
Means xs whole = (2 ≤ length xs) × (4 ≤ val_at xs 0 2) × (val_at xs 0 2 ≤ 26) × (need xs ≤ length xs)

good : (xs : List ℕ) → bad xs ≡ false → (4 ≤ val_at xs 0 2) × (val_at xs 0 2 ≤ 26)
good xs e = let n = neither (ltb (val_at xs 0 2) 4) (ltb 26 (val_at xs 0 2)) e in (ltb-false _ _ n.0, ltb-false _ _ n.1)

means : (xs : List ℕ) → Means xs (front xs)
unfolding front
means xs =
    of-choice (Means xs) (ltb (length xs) 2) (λ e1 k. let h : length xs < 2 = ltb-true _ _ e1 in absurd (omega arith))
    (λ e1. of-choice (Means xs) (bad xs) (λ e2. (ltb-false _ _ e1, e2))
    (λ e2. of-choice (Means xs) (ltb (length xs) (need xs)) (λ e3 k. ((good xs e2).0, (good xs e2).1, ltb-true _ _ e3))
    (λ e3. (ltb-false _ _ e1, (good xs e2).0, (good xs e2).1, ltb-false _ _ e3))))

pub meaning : (xs : List ℕ) (f : Front) → front xs ≡ f → Means xs f
meaning xs f e = rw e at (means xs)

pub good_length : (xs : List ℕ) → 4 ≤ val_at xs 0 2 → val_at xs 0 2 ≤ 26 → bad xs ≡ false
good_length xs p q = simp (le-ltb _ _ p, le-ltb _ _ q)

pub is-unfinished : (xs : List ℕ) → Means xs unfinished → front xs ≡ unfinished
unfolding front
is-unfinished xs m =
    of-choice (λ (f : Front). f ≡ unfinished) (ltb (length xs) 2) (λ e. refl)
    (λ e. let g = m (ltb-false _ _ e) in simp (good_length xs g.0 g.1, lt-ltb _ _ g.2))

pub is-bad : (xs : List ℕ) → Means xs bad_length → front xs ≡ bad_length
unfolding front
is-bad xs m = simp (le-ltb _ _ m.0, m.1)

pub is-whole : (xs : List ℕ) → Means xs whole → front xs ≡ whole
unfolding front
is-whole xs m = simp (le-ltb _ _ m.0, good_length xs m.1 m.2, le-ltb _ _ m.3)

pub front-none : front [] ≡ unfinished
unfolding front
front-none = refl

pub unfinished-short : (xs : List ℕ) → front xs ≡ unfinished → length xs ≤ 27
unfinished-short xs e =
    ⊎_elim (λ (k : length xs < 2). omega arith) (λ (k : 2 ≤ length xs). let m = meaning xs unfinished e k in omega arith) (lt-or-ge (length xs) 2)

-- ---- whether a front is unfinished

module _ (xs : List ℕ) where
  pub too_long : 27 < length xs → false ≡ is_unfinished (front xs)
  too_long h = go (front xs) refl
    where
      go : (f : Front) → front xs ≡ f → false ≡ is_unfinished f
      go unfinished e = let s = unfinished-short xs e in absurd (omega arith)
      go bad_length e = refl
      go whole e = refl

  pub too_short : length xs < 2 → true ≡ is_unfinished (front xs)
  too_short h = rw (is-unfinished xs (λ k. absurd (omega arith)))

  pub front_long : 2 ≤ length xs → front xs ≡ by_length_lem (val_at xs 0 2) (length xs)
  unfolding front
  front_long h = rw (le-ltb _ _ h)

-- ---- bytes behind a front do not change it

pub bad-append : (xs ys : List ℕ) → front xs ≡ bad_length → front (xs ++ ys) ≡ bad_length
bad-append xs ys e =
    let m = meaning xs bad_length e in
    is-bad (xs ++ ys) (omega (arith, m.0, length-append xs ys), rw (length-append-two xs ys m.0) m.1)

pub whole_append : (xs ys : List ℕ) → front xs ≡ whole → front (xs ++ ys) ≡ whole
whole_append xs ys e =
    let m = meaning xs whole e in
    is-whole (xs ++ ys)
    (rw (length-append-two xs ys m.0, length-append xs ys) (omega arith, m.1, m.2, omega (arith, m.3)))

-- ---- behind held bytes: what is held is less than what is taken

pub held-bad : (h xs : List ℕ) → front h ≡ unfinished → front (h ++ xs) ≡ bad_length → length h < 2
held-bad h xs b e =
    ⊎_elim (λ (k : length h < 2). k)
    (λ (k : 2 ≤ length h).
    let m = meaning h unfinished b k in
    let w : bad h ≡ true = rw (length-append-two h xs k) at (meaning (h ++ xs) bad_length e).1 in
    no_bool (sym (good_length h m.0 m.1) ∙ w))
    (lt-or-ge (length h) 2)

pub held_whole : (h xs : List ℕ) → front h ≡ unfinished → length h < need (h ++ xs)
held_whole h xs b =
    ⊎_elim (λ (k : length h < 2). omega arith)
    (λ (k : 2 ≤ length h). let m = meaning h unfinished b k in rw (length-append-two h xs k) m.2)
    (lt-or-ge (length h) 2)

-- ---- a front as the code has it

pub told-more : (f : Front) → (told f ≡ Unfinished → ⊥) → is_unfinished f ≡ false
told-more unfinished h = absurd (h refl)
told-more bad_length h = refl
told-more whole h = refl

pub told-unfinished : (f : Front) → told f ≡ Unfinished → f ≡ unfinished
told-unfinished unfinished e = refl
told-unfinished bad_length e = let z : ◌≡◌ {A = ℕ} 0 1 = cc in absurd (omega arith)
told-unfinished whole e = let z : ◌≡◌ {A = ℕ} 0 1 = cc in absurd (omega arith)

pub told-whole : (f : Front) → told f ≡ Whole → f ≡ whole
told-whole unfinished e = let z : ◌≡◌ {A = ℕ} 0 1 = cc in absurd (omega arith)
told-whole bad_length e = let z : ◌≡◌ {A = ℕ} 0 1 = cc in absurd (omega arith)
told-whole whole e = refl
