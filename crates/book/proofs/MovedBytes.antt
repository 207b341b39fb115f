-- Laws of bytes that are moved and looked at: kept behind the state, filled in, gathered, zero.
use Prim.Native.Nat.{ℕ, zero, suc, ◌+◌, ◌*◌, ◌-◌, ◌≤◌, ◌<◌, min}
use mathlib.Core.Path.{◌≡◌, ap, sym, ◌∙◌}
use mathlib.Core.List.{List, ◌++◌}
use mathlib.Core.Bool.{Bool, true, ◌&&◌}
use mathlib.Core.Logic.{⊎_elim}
use native.Mathlib.Nat.{zero-add}
use native.Mathlib.Numerals.{add-one}
use native.Mathlib.Omega.{arith}
use borrow.Author.Tests.{eq-eqb}
use lib.Dec.{eqb}
use lib.ListN.{length, get_or, take, drop, replicate}
use lib.Seq.{take-paste, drop-cons}
use lib.Seq.{length-take-le, take-length, take-take, take-append_seam, take-append-add}
use Rattle.base.proofs.Tests.{lt-or-ge}
use Rattle.codec.specs.Codec.{val_at}
use Rattle.book.specs.Front.{unfinished, need, front}
use Rattle.book.specs.State.{zeros}
use Rattle.book.specs.Inner.{Filled, Gathered}
use Rattle.book.proofs.Fronts.{meaning, unfinished-short, length-take-two, held_whole}

-- what is left of zeros is zeros
pub zeros_left : (n m : ℕ) → drop {A = ℕ} n (replicate m 0) ≡ replicate (m - n) 0
zeros_left zero m = let e : m - 0 ≡ m = omega arith in rw e
zeros_left (suc n) zero = let e : 0 - suc n ≡ 0 = omega arith in rw e
zeros_left (suc n) (suc m) = let e : suc m - suc n ≡ m - n = omega arith in rw e (zeros_left n m)

-- what is filled in stands behind what was there
take-filled : (rec rec' : List ℕ) (n goal : ℕ) (src : List ℕ) (k : ℕ) → length rec ≡ 28 → Filled rec rec' n goal src k
    → take (n + k) rec' ≡ take n rec ++ take k src
take-filled rec rec' n goal src k l f = rw f.bytes (take-paste rec n src k (omega (arith, f.bound)) f.inside)

-- all places for held bytes filled in, and then the next ones behind those held
pub gathered : (held : List ℕ) (count : ℕ) (src r0 r1 r2 : List ℕ) (h k : ℕ) → length held ≡ 27 → count ≤ 27 → 0 < length src → length r0 ≡ 28
    → Filled r0 r1 0 27 held h → Filled r1 r2 count 28 src k → Gathered (take count held) src r2 (count + k)
gathered held count src r0 r1 r2 h k l27 short some l28 f1 f2 =
    let e0 : h ≡ 27 =
    ⊎_elim (λ (q : h < 27). let z = f1.end (omega arith) in absurd (omega arith)) (λ (q : 27 ≤ h). let z = f1.upto (omega arith) in omega arith)
    (lt-or-ge h 27) in
    let all : take 27 r1 ≡ take 27 held = rw (zero-add, e0) at (take-filled r0 r1 0 27 held h l28 f1) in
    let t1 : take count r1 ≡ take count held =
    sym (take-take count 27 r1 short) ∙ ap (λ (l : List ℕ). take count l) all ∙ take-take count 27 held short in
    let t2 : take (count + k) r2 ≡ take count held ++ take k src =
    take-filled r1 r2 count 28 src k f1.array f2 ∙ ap (λ (l : List ℕ). l ++ take k src) t1 in
    let lh : length (take count held) ≡ count = length-take-le count held (omega arith) in
    let more : 0 < k = ⊎_elim (λ (q : 0 < k). q) (λ (q : k ≤ 0). let z = f2.end (omega arith) in absurd (omega arith)) (lt-or-ge 0 k) in
    let d : count + k - length (take count held) ≡ k = omega arith in
    let all-taken : length (take (count + k) r2) ≡ count + k = length-take-le (count + k) r2 (omega (arith, f2.array, f2.bound)) in
    record {
      least = omega arith;
      array = omega (arith, f2.array, f2.bound);
      places = f2.array;
      inside = omega (arith, f2.inside);
      bytes = rw d t2;
      end = λ u. rw d (f2.end (omega (arith, unfinished-short (take (count + k) r2) u, all-taken)));
    }

-- of those gathered, the bytes of the first record alone
module _ (held xs rec : List ℕ) (n k : ℕ) (g : Gathered held xs rec n) (b : front held ≡ unfinished) (is : k ≡ min n (need rec)) where
  first-least : length held < k
  first-least =
      ⊎_elim (λ (q : n < 2). omega (arith, g.least, is))
      (λ (q : 2 ≤ n).
      let w : length held < need rec =
      rw (length-take-two rec n q) at (rw (← g.bytes) at (held_whole held (take (n - length held) xs) b)) in
      omega (arith, g.least, is))
      (lt-or-ge n 2)

  first-bytes : take k rec ≡ held ++ take (k - length held) xs
  first-bytes =
      let d : length held + (k - length held) ≡ k = omega (arith, first-least) in
      sym (take-take k n rec (omega (arith, is)))
      ∙ ap (λ (l : List ℕ). take k l) g.bytes
      ∙ ap (λ (m : ℕ). take m (held ++ take (n - length held) xs)) (sym d)
      ∙ take-append-add held (take (n - length held) xs) (k - length held)
      ∙ ap (λ (l : List ℕ). held ++ l) (take-take (k - length held) (n - length held) xs (omega (arith, is)))

  first-end : front (take k rec) ≡ unfinished → k - length held ≡ length xs
  first-end u =
      ⊎_elim (λ (q : need rec < n).
      let e : k ≡ need rec = omega (arith, is) in
      let l : length (take k rec) ≡ k = length-take-le k rec (omega (arith, g.array)) in
      let m = meaning (take k rec) unfinished u (omega arith) in
      let v : val_at (take k rec) 0 2 ≡ val_at rec 0 2 = length-take-two rec k (omega arith) in
      absurd (omega (arith, m.2)))
      (λ (q : n ≤ need rec). let e : k ≡ n = omega (arith, is) in rw e (g.end (rw e at u)))
      (lt-or-ge (need rec) n)

  pub gathered-first : Gathered held xs rec k
  gathered-first =
      record {
        least = first-least;
        array = omega (arith, g.array, is);
        places = g.places;
        inside = omega (arith, g.inside, is);
        bytes = first-bytes;
        end = first-end;
      }

module _ (held xs rec src : List ℕ) (n count : ℕ) (g : Gathered held xs rec n) (e : src ≡ take n rec) (l : length held ≡ count) where
  pub gathered-held : take count src ≡ held
  gathered-held = rw (e, g.bytes, ← l) (take-append_seam held (take (n - length held) xs))

  pub gathered-more : count < length src
  gathered-more = omega (arith, ap length e, length-take-le n rec g.array, g.least, l)

  -- an unfinished record has all there are
  pub gathered-all : front src ≡ unfinished → src ≡ held ++ xs
  gathered-all u = let d : n - length held ≡ length xs = g.end (rw e at u) in rw (e, g.bytes, d, take-length xs)

-- ---- places that are zero

-- the first of what is left is looked at
pub zeros-one : (a : List ℕ) (i : ℕ) (b : Bool) → i < length a → eqb (get_or a i 0) 0 ≡ b → zeros (drop i a) ≡ (b && zeros (drop (i + 1) a))
zeros-one a i b h e = rw (add-one i, drop-cons a i 0, e)

zeros-on : (a : List ℕ) (i n : ℕ) → i < length a → get_or a i 0 ≡ 0 → i + 1 ≡ n → zeros (drop i a) ≡ zeros (drop n a)
zeros-on a i n h e k = zeros-one a i true h (eq-eqb _ _ e) ∙ ap (λ (m : ℕ). zeros (drop m a)) k

-- four that are zero as one number
pub zeros-four : (a : List ℕ) (i : ℕ) → i + 4 ≤ length a → val_at a i 4 ≡ 0 → zeros (drop i a) ≡ zeros (drop (i + 4) a)
unfolding val_at
zeros-four a i h e =
    let n : (((0 * 256 + get_or a (i + 0) 0) * 256 + get_or a (i + 1) 0) * 256 + get_or a (i + 2) 0) * 256 + get_or a (i + 3) 0 ≡ 0 = e in
    let first : get_or a (i + 0) 0 ≡ 0 = omega (arith, n) in
    let start : i + 0 ≡ i = omega arith in
    zeros-on a i (i + 1) (omega arith) (rw start at first) (omega arith)
    ∙ zeros-on a (i + 1) (i + 2) (omega arith) (omega (arith, n)) (omega arith)
    ∙ zeros-on a (i + 2) (i + 3) (omega arith) (omega (arith, n)) (omega arith)
    ∙ zeros-on a (i + 3) (i + 4) (omega arith) (omega (arith, n)) (omega arith)
