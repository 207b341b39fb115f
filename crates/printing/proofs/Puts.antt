-- Laws of `Put`: nothing put, one byte, and one text behind another.
use Prim.Native.Nat.{ℕ, suc, ◌+◌, ◌<◌, ◌≤◌}
use native.Mathlib.Omega.{arith}
use native.Mathlib.Numerals.{add-one}
use mathlib.Core.Path.{◌≡◌, refl, sym, ap, ◌∙◌}
use mathlib.Core.List.{List, [], ◌∷◌, ◌++◌, append_assoc}
use lib.ListN.{length, get_or, set, take, drop, length-append, length-drop, take-append-drop}
use lib.Seq.{length-take-le, set_split, take_at, take-suc, drop-append-add, drop-drop}
use Rattle.printing.specs.Decimal.{Put}

pub none : (xs : List ℕ) (at : ℕ) → at ≤ length xs → Put xs xs at [] at
none xs at h = record { next = omega arith; room = h; text = sym (take-append-drop at xs) }

pub one : (xs : List ℕ) (at b : ℕ) → at < length xs → Put xs (set xs at b) at (b ∷ []) (at + 1)
one xs at b h = record { next = refl; room = omega arith; text = rw add-one (set_split xs at b h) }

module _ {xs ys : List ℕ} {at r : ℕ} {s : List ℕ} (a : Put xs ys at s r) where
  head-length : length (take at xs ++ s) ≡ r
  head-length = omega (arith, length-append (take at xs) s, length-take-le at xs (omega (arith, a.next, a.room)), a.next)

  whole : ys ≡ (take at xs ++ s) ++ drop r xs
  whole = rw append_assoc a.text

  pub put-length : length ys ≡ length xs
  put-length = omega (arith, ap length whole, length-append (take at xs ++ s) (drop r xs), head-length, length-drop r xs, a.room)

  pub and-then : {zs : List ℕ} {q : ℕ} {t : List ℕ} → Put ys zs r t q → Put xs zs at (s ++ t) q
  and-then {zs} {q} {t} b =
      let front : take r ys ≡ take at xs ++ s = rw whole (take_at (take at xs ++ s) (drop r xs) r head-length) in
      let past : drop (length (take at xs ++ s) + length t) ((take at xs ++ s) ++ drop r xs) ≡ drop (r + length t) xs =
      drop-append-add (take at xs ++ s) (drop r xs) (length t) ∙ drop-drop (length t) r xs in
      let behind : drop q ys ≡ drop q xs = rw (whole, b.next) (rw head-length at past) in
      record {
        next = omega (arith, length-append s t, a.next, b.next);
        room = omega (arith, b.room, put-length);
        text = b.text ∙ rw (front, behind) (simp append_assoc);
      }

-- one byte more of a text
pub put-more : {out₀ out : List ℕ} {at : ℕ} (text : List ℕ) (i : ℕ) → Put out₀ out at (take i text) (at + i) → i < length text → at + i < length out
    → Put out₀ (set out (at + i) (get_or text i 0)) at (take (i + 1) text) (at + (i + 1))
put-more {out₀} {out} {at} text i p h k =
    let e : at + i + 1 ≡ at + suc i = omega arith in
    rw (add-one i, take-suc text i 0 h) (rw e at (and-then p (one out (at + i) (get_or text i 0) k)))
