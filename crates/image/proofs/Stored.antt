-- Numbers stored run by run, and a state's image stored over other bytes.
-- Assumes nothing.
use Prim.Native.Nat.{ℕ, zero, suc, ◌+◌, ◌<◌, ◌≤◌}
use mathlib.Core.Path.{◌≡◌, refl, sym, ap, ◌∙◌}
use mathlib.Core.List.{List, [], ◌∷◌, ◌++◌, append-nil}
use mathlib.Core.Logic.{◌⊎◌, inl, inr}
use native.Mathlib.Omega.{arith}
use native.Mathlib.Nat.{zero-add}
use native.Mathlib.Numerals.{add-one}
use lib.ListN.{length, get_or, take, drop, length-append, length-drop, drop_of_length-le}
use lib.Seq.{sets, length-take-le, get_or-take, get_or-drop, take-suc, take-add, drop-drop}
use Rattle.codec.specs.declared.Field.{Field}
use Rattle.codec.specs.Table.{size}
use Rattle.codec.specs.Codec.{be, bytes_of, IsWidth}
use Rattle.codec.proofs.BigEndian.{be-length}
use Rattle.codec.proofs.Stores.{sets-append, sets-at, put_then}
use Rattle.codec.proofs.Values.{bytes-length}
use Rattle.codec.proofs.Within.{none}
use Rattle.codec.proofs.Round.{bytes-join}
use Rattle.account.specs.Line.{joined}
use Rattle.account.specs.declared.Account.{Account}
use Rattle.account.specs.Figures.{listed}
use Rattle.account.specs.Account.{account_fields, width_of, start_numbers, heading_numbers, used_numbers, subtotal_numbers, refusal_numbers, numbers_of}
use Rattle.book.specs.declared.State.{State}
use Rattle.image.specs.Image.{image_size, place_of, stored, front_numbers, image_of}

-- a width
pub eight-widths : {w : ℕ} → (w ≡ 1) ⊎ ((w ≡ 2) ⊎ (w ≡ 8)) → IsWidth w
eight-widths (inl e) = inl e
eight-widths (inr (inl e)) = inr (inl e)
eight-widths (inr (inr e)) = inr (inr (inr e))

-- ---- the account's numbers, one by one

-- up to another they are so many
pub front_length : (to : ℕ) → to ≤ length account_fields → length (take to account_fields) ≡ to
front_length to h = length-take-le to account_fields h

pub front-width : (to i : ℕ) → i < to → width_of i ≡ (get_or (take to account_fields) i none).0
front-width to i k = rw (get_or-take to account_fields i none k) refl

-- so many from one on
module _ (from n : ℕ) (h : from + n ≤ length account_fields) where
  pub part_length : length (take n (drop from account_fields)) ≡ n
  part_length = length-take-le n (drop from account_fields) (rw length-drop (omega arith))

  pub part-width : (i : ℕ) → i < n → width_of (from + i) ≡ (get_or (take n (drop from account_fields)) i none).0
  part-width i k = rw (get_or-take n (drop from account_fields) i none k, get_or-drop from account_fields i none) refl

-- the next lies behind the bytes of this one
size-append : (fs gs : List Field) → size (fs ++ gs) ≡ size fs + size gs
unfolding size
size-append [] gs = omega arith
size-append (f ∷ fs) gs = omega (arith, size-append fs gs)

pub place-next : (i : ℕ) → i < length account_fields → place_of (i + 1) ≡ place_of i + width_of i
unfolding size
place-next i h = rw (add-one, take-suc account_fields i none h, size-append (take i account_fields) (get_or account_fields i none ∷ [])) (omega arith)

size-most : (fs : List Field) (i : ℕ) → size (take i fs) ≤ size fs
unfolding size
size-most [] zero = omega arith
size-most [] (suc i) = omega arith
size-most (f ∷ fs) zero = omega arith
size-most (f ∷ fs) (suc i) = omega (arith, size-most fs i)

-- and all of them in the image
pub place-most : (i : ℕ) → place_of i ≤ image_size
place-most i = omega (arith, size-most account_fields i)

-- an index of one is a number of the machine
pub few-fields : length account_fields ≤ 65535
unfolding account_fields
few-fields = omega arith

-- ---- runs one after the other

place-behind : (from n : ℕ) → place_of (from + n) ≡ place_of from + size (take n (drop from account_fields))
place-behind from n = rw (take-add from n account_fields, size-append (take from account_fields) (take n (drop from account_fields))) (omega arith)

-- all of them are the numbers stored at once
pub runs-stored : (us : List (List ℕ)) (from : ℕ) (l : List ℕ) → from + length (joined us) ≡ length account_fields
    → stored us from l ≡ sets l (place_of from) (bytes_of (drop from account_fields) (joined us) 0)
unfolding bytes_of
runs-stored [] from l h = rw (drop_of_length-le account_fields {i = from} (omega arith)) refl
runs-stored (u ∷ us) from l h =
    let both : from + (length u + length (joined us)) ≡ length account_fields = rw (← length-append u (joined us)) h in
    let fs = drop from account_fields in
    let one : List ℕ = bytes_of (take (length u) fs) u 0 in
    let others : List ℕ = bytes_of (drop (length u) fs) (joined us) 0 in
    let long : length one ≡ size (take (length u) fs) = bytes-length (take (length u) fs) u 0 in
    runs-stored us (from + length u) (sets l (place_of from) one) (omega arith)
    ∙ rw (place-behind from (length u), ← long, ← drop-drop (length u) from account_fields)
    (sym (sets-append one others l (place_of from)) ∙ ap (sets l (place_of from)) (sym (bytes-join fs u (joined us) (rw length-drop (omega arith)))))

-- three of them, as they come one after the other
pub three-stored : {m n o u v w : List ℕ} {second third : ℕ} (l : List ℕ) (from : ℕ) (u' v' w' : List ℕ) → u ≡ u' → v ≡ v' → w ≡ w'
    → from + length u' ≡ second → second + length v' ≡ third
    → m ≡ sets l (place_of from) (bytes_of (take (length u) (drop from account_fields)) u 0)
    → n ≡ sets m (place_of second) (bytes_of (take (length v) (drop second account_fields)) v 0)
    → o ≡ sets n (place_of third) (bytes_of (take (length w) (drop third account_fields)) w 0)
    → o ≡ stored (u' ∷ v' ∷ w' ∷ []) from l
three-stored l from u' v' w' eu ev ew p q a b c = c ∙ rw (b, a, eu, ev, ew, ← q, ← p) refl

-- an account's parts
pub parts-stored : (a : Account) (l : List ℕ)
    → stored (subtotal_numbers a.subtotal ∷ listed a.sums ∷ refusal_numbers a.refusal ∷ []) (length (front_numbers a))
    (stored (start_numbers a ∷ heading_numbers a.heading ∷ used_numbers a.used ∷ []) 0 l)
    ≡ sets l 28 (bytes_of account_fields (numbers_of a) 0)
unfolding size account_fields
parts-stored a l =
    runs-stored (start_numbers a ∷ heading_numbers a.heading ∷ used_numbers a.used ∷ subtotal_numbers a.subtotal ∷ listed a.sums
    ∷ refusal_numbers a.refusal ∷ []) 0 l refl

module _ (s : State) (h : length s.held ≡ 27) where
  abbrev numbers : List ℕ
  numbers = bytes_of account_fields (numbers_of s.account) 0

  pub image-length : length (image_of s) ≡ image_size
  unfolding image_of
  image-length = rw (length-append, length-append, bytes-length, be-length, h) (omega arith)

  -- held bytes, their count and the numbers, stored one after the other
  held_first : (l : List ℕ) → sets l 0 (image_of s) ≡ sets (sets (sets l 0 s.held) 27 (be 1 s.count)) 28 numbers
  unfolding image_of
  held_first l =
      rw h at (sets-append s.held (be 1 s.count ++ numbers) l 0) ∙ sym (put_then 1 s.count 27 (sets l 0 s.held) numbers)

  -- over any bytes of the one length all of it is the image
  pub image-stored : (l : List ℕ) → length l ≡ image_size → sets (sets (sets l 0 s.held) 27 (be 1 s.count)) 28 numbers ≡ image_of s
  image-stored l e =
      let short : length l ≤ image_size = omega arith in
      sym (held_first l) ∙ sets-at image_size (image_of s) l 0 image-length (omega arith)
      ∙ rw (zero-add image_size, drop_of_length-le l short, append-nil)
