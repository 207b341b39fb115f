-- Laws of runs of stores into a slice.
-- Assumes nothing.
use mathlib.Core.Path.{◌≡◌, refl, sym, ap, ◌∙◌}
use mathlib.Core.List.{List, [], ◌∷◌, ◌++◌, append_assoc}
use Prim.Native.Nat.{ℕ, suc, ◌+◌, ◌-◌, ◌/◌, ◌<◌, ◌≤◌}
use native.Mathlib.Omega.{arith}
use native.Mathlib.Nat.{zero-add, add-zero, add-suc, add_assoc}
use native.Mathlib.Numerals.{add-one}
use lib.ListN.{length, get_or, set, take, drop, replicate, drop_of_length-le}
use lib.Seq.{sets, sets-eq, drop-cons, drop-drop}
use borrow.Rule.Slice.PartMut.{put_mid}
use Rattle.codec.specs.declared.Field.{Field}
use Rattle.codec.specs.Table.{fields, row_version, row_kind, length_of}
use Rattle.codec.specs.Codec.{be, bytes_of, record_bytes}
use Rattle.codec.proofs.BigEndian.{be-length}

-- one run after the other
pub sets-append : (xs ys l : List ℕ) (i : ℕ) → sets l i (xs ++ ys) ≡ sets (sets l i xs) (i + length xs) ys
sets-append [] ys l i = ap (λ k. sets l k ys) (omega arith)
sets-append (x ∷ xs) ys l i =
    sets-append xs ys (set l i x) (suc i) ∙ ap (λ k. sets (sets (set l i x) (suc i) xs) k ys) (omega arith)

-- what is stored after a number of w bytes
pub put_then : (w v p : ℕ) (l ys : List ℕ) → sets (sets l p (be w v)) (p + w) ys ≡ sets l p (be w v ++ ys)
put_then w v p l ys = ap (λ k. sets (sets l p (be w v)) (p + k) ys) (sym (be-length w v)) ∙ sym (sets-append (be w v) ys l p)

-- four bytes, as two and two
pub four-stored : (v p : ℕ) (l m n : List ℕ) → m ≡ sets l p (be 2 (v / 256 / 256)) → n ≡ sets m (p + 2) (be 2 v) → n ≡ sets l p (be 4 v)
unfolding be
four-stored v p l m n e f = f ∙ ap (λ k. sets k (p + 2) (be 2 v)) e ∙ put_then 2 (v / 256 / 256) p l (be 2 v)

-- ---- a loop that copies a list, byte by byte

module _ (b l : List ℕ) (at i : ℕ) where
  -- a turn: what is left to copy makes the same of the slice
  pub copied-one : i < length b → sets (set l (at + i) (get_or b i 0)) (at + (i + 1)) (drop (i + 1) b) ≡ sets l (at + i) (drop i b)
  copied-one h = rw (add-one, add-suc, drop-cons b i 0 h)

  -- the end: nothing is left
  pub copied_all : length b ≤ i → sets l (at + i) (drop i b) ≡ l
  copied_all h = rw (drop_of_length-le b h)

-- ---- the fields of a row stored one by one, each by how far it stands from the first

abbrev pub stores : List Field → List ℕ → ℕ → List ℕ → ℕ → ℕ → List ℕ
stores [] vs i l at o = l
stores (f ∷ fs) vs i l at o = stores fs vs (suc i) (sets l (at + o) (be f.0 (get_or vs i 0))) at (o + f.0)

stores-all : (fs : List Field) (vs : List ℕ) (i : ℕ) (l : List ℕ) (at o : ℕ) → sets l (at + o) (bytes_of fs vs i) ≡ stores fs vs i l at o
unfolding bytes_of
stores-all [] vs i l at o = refl
stores-all (f ∷ fs) vs i l at o =
    let v : ℕ = get_or vs i 0 in
    sym (put_then f.0 v (at + o) l (bytes_of fs vs (suc i)))
    ∙ ap (λ k. sets (sets l (at + o) (be f.0 v)) k (bytes_of fs vs (suc i))) (add_assoc at o f.0)
    ∙ stores-all fs vs (suc i) (sets l (at + o) (be f.0 v)) at (o + f.0)

pub bytes-stored : (f : Field) (fs : List Field) (vs l : List ℕ) (at : ℕ)
    → sets l at (bytes_of (f ∷ fs) vs 0) ≡ stores fs vs 1 (sets l at (be f.0 (get_or vs 0 0))) at f.0
bytes-stored f fs vs l at = ap (λ k. sets l k (bytes_of (f ∷ fs) vs 0)) (sym (add-zero at)) ∙ stores-all (f ∷ fs) vs 0 l at 0 ∙ rw (add-zero, zero-add)

-- a whole record: length, version and kind, then its fields
module _ (kind : ℕ) (vs l : List ℕ) (at : ℕ) where
  pub record-stored : sets l at (record_bytes kind vs) ≡ sets (sets (sets (sets l at (be 2 (length_of kind))) (at + 2) (be 1 (row_version kind)))
      (at + 3) (be 1 (row_kind kind))) (at + 4) (bytes_of (fields kind) vs 0)
  unfolding record_bytes
  record-stored =
      let rest : List ℕ = bytes_of (fields kind) vs 0 in
      let l2 : List ℕ = sets l at (be 2 (length_of kind)) in
      let l3 : List ℕ = sets l2 (at + 2) (be 1 (row_version kind)) in
      let e3 : at + 2 + 1 ≡ at + 3 = omega arith in
      let e4 : at + 3 + 1 ≡ at + 4 = omega arith in
      sym (put_then 2 (length_of kind) at l (be 1 (row_version kind) ++ (be 1 (row_kind kind) ++ rest)))
      ∙ sym (put_then 1 (row_version kind) (at + 2) l2 (be 1 (row_kind kind) ++ rest))
      ∙ ap (λ k. sets l3 k (be 1 (row_kind kind) ++ rest)) e3
      ∙ sym (put_then 1 (row_kind kind) (at + 3) l3 rest)
      ∙ ap (λ k. sets (sets l3 (at + 3) (be 1 (row_kind kind))) k rest) e4

-- ---- a loop over values of one field each

module _ (f : Field) (vs l : List ℕ) (n p i : ℕ) where
  -- a turn
  pub one-stored : i < n
      → sets (sets l p (be f.0 (get_or vs i 0))) (p + f.0) (bytes_of (replicate (n - (i + 1)) f) vs (i + 1)) ≡ sets l p
      (bytes_of (replicate (n - i) f) vs i)
  unfolding bytes_of
  one-stored h =
      let e : n - i ≡ suc (n - (i + 1)) = omega arith in
      rw (e, add-one) (put_then f.0 (get_or vs i 0) p l (bytes_of (replicate (n - suc i) f) vs (suc i)))

  -- the end
  pub all-stored : n ≤ i → sets l p (bytes_of (replicate (n - i) f) vs i) ≡ l
  unfolding bytes_of
  all-stored h = let e : n - i ≡ 0 = omega arith in rw e

-- a run of n stores, as the parts before and after it
pub sets-at : (n : ℕ) (vs l : List ℕ) (i : ℕ) → length vs ≡ n → i + n ≤ length l → sets l i vs ≡ take i l ++ (vs ++ drop (i + n) l)
sets-at n vs l i e h = sets-eq vs l i (rw e h) ∙ append_assoc (take i l) vs (drop (i + length vs) l) ∙ ap (λ k. take i l ++ (vs ++ drop (i + k) l)) e

-- a number written into the part that its bytes take
pub part_stored : (w v at k : ℕ) (l ys : List ℕ) → ys ≡ be w v → k ≡ w → at + w ≤ length l → put_mid at k l ys ≡ sets l at (be w v)
part_stored w v at k l ys e ek h =
    rw (e, ek) (ap (λ xs. take at l ++ (be w v ++ xs)) (drop-drop w at l) ∙ sym (sets-at w (be w v) l at (be-length w v) h))
