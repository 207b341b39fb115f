-- The round trip: values written and read again, bytes read and written again, over any row of fields; then for whole records.
-- Assumes nothing.
use mathlib.Core.Path.{◌≡◌, refl, sym, ap, ◌∙◌}
use mathlib.Core.List.{List, [], ◌∷◌, ◌++◌, append_assoc, append-nil}
use Prim.Native.Nat.{ℕ, suc, ◌+◌, ◌<◌, ◌≤◌}
use native.Mathlib.Omega.{arith}
use lib.ListN.{length, get_or, take, drop, length-append, length-drop, take-append-drop}
use lib.Seq.{sets, take_all, length-take-le, take-add, drop-drop, drop-cons}
use lib.Dec.{eqb}
use Rattle.base.proofs.Tests.{of-choice}
use Rattle.codec.specs.declared.Field.{Field}
use Rattle.codec.specs.Table.{fields, last_row, row_version, row_kind, size, length_of}
use Rattle.codec.specs.Codec.{bytes_hold, val_at, be, values_at, bytes_of, first_bad, record_bytes}
use Rattle.codec.specs.Codec.{Bytes, Fit}
use Rattle.codec.proofs.BigEndian.{val_at-lt, bytes-append, be-bytes, be-length, val_at-be, be-val_at}
use Rattle.codec.proofs.Stores.{sets-at}
use Rattle.codec.proofs.Values.{bytes-length, bytes-bytes}
use Rattle.codec.proofs.Rows.{fit-kind, length_most}

-- ---- values, bytes, values

values-bytes : (fs : List Field) (vs : List ℕ) (i : ℕ) (p q : List ℕ) → Fit fs vs i → i + length fs ≤ length vs
    → values_at fs (p ++ (bytes_of fs vs i ++ q)) (length p) ≡ take (length fs) (drop i vs)
unfolding values_at bytes_of
values-bytes [] vs i p q f h = refl
values-bytes (g ∷ fs) vs i p q f h =
    let w : ℕ = g.0 in
    let v : ℕ = get_or vs i 0 in
    let rest : List ℕ = bytes_of fs vs (suc i) in
    let more : i < length vs = omega arith in
    let one : val_at (p ++ (be w v ++ (rest ++ q))) (length p) w ≡ v = val_at-be w v p (rest ++ q) f.0 in
    let at : length (p ++ be w v) ≡ length p + w = length-append p (be w v) ∙ ap (λ k. length p + k) (be-length w v) in
    let others : values_at fs (p ++ (be w v ++ (rest ++ q))) (length p + w) ≡ take (length fs) (drop (suc i) vs) =
    rw (← at, ← append_assoc p (be w v) (rest ++ q)) (values-bytes fs vs (suc i) (p ++ be w v) q f.1 (omega arith)) in
    rw (append_assoc (be w v) rest q, drop-cons vs i 0 more) (λ j. one j ∷ others j)

-- between any bytes p and q
pub values-back : (fs : List Field) (vs p q : List ℕ) → Fit fs vs 0 → length vs ≡ length fs
    → values_at fs (p ++ (bytes_of fs vs 0 ++ q)) (length p) ≡ vs
values-back fs vs p q f n = values-bytes fs vs 0 p q f (omega arith) ∙ take_all (length fs) vs (omega arith)

-- with nothing before or behind them
pub back : (fs : List Field) (vs : List ℕ) → Fit fs vs 0 → length vs ≡ length fs → values_at fs (bytes_of fs vs 0) 0 ≡ vs
back fs vs f n = rw (append-nil (bytes_of fs vs 0)) at (values-back fs vs [] [] f n)

-- in the slice that they were written to
pub decode-encode : (fs : List Field) (vs l : List ℕ) (at : ℕ) → Fit fs vs 0 → length vs ≡ length fs → at + size fs ≤ length l
    → values_at fs (sets l at (bytes_of fs vs 0)) at ≡ vs
decode-encode fs vs l at f n h =
    let bs : List ℕ = bytes_of fs vs 0 in
    rw (sets-at (size fs) bs l at (bytes-length fs vs 0) h)
    (rw (length-take-le at l (omega arith)) at (values-back fs vs (take at l) (drop (at + size fs) l) f n))

-- ---- bytes, values, bytes

shift : (fs : List Field) (v : ℕ) (vs : List ℕ) (i : ℕ) → bytes_of fs (v ∷ vs) (suc i) ≡ bytes_of fs vs i
unfolding bytes_of
shift [] v vs i = refl
shift (f ∷ fs) v vs i = ap (λ k. be f.0 (get_or vs i 0) ++ k) (shift fs v vs (suc i))

-- the bytes of some values and of others behind them
pub bytes-join : (fs : List Field) (u v : List ℕ) → length u ≤ length fs
    → bytes_of fs (u ++ v) 0 ≡ bytes_of (take (length u) fs) u 0 ++ bytes_of (drop (length u) fs) v 0
unfolding bytes_of
bytes-join fs [] v h = refl
bytes-join [] (x ∷ u) v h = absurd (omega arith)
bytes-join (f ∷ fs) (x ∷ u) v h =
    rw (shift fs x (u ++ v) 0, shift (take (length u) fs) x u 0, bytes-join fs u v (omega arith), append_assoc) refl

fit-shift : (fs : List Field) (v : ℕ) (vs : List ℕ) (i : ℕ) → Fit fs vs i → Fit fs (v ∷ vs) (suc i)
fit-shift [] v vs i f = tt
fit-shift (g ∷ fs) v vs i f = (f.0, fit-shift fs v vs (suc i) f.1)

-- what bytes tell fits the bytes
pub values-fit : (fs : List Field) (s : List ℕ) → Bytes s → (at : ℕ) → Fit fs (values_at fs s at) 0
unfolding values_at
values-fit [] s b at = tt
values-fit (g ∷ fs) s b at = (val_at-lt s b at g.0, fit-shift fs _ _ 0 (values-fit fs s b (at + g.0)))

pub encode-decode : (fs : List Field) (s : List ℕ) → Bytes s → (at : ℕ) → at + size fs ≤ length s
    → bytes_of fs (values_at fs s at) 0 ≡ take (size fs) (drop at s)
unfolding bytes_of values_at size
encode-decode [] s bs at h = refl
encode-decode (f ∷ fs) s bs at h =
    let w : ℕ = f.0 in
    rw (take-add w (size fs) (drop at s), drop-drop w at s, ← be-val_at s bs at w (omega arith), ← encode-decode fs s bs (at + w) (omega arith))
    (ap (λ k. be w (val_at s at w) ++ k) (shift fs (val_at s at w) (values_at fs s (at + w)) 0))

-- ---- whole records

-- length, version and kind: what stands before the fields
start : ℕ → List ℕ
start kind = be 2 (length_of kind) ++ (be 1 (row_version kind) ++ be 1 (row_kind kind))

start-length : (kind : ℕ) → length (start kind) ≡ 4
unfolding start be
start-length kind = refl

start-then : (kind : ℕ) (vs : List ℕ) → record_bytes kind vs ≡ start kind ++ bytes_of (fields kind) vs 0
unfolding start record_bytes be
start-then kind vs = refl

module _ (kind : ℕ) (vs : List ℕ) where
  pub record-length : length (record_bytes kind vs) ≡ 2 + length_of kind
  record-length =
      rw (start-then kind vs, length-append (start kind) (bytes_of (fields kind) vs 0), start-length kind, bytes-length (fields kind) vs 0)
      (omega arith)

  -- a record's values, in range, written and read again
  pub record-back : first_bad (fields kind) vs 0 ≡ 0 → length vs ≡ length (fields kind) → values_at (fields kind) (record_bytes kind vs) 4 ≡ vs
  record-back p n =
      rw (start-then kind vs)
      (rw (start-length kind, append-nil (bytes_of (fields kind) vs 0)) at (values-back (fields kind) vs (start kind) [] (fit-kind vs kind p) n))

-- a whole record of a row: its bytes, as many as its length says, its version and its kind
pub record Whole (kind : ℕ) (r : List ℕ) : Type 0 where
  pub bytes : Bytes r
  pub complete : length r ≡ 2 + length_of kind
  pub length-is : val_at r 0 2 ≡ length_of kind
  pub version-is : val_at r 2 1 ≡ row_version kind
  pub kind-is : val_at r 3 1 ≡ row_kind kind

-- a whole record read and written again
pub record-again : (kind : ℕ) (r : List ℕ) → Whole kind r → record_bytes kind (values_at (fields kind) r 4) ≡ r
unfolding record_bytes
record-again kind r w =
    let e2 : be 2 (length_of kind) ≡ take 2 r = rw (← w.length-is) (be-val_at r w.bytes 0 2 (omega arith)) in
    let e1 : be 1 (row_version kind) ≡ take 1 (drop 2 r) = ap (be 1) (sym w.version-is) ∙ be-val_at r w.bytes 2 1 (omega arith) in
    let e0 : be 1 (row_kind kind) ≡ take 1 (drop 3 r) = ap (be 1) (sym w.kind-is) ∙ be-val_at r w.bytes 3 1 (omega arith) in
    let fs : bytes_of (fields kind) (values_at (fields kind) r 4) 0 ≡ drop 4 r =
    encode-decode (fields kind) r w.bytes 4 (omega arith) ∙ take_all (size (fields kind)) (drop 4 r) (rw length-drop (omega arith)) in
    cc (take-append-drop 2 r, take-append-drop 1 (drop 2 r), drop-drop 1 2 r, take-append-drop 1 (drop 3 r), drop-drop 1 3 r)

-- and what is written is a whole record
version-small : (row : ℕ) → row_version row < 256
version-small row = of-choice (λ (n : ℕ). n < 256) (eqb row last_row) (λ e. omega arith) (λ e. omega arith)

kind-small : (row : ℕ) → row < 256 → row_kind row < 256
kind-small row h = of-choice (λ (n : ℕ). n < 256) (eqb row last_row) (λ e. omega arith) (λ e. h)

pub record-whole : (kind : ℕ) (vs : List ℕ) → kind < 256 → Whole kind (record_bytes kind vs)
unfolding record_bytes be bytes_hold
record-whole kind vs h =
    let fs : List ℕ = bytes_of (fields kind) vs 0 in
    let v = row_version kind in
    let k = row_kind kind in
    record {
      bytes = bytes-append (be 2 (length_of kind)) (be 1 v ++ (be 1 k ++ fs)) (be-bytes 2 (length_of kind))
          (bytes-append (be 1 v) (be 1 k ++ fs) (be-bytes 1 v) (bytes-append (be 1 k) fs (be-bytes 1 k) (bytes-bytes (fields kind) vs 0)));
      complete = record-length kind vs;
      length-is = val_at-be 2 (length_of kind) [] (be 1 v ++ (be 1 k ++ fs)) (omega (arith, length_most kind));
      version-is = val_at-be 1 v (be 2 (length_of kind)) (be 1 k ++ fs) (omega (arith, version-small kind));
      kind-is = val_at-be 1 k (be 2 (length_of kind) ++ be 1 v) fs (omega (arith, kind-small kind h));
    }
