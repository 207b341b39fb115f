-- Laws of a big-endian number: how many bytes it has, and reading what was written.
-- Assumes nothing.
use mathlib.Core.Path.{◌≡◌, refl, ap, ◌∙◌}
use mathlib.Core.List.{List, [], ◌∷◌, ◌++◌, append_assoc}
use Prim.Native.Nat.{ℕ, zero, suc, ◌+◌, ◌*◌, ◌/◌, ◌%◌, ◌<◌, ◌≤◌}
use native.Mathlib.Omega.{arith}
use native.Mathlib.Nat.{add-zero}
use lib.ListN.{length, get_or, take, drop, length-append, length-drop}
use lib.Seq.{take-suc, get_or-drop, get_or-append-add, get_or_at}
use Rattle.std.specs.Int.{w32, w64, to_be_bytes}
use Rattle.codec.specs.Codec.{Bytes, bytes_hold, val_at, be}

pub val_at-lt : (s : List ℕ) → Bytes s → (at w : ℕ) → val_at s at w < bytes_hold w
unfolding val_at bytes_hold
val_at-lt s b at zero = omega arith
val_at-lt s b at (suc w) = omega (arith, val_at-lt s b at w, b (at + w))

pub bytes-append : (xs ys : List ℕ) → Bytes xs → Bytes ys → Bytes (xs ++ ys)
bytes-append [] ys b d i = d i
bytes-append (x ∷ xs) ys b d zero = b 0
bytes-append (x ∷ xs) ys b d (suc i) = bytes-append xs ys (λ j. b (suc j)) d i

one-bytes : (b : ℕ) → b < 256 → Bytes (b ∷ [])
one-bytes b h zero = h
one-bytes b h (suc i) = omega arith

-- what is written is bytes
pub be-bytes : (w v : ℕ) → Bytes (be w v)
unfolding be
be-bytes zero v i = omega arith
be-bytes (suc w) v i = bytes-append (be w (v / 256)) (v % 256 ∷ []) (be-bytes w (v / 256)) (one-bytes (v % 256) (omega arith)) i

pub be-length : (w v : ℕ) → length (be w v) ≡ w
unfolding be
be-length zero v = refl
be-length (suc w) v = omega (arith, length-append (be w (v / 256)) (v % 256 ∷ []), be-length w (v / 256))

-- a number that fits, written and read again
pub val_at-be : (w v : ℕ) (p q : List ℕ) → v < bytes_hold w → val_at (p ++ (be w v ++ q)) (length p) w ≡ v
unfolding val_at be bytes_hold
val_at-be zero v p q h = omega arith
val_at-be (suc w) v p q h =
    let b : ℕ = v % 256 in
    let s : List ℕ = p ++ (be w (v / 256) ++ (b ∷ q)) in
    let high : val_at s (length p) w ≡ v / 256 = val_at-be w (v / 256) p (b ∷ q) (omega arith) in
    let low : get_or s (length p + w) 0 ≡ b =
    get_or-append-add p (be w (v / 256) ++ (b ∷ q)) w 0 ∙ get_or_at (be w (v / 256)) b q 0 w (be-length w (v / 256)) in
    let joined : be (suc w) v ++ q ≡ be w (v / 256) ++ (b ∷ q) = append_assoc (be w (v / 256)) (b ∷ []) q in
    let apart : val_at s (length p) w * 256 + get_or s (length p + w) 0 ≡ v = rw (high, low) (omega arith) in
    ap (λ t. val_at (p ++ t) (length p) (suc w)) joined ∙ apart

-- a number read and written again
pub be-val_at : (s : List ℕ) → Bytes s → (at w : ℕ) → at + w ≤ length s → be w (val_at s at w) ≡ take w (drop at s)
unfolding val_at be
be-val_at s bs at zero h = refl
be-val_at s bs at (suc w) h =
    let x : ℕ = val_at s at w * 256 + get_or s (at + w) 0 in
    let high : x / 256 ≡ val_at s at w = omega (arith, bs (at + w)) in
    let low : x % 256 ≡ get_or s (at + w) 0 = omega (arith, bs (at + w)) in
    let more : w < length (drop at s) = rw length-drop (omega arith) in
    rw (high, low, be-val_at s bs at w (omega arith), take-suc (drop at s) w 0 more, get_or-drop at s w 0)

-- a number depends on its own bytes only, wherever they stand
pub val_at-same : (s t : List ℕ) (p q w : ℕ) → ((k : ℕ) → k < w → get_or s (p + k) 0 ≡ get_or t (q + k) 0) → val_at s p w ≡ val_at t q w
unfolding val_at
val_at-same s t p q zero h = refl
val_at-same s t p q (suc w) h = rw (val_at-same s t p q w (λ k l. h k (omega arith)), h w (omega arith))

-- ---- the sums that be8, be16, be32 and be64 compute

module _ (s : List ℕ) (at a : ℕ) (ea : a ≡ get_or s at 0) where
  pub one_byte : a ≡ val_at s at 1
  unfolding val_at
  one_byte = rw (ea, add-zero) (omega arith)

  module _ (b : ℕ) (eb : b ≡ get_or s (at + 1) 0) where
    pub two_bytes : a * 256 + b ≡ val_at s at 2
    unfolding val_at
    two_bytes = rw (ea, eb, add-zero) (omega arith)

    pub four_bytes : (c d : ℕ) → c ≡ get_or s (at + 2) 0 → d ≡ get_or s (at + 3) 0 → ((a * 256 + b) * 256 + c) * 256 + d ≡ val_at s at 4
    unfolding val_at
    four_bytes c d ec ed = rw (ea, eb, ec, ed, add-zero) (omega arith)

pub eight-bytes : (s : List ℕ) (at h l : ℕ) → h ≡ val_at s at 4 → l ≡ val_at s (at + 4) 4 → h * 4294967296 + l ≡ val_at s at 8
unfolding val_at
eight-bytes s at h l eh el =
    let byte : (i j : ℕ) → i ≡ j → get_or s i 0 ≡ get_or s j 0 = λ i j e. ap (λ (n : ℕ). get_or s n 0) e in
    let b4 = byte (at + 4 + 0) (at + 4) (omega arith) in
    let b5 = byte (at + 4 + 1) (at + 5) (omega arith) in
    let b6 = byte (at + 4 + 2) (at + 6) (omega arith) in
    let b7 = byte (at + 4 + 3) (at + 7) (omega arith) in
    omega arith

-- ---- what std's conversions give are the bytes of `be`

pub word_of_4 : (v : ℕ) → to_be_bytes w32 (v % 4294967296) ≡ be 4 v
unfolding be
word_of_4 v =
    let a : v % 4294967296 / 16777216 % 256 ≡ v / 256 / 256 / 256 % 256 = omega arith in
    let b : v % 4294967296 / 65536 % 256 ≡ v / 256 / 256 % 256 = omega arith in
    let c : v % 4294967296 / 256 % 256 ≡ v / 256 % 256 = omega arith in
    let d : v % 4294967296 % 256 ≡ v % 256 = omega arith in rw (a, b, c, d) refl

pub word_of_8 : (v : ℕ) → to_be_bytes w64 v ≡ be 8 v
unfolding be
word_of_8 v =
    let a : v / 72057594037927936 % 256 ≡ v / 256 / 256 / 256 / 256 / 256 / 256 / 256 % 256 = omega arith in
    let b : v / 281474976710656 % 256 ≡ v / 256 / 256 / 256 / 256 / 256 / 256 % 256 = omega arith in
    let c : v / 1099511627776 % 256 ≡ v / 256 / 256 / 256 / 256 / 256 % 256 = omega arith in
    let d : v / 4294967296 % 256 ≡ v / 256 / 256 / 256 / 256 % 256 = omega arith in
    let e : v / 16777216 % 256 ≡ v / 256 / 256 / 256 % 256 = omega arith in
    let f : v / 65536 % 256 ≡ v / 256 / 256 % 256 = omega arith in rw (a, b, c, d, e, f) refl
