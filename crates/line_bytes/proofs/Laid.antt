-- How a line is laid into its bytes and read from them: what stands before its figures, then these, eight bytes each.
-- Assumes nothing.
use mathlib.Core.Path.{◌≡◌, refl, sym, ap, ◌∙◌}
use mathlib.Core.List.{List, [], ◌∷◌, ◌++◌, append_assoc, append-nil}
use Prim.Native.Nat.{ℕ, zero, suc, ◌+◌, ◌-◌, ◌*◌, ◌<◌, ◌≤◌}
use native.Mathlib.Omega.{arith}
use native.Mathlib.Nat.{zero-add, add-zero, add-suc, suc-add}
use native.Mathlib.Numerals.{add-one}
use lib.ListN.{length, length-append, length-set, get_or, set, replicate, length-replicate, drop_of_length-le, get_or-append}
use lib.Seq.{sets, sets-eq, get_or_at}
use Rattle.codec.specs.declared.Field.{Field}
use Rattle.codec.specs.Table.{size}
use Rattle.codec.specs.Codec.{bytes_hold, val_at, be, values_at, bytes_of}
use Rattle.codec.proofs.BigEndian.{be-length, val_at-be}
use Rattle.codec.proofs.Stores.{sets-append, put_then}
use Rattle.codec.proofs.Values.{values_length, bytes-length}
use Rattle.line_bytes.specs.Lines.{figure, figure_count, line_fields, total_fields, line_size, line_length, total_length, line_bytes_lem, total_bytes}

-- ---- written

-- length, version 1, kind and group, then some bytes
abbrev pub headed : ℕ → ℕ → ℕ → List ℕ → List ℕ
headed len kind group rest = be 2 len ++ (be 1 1 ++ (be 1 kind ++ (be 2 group ++ rest)))

line-is : (kind group : ℕ) (figures : List ℕ)
    → line_bytes_lem kind group figures ≡ headed line_length kind group (bytes_of (replicate figure_count figure) figures 0)
unfolding line_bytes_lem line_fields bytes_of
line-is kind group figures = refl

-- one value more behind n figures
one-behind : (n i : ℕ) (vs : List ℕ) (v : ℕ) → i + n ≡ length vs
    → bytes_of (replicate (suc n) figure) (vs ++ (v ∷ [])) i ≡ bytes_of (replicate n figure) vs i ++ be 8 v
unfolding bytes_of
one-behind zero i vs v h = append-nil _ ∙ ap (be 8) (get_or_at vs v [] 0 i (sym (rw add-zero at h)))
one-behind (suc n) i vs v h =
    let first : get_or (vs ++ (v ∷ [])) i 0 ≡ get_or vs i 0 = get_or-append vs (v ∷ []) 0 i (omega arith) in
    let rest = one-behind n (suc i) vs v (rw (suc-add, ← add-suc) h) in
    rw first
    (ap (λ (l : List ℕ). be 8 (get_or vs i 0) ++ l) rest
    ∙ sym (append_assoc (be 8 (get_or vs i 0)) (bytes_of (replicate n figure) vs (suc i)) (be 8 v)))

total-is : (sums : List ℕ) (co2e : ℕ) → length sums ≡ figure_count
    → total_bytes sums co2e ≡ headed total_length 8 0 (bytes_of (replicate figure_count figure) sums 0 ++ be 8 co2e)
unfolding total_bytes total_fields bytes_of
total-is sums co2e n = ap (headed total_length 8 0) (one-behind figure_count 0 sums co2e (sym n))

-- what stands before the figures, stored
abbrev pub opened : List ℕ → ℕ → ℕ → ℕ → ℕ → List ℕ
opened l at len kind group = sets (sets (sets (sets l at (be 2 len)) (at + 2) (be 1 1)) (at + 3) (be 1 kind)) (at + 4) (be 2 group)

pub head-stored : (len kind group : ℕ) (rest l : List ℕ) (at : ℕ)
    → sets l at (headed len kind group rest) ≡ sets (opened l at len kind group) (at + 6) rest
head-stored len kind group rest l at =
    let l2 : List ℕ = sets l at (be 2 len) in
    let l3 : List ℕ = sets l2 (at + 2) (be 1 1) in
    let l4 : List ℕ = sets l3 (at + 3) (be 1 kind) in
    let e3 : at + 2 + 1 ≡ at + 3 = omega arith in
    let e4 : at + 3 + 1 ≡ at + 4 = omega arith in
    let e6 : at + 4 + 2 ≡ at + 6 = omega arith in
    sym (put_then 2 len at l (be 1 1 ++ (be 1 kind ++ (be 2 group ++ rest))))
    ∙ sym (put_then 1 1 (at + 2) l2 (be 1 kind ++ (be 2 group ++ rest)))
    ∙ ap (λ k. sets l3 k (be 1 kind ++ (be 2 group ++ rest))) e3
    ∙ sym (put_then 1 kind (at + 3) l3 (be 2 group ++ rest))
    ∙ ap (λ k. sets l4 k (be 2 group ++ rest)) e4
    ∙ sym (put_then 2 group (at + 4) l4 rest)
    ∙ ap (λ k. sets (sets l4 (at + 4) (be 2 group)) k rest) e6

pub line-stored : (kind group : ℕ) (figures l : List ℕ) (at : ℕ)
    → sets l at (line_bytes_lem kind group figures)
    ≡ sets (opened l at line_length kind group) (at + 6) (bytes_of (replicate figure_count figure) figures 0)
line-stored kind group figures l at =
    ap (sets l at) (line-is kind group figures) ∙ head-stored line_length kind group (bytes_of (replicate figure_count figure) figures 0) l at

figures-size : size (replicate figure_count figure) ≡ 8 * figure_count
unfolding size
figures-size = refl

pub total-stored : (sums : List ℕ) (co2e : ℕ) (l : List ℕ) (at : ℕ) → length sums ≡ figure_count
    → sets l at (total_bytes sums co2e)
    ≡ sets (sets (opened l at total_length 8 0) (at + 6) (bytes_of (replicate figure_count figure) sums 0)) (at + line_size) (be 8 co2e)
total-stored sums co2e l at n =
    let bs : List ℕ = bytes_of (replicate figure_count figure) sums 0 in
    let m : List ℕ = opened l at total_length 8 0 in
    let e : at + 6 + length bs ≡ at + line_size = omega (arith, bytes-length (replicate figure_count figure) sums 0, figures-size) in
    ap (sets l at) (total-is sums co2e n)
    ∙ head-stored total_length 8 0 (bs ++ be 8 co2e) l at
    ∙ sets-append bs (be 8 co2e) m (at + 6)
    ∙ ap (λ k. sets (sets m (at + 6) bs) k (be 8 co2e)) e

-- ---- read

module _ (s l : List ℕ) (n p i : ℕ) where
  -- a turn of the loop over the figures
  pub one-read : i < n
      → sets (set l i (val_at s p 8)) (i + 1) (values_at (replicate (n - (i + 1)) figure) s (p + 8))
      ≡ sets l i (values_at (replicate (n - i) figure) s p)
  unfolding values_at
  one-read h = let e : n - i ≡ suc (n - (i + 1)) = omega arith in rw (e, add-one)

  -- the end
  pub all_read : n ≤ i → sets l i (values_at (replicate (n - i) figure) s p) ≡ l
  unfolding values_at
  all_read h = let e : n - i ≡ 0 = omega arith in rw e

-- two numbers, and those behind them
two_then : (l xs : List ℕ) (a b : ℕ) → 2 + length xs ≡ length l → sets (set (set l 0 a) 1 b) 2 xs ≡ a ∷ (b ∷ xs)
two_then [] xs a b h = absurd (omega arith)
two_then (x ∷ []) xs a b h = absurd (omega arith)
two_then (x ∷ (y ∷ r)) xs a b h =
    let short : length (a ∷ (b ∷ r)) ≤ 2 + length xs = omega arith in
    sets-eq xs (a ∷ (b ∷ r)) 2 (omega arith)
    ∙ ap (λ (t : List ℕ). a ∷ (b ∷ (xs ++ t))) (drop_of_length-le (a ∷ (b ∷ r)) short)
    ∙ ap (λ (t : List ℕ). a ∷ (b ∷ t)) (append-nil xs)

-- kind, group and the figures behind them
pub numbers-read : (v s : List ℕ) (a b : ℕ) → 2 ≤ length v → a ≡ val_at s 3 1 → b ≡ val_at s 4 2
    → sets (set (set v 0 a) 1 b) 2 (values_at (replicate (length (set (set v 0 a) 1 b) - 2) figure) s 6)
    ≡ val_at s 3 1 ∷ (val_at s 4 2 ∷ values_at (replicate (length v - 2) figure) s 6)
numbers-read v s a b h ea eb =
    let same : length (set (set v 0 a) 1 b) ≡ length v = length-set (set v 0 a) 1 b ∙ length-set v 0 a in
    let n : ℕ = length v - 2 in
    let long : 2 + length (values_at (replicate n figure) s 6) ≡ length v =
    omega (arith, values_length (replicate n figure) s 6, length-replicate {A = Field} n figure) in
    ap (λ (k : ℕ). sets (set (set v 0 a) 1 b) 2 (values_at (replicate (k - 2) figure) s 6)) same
    ∙ two_then v (values_at (replicate n figure) s 6) a b long
    ∙ (λ j. ea j ∷ (eb j ∷ values_at (replicate n figure) s 6))

-- ---- one figure, from its place in a line

front : ℕ → ℕ → ℕ → List ℕ
front len kind group = be 2 len ++ (be 1 1 ++ (be 1 kind ++ be 2 group))

front_length : (len kind group : ℕ) → length (front len kind group) ≡ 6
unfolding front be
front_length len kind group = refl

front-then : (len kind group : ℕ) (rest : List ℕ) → headed len kind group rest ≡ front len kind group ++ rest
unfolding front be
front-then len kind group rest = refl

figure-read : (n : ℕ) (vs : List ℕ) (i j : ℕ) (p q : List ℕ) → j < n → get_or vs (i + j) 0 < bytes_hold 8
    → val_at (p ++ (bytes_of (replicate n figure) vs i ++ q)) (length p + 8 * j) 8 ≡ get_or vs (i + j) 0
unfolding bytes_of
figure-read zero vs i j p q l h = absurd (omega arith)
figure-read (suc n) vs i zero p q l h =
    let v : ℕ = get_or vs i 0 in
    let e : length p + 8 * 0 ≡ length p = omega arith in
    let small : v < bytes_hold 8 = rw add-zero at h in
    rw (append_assoc (be 8 v) (bytes_of (replicate n figure) vs (suc i)) q, e, add-zero)
    (val_at-be 8 v p (bytes_of (replicate n figure) vs (suc i) ++ q) small)
figure-read (suc n) vs i (suc j) p q l h =
    let v : ℕ = get_or vs i 0 in
    let rest : List ℕ = bytes_of (replicate n figure) vs (suc i) in
    let e : length (p ++ be 8 v) + 8 * j ≡ length p + 8 * suc j = omega (arith, length-append p (be 8 v), be-length 8 v) in
    let m : suc i + j ≡ i + suc j = omega arith in
    let small : get_or vs (suc i + j) 0 < bytes_hold 8 = rw m h in
    let r = figure-read n vs (suc i) j (p ++ be 8 v) q (omega arith) small in
    ap (λ (s : List ℕ). val_at (p ++ s) (length p + 8 * suc j) 8) (append_assoc (be 8 v) rest q)
    ∙ ap (λ (s : List ℕ). val_at s (length p + 8 * suc j) 8) (sym (append_assoc p (be 8 v) (rest ++ q)))
    ∙ ap (λ (k : ℕ). val_at ((p ++ be 8 v) ++ (rest ++ q)) k 8) (sym e)
    ∙ r ∙ ap (λ (k : ℕ). get_or vs k 0) m

module _ (figures : List ℕ) (i : ℕ) (h : i < figure_count) (small : get_or figures i 0 < bytes_hold 8) where
  behind-front : (len kind group : ℕ) (q : List ℕ)
      → val_at (headed len kind group (bytes_of (replicate figure_count figure) figures 0 ++ q)) (6 + 8 * i) 8 ≡ get_or figures i 0
  behind-front len kind group q =
      let s : get_or figures (0 + i) 0 < bytes_hold 8 = rw zero-add small in
      ap (λ (xs : List ℕ). val_at xs (6 + 8 * i) 8) (front-then len kind group (bytes_of (replicate figure_count figure) figures 0 ++ q))
      ∙ (rw (front_length len kind group, zero-add) at (figure-read figure_count figures 0 i (front len kind group) q h s))

  pub line-figure : (kind group : ℕ) → val_at (line_bytes_lem kind group figures) (6 + 8 * i) 8 ≡ get_or figures i 0
  line-figure kind group =
      ap (λ (xs : List ℕ). val_at xs (6 + 8 * i) 8)
      (line-is kind group figures ∙ ap (headed line_length kind group) (sym (append-nil (bytes_of (replicate figure_count figure) figures 0))))
      ∙ behind-front line_length kind group []

  pub total-figure : (co2e : ℕ) → length figures ≡ figure_count → val_at (total_bytes figures co2e) (6 + 8 * i) 8 ≡ get_or figures i 0
  total-figure co2e n = ap (λ (xs : List ℕ). val_at xs (6 + 8 * i) 8) (total-is figures co2e n) ∙ behind-front total_length 8 0 (be 8 co2e)
