-- An accepted kg is a finite number above zero: no NaN, no infinity and no zero.
-- Each operation goes one way in each operand, so the result lies between the runs at the two ends of the ranges.
use mathlib.Core.Path.{◌≡◌}
use Prim.Native.Nat.{ℕ, zero, suc, ◌*◌, ◌≤◌, ◌<◌}
use native.Mathlib.Nat.{mul_comm, mul_assoc, mul_left_comm, mul-le-mul_right, mul-pos}
use native.Mathlib.Omega.{arith}
use mathlib.Core.Bool.{Bool, true, false, not, ◌&&◌}
use lib.IntN.{pos}
use lib.Dec.{T, leb, leb→le, ltb→lt, eqb-suc-zero}
use lib.Ieee.{Float, nan, inf, fin, Format, binary64, round, mul, div, le, of_int, is_nan}
use lib.Ieee.Fits.{and_l, and_r, up_pos}
use lib.Ieee.Order.{round_mono}
use lib.Ieee.Positive.{num, den, positive, den_pos, le→cross, between, mul_mono}
use Rattle.base.specs.Choice.{pick}
use Rattle.slip.specs.Slip.{double, within, kg_ch4, ration_in_range, ge_in_range, ym_in_range, head_in_range, days_in_range, change_in_range}
use Rattle.slip.specs.Slip.{changed_in_range, changed_by, estimated, refused_with, what_if, Answers}
use Rattle.slip.specs.declared.Slip.{Slip}
use Rattle.slip.specs.declared.Change.{Change}
use Rattle.slip.specs.declared.Change.TheVariants.{Feed, Ym, Head}
use Rattle.slip.specs.declared.Ration.{Ration}

num_pos : (x : Float) → T (positive x) → 0 < num x
num_pos nan p = absurd p
num_pos (inf s) p = absurd p
num_pos (fin true m e) p = absurd p
num_pos (fin false m e) p = mul-pos (ltb→lt 0 m p) (up_pos e)

div_is : (f : Format) (x y : Float) → T (positive x) → T (positive y) → div f x y ≡ round f false (num x * den y) (num y * den x)
unfolding div
div_is f nan y p q = absurd p
div_is f (inf s) y p q = absurd p
div_is f (fin true m e) y p q = absurd p
div_is f (fin false m e) nan p q = absurd q
div_is f (fin false m e) (inf t) p q = absurd q
div_is f (fin false m e) (fin true n d) p q = absurd q
div_is f (fin false m e) (fin false zero d) p q = absurd q
div_is f (fin false m e) (fin false (suc n) d) p q = rw (eqb-suc-zero n)

cross : (a b c d m n : ℕ) → a * d ≤ c * b → (a * n) * (m * d) ≤ (c * n) * (m * b)
cross a b c d m n h = simp (mul_assoc, mul_comm, mul_left_comm) (simp (mul_assoc, mul_comm) at (mul-le-mul_right (m * n) h))

div_mono : (f : Format) (x x' y : Float) → T (positive x) → T (positive x') → T (positive y) → T (le x x') → T (le (div f x y) (div f x' y))
div_mono f x x' y p p' q h =
    rw (div_is f x y p q, div_is f x' y p' q)
    (round_mono f (num x * den y) (num y * den x) (num x' * den y) (num y * den x')
    (mul-pos (num_pos y q) (den_pos x)) (mul-pos (num_pos y q) (den_pos x'))
    (cross (num x) (den x) (num x') (den x') (num y) (den y) (le→cross x x' p p' h)))

-- z lies in [lo, hi], whose ends are finite and above zero
record In (lo hi z : Float) : Type 0 where
  low : T (positive lo)
  high : T (positive hi)
  from : T (le lo z)
  to : T (le z hi)

in_pos : {lo hi z : Float} → In lo hi z → T (positive z)
in_pos {lo} {hi} {z} i = between lo z hi i.low i.high i.from i.to

mul_in : {xl xh x yl yh y : Float} → In xl xh x → In yl yh y → T (positive (mul binary64 xl yl)) → T (positive (mul binary64 xh yh))
    → In (mul binary64 xl yl) (mul binary64 xh yh) (mul binary64 x y)
mul_in {xl} {xh} {x} {yl} {yh} {y} i j a b =
    record {
      low = a;
      high = b;
      from = mul_mono binary64 xl x yl y i.low (in_pos i) j.low (in_pos j) i.from j.from;
      to = mul_mono binary64 x xh y yh (in_pos i) i.high (in_pos j) j.high i.to j.to;
    }

div-in : {xl xh x : Float} (y : Float) → In xl xh x → T (positive y) → T (positive (div binary64 xl y)) → T (positive (div binary64 xh y))
    → In (div binary64 xl y) (div binary64 xh y) (div binary64 x y)
div-in {xl} {xh} {x} y i q a b =
    record {
      low = a;
      high = b;
      from = div_mono binary64 xl x y i.low (in_pos i) q i.from;
      to = div_mono binary64 x xh y (in_pos i) i.high q i.to;
    }

range : (lo hi x : Float) → T (positive lo) → T (positive hi) → T (within lo hi x) → In lo hi x
range lo hi x a b t = record { low = a; high = b; from = and_l (le lo x) (le x hi) t; to = and_r (le lo x) (le x hi) t }

days-in : (d : ℕ) → T (days_in_range d) → In (double 1 1) (double 366 1) (of_int binary64 (pos d))
unfolding round of_int
days-in d t =
    let l : 1 ≤ d = leb→le 1 d (and_l (leb 1 d) (leb d 366) t) in
    let u : d ≤ 366 = leb→le d 366 (and_r (leb 1 d) (leb d 366) t) in
    record {
      low = tt;
      high = tt;
      from = round_mono binary64 1 1 d 1 (omega arith) (omega arith) (omega arith);
      to = round_mono binary64 d 1 366 1 (omega arith) (omega arith) (omega arith);
    }

-- the four tests of a ration, each by its name
record Parts (r : Ration) : Type 0 where
  ge : T (ge_in_range r.ge)
  ym : T (ym_in_range r.ym)
  head : T (head_in_range r.head)
  days : T (days_in_range r.days)

parts : (r : Ration) → T (ration_in_range r) → Parts r
unfolding ration_in_range
parts r t =
    let a = ge_in_range r.ge in
    let b = ym_in_range r.ym in
    let c = head_in_range r.head in
    let d = days_in_range r.days in
    let three = and_l (a && b && c) d t in
    let two = and_l (a && b) c three in
    record { ge = and_l a b two; ym = and_r a b two; head = and_r (a && b) c three; days = and_r (a && b && c) d t }

-- a changed value in its range leaves the whole ration in its ranges
changed-parts : (r : Ration) (c : Change) → Parts r → T (changed_in_range (changed_by r c) c) → Parts (changed_by r c)
unfolding changed_in_range
changed-parts r (Feed f) p t = record { ge = t; ym = p.ym; head = p.head; days = p.days }
changed-parts r (Ym y) p t = record { ge = p.ge; ym = t; head = p.head; days = p.days }
changed-parts r (Head f) p t = record { ge = p.ge; ym = p.ym; head = t; days = p.days }

kg-positive : (r : Ration) → Parts r → T (positive (kg_ch4 r))
unfolding kg_ch4 round mul div
kg-positive r p =
    let ge = range (double 1 1) (double 1000 1) r.ge tt tt p.ge in
    let ym = range (double 1 2) (double 20 1) r.ym tt tt p.ym in
    let head = range (double 1 1) (double 20000 1) r.head tt tt p.head in
    let days = days-in r.days p.days in
    in_pos (div-in (double 5565 100) (mul_in (mul_in (mul_in ge (div-in (double 100 1) ym tt tt tt) tt tt) head tt tt) days tt tt) tt tt tt)

-- each slip is one of the two refusals, or an estimate whose kg is above zero
by_cases : (P : Slip → Type 0) (r : Ration) (c : Change) → P (refused_with 14 r) → P (refused_with 15 r)
    → (T (positive (kg_ch4 (changed_by r c))) → P (estimated (changed_by r c))) → P (what_if r c)
unfolding what_if
by_cases P r c fourteen fifteen estimate =
    go (ration_in_range r) (change_in_range c) (changed_in_range (changed_by r c) c)
    (λ t u. estimate (kg-positive (changed_by r c) (changed-parts r c (parts r t) u)))
  where
    go : (a b d : Bool) → (T a → T d → P (estimated (changed_by r c)))
        → P (pick (a && b) (pick d (estimated (changed_by r c)) (refused_with 15 r)) (refused_with 14 r))
    go true true true h = h tt tt
    go true true false h = fifteen
    go true false d h = fourteen
    go false b d h = fourteen

-- an accepted kg is a finite number above zero
pub accepted-positive : (r : Ration) (c : Change) → (what_if r c).code ≡ 0 → T (positive (what_if r c).kg)
accepted-positive r c =
    by_cases (λ (s : Slip). s.code ≡ 0 → T (positive s.kg)) r c
    (λ e. absurd (omega arith)) (λ e. absurd (omega arith)) (λ p e. p)

positive-number : (x : Float) → T (positive x) → T (not (is_nan x))
unfolding is_nan
positive-number nan p = absurd p
positive-number (inf s) p = absurd p
positive-number (fin s m e) p = tt

-- every slip's kg is a number
pub slip-number : (r : Ration) (c : Change) → T (not (is_nan (what_if r c).kg))
unfolding is_nan
slip-number r c = by_cases (λ (s : Slip). T (not (is_nan s.kg))) r c tt tt (positive-number (kg_ch4 (changed_by r c)))

-- what equals the slip is an answer
pub answers : {r : Ration} {c : Change} {s : Slip} → s ≡ what_if r c → Answers r c s
answers {r} {c} {s} e = record { exact = e; number = rw e (slip-number r c) }
