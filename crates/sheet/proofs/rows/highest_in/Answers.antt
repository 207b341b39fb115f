-- A byte more: 255 after what was there. Assumes nothing.
use Prim.Native.Nat.{ℕ, zero, suc, ◌+◌, ◌*◌, ◌-◌, ◌≤◌, ◌<◌}
use mathlib.Core.Path.{◌≡◌}
use native.Mathlib.Omega.{arith}
use native.Mathlib.Numerals.{add-one}
use Rattle.codec.specs.Codec.{bytes_hold}
use Rattle.sheet.proofs.rows.highest_in.Goals as goal

-- seven bytes leave room for an eighth
seven-bytes : (i : ℕ) → i < 8 → bytes_hold i ≤ 72057594037927936
unfolding bytes_hold
seven-bytes zero h = omega arith
seven-bytes (suc zero) h = omega arith
seven-bytes (suc (suc zero)) h = omega arith
seven-bytes (suc (suc (suc zero))) h = omega arith
seven-bytes (suc (suc (suc (suc zero)))) h = omega arith
seven-bytes (suc (suc (suc (suc (suc zero))))) h = omega arith
seven-bytes (suc (suc (suc (suc (suc (suc zero)))))) h = omega arith
seven-bytes (suc (suc (suc (suc (suc (suc (suc zero))))))) h = omega arith
seven-bytes (suc (suc (suc (suc (suc (suc (suc (suc i)))))))) h = absurd (omega arith)

no_byte : 0 + 1 ≡ bytes_hold 0
unfolding bytes_hold
no_byte = omega arith

byte_more : (i h : ℕ) → h + 1 ≡ bytes_hold i → h * 256 + 255 + 1 ≡ bytes_hold (i + 1)
unfolding bytes_hold
byte_more i h e = rw (add-one i) (omega arith)

all-bytes : (h i w : ℕ) → h + 1 ≡ bytes_hold i → i ≡ w → h ≡ bytes_hold w - 1
all-bytes h i w e d = let o : h + 1 ≡ bytes_hold w = rw d at e in omega arith

pub loop-i-init : goal.loop-i-init
loop-i-init c = (omega arith, no_byte)

pub overflow_mul-highest : goal.overflow_mul-highest
overflow_mul-highest c = omega (arith, seven-bytes c.loop-i.i (omega arith))

pub overflow_add-highest : goal.overflow_add-highest
overflow_add-highest c = omega (arith, seven-bytes c.loop-i.i (omega arith))

pub loop-i-preserved : goal.loop-i-preserved
loop-i-preserved c = (omega arith, byte_more c.loop-i.i c.loop-i.highest c.loop-i.invariant.1)
