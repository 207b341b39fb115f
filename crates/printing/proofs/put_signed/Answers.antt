-- The word itself, or a minus sign and its amount. Assumes nothing.
use Prim.Native.Nat.{ℕ, ◌+◌, ◌^◌, ◌≤◌, ◌<◌}
use mathlib.Core.Path.{◌≡◌}
use mathlib.Core.List.{List, [], ◌∷◌}
use Rattle.base.specs.Signed.{signed_of}
use Rattle.printing.specs.Decimal.{decimal, signed, Put}
use native.Mathlib.Omega.{arith}
use Rattle.printing.proofs.Digits.{amount-fits, signed-small, signed_below}
use Rattle.printing.proofs.Puts.{and-then, put-length}
use Rattle.printing.proofs.put_signed.Goals as goal

-- a minus sign and the amount
below : {xs ys zs : List ℕ} {at m n r : ℕ} (w : ℕ) → Put xs ys at (45 ∷ []) m → Put ys zs m (decimal n) r → 2 ^ 63 ≤ w → n + w ≡ 2 ^ 64 → 0 < n
    → Put xs zs at (signed (signed_of w)) r
below {n = n} w sign amount low e some = rw (signed_below w n low e some) (and-then sign amount)

pub returns-then-w-lt9223372036854775808 : goal.returns-then-w-lt9223372036854775808
returns-then-w-lt9223372036854775808 c = let p = c.put_decimal.ensures in
    let small = c.if-w-lt9223372036854775808.true in
    record { put = rw (signed-small _ small) p.put; upper_bound = p.upper_bound }

pub put_digits-requires : goal.put_digits-requires
put_digits-requires c = let minus = c in
    let room = minus.requires in
    let sign = minus.put_byte-minus.ensures in
    amount-fits _ _ _ (omega (arith, minus.if-w-lt9223372036854775808.false)) (omega (arith, room, sign.next, put-length sign))

pub returns : goal.returns
returns c = let amount = c.put_digits.ensures in
    let minus = c in
    let low = minus.if-w-lt9223372036854775808.false in
    let sign = minus.put_byte-minus.ensures in
    record {
      put = below _ sign amount low (omega arith) (omega arith);
      upper_bound = rw amount.next (amount-fits _ _ _ (omega (arith, low)) (omega (arith, sign.next)));
    }
