use mathlib.Core.Path.{refl}
use native.Mathlib.Omega.{arith}
use Rattle.sheet.proofs.Held.{in-text, unsigned-zero, unsigned-other}
use Rattle.sheet.proofs.numbers.read_unsigned.Goals as goal

pub returns-then-byte-eq48 : goal.returns-then-byte-eq48
returns-then-byte-eq48 c = let b = c.byte in
    let args = c.args in
    rw (unsigned-zero args.text.now args.at b.result b.ensures c.if-byte-eq48.true)
    (record { number = refl; rest = refl; inside = in-text args.text.now args.at b.result b.ensures (omega arith) })

pub returns : goal.returns
returns c = let b = c.byte in
    let args = c.args in
    rw (unsigned-other args.text.now args.at b.result b.ensures c.if-byte-eq48.false) c.read_positive.ensures
