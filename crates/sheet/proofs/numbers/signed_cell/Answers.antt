use Prim.Native.Nat.{◌+◌, ◌-◌, ◌<◌}
use native.Mathlib.Omega.{arith}
use lib.ListN.{drop}
use Rattle.sheet.specs.Numbers.{full, positive}
use Rattle.sheet.proofs.Numerals.{positive-above}
use Rattle.sheet.proofs.Held.{signed-other, signed-minus, field-wrong, field-good, field-value, field-right}
use Rattle.sheet.proofs.numbers.signed_cell.Goals as goal

pub returns-then-byte-ne45 : goal.returns-then-byte-ne45
returns-then-byte-ne45 c = let b = c.byte in
    let args = c.args in
    rw (signed-other args.text.now args.at b.result b.ensures args.highest c.if-byte-ne45.true) c.unsigned_cell.ensures

pub returns-in-Ok : goal.returns-in-Ok
returns-in-Ok c = let n = c.read_positive-n.ensures in
    let b = c.byte in
    let args = c.args in
    let s = drop (args.at + 1) args.text.now in
    let m = positive s in
    let e = c.in-Ok.ensures m n.number in
    let above : 0 < m.value = positive-above s (field-good m (args.highest + 1) _ e) in
    let same = field-value m (args.highest + 1) _ e in
    rw (signed-minus args.text.now args.at b.result b.ensures args.highest c.if-byte-ne45.false)
    (record { number = field-right m (args.highest + 1) _ e _ (full - m.value) (omega (arith, same, c.wrapping_neg.ensures)); rest = n.rest; inside = n.inside })

pub returns-in-Err : goal.returns-in-Err
returns-in-Err c = let n = c.read_positive-n.ensures in
    let b = c.byte in
    let args = c.args in
    let m = positive (drop (args.at + 1) args.text.now) in
    rw (signed-minus args.text.now args.at b.result b.ensures args.highest c.if-byte-ne45.false)
    (record { number = field-wrong m (args.highest + 1) _ (full - m.value) (c.in-Err.ensures m n.number); rest = n.rest; inside = n.inside })
