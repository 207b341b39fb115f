-- `image::write::put_run` meets its contract: storing the numbers that are left makes of the image what is wanted.
-- Assumes nothing.
use Prim.Native.Nat.{◌+◌, ◌<◌, ◌≤◌}
use mathlib.Core.Path.{◌≡◌, refl, sym, ◌∙◌}
use native.Mathlib.Omega.{arith}
use native.Mathlib.Nat.{add-zero, add_assoc}
use lib.ListN.{length, take, drop}
use Rattle.by_row.proofs.FieldByField.{put-turn, all-put}
use Rattle.account.specs.Account.{account_fields}
use Rattle.account.proofs.AsNumbers.{width_is}
use Rattle.image.specs.Image.{place_of}
use Rattle.image.proofs.Stored.{eight-widths, few-fields, part_length, part-width, place-next, place-most}
use Rattle.image.proofs.write.put_run.Goals as goal

pub put-requires : goal.put-requires
put-requires c =
    let number-there : c.args.from + c.loop-i.i < length account_fields = omega (arith, c.requires.2) in
    let next : let from = c.args.from in
    c.loop-i.p + c.width-w.result ≡ place_of (from + (c.loop-i.i + 1)) = let k = c.loop-i in
    let from = c.args.from in
    rw (← add_assoc from k.i 1) (omega (arith, c.width-w.ensures, k.invariant.1, place-next (from + k.i) (number-there))) in
    let bytes-there : c.loop-i.p + c.width-w.result ≤ length c.loop-i.image =
    omega (arith, next, place-most (c.args.from + (c.loop-i.i + 1)), c.loop-i.invariant.0, c.requires.0) in
    (bytes-there, rw c.width-w.ensures (eight-widths (width_is _ (number-there))))

pub loop-i-preserved : goal.loop-i-preserved
loop-i-preserved c =
    let number-there : c.args.from + c.loop-i.i < length account_fields = omega (arith, c.requires.2) in
    let next : let from = c.args.from in
    c.loop-i.p + c.width-w.result ≡ place_of (from + (c.loop-i.i + 1)) = let k = c.loop-i in
    let from = c.args.from in
    rw (← add_assoc from k.i 1) (omega (arith, c.width-w.ensures, k.invariant.1, place-next (from + k.i) (number-there))) in
    let k = c.loop-i in
    let n = length c.args.v.now in
    let fs = take n (drop c.args.from account_fields) in
    let there : k.i < length fs = omega (arith, part_length c.args.from n c.requires.2) in
    let e = c.width-w.ensures ∙ part-width c.args.from n c.requires.2 k.i (omega arith) in (
      omega arith,
      next,
      rw c.put.ensures (put-turn fs k.i there e c.args.v.now k.image k.p ∙ k.invariant.2),
    )

pub returns : goal.returns
returns c = let k = c.loop-i in
    let n = length c.args.v.now in
    let fs = take n (drop c.args.from account_fields) in
    let done : k.i ≡ n = omega arith in
    let none : length fs ≤ k.i = omega (arith, part_length c.args.from n c.requires.2) in
    record { bytes = sym (all-put fs k.i none c.args.v.now k.image k.p) ∙ k.invariant.2; next = rw (← done) k.invariant.1 }

pub loop-i-init : goal.loop-i-init
loop-i-init c = (refl, rw (add-zero c.args.from) c.requires.1, rw c.requires.1 refl)

pub overflow_add-from : goal.overflow_add-from
overflow_add-from c =
    let number-there : c.args.from + c.loop-i.i < length account_fields = omega (arith, c.requires.2) in
    omega (arith, number-there, few-fields)

pub width-w-requires : goal.width-w-requires
width-w-requires c =
    let number-there : c.args.from + c.loop-i.i < length account_fields = omega (arith, c.requires.2) in
    number-there

pub overflow_add-p : goal.overflow_add-p
overflow_add-p c =
    let number-there : c.args.from + c.loop-i.i < length account_fields = omega (arith, c.requires.2) in
    let next : let from = c.args.from in
    c.loop-i.p + c.width-w.result ≡ place_of (from + (c.loop-i.i + 1)) = let k = c.loop-i in
    let from = c.args.from in
    rw (← add_assoc from k.i 1) (omega (arith, c.width-w.ensures, k.invariant.1, place-next (from + k.i) (number-there))) in
    let bytes-there : c.loop-i.p + c.width-w.result ≤ length c.loop-i.image =
    omega (arith, next, place-most (c.args.from + (c.loop-i.i + 1)), c.loop-i.invariant.0, c.requires.0) in
    omega (arith, bytes-there)

pub shape_of-image : goal.shape_of-image
shape_of-image c = c.loop-i.invariant.0
