-- `image::read::read_run` meets its contract: storing the numbers that are left makes of the slice what is wanted.
-- Assumes nothing.
use Prim.Native.Nat.{◌+◌, ◌<◌, ◌≤◌}
use mathlib.Core.Path.{◌≡◌, refl, sym, ◌∙◌}
use native.Mathlib.Omega.{arith}
use lib.ListN.{length, take, length-set}
use Rattle.by_row.proofs.FieldByField.{read-turn, all_read}
use Rattle.account.specs.Account.{account_fields}
use Rattle.account.proofs.AsNumbers.{width_is}
use Rattle.image.specs.Image.{place_of}
use Rattle.image.proofs.Stored.{eight-widths, front_length, front-width, place-next, place-most}
use Rattle.image.proofs.read.read_run.Goals as goal

pub loop-i-preserved : goal.loop-i-preserved
loop-i-preserved c =
    let number-there : c.loop-i.i < length account_fields = omega (arith, c.requires.3) in
    let next : c.loop-i.p + c.width-w.result ≡ place_of (c.loop-i.i + 1) = let k = c.loop-i in
    omega (arith, c.width-w.ensures, k.invariant.1, place-next k.i (number-there)) in
    let k = c.loop-i in
    let fs = take c.args.to account_fields in
    let there : k.i < length fs = omega (arith, front_length c.args.to c.requires.3) in
    let e = c.width-w.ensures ∙ front-width c.args.to k.i (omega arith) in (
      length-set k.v k.i c.number.result ∙ k.invariant.0,
      next,
      rw c.number.ensures (read-turn fs k.i there e _ k.v k.p ∙ k.invariant.2),
    )

pub returns : goal.returns
returns c = let k = c.loop-i in
    let fs = take c.args.to account_fields in
    let done : k.i ≡ c.args.to = omega arith in
    let none : length fs ≤ k.i = omega (arith, front_length c.args.to c.requires.3) in
    record { numbers = sym (all_read fs k.i none _ k.v k.p) ∙ k.invariant.2; next = rw (← done) k.invariant.1 }

pub loop-i-init : goal.loop-i-init
loop-i-init c = (refl, c.requires.1, rw c.requires.1 refl)

pub width-w-requires : goal.width-w-requires
width-w-requires c =
    let number-there : c.loop-i.i < length account_fields = omega (arith, c.requires.3) in
    number-there

pub number-requires : goal.number-requires
number-requires c =
    let number-there : c.loop-i.i < length account_fields = omega (arith, c.requires.3) in
    let next : c.loop-i.p + c.width-w.result ≡ place_of (c.loop-i.i + 1) = let k = c.loop-i in
    omega (arith, c.width-w.ensures, k.invariant.1, place-next k.i (number-there)) in
    let bytes-there : c.loop-i.p + c.width-w.result ≤ length c.args.image.now = omega (arith, next, place-most (c.loop-i.i + 1), c.requires.0) in
    (bytes-there, rw c.width-w.ensures (eight-widths (width_is c.loop-i.i (number-there))))

pub offset_bounds-v-i : goal.offset_bounds-v-i
offset_bounds-v-i c = omega (arith, c.requires.4)

pub bounds-v-i : goal.bounds-v-i
bounds-v-i c = omega (arith, c.requires.4)

pub overflow_add-p : goal.overflow_add-p
overflow_add-p c =
    let number-there : c.loop-i.i < length account_fields = omega (arith, c.requires.3) in
    let next : c.loop-i.p + c.width-w.result ≡ place_of (c.loop-i.i + 1) = let k = c.loop-i in
    omega (arith, c.width-w.ensures, k.invariant.1, place-next k.i (number-there)) in
    let bytes-there : c.loop-i.p + c.width-w.result ≤ length c.args.image.now = omega (arith, next, place-most (c.loop-i.i + 1), c.requires.0) in
    omega (arith, bytes-there)

pub shape_of-v : goal.shape_of-v
shape_of-v c = c.loop-i.invariant.0
