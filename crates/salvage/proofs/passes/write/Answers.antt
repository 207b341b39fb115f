use Prim.Native.Nat.{◌+◌, ◌<◌}
use native.Mathlib.Omega.{arith}
use lib.ListN.{drop}
use Rattle.salvage.specs.Inner.{Turned}
use Rattle.salvage.proofs.OnePass.{Writing, writing-on, record-room, note-room, close-room, book-written}
use Rattle.salvage.proofs.OnePass.{list_written, nothing_left, told-most}
use Rattle.salvage.proofs.passes.write.Goals as goal

pub close-requires : goal.close-requires
close-requires c =
    let turned : Turned c.loop-at.s (drop c.loop-at.at c.args.damaged.now) c.turn-t.result = rw c.rest_of-rest.ensures at c.turn-t.ensures in
    let t = c in
    let l = t.loop-at.invariant in
    (l.opened, close-room l ((turned).ended c.if-t-eq0.true))

pub returns-then-t-eq0 : goal.returns-then-t-eq0
returns-then-t-eq0 c =
    let turned : Turned c.loop-at.s (drop c.loop-at.at c.args.damaged.now) c.turn-t.result = rw c.rest_of-rest.ensures at c.turn-t.ensures in
    let t = c in
    let l = t.loop-at.invariant in
    let e = (turned).ended c.if-t-eq0.true in record { clean = book-written l e c.close.ensures; dropped = list_written l e }

pub copy-requires : goal.copy-requires
copy-requires c =
    let turned : Turned c.loop-at.s (drop c.loop-at.at c.args.damaged.now) c.turn-t.result = rw c.rest_of-rest.ensures at c.turn-t.ensures in
    let some : 0 < c.turn-t.result.n = omega (arith, c.if-t-eq0.false) in
    let b = c in
    let t = b in
    let k = t.turn-t.result in (
      rw (b.by_code-k.ensures, t.rest_of-rest.ensures) (omega (arith, told-most k.code k.n, (turned).inside)),
      rw b.by_code-k.ensures (record-room t.loop-at.invariant (turned) (some)),
    )

pub note-v-requires : goal.note-v-requires
note-v-requires c =
    let turned : Turned c.loop-at.s (drop c.loop-at.at c.args.damaged.now) c.turn-t.result = rw c.rest_of-rest.ensures at c.turn-t.ensures in
    let some : 0 < c.turn-t.result.n = omega (arith, c.if-t-eq0.false) in
    let e = c in
    let t = e in
    note-room t.loop-at.invariant (turned) (some)

pub overflow_add-v : goal.overflow_add-v
overflow_add-v c =
    let turned : Turned c.loop-at.s (drop c.loop-at.at c.args.damaged.now) c.turn-t.result = rw c.rest_of-rest.ensures at c.turn-t.ensures in
    let some : 0 < c.turn-t.result.n = omega (arith, c.if-t-eq0.false) in
    let on : let b = c in
    let t = b in
    let l = t.loop-at in
    let a = t.args in
    Writing a.damaged.now a.book.now a.list.now c.copy.new.out c.note-v.new.list
    t.turn-t.result.next (l.at + t.turn-t.result.n) (l.w + b.by_code-k.result) (l.v + c.note-v.result) = let b = c in
    let t = b in
    writing-on t.loop-at.invariant (turned) (some) b.by_code-k.ensures
    (rw t.rest_of-rest.ensures at c.copy.ensures) c.note-v.ensures.bytes c.note-v.ensures.count in
    let m = on in omega (arith, m.listed.room, c.well_formed)

pub loop-at-preserved : goal.loop-at-preserved
loop-at-preserved c =
    let turned : Turned c.loop-at.s (drop c.loop-at.at c.args.damaged.now) c.turn-t.result = rw c.rest_of-rest.ensures at c.turn-t.ensures in
    let some : 0 < c.turn-t.result.n = omega (arith, c.if-t-eq0.false) in
    let on : let b = c in
    let t = b in
    let l = t.loop-at in
    let a = t.args in
    Writing a.damaged.now a.book.now a.list.now c.copy.new.out c.note-v.new.list
    t.turn-t.result.next (l.at + t.turn-t.result.n) (l.w + b.by_code-k.result) (l.v + c.note-v.result) = let b = c in
    let t = b in
    writing-on t.loop-at.invariant (turned) (some) b.by_code-k.ensures
    (rw t.rest_of-rest.ensures at c.copy.ensures) c.note-v.ensures.bytes c.note-v.ensures.count in
    on

pub close-requires-2 : goal.close-requires-2
close-requires-2 c = let l = c.loop-at in
    (l.invariant.opened, close-room l.invariant (nothing_left l.s _ l.at c.loop-at-test.false))

pub returns : goal.returns
returns c = let l = c.loop-at in
    let e = nothing_left l.s _ l.at c.loop-at-test.false in record { clean = book-written l.invariant e c.close-2.ensures; dropped = list_written l.invariant e }
