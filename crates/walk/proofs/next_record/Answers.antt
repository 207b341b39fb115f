-- By the stage and the front. Assumes nothing.
use Prim.Native.Nat.{◌≤◌, ◌<◌}
use mathlib.Core.Path.{◌≡◌, refl, sym}
use native.Mathlib.Omega.{arith}
use Rattle.account.proofs.Told.{tells-fit, lines-short}
use Rattle.book.specs.Front.{whole, need, front}
use Rattle.book.proofs.RecordRuns.{record-in, record-whole}
use Rattle.walk.proofs.NextRecords.{next-ended, lines-ended, next-open, lines-open, no_lines, nothing_written, inside-front}
use Rattle.walk.proofs.NextRecords.{next-is, lines_are, next-inside}
use Rattle.walk.proofs.next_record.Goals as goal

pub returns-then-a-ge2 : goal.returns-then-a-ge2
returns-then-a-ge2 c = let a = c.args in
    let h : 2 ≤ a.a.stage = omega arith in
    record {
      result = sym (next-ended a.a a.xs.now h);
      lines = rw (lines-ended a.a a.xs.now h);
      inside = (omega arith, omega arith, c.requires.0);
    }

pub unread-requires : goal.unread-requires
unread-requires c = c.ready-n.ensures.none c.if-n-eq0.true

pub returns-then-n-eq0 : goal.returns-then-n-eq0
returns-then-n-eq0 c = let a = c.args in
    let n = c.ready-n.ensures.none c.if-n-eq0.true in
    let h : a.a.stage < 2 = omega arith in
    rw c.unread.ensures (record {
      result = sym (next-open a.a a.xs.now h);
      lines = rw (lines-open a.a a.xs.now h, no_lines _ a.a a.xs.now n, nothing_written _ a.a a.xs.now n);
      inside = inside-front _ a.a a.xs.now refl n c.requires.0;
    })

pub first_of-requires : goal.first_of-requires
first_of-requires c =
    let here : let a = c.args in
    (front a.xs.now ≡ whole) × (c.ready-n.result ≡ need a.xs.now) = c.ready-n.ensures.some (omega (arith, c.if-n-eq0.false)) in
    record-in _ _ (here).0 (here).1

pub judge-j-requires : goal.judge-j-requires
judge-j-requires c =
    let here : let a = c.args in
    (front a.xs.now ≡ whole) × (c.ready-n.result ≡ need a.xs.now) = c.ready-n.ensures.some (omega (arith, c.if-n-eq0.false)) in (
      c.requires.0,
      omega arith,
      rw c.first_of.ensures (record-whole _ _ (here).0 (here).1),
    )

pub write-requires : goal.write-requires
write-requires c = let t = c.judge-j.ensures in (
  omega (arith, lines-short t, c.requires.1),
  (tells-fit t (lines-short t)).long,
)

pub returns : goal.returns
returns c =
    let here : let a = c.args in
    (front a.xs.now ≡ whole) × (c.ready-n.result ≡ need a.xs.now) = c.ready-n.ensures.some (omega (arith, c.if-n-eq0.false)) in
    let j = c in
    let e = j in
    let a = e.args in
    let t = j.judge-j.ensures in
    let x : a.a.stage < 2 = omega arith in record {
      result = next-is a.a a.xs.now _ _ _ x (here).0 (here).1 j.first_of.ensures t;
      lines = lines_are a.a a.xs.now _ _ _ x (here).0 (here).1 j.first_of.ensures t _ _
          c.write.ensures;
      inside = next-inside a.a a.xs.now _ _ _ x (here).0 (here).1 j.first_of.ensures t
          e.requires.0;
    }
