use native.Mathlib.Omega.{arith}
use Rattle.account.proofs.Told.{tells-fit}
use Rattle.book.proofs.RecordRuns.{record-in, record-whole, running_none, ran-ended, ran-end, ran_out, Next, record-inside, ran-full}
use Rattle.book.proofs.RecordRuns.{running-on}
use Rattle.book.proofs.records.judge_all.Goals as goal

pub loop-at-init : goal.loop-at-init
loop-at-init c = running_none _ _ _ c.requires.0

pub shape_of-out-then-account-ge2 : goal.shape_of-out-then-account-ge2
shape_of-out-then-account-ge2 c = c.loop-at.invariant.reading.long

pub returns-then-account-ge2 : goal.returns-then-account-ge2
returns-then-account-ge2 c = let l = c in ran-ended l.requires.1 l.loop-at.invariant c.if-account-ge2.true

pub rest_of-rest-requires : goal.rest_of-rest-requires
rest_of-rest-requires c = c.loop-at.invariant.reading.within

pub shape_of-out-then-n-eq0 : goal.shape_of-out-then-n-eq0
shape_of-out-then-n-eq0 c = c.loop-at.invariant.reading.long

pub returns-then-n-eq0 : goal.returns-then-n-eq0
returns-then-n-eq0 c = let y = c in
    let l = y in
    ran_out l.requires.1 l.loop-at.invariant (rw y.rest_of-rest.ensures at y.ready-n.ensures) c.if-n-eq0.true

pub first_of-record-requires : goal.first_of-record-requires
first_of-record-requires c = let y = c.ready-n.ensures.some (omega (arith, c.if-n-eq0.false)) in record-in _ _ y.0 y.1

pub overflow_sub-out : goal.overflow_sub-out
overflow_sub-out c = c.loop-at.invariant.reading.fits

pub judge-j-requires : goal.judge-j-requires
judge-j-requires c = let y = c in
    let t = y in
    let r = y.ready-n.ensures.some (omega (arith, c.if-n-eq0.false)) in
    (t.loop-at.invariant.reading.range.account, t.if-account-ge2.false, rw c.first_of-record.ensures (record-whole _ _ r.0 r.1))

pub overflow_sub-out-in-loop-at : goal.overflow_sub-out-in-loop-at
overflow_sub-out-in-loop-at c =
    let next : let l = c.loop-at in
    let a = c.args in
    Next a.from a.src.now a.out.now l.out l.account l.at l.w c.ready-n.result c.judge-j.result = let y = c in
    let t = y in
    record {
      running = t.loop-at.invariant;
      still = t.if-account-ge2.false;
      ready = rw y.rest_of-rest.ensures at y.ready-n.ensures;
      some = omega (arith, c.if-n-eq0.false);
      tells = rw (c.first_of-record.ensures, y.rest_of-rest.ensures) at c.judge-j.ensures;
    } in
    (next).running.reading.fits

pub shape_of-out-then-out-w : goal.shape_of-out-then-out-w
shape_of-out-then-out-w c =
    let next : let l = c.loop-at in
    let a = c.args in
    Next a.from a.src.now a.out.now l.out l.account l.at l.w c.ready-n.result c.judge-j.result = let y = c in
    let t = y in
    record {
      running = t.loop-at.invariant;
      still = t.if-account-ge2.false;
      ready = rw y.rest_of-rest.ensures at y.ready-n.ensures;
      some = omega (arith, c.if-n-eq0.false);
      tells = rw (c.first_of-record.ensures, y.rest_of-rest.ensures) at c.judge-j.ensures;
    } in
    (next).running.reading.long

pub returns-then-out-w : goal.returns-then-out-w
returns-then-out-w c =
    let next : let l = c.loop-at in
    let a = c.args in
    Next a.from a.src.now a.out.now l.out l.account l.at l.w c.ready-n.result c.judge-j.result = let y = c in
    let t = y in
    record {
      running = t.loop-at.invariant;
      still = t.if-account-ge2.false;
      ready = rw y.rest_of-rest.ensures at y.ready-n.ensures;
      some = omega (arith, c.if-n-eq0.false);
      tells = rw (c.first_of-record.ensures, y.rest_of-rest.ensures) at c.judge-j.ensures;
    } in
    ran-full (next) c.if-out-w.true

pub write-requires : goal.write-requires
write-requires c =
    let next : let l = c.loop-at in
    let a = c.args in
    Next a.from a.src.now a.out.now l.out l.account l.at l.w c.ready-n.result c.judge-j.result = let y = c in
    let t = y in
    record {
      running = t.loop-at.invariant;
      still = t.if-account-ge2.false;
      ready = rw y.rest_of-rest.ensures at y.ready-n.ensures;
      some = omega (arith, c.if-n-eq0.false);
      tells = rw (c.first_of-record.ensures, y.rest_of-rest.ensures) at c.judge-j.ensures;
    } in
    let x = next in
    (omega (arith, c.if-out-w.false, x.running.reading.fits), (tells-fit x.tells c.if-out-w.false).long)

pub overflow_add-w : goal.overflow_add-w
overflow_add-w c =
    let next : let l = c.loop-at in
    let a = c.args in
    Next a.from a.src.now a.out.now l.out l.account l.at l.w c.ready-n.result c.judge-j.result = let y = c in
    let t = y in
    record {
      running = t.loop-at.invariant;
      still = t.if-account-ge2.false;
      ready = rw y.rest_of-rest.ensures at y.ready-n.ensures;
      some = omega (arith, c.if-n-eq0.false);
      tells = rw (c.first_of-record.ensures, y.rest_of-rest.ensures) at c.judge-j.ensures;
    } in
    let x = (next).running.reading in
    omega (
      arith,
      c.if-out-w.false,
      x.fits,
      x.long,
      c.well_formed,
    )

pub overflow_add-at : goal.overflow_add-at
overflow_add-at c =
    let next : let l = c.loop-at in
    let a = c.args in
    Next a.from a.src.now a.out.now l.out l.account l.at l.w c.ready-n.result c.judge-j.result = let y = c in
    let t = y in
    record {
      running = t.loop-at.invariant;
      still = t.if-account-ge2.false;
      ready = rw y.rest_of-rest.ensures at y.ready-n.ensures;
      some = omega (arith, c.if-n-eq0.false);
      tells = rw (c.first_of-record.ensures, y.rest_of-rest.ensures) at c.judge-j.ensures;
    } in
    omega (
      arith,
      record-inside (next),
      c.well_formed,
    )

pub loop-at-smaller : goal.loop-at-smaller
loop-at-smaller c =
    let next : let l = c.loop-at in
    let a = c.args in
    Next a.from a.src.now a.out.now l.out l.account l.at l.w c.ready-n.result c.judge-j.result = let y = c in
    let t = y in
    record {
      running = t.loop-at.invariant;
      still = t.if-account-ge2.false;
      ready = rw y.rest_of-rest.ensures at y.ready-n.ensures;
      some = omega (arith, c.if-n-eq0.false);
      tells = rw (c.first_of-record.ensures, y.rest_of-rest.ensures) at c.judge-j.ensures;
    } in
    let x = next in omega (arith, record-inside x, x.some)

pub loop-at-preserved : goal.loop-at-preserved
loop-at-preserved c =
    let next : let l = c.loop-at in
    let a = c.args in
    Next a.from a.src.now a.out.now l.out l.account l.at l.w c.ready-n.result c.judge-j.result = let y = c in
    let t = y in
    record {
      running = t.loop-at.invariant;
      still = t.if-account-ge2.false;
      ready = rw y.rest_of-rest.ensures at y.ready-n.ensures;
      some = omega (arith, c.if-n-eq0.false);
      tells = rw (c.first_of-record.ensures, y.rest_of-rest.ensures) at c.judge-j.ensures;
    } in
    running-on (next)
    c.if-out-w.false c.write.ensures

pub shape_of-out : goal.shape_of-out
shape_of-out c = c.loop-at.invariant.reading.long

pub returns : goal.returns
returns c = let p = c.requires in ran-end p.1 c.loop-at.invariant c.loop-at-test.false
