-- A farm record of version 2, or no version that there is. Assumes nothing.
use native.Mathlib.Omega.{arith}
use Rattle.codec.specs.Table.{table, size, last_row}
use Rattle.account.specs.Told.{Kind}
use Rattle.account.proofs.Told.{wrong-version, wrong-length, right-length}
use Rattle.rules.proofs.ByVersion.{no-version, second-version}
use Rattle.rules.proofs.by_version.Goals as goal

pub returns-then-version-kind : goal.returns-then-version-kind
returns-then-version-kind c = let s = c in
    wrong-version _ _ _ _ (no-version s.args.r.now s.requires.3 c.if-version-kind.true) c.wrong.ensures

pub returns-then-r-bytes_of : goal.returns-then-r-bytes_of
unfolding table size
returns-then-r-bytes_of c =
    let eleven : Kind last_row c.args.r.now = second-version c.args.r.now c.requires.2 c.if-version-kind.false in
    let b = c in
    wrong-length _ last_row _ _ (eleven) (omega (arith, b.bytes_of.ensures)) _ _ c.if-r-bytes_of.true c.wrong-then-r-bytes_of.ensures

pub read-requires : goal.read-requires
unfolding table size
read-requires c = omega (arith, c.if-r-bytes_of.false, c.bytes_of.ensures)

pub returns : goal.returns
unfolding table size
returns c =
    let eleven : Kind last_row c.args.r.now = second-version c.args.r.now c.requires.2 c.if-version-kind.false in
    let b = c in
    rw (
      right-length _ last_row _ _ (eleven) (omega (arith, b.bytes_of.ensures)) c.if-r-bytes_of.false,
      ← c.read.ensures,
    ) c.weigh_factors.ensures

pub bounds-r-2 : goal.bounds-r-2
bounds-r-2 c = omega (arith, c.requires.2)

pub bounds-r-3 : goal.bounds-r-3
bounds-r-3 c = omega (arith, c.requires.2)

pub weigh_factors-requires : goal.weigh_factors-requires
weigh_factors-requires c = let p = c.requires in (p.0, p.1)
