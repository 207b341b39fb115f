-- Refused for a value out of its range, or judged as its record. Assumes nothing.
use Prim.Native.Nat.{ℕ, ◌+◌, ◌≤◌}
use mathlib.Core.Path.{◌≡◌, sym, ap, ◌∙◌}
use native.Mathlib.Omega.{arith}
use lib.ListN.{length, take, replicate}
use lib.Seq.{length-sets}
use Rattle.codec.specs.Table.{length_of}
use Rattle.codec.specs.Codec.{record_bytes}
use Rattle.codec.proofs.Rows.{length_most}
use Rattle.account.proofs.Told.{outside-tells}
use Rattle.codec.proofs.Round.{record-length}
use Rattle.by_row.proofs.FieldByField.{position_given, no_position}
use Rattle.make_record.proofs.AsRecord.{at-start, whole, told}
use Rattle.make_record.proofs.kinds.weighed.Goals as goal

pub weigh-requires : goal.weigh-requires
weigh-requires c = (position_given _ (sym c.in-Some.is ∙ c.first_bad.ensures)).1

pub returns-in-Some : goal.returns-in-Some
returns-in-Some c =
    let bad = position_given _ (sym c.in-Some.is ∙ c.first_bad.ensures) in
    outside-tells _ _ _ _ _ bad.1 bad.0 c.weigh.ensures

pub write-requires : goal.write-requires
write-requires c = let s = c in (omega (arith, length_most s.args.row), s.requires.2)

pub slice_bounds-r-end : goal.slice_bounds-r-end
slice_bounds-r-end c =
    let fits : 2 + length_of c.args.row ≤ 28 = omega (arith, length_most c.args.row) in
    let as_long : length c.write.new.out ≡ 28 = ap length c.write.ensures
    ∙ length-sets {A = ℕ} (replicate 28 0) 0 (record_bytes c.args.row c.args.v.now) in
    omega (arith, fits, as_long, c.bytes_of-n.ensures)

pub slice_bounds-judge-end : goal.slice_bounds-judge-end
slice_bounds-judge-end c =
    let fits : 2 + length_of c.args.row ≤ 28 = omega (arith, length_most c.args.row) in
    let record-lent : take c.bytes_of-n.result c.write.new.out
    ≡ record_bytes c.args.row c.args.v.now = at-start c.args.row c.args.v.now (replicate 28 0) (fits) c.write.ensures c.bytes_of-n.ensures in
    c.bytes_of-n.ensures ∙ sym (record-length c.args.row c.args.v.now) ∙ sym (ap length (record-lent))

pub judge-requires : goal.judge-requires
judge-requires c =
    let fits : 2 + length_of c.args.row ≤ 28 = omega (arith, length_most c.args.row) in
    let record-lent : take c.bytes_of-n.result c.write.new.out
    ≡ record_bytes c.args.row c.args.v.now = at-start c.args.row c.args.v.now (replicate 28 0) (fits) c.write.ensures c.bytes_of-n.ensures in
    let p = c.requires in
    (p.0, p.1, whole _ _ p.2 (record-lent))

pub returns-in-None : goal.returns-in-None
returns-in-None c =
    let fits : 2 + length_of c.args.row ≤ 28 = omega (arith, length_most c.args.row) in
    let record-lent : take c.bytes_of-n.result c.write.new.out
    ≡ record_bytes c.args.row c.args.v.now = at-start c.args.row c.args.v.now (replicate 28 0) (fits) c.write.ensures c.bytes_of-n.ensures in
    let b = c in
    let e = b in
    let p = e.requires in
    told _ _ p.2 (record-lent) _ (no_position _ (sym c.in-None.is ∙ c.first_bad.ensures)) c.judge.ensures
