-- The name is put whole. Assumes nothing.
use native.Mathlib.Omega.{arith}
use Rattle.printing.proofs.Puts.{put-length, and-then}
use Rattle.records.proofs.Texts.{name-put, name-end}
use Rattle.records.proofs.put_name.Goals as goal

pub put_byte-requires : goal.put_byte-requires
put_byte-requires c = let c3 = c in
    let c7 = c3 in
    let c10 = c7 in
    let b = c7.put_byte-name.ensures in
    let p = name-put c10.args.row c10.requires.0 c10.requires.1 (omega (arith, c10.requires.2, b.next, put-length b)) c3.put_kind-end.ensures in
    omega (arith, c10.requires.2, b.next, put-length b, put-length p, name-end c10.args.row c10.requires.0 c10.requires.1 p)

pub returns : goal.returns
returns c = let c2 = c in
    let c6 = c2 in
    let c10 = c6 in
    let c13 = c10 in
    let b = c10.put_byte-name.ensures in
    let p = name-put c13.args.row c13.requires.0 c13.requires.1 (omega (arith, c13.requires.2, b.next, put-length b)) c6.put_kind-end.ensures in
    let e = c2.put_byte.ensures in record { put = and-then b (and-then p e); upper_bound = omega (arith, b.next, e.next, name-end c13.args.row c13.requires.0 c13.requires.1 p) }
