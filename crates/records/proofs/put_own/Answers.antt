-- Cell after cell. Assumes nothing.
use native.Mathlib.Omega.{arith}
use Rattle.printing.proofs.Puts.{and-then}
use Rattle.names.specs.Names.{kind_name}
use Rattle.records.specs.Table.{figures_text, group_text, place_text}
use Rattle.records.proofs.Texts.{put_as, own-text}
use Rattle.records.proofs.put_own.Goals as goal

pub returns : goal.returns
returns c = let c2 = c in
    let c6 = c2 in
    let c10 = c6 in
    let c14 = c10 in
    let c18 = c14 in
    let c22 = c18 in
    let c27 = c22 in
    let p = c22.put_place-bytes.ensures in
    let n = c18.put_name-name.ensures in
    let g = c14.put_group-group.ensures in
    let b = c10.put_byte-comma.ensures in
    let t = c6.put_text-end.ensures in
    let f = c2.put_line.ensures in
    let x = c27.args.x in
    let line = c27.args.line.now in record {
      put = put_as (own-text (place_text x.number x.first x.last) (kind_name x.row) (group_text x.row x.group line) c27.args.typed.now
          (figures_text line)) (and-then p.put (and-then n.put (and-then g.put (and-then b (and-then t f.put)))));
      upper_bound = omega (arith, p.result_bound, n.upper_bound, g.result_bound, b.next, t.next, f.upper_bound, c27.requires.2);
    }
