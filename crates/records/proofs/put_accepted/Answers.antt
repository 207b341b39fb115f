-- Its typed line, and its rows. Assumes nothing.
use mathlib.Core.Path.{ap, ◌∙◌}
use native.Mathlib.Omega.{arith}
use lib.ListN.{length}
use Rattle.records.proofs.Texts.{put_as}
use Rattle.records.proofs.Steps.{size-inside, size-least, bytes-long, bytes-typable, typed-some, cell_room, typed-as, rows_as}
use borrow.Author.Rules.{rules}
use Rattle.records.proofs.put_accepted.Goals as goal

pub first_of-requires : goal.first_of-requires
first_of-requires c = let c6 = c in
    let a = c6.args.a in
    let xs = c6.args.rest.now in
    let t = c6.args.t in
    let q = c6.requires.account_in_range.1 in
    let h = c6.requires.account_in_range.2 in
    size-inside a xs t q h

pub describe-x-requires : goal.describe-x-requires
describe-x-requires c = let c7 = c in
    let a = c7.args.a in
    let xs = c7.args.rest.now in
    let t = c7.args.t in
    let q = c7.requires.account_in_range.1 in
    let h = c7.requires.account_in_range.2 in
    let l = ap length c.first_of.ensures ∙ bytes-long a xs t q h in
    (omega (arith, l, size-least a xs t q h), omega (arith, l, size-inside a xs t q h, c7.requires.rest_bound.0))

pub overflow_sub-line : goal.overflow_sub-line
overflow_sub-line c = let c5 = c in
    let c10 = c5 in
    let a = c10.args.a in
    let xs = c10.args.rest.now in
    let t = c10.args.t in
    let q = c10.requires.account_in_range.1 in
    let h = c10.requires.account_in_range.2 in
    let s = typed-some a xs t q h c10.requires.account_in_range.0 c5.retype-line.ensures.retypes (search rules) in
    omega (arith, s)

pub put_entry-requires : goal.put_entry-requires
put_entry-requires c = let c1 = c in
    let c4 = c1 in
    let c5 = c4 in
    let c7 = c5 in
    let c12 = c7 in
    let a = c12.args.a in
    let xs = c12.args.rest.now in
    let t = c12.args.t in
    let q = c12.requires.account_in_range.1 in
    let h = c12.requires.account_in_range.2 in
    let ty = bytes-typable a xs t q h in
    let d = c4.describe-x.ensures in
    let f = c5.first_of.ensures in
    let room = cell_room a xs t q h c12.requires.account_in_range.0 c7.retype-line.ensures.retypes (search rules) c1.first_of-cell.ensures in
    (rw (d.row, f) ty.least, rw (d.row, f) ty.most, room, c12.requires.rest_bound.1)

pub returns : goal.returns
returns c = let c2 = c in
    let c4 = c2 in
    let c7 = c4 in
    let c8 = c7 in
    let c10 = c8 in
    let c15 = c10 in
    let a = c15.args.a in
    let xs = c15.args.rest.now in
    let t = c15.args.t in
    let q = c15.requires.account_in_range.1 in
    let h = c15.requires.account_in_range.2 in
    let e = c2.put_entry.ensures in
    let cell = c4.first_of-cell.ensures ∙ typed-as a xs t q h c15.requires.account_in_range.0 c10.retype-line.ensures.retypes (search rules) in
    let same = rows_as a xs t q h c15.args.at c15.args.lines.now c8.first_of.ensures c7.describe-x.ensures cell in record { put = put_as same e.put; upper_bound = e.upper_bound }
