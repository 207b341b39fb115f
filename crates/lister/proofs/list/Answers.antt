-- A call with a line buffer whose text has room. Assumes nothing.
use mathlib.Core.Path.{sym, ◌∙◌}
use lib.ListN.{length}
use lib.Seq.{length-take-le}
use Rattle.lister.proofs.Lines.{room_most, room_fits, lists_at}
use Rattle.lister.proofs.list.Goals as goal

pub slice_bounds-lines-end : goal.slice_bounds-lines-end
slice_bounds-lines-end c = room_most (length c.args.out.now) _ c.line_room-n.ensures

pub slice_bounds-list_by-end : goal.slice_bounds-list_by-end
slice_bounds-list_by-end c = sym (length-take-le _ _ (room_most (length c.args.out.now) _ c.line_room-n.ensures))

pub list_by-requires : goal.list_by-requires
list_by-requires c = let n = length c.args.out.now in
    room_fits n c.line_room-n.result _ c.line_room-n.ensures (length-take-le _ _ (room_most n _ c.line_room-n.ensures))

pub returns : goal.returns
returns c = let n = length c.args.out.now in
    let e = length-take-le _ _ (room_most n _ c.line_room-n.ensures) ∙ c.line_room-n.ensures in
    record { lists = lists_at _ _ _ _ _ e c.list_by.ensures.lists; taken_in_bounds = c.list_by.ensures.taken_in_bounds }
