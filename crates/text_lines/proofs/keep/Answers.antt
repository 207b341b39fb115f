-- What has room is put behind what is kept. Assumes nothing.
use Rattle.text_lines.proofs.Steps.{no_room, room_fits, kept-behind}
use Rattle.text_lines.proofs.keep.Goals as goal

pub returns-then-left-eq0 : goal.returns-then-left-eq0
returns-then-left-eq0 c =
    let e = no_room c.args.line.now c.args.more.now c.args.len c.room_for-left.ensures c.if-left-eq0.true in
    record { value = e.0; line_after = e.1 }

pub put_text-requires : goal.put_text-requires
put_text-requires c = room_fits c.args.line.now c.args.more.now c.args.len c.room_for-left.ensures c.at_most.ensures c.if-left-eq0.false

pub returns : goal.returns
returns c =
    let e = kept-behind c.args.line.now c.args.more.now c.args.len c.room_for-left.ensures c.at_most.ensures c.put_text.ensures in
    record { value = e.0; line_after = e.1 }
