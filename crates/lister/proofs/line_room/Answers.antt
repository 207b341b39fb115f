use borrow.Author.Tests.{lt-ltb, le-ltb}
use Rattle.lister.proofs.line_room.Goals as goal

pub returns-then-room-lt65536 : goal.returns-then-room-lt65536
returns-then-room-lt65536 c = rw (lt-ltb _ _ c.if-room-lt65536.true)

pub returns : goal.returns
returns c = rw (le-ltb _ _ c.if-room-lt65536.false)
