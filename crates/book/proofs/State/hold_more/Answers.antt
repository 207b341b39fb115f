use Rattle.book.proofs.Ranges.{holding-more}
use Rattle.book.proofs.State.hold_more.Goals as goal

pub returns : goal.returns
returns c = let s = c in
    rw (c.by_fields-account.ensures, c.put_behind-held.ensures)
    (holding-more s.args.self s.args.rest.now s.requires.0 s.requires.1)
