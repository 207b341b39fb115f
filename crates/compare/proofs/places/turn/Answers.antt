use borrow.Author.Rules.{rules}
use Rattle.compare.proofs.Entries.{turned_none, none_written, turned_on, turned-lines}
use Rattle.compare.proofs.places.turn.Goals as goal

pub next_record-t-requires : goal.next_record-t-requires
next_record-t-requires c = let s = c in (s.requires.0, search rules)

pub returns-then-t-next : goal.returns-then-t-next
returns-then-t-next c = let n = c in
    let s = n in record {
      turned = turned_none s.args.a _ _ n.next_record-t.ensures.result s.requires.0 c.if-t-next.true;
      written = none_written _ _ _;
    }

pub returns : goal.returns
returns c = let n = c in
    let s = n in
    let t = n.next_record-t.ensures in
    record {
      turned = turned_on s.args.a _ _ t.result s.requires.0 c.if-t-next.false t.inside.2;
      written = turned-lines s.args.a _ _ t.result s.requires.0 c.if-t-next.false _ _ t.lines;
    }
