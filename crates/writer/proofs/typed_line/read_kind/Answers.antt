-- A name's kind, or a number. Assumes nothing.
use borrow.Author.Rules.{rules}
use Rattle.writer.specs.Line.{kind_of}
use Rattle.writer.proofs.typed_line.read_kind.Goals as goal

pub returns : goal.returns
unfolding kind_of
returns c = search rules
