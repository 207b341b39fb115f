-- What became of the line, and then its remark. Assumes nothing.
use mathlib.Core.Path.{◌≡◌}
use lib.ListN.{length}
use borrow.Author.Rules.{rules}
use Rattle.writer.proofs.Calls.{line-typed}
use Rattle.writer.proofs.type_line.Goals as goal

pub say_remark-told-requires : goal.say_remark-told-requires
say_remark-told-requires c =
    let thirteen : length c.read_line-line.result.entry.values ≡ 13 = search rules in
    thirteen

pub returns : goal.returns
returns c = let line = c.read_line-line.ensures in
    let args = c.args in let m = line-typed args.t args.number args.text.now (length args.out.now) args.out.now line c.enter-e.ensures.result
    c.enter-e.ensures.buffer
    c.say_remark-told.ensures
    in record { typist = m.0; bytes = m.1.0; «record» = m.1.1.0; remark = m.1.1.1 }
