-- The lines that a call writes, as text. Assumes nothing.
use native.Mathlib.Omega.{arith}
use mathlib.Core.Path.{sym, refl}
use borrow.Author.Rules.{rules}
use lib.ListN.{length-take}
use lib.Seq.{length-take-le}
use Rattle.lister.proofs.Lines.{lists}
use Rattle.lister.proofs.list_by.Goals as goal

pub slice_bounds-put_lines-end-2 : goal.slice_bounds-put_lines-end-2
slice_bounds-put_lines-end-2 c = sym (length-take-le _ _ (search rules))

pub put_lines-written-requires : goal.put_lines-written-requires
put_lines-written-requires c = let t = length-take c.feed-fed.result.written c.feed-fed.new.out in
    omega (arith, t, c.feed-fed.ensures.counts.1, c.requires)

pub returns : goal.returns
returns c = let lines = c.args.lines.now in
    record {
      lists = lists _ _ _ lines refl c.feed-fed.ensures.result c.feed-fed.ensures.lines c.put_lines-written.ensures;
      taken_in_bounds = c.feed-fed.ensures.counts.0;
    }
