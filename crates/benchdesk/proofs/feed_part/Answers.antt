-- The call over the first bytes, part of them at most. Assumes nothing.
use lib.ListN.{length-take}
use lib.Seq.{length-take-le}
use mathlib.Core.Path.{sym}
use native.Mathlib.Omega.{arith}
use borrow.Author.Rules.{rules}
use Rattle.benchdesk.proofs.Calls.{fed-part}
use Rattle.benchdesk.proofs.feed_part.Goals as goal

pub slice_bounds-feed-end : goal.slice_bounds-feed-end
slice_bounds-feed-end c = sym (length-take-le _ _ (search rules))

pub returns : goal.returns
returns c = let f = c in
    let n = f in
    let a = n in
    let p = fed-part _ a.args.rest.now a.args.part _ _ _ n.least-n.ensures f.feed.ensures.result f.feed.ensures.lines in record { value = p.0; out_after = p.1; taken_in_bounds = (omega (arith, f.feed.ensures.counts.0, length-take n.least-n.result a.args.rest.now), f.feed.ensures.counts.1) }
