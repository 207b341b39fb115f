-- The difference of the two numbers shown, with its sign. Assumes nothing.
use Rattle.std.proofs.Common.{sym, ◌∙◌}
use Rattle.printing.proofs.Puts.{and-then}
use Rattle.whatif.proofs.Showing.{put-less}
use Rattle.whatif.proofs.put_difference.Goals as goal

pub returns-then-a-b-clause-put : goal.returns-then-a-b-clause-put
returns-then-a-b-clause-put c =
    put-less c.args.after c.args.before (sym c.in-Some-Some.is-0 ∙ c.in_grams.ensures) (sym c.in-Some-Some.is-1 ∙ c.in_grams-2.ensures) c.if-a-b.true
    (and-then c.put_byte-minus.ensures c.put_thousandths.ensures.put)
