-- Both numbers of an estimate, else dashes. Assumes nothing.
use Rattle.printing.proofs.Puts.{and-then}
use Rattle.whatif.proofs.Showing.{put_both}
use Rattle.whatif.proofs.put_compared.Goals as goal

pub returns-clause-put : goal.returns-clause-put
returns-clause-put c =
    put_both c.args.s c.args.before c.if-s-ne0.false
    (and-then c.put_spaced_shown-kg.ensures.put (and-then c.put_byte-space.ensures c.put_difference.ensures.put))
