use mathlib.Core.Path.{◌≡◌}
use Rattle.names.specs.Names.{decimals_table, decimals_at}
use Rattle.names.proofs.Lines.{few-decimals}
use Rattle.names.proofs.decimals.Goals as goal

pub returns : goal.returns
unfolding decimals_table
returns c =
    let e : c.digit_at.result ≡ decimals_at c.args.kind c.args.i = rw c.line_of-digits.ensures at c.digit_at.ensures in
    record { value = e; upper_bound = rw e (few-decimals c.args.kind c.args.i) }
