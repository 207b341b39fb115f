use native.Mathlib.Omega.{arith}
use Rattle.typed_words.proofs.Quotient.{exact, power_small, quotient-nearest}
use Rattle.typed_words.proofs.nearest.Goals as goal

pub int_to_float-result : goal.int_to_float-result
int_to_float-result c = exact c.args.n (omega arith)

pub int_to_float-result-2 : goal.int_to_float-result-2
int_to_float-result-2 c = exact c.pow-power.result (power_small c.requires.k_bound c.pow-power.ensures)

pub returns : goal.returns
returns c = quotient-nearest c.requires.k_bound c.pow-power.ensures c.args.n
    (omega arith)
