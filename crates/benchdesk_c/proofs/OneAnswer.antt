-- One answer of bench_parts, which asks nothing (base, specs/Answers). Assumes nothing.
use mathlib.Core.Path.{sym, ◌∙◌}
use Rattle.base.specs.Answers.{AsksNothing, OneAnswerWith}
use Rattle.benchdesk_c.proofs.bench_parts.Kinds as bench
use Rattle.benchdesk_c.proofs.bench_parts.Reads as bench-contract

pub bench-parts-asks-nothing : AsksNothing bench.ps bench-contract.Asked
bench-parts-asks-nothing κs args = tt

-- The number, and the line buffer at the end (the second parameter, lines).
pub one-bench-parts : OneAnswerWith bench.ps bench.r bench-contract.Learnt (λ κs e. e.1.0.now)
one-bench-parts κs args f g e e' p q = (p.0 ∙ sym q.0, p.1 ∙ sym q.1)
