-- The header, then the rows. Assumes nothing.
use Rattle.std.proofs.Common.{arith}
use Rattle.records_main.proofs.answer.Goals as goal

pub run-last-requires : goal.run-last-requires
run-last-requires g c =
    let e = c.begin-start.ensures in
    (record { inside = omega (arith, e.0); more = e.1 }, c.requires, omega (arith, c.large_buffer-text.ensures))
