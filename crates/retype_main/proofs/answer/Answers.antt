-- Assumes nothing.
use Rattle.std.proofs.Common.{refl, arith}
use Rattle.retype_main.proofs.answer.Goals as goal

pub run-last-requires : goal.run-last-requires
run-last-requires g c =
    (record { inside = omega arith; written = refl; more = refl }, c.requires, omega (arith, c.large_buffer-text.ensures))
