-- Each turn goes on with the series. Assumes nothing.
use Rattle.std.proofs.Common.{◌-◌, ◌≡◌, length}
use Rattle.records_main.proofs.Turns.{Running}
use Rattle.records_main.proofs.run.Given as goal

abbrev pub invariant-loop : goal.invariant-loop
invariant-loop g l = (length l.text ≡ length l.initial.text) × Running l.book l.initial.w l.w (131072 - l.counter)
