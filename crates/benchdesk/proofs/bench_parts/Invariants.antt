-- Calls one after the other. Assumes nothing.
use Prim.Native.Nat.{◌-◌}
use lib.ListN.{length}
use Rattle.benchdesk.proofs.Calls.{Going}
use Rattle.benchdesk.proofs.bench_parts.Given as goal

abbrev pub invariant-loop-call : goal.invariant-loop-call
invariant-loop-call l = Going l.book l.initial.lines l.part l.lines (record { account = l.account; held = l.held; count = l.count }) l.i l.w (length l.book - l.call)
