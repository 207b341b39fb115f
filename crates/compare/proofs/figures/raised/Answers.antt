-- Assumes nothing.
use mathlib.Core.Bool.{not}
use mathlib.Core.Path.{ap}
use Rattle.compare.proofs.Wordings.{raised-plain, raised-up, raised-down}
use Rattle.compare.proofs.figures.raised.Goals as goal

pub returns-then-not-is_signed : goal.returns-then-not-is_signed
returns-then-not-is_signed c = raised-plain c.args.f c.args.w _ c.is_signed.ensures (ap not c.if-not-is_signed.true)

pub returns-then-w-lt-HALF : goal.returns-then-w-lt-HALF
returns-then-w-lt-HALF c = raised-up c.args.f c.args.w _ c.is_signed.ensures (ap not c.if-not-is_signed.false) c.if-w-lt-HALF.true

pub returns-else-w-lt-HALF : goal.returns-else-w-lt-HALF
returns-else-w-lt-HALF c =
    raised-down c.args.f c.args.w _ c.is_signed.ensures (ap not c.if-not-is_signed.false) c.if-w-lt-HALF.false
