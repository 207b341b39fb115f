use mathlib.Core.Path.{sym}
use native.Mathlib.Omega.{arith}
use lib.Seq.{length-take-le}
use Rattle.salvage_main.proofs.tell_end.Goals as goal

pub slice_bounds-report-end : goal.slice_bounds-report-end
slice_bounds-report-end g c = let s = c.say_answer-n.ensures in sym (length-take-le _ _ (omega (arith, s.put.room, s.long)))
