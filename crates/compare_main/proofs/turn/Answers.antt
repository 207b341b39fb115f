-- Assumes nothing.
use mathlib.Core.Path.{sym}
use native.Mathlib.Omega.{arith}
use lib.Seq.{length-take-le}
use Rattle.compare_main.proofs.turn.Goals as goal

pub slice_bounds-send-end-2 : goal.slice_bounds-send-end-2
slice_bounds-send-end-2 g c = let s = c.next-s.ensures.said in sym (length-take-le _ _ (omega (arith, s.put.room, s.long)))
