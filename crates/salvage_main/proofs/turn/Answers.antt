-- Assumes nothing.
use Prim.Native.Nat.{◌-◌}
use mathlib.Core.Path.{sym}
use native.Mathlib.Omega.{arith}
use lib.ListN.{length, drop, length-drop}
use lib.Seq.{length-take-le}
use Rattle.printing.proofs.Puts.{put-length}
use Rattle.salvage_main.proofs.turn.Goals as goal

pub overflow_add-w : goal.overflow_add-w
overflow_add-w g c = let r = c in
    let i = r in
    let a = i.args in
    let d = length-drop a.w.at a.damaged.now in
    let t = length-take-le (length a.damaged.now - a.w.at) (drop a.w.at a.damaged.now) (omega arith) in
    omega (arith, r.report_lines-r.ensures.taken_in_bounds, i.if-damaged-at.false)

pub slice_bounds-report-end-2 : goal.slice_bounds-report-end-2
slice_bounds-report-end-2 g c = let t = c.report_lines-r.ensures.tells.put in
    sym (length-take-le _ _ (omega (arith, t.room, put-length t)))
