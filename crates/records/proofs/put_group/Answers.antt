-- By the sort of its row. Assumes nothing.
use native.Mathlib.Omega.{arith}
use Rattle.printing.proofs.Puts.{none}
use Rattle.records.proofs.put_group.Goals as goal

pub returns-in-Opens : goal.returns-in-Opens
returns-in-Opens c = let c2 = c in
    let c5 = c2 in
    record { put = rw (← c2.sort_of.ensures, c.in-Opens.is) (none _ _ (omega (arith, c5.requires))); result_bound = omega arith }

pub returns-in-Heads : goal.returns-in-Heads
returns-in-Heads c = let c2 = c in
    let c4 = c2 in
    let c6 = c4 in
    let p = c2.put_decimal.ensures in
    record { put = rw (← c6.sort_of.ensures, c4.in-Heads.is) p.put; result_bound = omega (arith, p.upper_bound) }

pub returns-in-OfGroup : goal.returns-in-OfGroup
returns-in-OfGroup c = let c2 = c in
    let c4 = c2 in
    let c6 = c4 in
    let m = c2.put_line_group.ensures in
    record { put = rw (← c6.sort_of.ensures, c4.in-OfGroup.is) m.put; result_bound = m.result_bound }

pub returns-in-OfFarm : goal.returns-in-OfFarm
returns-in-OfFarm c = let c2 = c in
    let c5 = c2 in
    record { put = rw (← c2.sort_of.ensures, c.in-OfFarm.is) (none _ _ (omega (arith, c5.requires))); result_bound = omega arith }

pub returns-in-Closes : goal.returns-in-Closes
returns-in-Closes c = let c2 = c in
    let c5 = c2 in
    record { put = rw (← c2.sort_of.ensures, c.in-Closes.is) (none _ _ (omega (arith, c5.requires))); result_bound = omega arith }
