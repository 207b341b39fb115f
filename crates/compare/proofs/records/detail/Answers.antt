use Rattle.account.specs.declared.sort.Sort.TheVariants.{Opens, Heads, OfGroup, OfFarm, Closes}
use Rattle.compare.proofs.SameBytes.{detail-by}
use Rattle.compare.proofs.records.detail.Goals as goal

pub returns-in-OfGroup : goal.returns-in-OfGroup
returns-in-OfGroup c = let s = c in
    detail-by _ OfGroup _ s.args.r.now s.sort_of.ensures s.row_of-row.ensures c.in-OfGroup.is

pub returns-in-OfFarm : goal.returns-in-OfFarm
returns-in-OfFarm c = let s = c in
    detail-by _ OfFarm _ s.args.r.now s.sort_of.ensures s.row_of-row.ensures c.in-OfFarm.is

pub returns-in-Opens : goal.returns-in-Opens
returns-in-Opens c = let s = c in
    detail-by _ Opens _ s.args.r.now s.sort_of.ensures s.row_of-row.ensures c.in-Opens.is

pub returns-in-Heads : goal.returns-in-Heads
returns-in-Heads c = let s = c in
    detail-by _ Heads _ s.args.r.now s.sort_of.ensures s.row_of-row.ensures c.in-Heads.is

pub returns-in-Closes : goal.returns-in-Closes
returns-in-Closes c = let s = c in
    detail-by _ Closes _ s.args.r.now s.sort_of.ensures s.row_of-row.ensures c.in-Closes.is
