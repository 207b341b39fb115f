-- One text after the other. Assumes nothing.
use Rattle.std.proofs.Common.{rules}
use Rattle.printing.proofs.Texts.{said-from-start, ◌⟫◌}
use Rattle.records.proofs.say_header.Goals as goal

pub returns : goal.returns
returns c = let whole = let p1 = c in
    let p2 = p1 in
    let p3 = p2 in
    p3.say.ensures ⟫ p2.say-2.ensures ⟫ p1.say-3.ensures in
    let same = whole.same in
    said-from-start whole c.new-text.ensures.buffer c.new-text.ensures.empty (search rules)
