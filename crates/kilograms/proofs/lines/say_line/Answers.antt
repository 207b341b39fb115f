use Rattle.std.proofs.Common.{rules}
use Rattle.printing.proofs.Texts.{said-from-start}
use Rattle.kilograms.proofs.lines.say_line.Goals as goal

pub returns : goal.returns
returns c = let whole = c.tell_line.ensures in
    let same = whole.same in
    said-from-start whole c.new-text.ensures.buffer c.new-text.ensures.empty (search rules)
