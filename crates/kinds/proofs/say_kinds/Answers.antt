use Rattle.std.proofs.Common.{rules}
use Rattle.printing.proofs.Texts.{said-from-start}
use Rattle.kinds.proofs.say_kinds.Goals as goal

pub returns : goal.returns
returns c = let whole = c.tell_kinds.ensures in
    let same = whole.same in
    said-from-start whole c.new-text.ensures.buffer c.new-text.ensures.empty (search rules)
