use Rattle.std.proofs.Common.{rules}
use Rattle.printing.proofs.Texts.{said-behind}
use Rattle.retype.proofs.put_kind.Goals as goal

pub returns : goal.returns
returns c = let whole = c.say_kind.ensures in
    let same = whole.same in
    said-behind whole c.behind-text.ensures.buffer c.behind-text.ensures.len (search rules)
