use Rattle.std.proofs.Common.{rules}
use Rattle.printing.proofs.Texts.{said-behind}
use Rattle.salvage.proofs.Reading.put_line.Goals as goal

pub returns : goal.returns
returns c = let whole = c.say_line.ensures in
    let same = whole.same in
    said-behind whole c.behind-text.ensures.buffer c.behind-text.ensures.len (search rules)
