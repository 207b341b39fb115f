-- One text after another. Assumes nothing.
use Rattle.std.proofs.Common.{rules}
use Rattle.printing.proofs.Texts.{said-from-start, ◌⟫◌}
use Rattle.writer.specs.Remarks.{verdict_text}
use Rattle.writer.proofs.remarks.say_verdict.Goals as goal

pub returns : goal.returns
unfolding verdict_text
returns c = let whole = c.say_open.ensures ⟫ c.say_left_out.ensures ⟫ c.say_no_close.ensures ⟫ c.say_outcome.ensures
    ⟫ c.say_counts.ensures in
    let same = whole.same in
    said-from-start whole c.new-text.ensures.buffer c.new-text.ensures.empty (search rules)
