-- One text after another. Assumes nothing.
use Rattle.std.proofs.Common.{rules}
use Rattle.printing.proofs.Texts.{said-from-start, ◌⟫◌}
use Rattle.writer.specs.Remarks.{end_remark}
use Rattle.writer.proofs.remarks.say_end_remark.Goals as goal

pub returns : goal.returns
unfolding end_remark
returns c = let whole = rw (c.run_ended.ensures, c.kind_written.ensures) at (c.say_run.ensures ⟫ c.say_ended.ensures) in
    let same = whole.same in
    said-from-start whole c.new-text.ensures.buffer c.new-text.ensures.empty (search rules)
