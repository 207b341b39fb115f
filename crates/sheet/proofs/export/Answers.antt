-- The plan, the header, and the rows. Assumes nothing.
use mathlib.Core.Path.{sym, ◌∙◌}
use lib.ListN.{length}
use Rattle.sheet.specs.Sheets.{export_of}
use Rattle.sheet.proofs.Held.{err-same}
use Rattle.sheet.proofs.Plans.{promised, kept, put-answer, put-buffer}
use Rattle.sheet.proofs.Exporting.{planned, sheet-put}
use Rattle.sheet.proofs.export.Goals as goal

pub returns-in_err-plan_lines : goal.returns-in_err-plan_lines
returns-in_err-plan_lines c = let a = c.args in
    let p = planned a.lines.now (length a.text.now) _ _ _ c.header_size.ensures c.add-start.ensures c.plan_lines.ensures in
    record {
      value = err-same _ _ c.from_residual.ensures.1 ∙ sym c.in_err-plan_lines.was ∙ p;
      text_after = kept (export_of a.lines.now) a.text.now _ _ p c.in_err-plan_lines.was;
    }

pub returns : goal.returns
returns c = let a = c.args in
    let w = c.write_lines in
    let p = planned a.lines.now (length a.text.now) _ _ _ c.header_size.ensures c.add-start.ensures c.plan_lines.ensures in
    let o = promised (export_of a.lines.now) (length a.text.now) _ _ p c.in_ok-plan_lines.was in
    let put = sheet-put a.lines.now (length a.text.now) o c.put_header-at.ensures w.ensures in
    record {
      value = put-answer (export_of a.lines.now) a.text.now _ w.result o put;
      text_after = put-buffer (export_of a.lines.now) a.text.now _ w.result o put;
    }
