-- The header, the plan, and the lines. Assumes nothing.
use mathlib.Core.Path.{◌≡◌, sym, ap, ◌∙◌}
use Rattle.std.specs.Prelude.{Err}
use Rattle.sheet.specs.Sheets.{import_of, answer, buffer}
use Rattle.sheet.proofs.Held.{err-same}
use Rattle.sheet.proofs.Plans.{promised, kept, put-answer, put-buffer, or-refused, or-some}
use Rattle.sheet.proofs.Plans.{no_header, after-header, header-least, header-inside}
use Rattle.sheet.proofs.import.Goals as goal

pub returns-in_err-from : goal.returns-in_err-from
unfolding answer buffer
returns-in_err-from c = let f = c.after_header in
    let o = or-refused f.result _ _ (sym c.ok_or.ensures.value ∙ c.in_err-from.was) in
    let e : import_of c.args.text.now ≡ _ = no_header _ f.result f.ensures o.0 in
    record { value = rw e (err-same _ _ c.from_residual.ensures.1 ∙ ap Err (sym o.1)); lines_after = rw e }

pub plan_rows-requires : goal.plan_rows-requires
plan_rows-requires c = let f = c.after_header in
    let o = or-some f.result _ _ (sym c.ok_or.ensures.value ∙ c.in_ok-from.was) in
    (header-least _ f.result f.ensures _ o, header-inside _ f.result f.ensures _ o)

pub returns-in_err-plan_rows : goal.returns-in_err-plan_rows
returns-in_err-plan_rows c = let a = c.args in
    let f = c.after_header in
    let e = after-header a.text.now f.result f.ensures _ (or-some f.result _ _ (sym c.ok_or.ensures.value ∙ c.in_ok-from.was)) in
    let p = c.plan_rows in
    record {
      value = rw e (err-same _ _ c.from_residual-in_err-plan_rows.ensures.1 ∙ sym c.in_err-plan_rows.was ∙ p.ensures);
      lines_after = rw e (kept _ a.lines.now _ p.result p.ensures c.in_err-plan_rows.was);
    }

pub write_rows-requires : goal.write_rows-requires
write_rows-requires c = let f = c.after_header in
    let s = or-some f.result _ _ (sym c.ok_or.ensures.value ∙ c.in_ok-from.was) in
    let o = promised _ _ _ c.plan_rows.result c.plan_rows.ensures c.in_ok-plan_rows.was in
    record { from_in_bounds = header-inside _ f.result f.ensures _ s; text_value = o.all; text_in_bounds = o.fits }

pub returns : goal.returns
returns c = let a = c.args in
    let f = c.after_header in
    let e = after-header a.text.now f.result f.ensures _ (or-some f.result _ _ (sym c.ok_or.ensures.value ∙ c.in_ok-from.was)) in
    let w = c.write_rows in
    let o = promised _ _ _ c.plan_rows.result c.plan_rows.ensures c.in_ok-plan_rows.was in
    record { value = rw e (put-answer _ a.lines.now _ w.result o w.ensures); lines_after = rw e (put-buffer _ a.lines.now _ w.result o w.ensures) }
