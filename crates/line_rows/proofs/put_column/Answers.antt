-- By the column. Assumes nothing.
use Rattle.line_rows.proofs.Texts.{with-sign, without_sign}
use Rattle.line_rows.proofs.put_column.Goals as goal

pub returns-then-is_signed : goal.returns-then-is_signed
returns-then-is_signed c =
    let p = c.put_signed.ensures in
    record { put = rw (with-sign c.args.column c.args.v c.is_signed.ensures c.if-is_signed.true) p.put; upper_bound = p.upper_bound }

pub returns : goal.returns
returns c =
    let p = c.put_decimal.ensures in
    record { put = rw (without_sign c.args.column c.args.v c.is_signed.ensures c.if-is_signed.false) p.put; upper_bound = p.upper_bound }
