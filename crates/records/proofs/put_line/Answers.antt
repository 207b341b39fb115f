-- By whether a whole line stands there. Assumes nothing.
use native.Mathlib.Omega.{arith}
use Rattle.line_rows.proofs.Texts.{size-least}
use Rattle.records.proofs.Texts.{figures-none}
use Rattle.records.proofs.put_line.Goals as goal

pub returns-then-line-lt-LINE_SIZE : goal.returns-then-line-lt-LINE_SIZE
returns-then-line-lt-LINE_SIZE c = let none = c in
    let short = none in
    let line = short.args.line.now in
    let p = none.put_none.ensures in record { put = rw (figures-none line (omega (arith, size-least line, short.if-line-lt-LINE_SIZE.true))) p.put; upper_bound = p.upper_bound }

pub returns-then-line-front_size : goal.returns-then-line-front_size
returns-then-line-front_size c = let none = c in
    let short = none in
    let size = short in
    let line = size.args.line.now in
    let p = none.put_none-then-line-front_size.ensures in record { put = rw (figures-none line (omega (arith, size.front_size.ensures, short.if-line-front_size.true))) p.put; upper_bound = p.upper_bound }
