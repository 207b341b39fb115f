use mathlib.Core.Path.{◌≡◌}
use lib.ListN.{drop}
use Rattle.sheet.specs.Rows.{read_cell, kind_in}
use Rattle.sheet.proofs.Held.{kind-is}
use Rattle.sheet.proofs.Reading.{one_more, row-malformed, row-outside, row-whole}
use Rattle.sheet.proofs.rows.read_row.Goals as goal

pub loop-j-preserved : goal.loop-j-preserved
loop-j-preserved c = let l = c.loop-j in
    let text = c.args.text.now in
    let column = c.column_of-c in
    let cell = c.read_cell-cell in
    rw (c.is_formed-formed.ensures, c.is_ok-fits.ensures.value, c.unwrap_or.ensures)
    (one_more text _ _ l.formed l.fits l.values l.end l.j column.result cell.result c.end_column-k.result l.invariant
    c.loop-j-test.true column.ensures.value cell.ensures (c.end_column-k.ensures (read_cell column.result (drop l.end text)) cell.ensures))

pub returns-then-not-formed : goal.returns-then-not-formed
returns-then-not-formed c = let l = c.loop-j in
    let a = c.args in
    let kind : c.unwrap_or-kind.result ≡ kind_in (drop a.at a.text.now) = kind-is _ c.unwrap_or-kind.ensures c.unsigned_cell-first.ensures in
    rw (← kind) (row-malformed a.text.now _ _ l.formed l.fits l.values l.end l.j l.invariant c.loop-j-test.false c.if-not-formed.true)

pub returns-then-not-fits : goal.returns-then-not-fits
returns-then-not-fits c = let l = c.loop-j in
    let a = c.args in
    let kind : c.unwrap_or-kind.result ≡ kind_in (drop a.at a.text.now) = kind-is _ c.unwrap_or-kind.ensures c.unsigned_cell-first.ensures in
    rw (← kind) (row-outside a.text.now _ _ l.formed l.fits l.values l.end l.j l.invariant c.loop-j-test.false c.if-not-formed.false
    c.if-not-fits.true)

pub returns : goal.returns
returns c = let l = c.loop-j in
    let a = c.args in
    let kind : c.unwrap_or-kind.result ≡ kind_in (drop a.at a.text.now) = kind-is _ c.unwrap_or-kind.ensures c.unsigned_cell-first.ensures in
    rw (← kind) (row-whole a.text.now _ _ l.formed l.fits l.values l.end l.j l.invariant c.loop-j-test.false c.if-not-formed.false
    c.if-not-fits.false)
