-- A reading of no book has no more records. Assumes nothing.
use mathlib.Core.Path.{sym, refl, ◌∙◌}
use native.Mathlib.Omega.{arith}
use Rattle.printing.proofs.Puts.{none}
use Rattle.salvage.specs.Lines.{told_by}
use Rattle.salvage.proofs.LinesInParts.{usable-open, usable-numbers}
use Rattle.salvage.proofs.lines.report_lines.Goals as goal

pub returns-then-not-is_usable : goal.returns-then-not-is_usable
unfolding told_by
returns-then-not-is_usable c = let out = sym c.is_usable.ensures ∙ c.if-not-is_usable.true in record { tells = rw out (record { reading = refl; taken = refl; more = refl; put = none _ 0 (omega arith) }); taken_in_bounds = omega arith }

pub report_some-requires : goal.report_some-requires
unfolding told_by
report_some-requires c = let i = c in
    let u = sym i.is_usable.ensures ∙ i.if-not-is_usable.false in
    let s = c in
    (usable-open s.args.from s.args.xs.now u, usable-numbers s.args.from s.args.xs.now u)

pub returns : goal.returns
unfolding told_by
returns c = let t = c in
    let i = t in
    let inside = sym i.is_usable.ensures ∙ i.if-not-is_usable.false in
    rw inside t.report_some.ensures
