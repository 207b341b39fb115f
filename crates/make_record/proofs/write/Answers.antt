-- The answer, and the record where there is one. Assumes nothing.
use mathlib.Core.Path.{refl, ap, ◌∙◌}
use native.Mathlib.Omega.{arith}
use lib.ListN.{length}
use Rattle.make_record.specs.declared.Written.{Written}
use Rattle.make_record.specs.Write.{row_for}
use Rattle.make_record.proofs.Rows.{of_row}
use Rattle.make_record.proofs.Answers.{Written-so, bytes-so, meets-none, meets-wrote}
use Rattle.make_record.proofs.write.Goals as goal

pub write-requires : goal.write-requires
write-requires c =
    let some_bytes : Written-so c.args.state c.args.kind
    (row_for c.args.kind (length c.args.values.now))
    c.args.values.now (length c.args.out.now) = bytes-so _ _ _ _ _
    (λ e. c.if-w-ne0.true (ap (λ (w : Written). w.written) c.answered-w.ensures ∙ e)) in
    let w = some_bytes in rw c.row_for.ensures (omega (arith, w.fits), of_row _ _ refl w.of)

pub returns-then-w-ne0 : goal.returns-then-w-ne0
returns-then-w-ne0 c =
    let some_bytes : Written-so c.args.state c.args.kind
    (row_for c.args.kind (length c.args.values.now))
    c.args.values.now (length c.args.out.now) = bytes-so _ _ _ _ _
    (λ e. c.if-w-ne0.true (ap (λ (w : Written). w.written) c.answered-w.ensures ∙ e)) in let m = meets-wrote _ _ _ _ _ c.answered-w.ensures
    (some_bytes) (rw c.row_for.ensures at
    c.write.ensures) in record { result = m.0; buffer = m.1.0; count = m.1.1 }

pub returns-else-w-ne0 : goal.returns-else-w-ne0
returns-else-w-ne0 c = let m = meets-none _ _ _ _ _ c.answered-w.ensures c.if-w-ne0.false in record { result = m.0; buffer = m.1.0; count = m.1.1 }
