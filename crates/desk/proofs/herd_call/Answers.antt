use mathlib.Core.Path.{ap}
use native.Mathlib.Omega.{arith}
use Rattle.image.specs.declared.Called.{Called}
use Rattle.desk.proofs.Images.{called-few, is-call-number}
use Rattle.desk.proofs.herd_call.Goals as goal

pub overflow_mul-result : goal.overflow_mul-result
overflow_mul-result c = omega (arith, c.code_of-code.ensures.1)

pub overflow_add-result : goal.overflow_add-result
overflow_add-result c = omega (arith, c.code_of-code.ensures.1, called-few _ _ _ c.call-called.ensures.result)

pub returns : goal.returns
returns c = let e = c.call-called.ensures in record { number = is-call-number _ _ _ e.result c.code_of-code.ensures.0; taken = ap (λ (r : Called). r.taken) e.result; image = e.image; lines = e.lines }
