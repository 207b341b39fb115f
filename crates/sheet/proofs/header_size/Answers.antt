-- The header fits where a row does. Assumes nothing.
use native.Mathlib.Omega.{arith}
use Rattle.sheet.proofs.Plans.{header-fits}
use Rattle.sheet.proofs.header_size.Goals as goal

pub put_header-requires : goal.put_header-requires
put_header-requires c = omega (arith, header-fits)
