-- The text begins with the header, or not. Assumes nothing.
use native.Mathlib.Omega.{arith}
use Rattle.sheet.proofs.Plans.{header-fits}
use Rattle.sheet.proofs.after_header.Goals as goal

pub put_header-n-requires : goal.put_header-n-requires
put_header-n-requires c = omega (arith, header-fits)
