-- `codec::numbers::be32` meets its contract.
-- Assumes nothing.
use native.Mathlib.Nat.{add-zero}
use native.Mathlib.Omega.{arith}
use Rattle.codec.specs.Codec.{val_at}
use Rattle.codec.proofs.numbers.be32.Goals as goal

pub returns : goal.returns
unfolding val_at
returns c = rw (c.from_be_bytes.ensures, add-zero) (omega arith)
