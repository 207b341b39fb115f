-- `codec::numbers::be64` meets its contract: two numbers of four bytes.
-- Assumes nothing.
use Prim.Native.Nat.{◌+◌, ◌<◌}
use native.Mathlib.Omega.{arith}
use borrow.Author.Rules.{rules}
use Rattle.codec.specs.Codec.{bytes_hold, Bytes}
use Rattle.codec.proofs.BigEndian.{val_at-lt, eight-bytes}
use Rattle.codec.proofs.numbers.be64.Goals as goal

pub be32-high-requires : goal.be32-high-requires
unfolding bytes_hold
be32-high-requires c = search rules

pub overflow_add-at : goal.overflow_add-at
unfolding bytes_hold
overflow_add-at c = search rules

pub be32-low-requires : goal.be32-low-requires
unfolding bytes_hold
be32-low-requires c = search rules

pub overflow_mul-result : goal.overflow_mul-result
unfolding bytes_hold
overflow_mul-result c =
    let bytes : Bytes c.args.s.now = λ i. omega (arith, c.type_inv.s i) in
    let short : c.be32-high.result < 4294967296 = omega (arith, c.be32-high.ensures, val_at-lt c.args.s.now (bytes) c.args.at 4) in
    let h = short in omega arith

pub overflow_add-result : goal.overflow_add-result
unfolding bytes_hold
overflow_add-result c =
    let bytes : Bytes c.args.s.now = λ i. omega (arith, c.type_inv.s i) in
    let short : c.be32-high.result < 4294967296 = omega (arith, c.be32-high.ensures, val_at-lt c.args.s.now (bytes) c.args.at 4) in
    let h = short in
    let s = c in
    omega (arith, c.be32-low.ensures, val_at-lt s.args.s.now (bytes) (s.args.at + 4) 4)

pub returns : goal.returns
unfolding bytes_hold
returns c = eight-bytes _ _ _ _ c.be32-high.ensures c.be32-low.ensures
