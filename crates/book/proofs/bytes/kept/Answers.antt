use mathlib.Core.Path.{ap, ◌∙◌}
use mathlib.Core.List.{List, ◌++◌}
use Prim.Native.Nat.{ℕ}
use lib.ListN.{take, drop, replicate}
use Rattle.book.proofs.MovedBytes.{zeros_left}
use Rattle.book.proofs.bytes.kept.Goals as goal

pub returns : goal.returns
returns c =
    ap (λ (xs : List ℕ). xs ++ drop c.args.n (replicate 27 0)) c.copy_from_slice.ensures.after
    ∙ ap (λ (zs : List ℕ). take c.args.n c.args.s.now ++ zs) (zeros_left c.args.n 27)
