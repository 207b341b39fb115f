-- `image::write::put_held` meets its contract: 27 bytes at the front.
-- Assumes nothing.
use Prim.Native.Nat.{ℕ}
use mathlib.Core.Path.{◌≡◌, sym, ap, ◌∙◌}
use mathlib.Core.List.{List, ◌++◌}
use native.Mathlib.Omega.{arith}
use borrow.Author.Rules.{rules}
use lib.ListN.{length, drop}
use lib.Seq.{length-take-le}
use Rattle.codec.proofs.Stores.{sets-at}
use Rattle.image.proofs.write.put_held.Goals as goal

pub slice_bounds-copy_from_slice-end-2 : goal.slice_bounds-copy_from_slice-end-2
slice_bounds-copy_from_slice-end-2 c = sym (length-take-le 27 c.args.image.now (omega (arith, c.requires)))

pub copy_from_slice-requires : goal.copy_from_slice-requires
copy_from_slice-requires c =
    let places : length c.args.held ≡ 27 = search rules in
    length-take-le 27 c.args.image.now (omega (arith, c.requires)) ∙ sym places

pub returns : goal.returns
returns c =
    let places : length c.args.held ≡ 27 = search rules in
    ap (λ (xs : List ℕ). xs ++ drop 27 c.args.image.now) c.copy_from_slice.ensures.after
    ∙ sym (sets-at 27 c.args.held c.args.image.now 0 places (omega (arith, c.requires)))
