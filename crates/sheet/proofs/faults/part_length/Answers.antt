use Prim.Native.Nat.{ℕ, ◌≤◌}
use mathlib.Core.Path.{◌≡◌, refl, sym, ap, ◌∙◌}
use mathlib.Core.Bool.{cond}
use native.Mathlib.Omega.{arith}
use lib.Dec.{ltb}
use lib.ListN.{length}
use borrow.Author.Tests.{ltb-false}
use Rattle.base.proofs.Tests.{by-test}
use Rattle.std.proofs.Common.{rules, tests}
use Rattle.std.proofs.lemmas.Iterator.{YieldsList-from_slice}
use Rattle.std.proofs.lemmas.Iterator.Search.{position_from_yields_List}
use Rattle.std.proofs.lemmas.List.Sums.{prefix_len-le-length}
use Rattle.std.specs.List.{position_or_len}
use Rattle.std.specs.Option.{unwrap_or}
use Rattle.std.specs.declared.option.Option.TheVariants.{Some, None}
use Rattle.sheet.specs.Faults.{ends}
use Rattle.sheet.proofs.Places.{part-as}
use Rattle.sheet.proofs.faults.part_length.Goals as goal

-- none is the end
or-end : (n end : ℕ) → n ≤ end → unwrap_or (cond (ltb n end) (Some n) None) end ≡ n
or-end n end h =
    by-test (ltb n end)
    (λ t. rw t refl)
    (λ f. let o = ltb-false n end f in rw f (omega arith))

pub returns : goal.returns
returns c = let a = c.args in
    let s = a.text.now in
    let n = position_or_len (ends a.cell) s in
    let within : n ≤ length s = prefix_len-le-length _ s in
    let found : c.position.result ≡ cond (ltb n (length s)) (Some n) None =
    position_from_yields_List (ends a.cell) _ _ c.position.result c.position.ensures.ran (YieldsList-from_slice s cc) (λ x b q k. search (rules, tests)) in
    let e = c.unwrap_or.ensures ∙ ap (λ (o : _). unwrap_or o (length s)) found ∙ or-end n (length s) within in
    (e ∙ sym (part-as a.cell s), omega (arith, e, within))
