use Prim.Native.Nat.{◌+◌, ◌-◌}
use mathlib.Core.Path.{◌≡◌, refl, sym, ◌∙◌}
use native.Mathlib.Omega.{arith}
use lib.ListN.{length, take}
use lib.Seq.{sets-eq, length-take-le, take_all}
use Rattle.std.proofs.lemmas.Slice.{put_mid-paste}
use Rattle.salvage.proofs.moves.copy.Goals as goal

pub returns : goal.returns
returns c = let a = c.args in
    let new = take a.n a.src.now in
    let long : length new ≡ a.n = length-take-le a.n a.src.now c.requires.0 in
    let put = put_mid-paste a.at (a.at + a.n - a.at) a.out.now _ new (length new) c.copy_from_slice.ensures.after (omega (arith, long)) refl in
    let laid = rw (take_all (length new) new (omega arith)) at put in
    laid ∙ sym (sets-eq new a.out.now a.at (omega (arith, long, c.requires.1)))
