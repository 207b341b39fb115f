use Prim.Native.Nat.{ℕ}
use mathlib.Core.Path.{◌≡◌, refl, sym, ◌∙◌}
use lib.ListN.{length}
use native.Mathlib.Omega.{arith}
use Rattle.codec.specs.Codec.{be}
use Rattle.codec.proofs.Stores.{put_then}
use Rattle.salvage.specs.Salvage.{entry_bytes}
use Rattle.salvage.proofs.moves.note.Goals as goal

nine : (code number : ℕ) → length (entry_bytes (record { number = number; code = code })) ≡ 9
unfolding be
nine code number = refl

pub put8-requires : goal.put8-requires
put8-requires c = omega (arith, nine c.in-Some.why c.args.number, rw c.in-Some.is at c.requires)

pub put1-requires : goal.put1-requires
put1-requires c = omega (arith, nine c.in-Some.why c.args.number, rw c.in-Some.is at c.requires)

pub returns-in-Some : goal.returns-in-Some
returns-in-Some c =
    rw c.in-Some.is (record { bytes = c.put1.ensures ∙ rw c.put8.ensures (put_then 8 _ _ _ _); count = sym (nine c.in-Some.why c.args.number) })
