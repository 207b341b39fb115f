-- Rule 3 over images: a series of calls on a state's image is the series of calls on the state, so what comes out is what rule 2 gives for the
-- uncut run, and the image left is that of its state.
-- Assumes nothing.
use Prim.Native.Nat.{ℕ}
use mathlib.Core.Path.{◌≡◌, refl, ap, ◌∙◌}
use mathlib.Core.List.{List, [], ◌∷◌}
use native.Mathlib.Omega.{arith}
use lib.ListN.{take, drop, replicate}
use Rattle.book.specs.declared.State.{State}
use Rattle.book.specs.State.{no_record_yet}
use Rattle.book.specs.Run.{outcome, run}
use Rattle.book.specs.Call.{call}
use Rattle.book.specs.Way.{Part, way, Ended}
use Rattle.promises.proofs.RuleThree.{way-is-run}
use Rattle.promises.proofs.StaysInRange.{new-in-range}
use Rattle.image.specs.Image.{image_size, image_of, Possible}
use Rattle.image.specs.Calls.{on_image, after_on, way_on_lem}
use Rattle.image.proofs.Images.{image-zero}
use Rattle.image.proofs.Words.{call-possible}
use Rattle.image.proofs.Calls.{call-is-feed}

-- A series of calls on a state's image: the lines and the bytes left of the series on the state, and the image of the state that this ends in.
pub way-on-image : (ps : List Part) (s : State) (xs : List ℕ) → Possible s → way_on_lem (image_of s) xs ps ≡ on_image (way s xs ps)
unfolding way way_on_lem
way-on-image [] s xs p = refl
way-on-image (q ∷ qs) s xs p =
    let c = call s (take q.offered xs) q.room in
    let f = call-is-feed s (take q.offered xs) q.room p in
    let i = way-on-image qs c.state (drop c.taken xs) (call-possible s (take q.offered xs) q.room p) in
    rw (f.0, f.1) (ap (after_on c) i)

-- Rule 3: a series of calls on an image that is at its end gives the lines of the uncut run, leaves its bytes, and the image of its state.
pub rule-three-on-image : (s : State) (xs : List ℕ) (ps : List Part) → Possible s → Ended (way s xs ps)
    → way_on_lem (image_of s) xs ps ≡ on_image (outcome (run s xs))
rule-three-on-image s xs ps p e = way-on-image ps s xs p ∙ ap on_image (way-is-run s xs ps p.range e)

-- The state before any record is possible, and its image is zeros: so a desk may begin with zeros.
pub new-possible : Possible no_record_yet
new-possible = record { range = new-in-range; word = omega arith }

pub rule-three-from-zeros : (xs : List ℕ) (ps : List Part) → Ended (way no_record_yet xs ps)
    → way_on_lem (replicate image_size 0) xs ps ≡ on_image (outcome (run no_record_yet xs))
rule-three-from-zeros xs ps e = rw (← image-zero) (rule-three-on-image no_record_yet xs ps new-possible e)
