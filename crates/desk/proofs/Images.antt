-- The numbers that the C program gets for a call on an image: few enough bytes are written, whatever the image.
-- Assumes nothing.
use Prim.Native.Nat.{ℕ, ◌+◌, ◌*◌, ◌^◌, ◌<◌}
use mathlib.Core.Path.{◌≡◌}
use mathlib.Core.List.{List}
use mathlib.Core.Bool.{Bool}
use native.Mathlib.Omega.{arith}
use lib.ListN.{length}
use lib.Dec.{eqb}
use Rattle.base.specs.Choice.{pick}
use Rattle.base.proofs.Tests.{by-test}
use Rattle.image.specs.declared.Called.{Called}
use Rattle.image.specs.Image.{image_size, state_in, is_image}
use Rattle.image.specs.Calls.{call_on, called_of, answer_code}
use Rattle.image.proofs.Images.{image-parts}
use Rattle.image.proofs.Calls.{call-image, call_none}
use Rattle.desk.specs.Desk.{call_number, start_number}
use Rattle.desk.proofs.Sizes.{call-few}

pub written-few : (image xs : List ℕ) (room : ℕ) → length (call_on image xs room).bytes < 2 ^ 32
written-few image xs room =
    by-test (is_image image)
    (λ e. rw (call-image image xs room e) (omega (arith, call-few (state_in image) xs room (image-parts image e).range)))
    (λ e. rw (call_none image xs room e) (omega arith))

pub called-few : {r : Called} (image xs : List ℕ) (room : ℕ) → r ≡ called_of (call_on image xs room) → r.written < 2 ^ 32
called-few image xs room e = rw e (written-few image xs room)

pub is-call-number : {r : Called} {code : ℕ} (image xs : List ℕ) (room : ℕ) → r ≡ called_of (call_on image xs room) → code ≡ answer_code r.answer
    → code * 2 ^ 32 + r.written ≡ call_number (call_on image xs room)
is-call-number image xs room e k = rw (k, e)

pub is-start-number : (image : List ℕ) {b : Bool} → eqb (length image) image_size ≡ b → pick b 0 (13 * 2 ^ 32) ≡ start_number image
is-start-number image e = rw e
