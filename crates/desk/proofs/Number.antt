-- The herd desk's number: how the code makes it, and that code and count can be read back from it.
use Prim.Native.Nat.{ℕ, ◌+◌, ◌-◌, ◌*◌, ◌^◌, ◌/◌, ◌%◌}
use mathlib.Core.Path.{◌≡◌, refl}
use mathlib.Core.List.{List}
use native.Mathlib.Omega.{arith}
use lib.ListN.{length, get_or, replicate}
use Rattle.book.specs.declared.Answer.{Answer}
use Rattle.book.specs.declared.Answer.TheVariants.{More, Full, Closed, Refused}
use Rattle.book.specs.State.{no_record_yet}
use Rattle.book.specs.Call.{numbers, call}
use Rattle.image.specs.declared.Called.{Called}
use Rattle.image.specs.Image.{image_size}
use Rattle.image.specs.Calls.{call_on, called_of}
use Rattle.image.proofs.Images.{image-zero}
use Rattle.image.proofs.Calls.{call-is-feed}
use Rattle.image.proofs.Ways.{new-possible}
use Rattle.desk.specs.Desk.{desk_code, desk_call, desk_number}
use Rattle.desk.proofs.Sizes.{written-fits}

-- a call on an image of zeros is the call from no record
pub from-zeros : (xs : List ℕ) (room : ℕ) → call_on (replicate image_size 0) xs room ≡ call no_record_yet xs room
from-zeros xs room = rw (← image-zero) (call-is-feed no_record_yet xs room new-possible).0

pub is_number : {r : Called} {code : ℕ} (xs : List ℕ) (room : ℕ) → r ≡ called_of (call_on (replicate image_size 0) xs room)
    → code ≡ desk_code r.answer (length xs - r.taken) → code * 2 ^ 32 + r.written ≡ desk_number xs room
is_number xs room e k = rw (k, e, from-zeros xs room)

-- the code is the number that the book's own definition gives the answer, but for 18
pub code_is : (a : Answer) → desk_code a 0 ≡ get_or (numbers a) 0 0
code_is Closed = refl
code_is Full = refl
code_is More = refl
code_is (Refused r) = refl

module _ (xs : List ℕ) (room : ℕ) where
  -- the code is read back by dividing by 2^32, and the bytes written are what is left
  pub code-back : desk_number xs room / 2 ^ 32 ≡ desk_code (desk_call xs room).answer (length xs - (desk_call xs room).taken)
  code-back = omega (arith, written-fits xs room)

  pub written_back : desk_number xs room % 2 ^ 32 ≡ length (desk_call xs room).bytes
  written_back = omega (arith, written-fits xs room)
