-- Document 01, "Herd desk": "The desk's host program, written in C, hands a whole book and a line buffer and gets one number: code × 2^32 +
-- bytes written. It starts from no record. Codes: 0 closed, 1 to 12, 16 Full, 17 bytes end before the close, 18 bytes remain after the close."
use Rattle.std.specs.Prelude.{ℕ, ◌+◌, ◌-◌, ◌*◌, ◌^◌, List, length, eqb}
use Rattle.base.specs.Choice.{pick}
use Rattle.book.specs.declared.Answer.{Answer}
use Rattle.book.specs.declared.Answer.TheVariants.{More, Full, Closed, Refused}
use Rattle.book.specs.State.{no_record_yet}
use Rattle.book.specs.Call.{Call, call}
use Rattle.image.specs.Image.{image_size}
use Rattle.image.specs.Calls as image

-- the code of an answer, with so many bytes of the book left
abbrev pub desk_code : Answer → ℕ → ℕ
desk_code Closed left = pick (eqb left 0) 0 18
desk_code Full left = 16
desk_code More left = 17
desk_code (Refused r) left = r.code

-- one call over the whole book, from no record
abbrev pub desk_call : List ℕ → ℕ → Call
desk_call book room = call no_record_yet book room

-- the number that the host program gets
abbrev pub number_of : Call → ℕ → ℕ
number_of c n = desk_code c.answer (n - c.taken) * 2 ^ 32 + length c.bytes

abbrev pub desk_number : List ℕ → ℕ → ℕ
desk_number book room = number_of (desk_call book room) (length book)

-- ---- change request W12: calls on an image

-- no 18 here: bytes after the close show in the count taken
abbrev pub call_number : Call → ℕ
call_number c = image.answer_code c.answer * 2 ^ 32 + length c.bytes

-- 0, or 13 times 2^32 where the image's length is another
abbrev pub start_number : List ℕ → ℕ
start_number image = pick (eqb (length image) image_size) 0 (13 * 2 ^ 32)
