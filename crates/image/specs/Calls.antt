-- A call on an image. Change request W12: "let a call work on the image. It is proved, call by call, to answer and write as the call on the
-- state does, and the image afterwards to be that state's. .. Refusals: 13 also for an image of another length, or one that is no state's,
-- tried first and leaving it untouched."
-- Assumes nothing.
use Rattle.std.specs.Prelude.{ℕ, List, [], ◌∷◌, ◌++◌, length, get_or, take, drop, eqb}
use Rattle.base.specs.Choice.{pick}
use Rattle.book.specs.declared.Answer.{Answer}
use Rattle.book.specs.declared.Answer.TheVariants.{Refused}
use Rattle.book.specs.State.{no_record_yet}
use Rattle.book.specs.Run.{Outcome}
use Rattle.book.specs.Call.{numbers, Call, call, outside}
use Rattle.book.specs.Way.{Part}
use Rattle.image.specs.declared.Called.{Called}
use Rattle.image.specs.Image.{image_size, image_of, state_in, is_image}

-- the image of no record yet, over bytes of the one length; others stay
unfoldable pub started : List ℕ → List ℕ
started image = pick (eqb (length image) image_size) (image_of no_record_yet) image

-- 13 is tried first; else what the call on the state gives
unfoldable pub call_on : List ℕ → List ℕ → ℕ → Call
call_on image xs room = pick (is_image image) (call (state_in image) xs room) (outside (state_in image))

-- the image after it: that of the state handed back; with 13 as it was
unfoldable pub image_after : List ℕ → List ℕ → ℕ → List ℕ
image_after image xs room = pick (is_image image) (image_of (call_on image xs room).state) image

-- the counts of bytes taken and written, and the answer
abbrev pub called_of : Call → Called
called_of c = record { taken = c.taken; written = length c.bytes; answer = c.answer }

-- the number of an answer: the first of its numbers, 0 closed, 16 full, 17 more, else the refusal's
abbrev pub answer_code : Answer → ℕ
answer_code a = get_or (numbers a) 0 0

-- refusal 13, nothing taken or written
abbrev pub no_image : Called
no_image = record { taken = 0; written = 0; answer = Refused (record { code = 13; accepted = 0; field = 0 }) }

-- ---- a series of calls

-- what has come of some bytes: the image after them, the bytes of the lines, and the bytes not taken
pub record OutcomeOn : Type 0 where
  pub image : List ℕ
  pub bytes : List ℕ
  pub left : List ℕ

-- the outcome of a state's calls, its state as an image
abbrev pub on_image : Outcome → OutcomeOn
on_image o = record { image = image_of o.state; bytes = o.bytes; left = o.left }

-- the lines of a call, and then what the calls after it give
abbrev pub after_on : Call → OutcomeOn → OutcomeOn
after_on c o = record { image = o.image; bytes = c.bytes ++ o.bytes; left = o.left }

-- a series of calls on an image, one for each part, each going on from the image that the one before left, with the bytes that it left
unfoldable pub way_on_lem : List ℕ → List ℕ → List Part → OutcomeOn
way_on_lem image xs [] = record { image = image; bytes = []; left = xs }
way_on_lem image xs (p ∷ ps) =
    after_on (call_on image (take p.offered xs) p.room)
    (way_on_lem (image_after image (take p.offered xs) p.room) (drop (call_on image (take p.offered xs) p.room).taken xs) ps)
