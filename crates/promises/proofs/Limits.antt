-- Both sides of every limit, computed from the definitions.
-- Assumes nothing.
use lib.Dec.{T}
use Rattle.codec.specs.Table.{table, size}
use Rattle.codec.specs.Codec.{val_at, be, values_at, bytes_of, first_bad, record_bytes}
use Rattle.grams.specs.Cattle as cattle
use Rattle.grams.specs.Cases.{every}
use Rattle.account.specs.Sorts.{sort_of}
use Rattle.account.specs.Judge.{first, in_place_lem, accepted, judge}
use Rattle.account.specs.Range.{account_in_range}
use Rattle.book.specs.Front.{front}
use Rattle.book.specs.State.{in_range}
use Rattle.book.specs.Run.{book_by, book, run}
use Rattle.book.specs.Call.{longest, answer_of, call}
use Rattle.promises.specs.Limits.{limits}
use Rattle.promises.specs.StateLimits.{state_limits}

-- Refusals 1 to 12: each row of the tables comes to what document 01 says.
pub both-sides : T (every limits)
unfolding table size val_at be values_at bytes_of first_bad record_bytes cattle.below_zero first in_place_lem accepted sort_of judge front book_by book run
both-sides = tt

-- Refusal 13: each clause of "A state holds", at its end and beside it, comes to what the documents say.
pub both-sides-of-states : T (every state_limits)
unfolding val_at account_in_range front in_range book_by book run longest answer_of call
both-sides-of-states = tt
