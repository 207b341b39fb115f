-- How much of a book a program reads that keeps it in one buffer. Document 01, "The book" and "Refusal numbers": a length is at most 26, with two
-- bytes before it, and after 4,096 records the next one is refused.
use Rattle.std.specs.Prelude.{ℕ, ◌+◌, ◌-◌, ◌*◌}
use Rattle.codec.specs.Table.{record_most}
use Rattle.account.specs.declared.Account.{Account}

-- the bytes that decide a book after the account a: those of the records that can still be accepted, and of one more, which is refused
abbrev pub deciding_bytes : Account → ℕ
deciding_bytes a = record_most * (4096 + 1 - a.records)
