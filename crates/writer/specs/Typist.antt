-- A book typed line by line. Each line that has a word is, in this order: not read; without heading, a detail of the group while the heading is lost;
-- a close that is withheld, while the book is open and a line before it failed; refused by the writer's rules; a close that waits; or written. A line
-- that is not read, without heading or refused has failed. The heading is lost by a line that is not read and whose kind is a heading or none of the
-- book's, by a heading that is refused and by a line refused by 3, and found again by a heading that is written. A close that waits is written at the
-- end of the text; a line with a word that comes after it makes it too early: it is not written, and counts as a line that failed.
use Rattle.std.specs.Prelude.{ℕ, ◌%◌, Bool, true, false, ◌&&◌, ◌||◌, not, List, [], ◌++◌, length, get_or, drop, eqb, ltb}
use Rattle.std.specs.Prelude.{Option, None, Some, Ok, Err, is_some, option_map, unwrap_or}
use Rattle.base.specs.Choice.{pick, one_more_lem}
use Rattle.codec.specs.Table.{last_kind, record_most}
use Rattle.account.specs.Sorts.{is_of_group}
use Rattle.book.specs.declared.State.{State}
use Rattle.make_record.specs.Write.{Answer}
use Rattle.make_record.specs.Write.{Write}
use Rattle.writer.specs.declared.typed_line.Entry.{Entry}
use Rattle.writer.specs.declared.typed_line.Said.{Said}
use Rattle.writer.specs.declared.typed_line.Said.TheVariants as said
use Rattle.writer.specs.Line.{line_said, entry, write_entry}
use Rattle.writer.specs.Unusual.{unusual_after}
use Rattle.writer.specs.declared.Typist.{Typist}
use Rattle.writer.specs.declared.Cause.{Cause}
use Rattle.writer.specs.declared.Cause.TheVariants as causes
use Rattle.writer.specs.declared.Lost.{Lost}
use Rattle.writer.specs.declared.Run.{Run}
use Rattle.writer.specs.declared.Waiting.{Waiting}
use Rattle.writer.specs.declared.Counts.{Counts}
use Rattle.writer.specs.declared.Fate.{Fate}
use Rattle.writer.specs.declared.Fate.TheVariants.{Nothing, Unread, Withheld, Waits, Without, Refused, Wrote}
use Rattle.writer.specs.declared.Entered.{Entered}

-- ---- what a kind is

-- a heading, or none of the book's kinds: it may have been a heading
abbrev pub may_head : ℕ → Bool
may_head k = eqb k 2 || (ltb k 1 || ltb last_kind k)

-- ---- what a typist remembers, part by part

-- a line numbered 0 is none
abbrev pub line_named : ℕ → Option ℕ
line_named n = pick (eqb n 0) None (Some n)

-- line n lost the heading: its kind is a heading, or it may have been one and was not read or refused
abbrev pub lost_by : ℕ → Cause → Lost
lost_by n cause = record { line = n; cause = cause }

abbrev pub lost_in : ℕ → Cause → Option Lost
lost_in n cause = option_map (λ line. lost_by line cause) (line_named n)

abbrev pub not_lost : Option Lost
not_lost = None

-- the line of a close that waits, and the first and the last line of a run without heading
abbrev pub waiting_for : Option ℕ → Option Run → Waiting
waiting_for close run = record { close = close; run = run }

-- a run goes on with line n, or begins with it
abbrev pub run_with : Option Run → ℕ → Option Run
run_with None n = option_map (λ line. record { first = line; last = line }) (line_named n)
run_with (Some r) n = Some (record { first = r.first; last = n })

-- one message more
abbrev pub one_told : Counts → Counts
one_told c =
    record { written = c.written; refused = c.refused; unread = c.unread; without = c.without; unusual = c.unusual; told = one_more_lem c.told }

abbrev pub one_unread : Counts → Counts
one_unread c =
    record {
      written = c.written;
      refused = c.refused;
      unread = one_more_lem c.unread;
      without = c.without;
      unusual = c.unusual;
      told = one_more_lem c.told;
    }

abbrev pub one_refused : Counts → Counts
one_refused c =
    record {
      written = c.written;
      refused = one_more_lem c.refused;
      unread = c.unread;
      without = c.without;
      unusual = c.unusual;
      told = one_more_lem c.told;
    }

-- a line of a run, which is told when it ends
abbrev pub one_without : Counts → Counts
one_without c =
    record { written = c.written; refused = c.refused; unread = c.unread; without = one_more_lem c.without; unusual = c.unusual; told = c.told }

-- a line is written, and so many values were unusual up to it
abbrev pub one_written : Counts → ℕ → Counts
one_written c unusual =
    record { written = one_more_lem c.written; refused = c.refused; unread = c.unread; without = c.without; unusual = unusual; told = c.told }

-- the first line that failed
abbrev pub first_failed : Option ℕ → ℕ → Option ℕ
first_failed None n = line_named n
first_failed (Some first) n = Some first

-- ---- the typist

-- before the first line, after the records of the state
abbrev pub beginning : State → Typist
beginning s =
    record {
      state = s;
      year = None;
      lost = not_lost;
      failed = None;
      waiting = waiting_for None None;
      counts = record { written = 0; refused = 0; unread = 0; without = 0; unusual = 0; told = 0 };
      heard = record { words = false; close = false };
    }

-- a line of kind k has a word
abbrev pub hears : Typist → ℕ → Typist
hears t k =
    record {
      state = t.state;
      year = t.year;
      lost = t.lost;
      failed = t.failed;
      waiting = t.waiting;
      counts = t.counts;
      heard = record { words = true; close = t.heard.close || eqb k 8 };
    }

-- the close that waits is too early, and its line has failed
abbrev pub early_by : Option ℕ → Typist → Typist
early_by None t = t
early_by (Some close) t =
    record {
      state = t.state;
      year = t.year;
      lost = t.lost;
      failed = Some (unwrap_or t.failed close);
      waiting = waiting_for None t.waiting.run;
      counts = one_told t.counts;
      heard = t.heard;
    }

unfoldable pub early : Typist → Typist
early t = early_by t.waiting.close t

-- the run without heading has ended
abbrev pub ended_by : Option Run → Typist → Typist
ended_by None t = t
ended_by (Some run) t =
    record {
      state = t.state;
      year = t.year;
      lost = t.lost;
      failed = t.failed;
      waiting = waiting_for t.waiting.close None;
      counts = one_told t.counts;
      heard = t.heard;
    }

unfoldable pub run_ended : Typist → Typist
run_ended t = ended_by t.waiting.run t

-- line n, of kind k or 0, is not read
abbrev pub not_read : Typist → ℕ → ℕ → Typist
not_read t n k =
    record {
      state = t.state;
      year = t.year;
      lost = pick (may_head k) (lost_in n (pick (eqb k 2) causes.Heading causes.Unread)) t.lost;
      failed = first_failed t.failed n;
      waiting = t.waiting;
      counts = one_unread t.counts;
      heard = t.heard;
    }

-- a close is withheld, which none of the counts of lines has
abbrev pub withholding : Typist → Typist
withholding t =
    record {
      state = t.state;
      year = t.year;
      lost = t.lost;
      failed = t.failed;
      waiting = t.waiting;
      counts = one_told t.counts;
      heard = t.heard;
    }

-- a close in line n waits
abbrev pub waits : Typist → ℕ → Typist
waits t n =
    record {
      state = t.state;
      year = t.year;
      lost = t.lost;
      failed = t.failed;
      waiting = waiting_for (line_named n) t.waiting.run;
      counts = t.counts;
      heard = t.heard;
    }

-- line n is without heading
abbrev pub unheaded : Typist → ℕ → Typist
unheaded t n =
    record {
      state = t.state;
      year = t.year;
      lost = t.lost;
      failed = first_failed t.failed n;
      waiting = waiting_for t.waiting.close (run_with t.waiting.run n);
      counts = one_without t.counts;
      heard = t.heard;
    }

-- line n, of kind k, is refused by the number code
abbrev pub refused_at : Typist → ℕ → ℕ → ℕ → Typist
refused_at t n k code =
    record {
      state = t.state;
      year = t.year;
      lost = pick (eqb k 2 || eqb code 3) (lost_in n (pick (eqb k 2) causes.Heading causes.Refused)) t.lost;
      failed = first_failed t.failed n;
      waiting = t.waiting;
      counts = one_refused t.counts;
      heard = t.heard;
    }

-- the days of a year: every fourth is a leap year, of the full hundreds every fourth
abbrev pub days_of_year : ℕ → ℕ
days_of_year y = pick (eqb (y % 4) 0 && (not (eqb (y % 100) 0) || eqb (y % 400) 0)) 366 365

-- the entry e is written, and s is the state after it
abbrev pub written_as : Typist → Entry → State → Typist
written_as t e s =
    record {
      state = s;
      year = pick (eqb e.kind 1) (Some (days_of_year (get_or e.values 1 0))) t.year;
      lost = pick (eqb e.kind 2) not_lost t.lost;
      failed = t.failed;
      waiting = t.waiting;
      counts = one_written t.counts (unusual_after t.state.account e t.counts.unusual);
      heard = t.heard;
    }

-- ---- what becomes of a line

-- the typist after a line, what became of it, and the bytes written
pub record Turn : Type 0 where
  pub typist : Typist
  pub fate : Fate
  pub bytes : List ℕ

-- by the writer's answer, with its state and its bytes
abbrev pub by_answer : Answer → Typist → ℕ → Entry → State → List ℕ → Turn
by_answer (Ok u) t n e s bytes = record { typist = written_as t e s; fate = Wrote e.kind; bytes = bytes }
by_answer (Err r) t n e s bytes = record { typist = refused_at t n e.kind r.code; fate = Refused e.kind r; bytes = [] }

abbrev pub by_write : Typist → ℕ → Entry → Write → Turn
by_write t n e w = by_answer w.answer t n e w.state w.bytes

-- a close is judged where it stands: one that is right waits
abbrev pub close_by : Answer → Typist → ℕ → Entry → Turn
close_by (Ok u) t n e = record { typist = waits t n; fate = Waits; bytes = [] }
close_by (Err r) t n e = record { typist = refused_at t n e.kind r.code; fate = Refused e.kind r; bytes = [] }

-- a close is withheld while the book is open and a line before it failed
abbrev pub withheld : Typist → Entry → Bool
withheld t e = eqb e.kind 8 && (eqb t.state.account.stage 1 && is_some t.failed)

-- a detail of the group while the heading is lost
abbrev pub headless : Typist → Entry → Bool
headless t e = is_of_group e.kind && is_some t.lost

-- the entry e in line n, for a buffer of room bytes, when no run is open
unfoldable pub judged_turn : Typist → ℕ → Entry → ℕ → Turn
judged_turn t n e room =
    pick (withheld t e) (record { typist = withholding t; fate = Withheld; bytes = [] })
    (pick (eqb e.kind 8) (close_by (write_entry t.state e record_most).answer t n e)
    (by_write t n e (write_entry t.state e room)))

-- what becomes of it
unfoldable pub record_turn : Typist → ℕ → Entry → ℕ → Turn
record_turn t n e room =
    pick (headless t e) (record { typist = unheaded t n; fate = Without; bytes = [] }) (judged_turn (run_ended t) n e room)

abbrev pub by_said : Said → Typist → ℕ → Entry → ℕ → Turn
by_said said.Nothing t n e room = record { typist = t; fate = Nothing; bytes = [] }
by_said said.Record t n e room = record_turn (early (hears t e.kind)) n e room
by_said (said.Wrong k place) t n e room = record { typist = not_read (run_ended (early (hears t k))) n k; fate = Unread k place; bytes = [] }

-- what becomes of line n with the text xs, for a buffer of room bytes
unfoldable pub turn : Typist → ℕ → List ℕ → ℕ → Turn
turn t n xs room = by_said (line_said xs).said t n (line_said xs).entry room

-- ---- the end of the text

-- a close that counts the records before it
abbrev pub own_close : Entry
own_close = entry 8 []

abbrev pub end_by : Answer → Typist → State → List ℕ → Turn
end_by (Ok u) t s bytes = record { typist = written_as t own_close s; fate = Wrote 8; bytes = bytes }
end_by (Err r) t s bytes = record { typist = t; fate = Nothing; bytes = [] }

-- the close that waits is written
abbrev pub closing_turn : Typist → ℕ → Turn
closing_turn t room =
    end_by (write_entry t.state own_close room).answer t (write_entry t.state own_close room).state (write_entry t.state own_close room).bytes

-- at the end, where all of the text was read
unfoldable pub end_turn : Bool → Typist → ℕ → Turn
end_turn good t room =
    pick (good && is_some t.waiting.close) (closing_turn (run_ended t) room) (record { typist = run_ended t; fate = Nothing; bytes = [] })

-- ---- in a buffer

-- the typist, what became of the line, and the count of bytes written
abbrev pub entered_of : Turn → Entered
entered_of r = record { typist = r.typist; fate = r.fate; written = length r.bytes }

-- the same by the count of the writer's bytes
abbrev pub entered_by : Answer → Typist → ℕ → Entry → State → ℕ → Entered
entered_by (Ok u) t n e s count = record { typist = written_as t e s; fate = Wrote e.kind; written = count }
entered_by (Err r) t n e s count = record { typist = refused_at t n e.kind r.code; fate = Refused e.kind r; written = 0 }

-- the buffer after it: the record goes at its start; its bytes past those written stay
abbrev pub turn_laid : Turn → List ℕ → List ℕ
turn_laid r out = r.bytes ++ drop (length r.bytes) out
