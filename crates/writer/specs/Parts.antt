-- A typed text that arrives in parts: what one call over a part does. A call goes up to the end of a line, or of the part where no line ends in it.
use Rattle.std.specs.Prelude.{ℕ, zero, suc, Bool, true, List, [], ◌∷◌, ◌++◌, length, take, drop}
use Rattle.base.specs.Choice.{pick}
use Rattle.codec.specs.Table.{record_most}
use Rattle.text_lines.specs.declared.Cut.{Cut}
use Rattle.text_lines.specs.declared.Cutting.{Cutting}
use Rattle.text_lines.specs.Lines.{next_of, cutting_of, cut_in, unmarked}
use Rattle.text_lines.specs.Parts.{Numbered, Cutter}
use Rattle.writer.specs.Line.{line_said}
use Rattle.writer.specs.declared.Typist.{Typist}
use Rattle.writer.specs.declared.Typing.{Typing}
use Rattle.writer.specs.Typist.{Turn, turn, end_turn}
use Rattle.writer.specs.Remarks.{remark_text, end_remark}

-- what a line does: the typist behind it, the bytes written and what is said
pub record Line : Type 0 where
  pub typist : Typist
  pub bytes : List ℕ
  pub remark : List ℕ

abbrev pub by_turn : Turn → Typist → ℕ → List ℕ → Line
by_turn x t n xs = record { typist = x.typist; bytes = x.bytes; remark = remark_text x.fate t n (line_said xs).entry xs }

-- line n with the text xs, for a buffer of room bytes
abbrev pub line_by : Typist → ℕ → List ℕ → ℕ → Line
line_by t n xs room = by_turn (turn t n xs room) t n xs

-- what a call does: the typist and the line being read behind it, how many bytes of the part are taken, the bytes written and what is said
pub record Call : Type 0 where
  pub typing : Typing
  pub taken : ℕ
  pub bytes : List ℕ
  pub remark : List ℕ

-- the line being read goes on
abbrev pub goes_on_lem : Typist → Cutting → Call
goes_on_lem t c = record { typing = record { typist = t; cut = c.cut }; taken = c.taken; bytes = []; remark = [] }

-- the line being read has ended
abbrev pub has_ended : Line → Cutting → Call
has_ended l c = record { typing = record { typist = l.typist; cut = next_of c.cut }; taken = c.taken; bytes = l.bytes; remark = l.remark }

-- the text of the line in the buffer
abbrev pub in_buffer : List ℕ → Cut → List ℕ
in_buffer line cut = unmarked cut.number (take cut.len line)

abbrev pub by_cutting : Cutting → Typist → List ℕ → ℕ → Call
by_cutting c t line room = pick c.ended (has_ended (line_by t c.cut.number (in_buffer line c.cut) room) c) (goes_on_lem t c)

-- a call over a part, with the buffer line for the line being read and a buffer of room bytes for a record
unfoldable pub call_of : Typing → List ℕ → List ℕ → ℕ → Call
call_of typing line part room =
    by_cutting (cutting_of (length line) typing.cut part) typing.typist (cut_in line typing.cut part) room

-- at the end of the text, the line being read ends too
abbrev pub last_of : Typing → List ℕ → ℕ → Line
last_of typing line room = line_by typing.typist typing.cut.number (in_buffer line typing.cut) room

-- and the close that waits is written, where all of the text was read
abbrev pub by_end : Turn → Typist → Line
by_end x t = record { typist = x.typist; bytes = x.bytes; remark = end_remark x.fate t }

abbrev pub end_of : Bool → Typist → ℕ → Line
end_of good t room = by_end (end_turn good t room) t

-- a buffer with the bytes at its start; those past them stay
abbrev pub laid_in : List ℕ → List ℕ → List ℕ
laid_in bytes out = bytes ++ drop (length bytes) out

-- ---- a whole text, and the calls over its parts

-- the typist behind some lines, the bytes written and what is said, all together
pub record Output : Type 0 where
  pub typist : Typist
  pub bytes : List ℕ
  pub said : List ℕ

abbrev pub behind : Line → Output → Output
behind l o = record { typist = o.typist; bytes = l.bytes ++ o.bytes; said = l.remark ++ o.said }

-- line after line
unfoldable pub output : Typist → List Numbered → Output
output t [] = record { typist = t; bytes = []; said = [] }
output t (l ∷ ls) =
    let x = line_by t l.number (unmarked l.number l.bytes) record_most in
    behind x (output x.typist ls)

-- what some calls have given, and the cutter behind them
pub record Calls : Type 0 where
  pub output : Output
  pub cutter : Cutter

-- what one call over a part gives
abbrev pub one_call : Typist → Cutter → List ℕ → Calls
one_call t c part =
    let r = call_of (record { typist = t; cut = c.cut }) c.line part record_most in
    record {
      output = record { typist = r.typing.typist; bytes = r.bytes; said = r.remark };
      cutter = record { line = cut_in c.line c.cut part; cut = r.typing.cut };
    }

abbrev pub and_then : Calls → Calls → Calls
and_then a b =
    record {
      output = record { typist = b.output.typist; bytes = a.output.bytes ++ b.output.bytes; said = a.output.said ++ b.output.said };
      cutter = b.cutter;
    }

-- a part, call after call while a line ends in what is left; it has fewer than the first number of lines
unfoldable pub calls_in : ℕ → Typist → Cutter → List ℕ → Calls
calls_in zero t c part = record { output = record { typist = t; bytes = []; said = [] }; cutter = c }
calls_in (suc n) t c part =
    let one = one_call t c part in
    let r = cutting_of (length c.line) c.cut part in
    pick r.ended (and_then one (calls_in n one.output.typist one.cutter (drop r.taken part))) one

-- the parts of a text, one after the other
unfoldable pub calls_over : Typist → Cutter → List (List ℕ) → Calls
calls_over t c [] = record { output = record { typist = t; bytes = []; said = [] }; cutter = c }
calls_over t c (part ∷ parts) =
    let first = calls_in (suc (length part)) t c part in
    and_then first (calls_over first.output.typist first.cutter parts)

-- and a whole text: its lines, then its end
abbrev pub whole : Typist → List Numbered → Output
whole t ls =
    let o = output t ls in
    let x = end_of true o.typist record_most in
    record { typist = x.typist; bytes = o.bytes ++ x.bytes; said = o.said ++ x.remark }

-- at the end of the text the unfinished line is entered
abbrev pub with_last : Calls → Output
with_last c =
    let x = last_of (record { typist = c.output.typist; cut = c.cutter.cut }) c.cutter.line record_most in
    record { typist = x.typist; bytes = c.output.bytes ++ x.bytes; said = c.output.said ++ x.remark }

-- and then its end comes
abbrev pub with_end : Calls → Output
with_end c =
    let o = with_last c in
    let x = end_of true o.typist record_most in
    record { typist = x.typist; bytes = o.bytes ++ x.bytes; said = o.said ++ x.remark }
