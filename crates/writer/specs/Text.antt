-- A typed text: its lines, each without its comment and the first without its byte order mark, one after the other.
use Rattle.std.specs.Prelude.{ℕ, List, [], ◌∷◌, ◌++◌, map}
use Rattle.codec.specs.Table.{record_most}
use Rattle.text_lines.specs.Lines.{kept, lines_of, unmarked}
use Rattle.text_lines.specs.Parts.{Numbered, numbered}
use Rattle.book.specs.declared.State.{State}
use Rattle.writer.specs.declared.Typist.{Typist}
use Rattle.writer.specs.Typist.{beginning, Turn, turn}

-- a text's lines, numbered from 1
abbrev pub text_lines : List ℕ → List Numbered
text_lines text = numbered 1 (map kept (lines_of text))

-- what becomes of a line: a buffer of 28 bytes holds any record
abbrev pub line_turn : Typist → Numbered → Turn
line_turn t l = turn t l.number (unmarked l.number l.bytes) record_most

-- the typist behind some lines, and what became of each of them
pub record Typed : Type 0 where
  pub typist : Typist
  pub turns : List Turn

abbrev pub typed_after : Turn → Typed → Typed
typed_after x r = record { typist = r.typist; turns = x ∷ r.turns }

-- the lines one after the other, each with the typist that the one before left
unfoldable pub typed_by : Typist → List Numbered → Typed
typed_by t [] = record { typist = t; turns = [] }
typed_by t (l ∷ ls) = typed_after (line_turn t l) (typed_by (line_turn t l).typist ls)

-- a text typed after the records of a state
abbrev pub typed_text : State → List ℕ → Typed
typed_text s text = typed_by (beginning s) (text_lines text)

-- the bytes written, one record after the other
unfoldable pub bytes_typed : List Turn → List ℕ
bytes_typed [] = []
bytes_typed (x ∷ xs) = x.bytes ++ bytes_typed xs
