-- The heading law for typed lines: every written detail of a typed book stands under the heading of the last line before it whose kind is a heading
-- or none of the book's; so that line was a heading and was written. Said over the lines and the records written: no typist's memory is in it.
use Rattle.std.specs.Prelude.{ℕ, ◌≡◌, List, [], ◌∷◌, eqb}
use Rattle.base.specs.Choice.{pick}
use Rattle.codec.specs.Codec.{record_bytes}
use Rattle.text_lines.specs.Lines.{unmarked}
use Rattle.text_lines.specs.Parts.{Numbered}
use Rattle.writer.specs.declared.typed_line.Entry.{Entry}
use Rattle.writer.specs.declared.typed_line.Said.{Said}
use Rattle.writer.specs.declared.typed_line.Said.TheVariants as said
use Rattle.writer.specs.Line.{line_said, values_in}
use Rattle.writer.specs.Typist.{may_head, Turn}
use Rattle.writer.specs.Remarks.{kind_written}

-- the last line whose kind is a heading or none of the book's: there is none; it says no heading, or can't be read; or it says this heading
pub data Mark : Type 0 where
  none : Mark
  unknown : Mark
  heading : Entry → Mark

abbrev pub mark_said : Said → Entry → Mark → Mark
mark_said said.Nothing e m = m
mark_said said.Record e m = pick (eqb e.kind 2) (heading e) (pick (may_head e.kind) unknown m)
mark_said (said.Wrong k place) e m = pick (may_head k) unknown m

-- a line's text
abbrev pub text_of : Numbered → List ℕ
text_of l = unmarked l.number l.bytes

abbrev pub mark_line : Mark → Numbered → Mark
mark_line m l = mark_said (line_said (text_of l)).said (line_said (text_of l)).entry m

-- the mark behind some lines
unfoldable pub last_mark : Mark → List Numbered → Mark
last_mark m [] = m
last_mark m (l ∷ ls) = last_mark (mark_line m l) ls

-- the last heading record among those written; h where there is none
unfoldable pub last_heading : List ℕ → List Turn → List ℕ
last_heading h [] = h
last_heading h (x ∷ xs) = last_heading (pick (eqb (kind_written x.fate) 2) x.bytes h) xs

-- the line marked says a heading, and its record, with the values typed, is the last heading record written
pub record Under (m : Mark) (record' : List ℕ) : Type 0 where
  pub entry : Entry
  pub marked : m ≡ heading entry
  pub is : entry.kind ≡ 2
  pub written : record' ≡ record_bytes 2 (values_in entry)
