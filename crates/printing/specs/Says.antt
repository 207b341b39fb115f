-- A text that grows in a buffer which the caller lends.
use Rattle.std.specs.Prelude.{ℕ, ◌≡◌, List}
use Rattle.printing.specs.Said.{Said}
use Rattle.printing.specs.declared.text.Text.{Text}

-- u is the text t with s behind it, cut off where the buffer ends
pub record Says (t u : Text) (s : List ℕ) : Type 0 where
  pub same : u.buffer.ghost_name ≡ t.buffer.ghost_name
  pub said : Said t.buffer.now u.buffer.now t.len s u.len

-- what a text leaves to who lent the buffer: its bytes, and how many of them are said
abbrev pub left_by : Text → List ℕ × ℕ
left_by t = (t.buffer.now, t.len)
