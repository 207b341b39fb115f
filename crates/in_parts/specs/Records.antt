-- The table of a book's records, call after call: what the program prints of it, whatever the sizes of its buffers.
use Rattle.std.specs.Prelude.{ℕ, ◌+◌, ◌/◌, ◌≡◌, ◌⊎◌, List, [], ◌∷◌, length}
use Rattle.base.specs.Choice.{pick}
use Rattle.line_bytes.specs.Lines.{front_size}
use Rattle.account.specs.declared.Account.{Account}
use Rattle.retype.specs.Book.{Retyping, nothing_yet_lem, and_then}
use Rattle.records.specs.Table.{Row, rows_after, rows_most}

-- a series of calls, one for each buffer of so many bytes: each goes on from the account and the byte of the book that the one before left, as long
-- as there may be more
unfoldable pub rows_in : List ℕ → Account → ℕ → List ℕ → Retyping
rows_in [] a at book = nothing_yet_lem a
rows_in (room ∷ rooms) a at book =
    let x = rows_after (room / rows_most) a at book in
    pick x.more (and_then x (rows_in rooms x.account (at + x.taken) book)) x

-- for the rows of how many records such buffers have room
unfoldable pub records_for : List ℕ → ℕ
records_for [] = 0
records_for (room ∷ rooms) = room / rows_most + records_for rooms

-- the line of a row is none, or a whole one
abbrev pub Shown : Row → Type 0
Shown x = (x.line ≡ []) ⊎ (front_size x.line ≡ length x.line)

-- those of all rows are
abbrev pub AllShown : List Row → Type 0
AllShown [] = Unit {0}
AllShown (x ∷ xs) = Shown x × AllShown xs
