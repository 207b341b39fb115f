-- A book as typed lines, call after call: what the program prints of it, whatever the sizes of its buffers.
use Rattle.std.specs.Prelude.{ℕ, ◌+◌, ◌/◌, Bool, List, [], ◌∷◌, length, drop, ltb}
use Rattle.base.specs.Choice.{pick}
use Rattle.account.specs.declared.Account.{Account}
use Rattle.retype.specs.Book.{Retyping, nothing_yet_lem, and_then, retyped_by, line_most}

-- a series of calls, one for each buffer of so many bytes: each goes on from the account and the bytes that the one before left, as long as there
-- may be more
unfoldable pub retyped_in : List ℕ → Account → List ℕ → Retyping
retyped_in [] a xs = nothing_yet_lem a
retyped_in (room ∷ rooms) a xs =
    let x = retyped_by (room / line_most) a xs in
    pick x.more (and_then x (retyped_in rooms x.account (drop x.taken xs))) x

-- how many lines such buffers have room for
unfoldable pub lines_in : List ℕ → ℕ
lines_in [] = 0
lines_in (room ∷ rooms) = room / line_most + lines_in rooms

-- whether bytes of the book xs stand after those that x has taken
abbrev pub bytes_after : Retyping → List ℕ → Bool
bytes_after x xs = ltb x.taken (length xs)
