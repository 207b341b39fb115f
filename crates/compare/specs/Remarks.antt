-- A hint where something else than a book was given, and the byte of the exit status.
-- Assumes nothing.
use Rattle.std.specs.Prelude.{ℕ, List, [], ◌++◌, Bool, ◌&&◌}
use Rattle.base.specs.Choice.{pick}
use Rattle.names.specs.Hints.{hint_text}
use Rattle.names.specs.declared.hints.Given.{Given}
use Rattle.names.specs.declared.hints.Given.TheVariants.{Book, Nothing, Typed, Sheet}
use Rattle.compare.specs.Sections.{book_text}

-- what is hinted of one of the two
abbrev pub book_hint : Bool → Given → List ℕ
book_hint new Book = []
book_hint new Nothing = book_text new ++ hint_text Nothing
book_hint new Typed = book_text new ++ hint_text Typed
book_hint new Sheet = book_text new ++ hint_text Sheet

-- `0` where both books were read and all was written, else `1`
abbrev pub status_byte : Bool → Bool → ℕ
status_byte read written = pick (read && written) 48 49
