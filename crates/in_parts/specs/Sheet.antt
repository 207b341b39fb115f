-- Document 02, W13: "Members open their figures in a spreadsheet." The sheet of a book.
use Rattle.std.specs.Prelude.{ℕ, List}
use Rattle.account.specs.Line.{joined}
use Rattle.book.specs.State.{no_record_yet}
use Rattle.book.specs.Run.{run}
use Rattle.sheet.specs.Sheets.{Made, export_of}

-- the sheet of a whole book: the export of the lines that rule 2 gives for it
unfoldable pub sheet_of : List ℕ → Made
sheet_of book = export_of (joined (run no_record_yet book).lines)
