-- What the lister tells beside document 01's lines: why a book is refused, a hint where something else was given, and the byte of its exit status.
use Rattle.std.specs.Prelude.{ℕ, Bool, ◌&&◌, List, [], ◌++◌, eqb}
use Rattle.base.specs.Choice.{pick}
use Rattle.printing.specs.Ascii.{ascii}
use Rattle.printing.specs.Decimal.{decimal}
use Rattle.names.specs.Names.{sentence}
use Rattle.names.specs.Hints.{hint_text}
use Rattle.names.specs.declared.hints.Given.{Given}
use Rattle.account.specs.declared.Account.{Account}

-- a refusal's number with its sentence, and who knows more
unfoldable pub why_text : Account → List ℕ
why_text a =
    pick (eqb a.stage 3) (ascii "refused " ++ (decimal a.refusal.code ++ (ascii ": " ++ (sentence a.refusal.code ++ ascii "; bin/why tells more\n"))))
    []

-- what is remarked to a person: why it was refused, and the hint where something else than a book was given
abbrev pub remark_text : Account → Given → List ℕ
remark_text a given = why_text a ++ hint_text given

-- `0` where the book is closed, all of it was read and everything was written, else `1`
abbrev pub status_byte : Account → Bool → Bool → ℕ
status_byte a read written = pick ((eqb a.stage 2 && read) && written) 48 49
