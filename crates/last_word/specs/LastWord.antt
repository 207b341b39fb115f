-- Document 01, "Figures to meet", of the lister: "then `closed`, `unfinished`, or `refused` with code, records, field, one space between."
use Rattle.std.specs.Prelude.{ℕ, List, [], ◌∷◌, ◌++◌, Bool, ◌&&◌, ltb, leb, eqb}
use Rattle.base.specs.Choice.{pick}
use Rattle.printing.specs.Ascii.{ascii}
use Rattle.printing.specs.Decimal.{numbers_line}
use Rattle.account.specs.declared.Account.{Account}

-- the words of the last line
abbrev pub closed_word : List ℕ
closed_word = ascii "closed\n"

abbrev pub unfinished_word : List ℕ
unfinished_word = ascii "unfinished\n"

abbrev pub refused_word : List ℕ
refused_word = ascii "refused "

-- the last word, by the stage of the account reached
unfoldable pub end_text : Account → List ℕ
end_text a =
    pick (eqb a.stage 2) closed_word
    (pick (eqb a.stage 3) (refused_word ++ numbers_line (a.refusal.code ∷ a.refusal.accepted ∷ a.refusal.field ∷ []))
    unfinished_word)

-- more of the input is wanted while the book is open
abbrev pub goes_on_lem : Account → Bool
goes_on_lem a = ltb a.stage 2

-- the last word, where everything was read and written and the buffer has room for any
abbrev pub last_text : Account → Bool → Bool → ℕ → List ℕ
last_text a read written room = pick ((read && written) && leb 72 room) (end_text a) []
