-- What a person gave in place of a book, as its first bytes look: a typed text (document 02, W1), a sheet (W13), or nothing at all; and the hint that
-- goes with it. Of the bytes of a book the first is 0.
use Rattle.std.specs.Prelude.{ℕ, Bool, false, ◌&&◌, ◌||◌, List, [], ◌∷◌, length, take, leb, eqb}
use Rattle.base.specs.Choice.{pick}
use Rattle.printing.specs.Ascii.{ascii}
use Rattle.typed_words.specs.Words.{same_text_lem}
use Rattle.names.specs.declared.hints.Given.{Given}
use Rattle.names.specs.declared.hints.Given.TheVariants.{Book, Nothing, Typed, Sheet}

-- a byte that a typed text can begin with: a tab, a line's end, a printed character, or the first byte of a byte order mark
abbrev pub is_typed : ℕ → Bool
is_typed b = (((eqb b 9 || eqb b 10) || eqb b 13) || (leb 32 b && leb b 126)) || eqb b 239

-- an input begins as a typed text does, where two bytes of it are there: they are no length of a record, so that it is refused by 1 at its first
abbrev pub begins_typed : List ℕ → Bool
begins_typed [] = false
begins_typed (b ∷ []) = false
begins_typed (b ∷ c ∷ bs) = is_typed b

-- the input begins with these bytes
abbrev pub begins_with : List ℕ → List ℕ → Bool
begins_with start input = same_text_lem (take (length start) input) start

-- the first two columns of a sheet's header
abbrev pub columns : List ℕ
columns = ascii "kind,group"

-- a sheet's beginning, perhaps after a byte order mark
abbrev pub begins_sheet : List ℕ → Bool
begins_sheet input = begins_with columns input || begins_with (239 ∷ 187 ∷ 191 ∷ columns) input

unfoldable pub looks_like : List ℕ → Given
looks_like input = pick (eqb (length input) 0) Nothing (pick (begins_typed input) (pick (begins_sheet input) Sheet Typed) Book)

abbrev pub hint_text : Given → List ℕ
hint_text Book = []
hint_text Nothing = ascii "this is empty: a book begins with its farm record\n"
hint_text Typed = ascii "this looks like a typed book: bin/writer makes a book of it\n"
hint_text Sheet = ascii "this looks like a sheet: bin/unsheet reads it\n"
