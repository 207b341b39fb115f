-- Text as the bytes that stand for it: document 01's words and those that people read, written as they are printed.
use Rattle.std.specs.Prelude.{ℕ, ◌+◌, ◌^◌, List, [], ◌∷◌}
use Prim.Native.Char.{code}
use Prim.Native.String.{String, [] as ended, ◌∷◌ as with-more}

-- the codes of a text's characters: its bytes, where all of them are ASCII
abbrev pub ascii : String → List ℕ
ascii ended = []
ascii (with-more c s) = code c ∷ ascii s

-- ---- two characters beyond ASCII, in UTF-8

-- the bytes after a character's first bear their highest bit
abbrev pub further : ℕ → ℕ
further n = 2 ^ 7 + n

-- a thin space that does not break, U+202F, and the minus sign, U+2212
abbrev pub thin_space : List ℕ
thin_space = 226 ∷ further 0 ∷ further 47 ∷ []

abbrev pub minus_sign : List ℕ
minus_sign = 226 ∷ further 8 ∷ further 18 ∷ []
