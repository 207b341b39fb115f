-- The words of a line that a person types for document 01's what-if slip or book, names in capitals or not, and the pieces of a text.
use Rattle.std.specs.Prelude.{ℕ, zero, suc, ◌+◌, Bool, true, false, ◌&&◌, ◌||◌, List, [], ◌∷◌, take, drop, eqb, leb}
use Rattle.std.specs.Bool.{beq}
use Rattle.base.specs.Bytes.{index_of}

-- a space, a tab or a carriage return
abbrev pub is_blank : ℕ → Bool
is_blank b = (eqb b 32 || eqb b 9) || eqb b 13

-- one more than n where the test passes, else none
abbrev pub one_more_lem : Bool → ℕ → ℕ
one_more_lem true n = suc n
one_more_lem false n = 0

-- how many bytes at the start are blanks, or, with false, are none
unfoldable pub leading_of : Bool → List ℕ → ℕ
leading_of blanks [] = 0
leading_of blanks (b ∷ s) = one_more_lem (beq (is_blank b) blanks) (leading_of blanks s)

-- s behind its leading blanks
abbrev pub trimmed : List ℕ → List ℕ
trimmed s = drop (leading_of true s) s

-- the first word
abbrev pub first_word : List ℕ → List ℕ
first_word s = take (leading_of false (trimmed s)) (trimmed s)

-- what stands behind the first word
abbrev pub past_word : List ℕ → List ℕ
past_word s = drop (leading_of false (trimmed s)) (trimmed s)

-- the word behind n others: empty where there are no more
unfoldable pub nth_word : ℕ → List ℕ → List ℕ
nth_word zero s = first_word s
nth_word (suc n) s = nth_word n (past_word s)

-- two words are the same, byte for byte
unfoldable pub same_text_lem : List ℕ → List ℕ → Bool
same_text_lem [] [] = true
same_text_lem [] (b ∷ t) = false
same_text_lem (a ∷ s) [] = false
same_text_lem (a ∷ s) (b ∷ t) = eqb a b && same_text_lem s t

abbrev pub small_if : Bool → ℕ → ℕ
small_if true b = b + 32
small_if false b = b

-- a capital, 65 to 90, as the small letter
abbrev pub small_letter : ℕ → ℕ
small_letter b = small_if (leb 65 b && leb b 90) b

unfoldable pub lowered : List ℕ → List ℕ
lowered [] = []
lowered (b ∷ s) = small_letter b ∷ lowered s

-- the piece behind n separators: empty where there are not so many
unfoldable pub nth_part : ℕ → ℕ → List ℕ → List ℕ
nth_part sep zero s = take (index_of sep s) s
nth_part sep (suc n) s = nth_part sep n (drop (index_of sep s + 1) s)
