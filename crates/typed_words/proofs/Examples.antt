-- Typed numbers and their values in the book's unit.
use mathlib.Core.Path.{◌≡◌, refl}
use mathlib.Core.Bool.{true}
use mathlib.Core.List.{[], ◌∷◌}
use Rattle.base.specs.Bytes.{index_of, index_after}
use Rattle.std.specs.Prelude.{Some, None}
use Rattle.typed_words.specs.Words.{lowered, same_text_lem, nth_part}
use Rattle.typed_words.specs.Amounts.{number_from, amount_of}

-- 300.00 with 2 decimals
all-places : amount_of 2 (51 ∷ 48 ∷ 48 ∷ 46 ∷ 48 ∷ 48 ∷ []) ≡ Some 30000
unfolding amount_of number_from index_of index_after
all-places = refl

-- 6.5 with 2
place-filled : amount_of 2 (54 ∷ 46 ∷ 53 ∷ []) ≡ Some 650
unfolding amount_of number_from index_of index_after
place-filled = refl

-- 340, 340.5 and 340.50 with 2
no-point-typed : amount_of 2 (51 ∷ 52 ∷ 48 ∷ []) ≡ Some 34000
unfolding amount_of number_from index_of index_after
no-point-typed = refl

half-typed : amount_of 2 (51 ∷ 52 ∷ 48 ∷ 46 ∷ 53 ∷ []) ≡ Some 34050
unfolding amount_of number_from index_of index_after
half-typed = refl

both-places : amount_of 2 (51 ∷ 52 ∷ 48 ∷ 46 ∷ 53 ∷ 48 ∷ []) ≡ Some 34050
unfolding amount_of number_from index_of index_after
both-places = refl

-- 650 with none
no-decimals : amount_of 0 (54 ∷ 53 ∷ 48 ∷ []) ≡ Some 650
unfolding amount_of number_from index_of index_after
no-decimals = refl

-- 6.505 with 2
third-place : amount_of 2 (54 ∷ 46 ∷ 53 ∷ 48 ∷ 53 ∷ []) ≡ None
unfolding amount_of number_from index_of index_after
third-place = refl

-- 6.5 with none
point-alone : amount_of 0 (54 ∷ 46 ∷ 53 ∷ []) ≡ None
unfolding amount_of number_from index_of index_after
point-alone = refl

-- .5 and 5. with 2
nothing-before : amount_of 2 (46 ∷ 53 ∷ []) ≡ None
unfolding amount_of number_from index_of index_after
nothing-before = refl

nothing-behind : amount_of 2 (53 ∷ 46 ∷ []) ≡ None
unfolding amount_of number_from index_of index_after
nothing-behind = refl

-- 20 digits
twenty-digits : amount_of 2
    (49 ∷ 50 ∷ 51 ∷ 52 ∷ 53 ∷ 54 ∷ 55 ∷ 56 ∷ 57 ∷ 48 ∷ 49 ∷ 50 ∷ 51 ∷ 52 ∷ 53 ∷ 54 ∷ 55 ∷ 56 ∷ 57 ∷ 48 ∷ [])
    ≡ Some 1000000000000000
unfolding amount_of number_from index_of index_after
twenty-digits = refl

-- Pig is pig
capital-first : same_text_lem (lowered (80 ∷ 105 ∷ 103 ∷ [])) (112 ∷ 105 ∷ 103 ∷ []) ≡ true
unfolding lowered same_text_lem
capital-first = refl

-- the piece behind one comma of "a,b,c"
second-piece : nth_part 44 1 (97 ∷ 44 ∷ 98 ∷ 44 ∷ 99 ∷ []) ≡ 98 ∷ []
unfolding nth_part index_of index_after
second-piece = refl
