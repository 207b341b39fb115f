-- Worked texts: document 01's last line of figures, a credit, and kilograms to the gram.
use Prim.Native.Nat.{ℕ, ◌-◌, ◌^◌}
use mathlib.Core.Path.{◌≡◌, refl}
use mathlib.Core.List.{List, [], ◌∷◌}
use Rattle.base.specs.Signed.{signed_of}
use Rattle.printing.specs.Ascii.{ascii}
use Rattle.printing.specs.Decimal.{digits_by, decimal, signed, spaced, joined, numbers_line, thousandths, Put}

-- "8 0 826954 0 875000 0 0 18241034" and a newline
close-line : numbers_line (8 ∷ 0 ∷ 826954 ∷ 0 ∷ 875000 ∷ 0 ∷ 0 ∷ 18241034 ∷ [])
    ≡ 56 ∷ 32 ∷ 48 ∷ 32 ∷ 56 ∷ 50 ∷ 54 ∷ 57 ∷ 53 ∷ 52 ∷ 32 ∷ 48 ∷ 32 ∷ 56 ∷ 55 ∷ 53 ∷ 48 ∷ 48 ∷ 48 ∷ 32 ∷ 48 ∷ 32 ∷ 48 ∷ 32 ∷ 49 ∷ 56 ∷ 50 ∷ 52 ∷ 49
    ∷ 48 ∷ 51 ∷ 52 ∷ 10 ∷ []
unfolding joined spaced decimal digits_by
close-line = refl

-- the credit of a hectare (W7, first zone, texture, change and year), and the two ends of a word
credit : signed (signed_of (2 ^ 64 - 135593)) ≡ ascii "-135593"
unfolding signed decimal digits_by
credit = refl

lowest : signed (signed_of (2 ^ 63)) ≡ ascii "-9223372036854775808"
unfolding signed decimal digits_by
lowest = refl

highest : signed (signed_of (2 ^ 63 - 1)) ≡ ascii "9223372036854775807"
unfolding signed decimal digits_by
highest = refl

-- 70 grams: "0.070"
seventy-grams : thousandths 70 ≡ 48 ∷ 46 ∷ 48 ∷ 55 ∷ 48 ∷ []
unfolding decimal digits_by
seventy-grams = refl

-- two buffers and indices that meet one contract are equal
pub one-put : {xs ys zs : List ℕ} {at q r : ℕ} {s : List ℕ} → Put xs ys at s q → Put xs zs at s r → (q ≡ r) × (ys ≡ zs)
one-put a b = (cc (a.next, b.next), cc (a.next, b.next, a.text, b.text))
