-- Document 01's what-if slip on the screen: code, the ration's GE, Ym, head and days, the kg to the gram, the kg before and the difference.
use Rattle.std.specs.Prelude.{ℕ, ◌-◌, Bool, true, false, ◌&&◌, List, [], ◌∷◌, ◌++◌, pos, ◌==◌, nat_lt, Float}
use Rattle.std.specs.Float.{fin, binary64}
use Rattle.std.specs.Float.Ieee.{round, add, mul, lt, to_unsigned}
use Rattle.base.specs.Choice.{pick}
use Rattle.printing.specs.Decimal.{decimal, thousandths}
use Rattle.printing.specs.Ascii.{ascii}
use Rattle.std.specs.Prelude.{Option, Some, None}
use Rattle.slip.specs.declared.Ration.{Ration}
use Rattle.slip.specs.declared.Slip.{Slip}

-- x × 1000 + 0.5, each rounded once: its whole part is x in thousandths, to the nearest
abbrev pub scaled : Float → Float
scaled x = add binary64 (mul binary64 x (round binary64 false 1000 1)) (round binary64 false 1 2)

-- x is a number from 0 to 10^12: up to there whole thousandths are doubles exactly
abbrev pub showable : Float → Bool
showable x = lt (fin true 1 (pos 0)) (scaled x) && lt (scaled x) (round binary64 false 1000000000000000 1)

-- x in whole thousandths, to the nearest, where it can be shown
unfoldable pub grams_of : Float → Option ℕ
grams_of x = pick (showable x) (Some (to_unsigned 64 (scaled x))) None

abbrev pub grams_text : Option ℕ → List ℕ
grams_text None = ascii "-"
grams_text (Some grams) = thousandths grams

-- x with three decimals; a dash where it is not from 0 to 10^12, or no number
abbrev pub shown : Float → List ℕ
shown x = grams_text (grams_of x)

-- a space, and x
abbrev pub spaced_shown : Float → List ℕ
spaced_shown x = 32 ∷ shown x

-- the ration's four numbers, each with a space before it
abbrev pub ration_text : Ration → List ℕ
ration_text r = spaced_shown r.ge ++ (spaced_shown r.ym ++ (spaced_shown r.head ++ (32 ∷ decimal r.days)))

-- a less b, with a minus sign where it is below zero
abbrev pub signed : ℕ → ℕ → List ℕ
signed a b = pick (nat_lt a b) (45 ∷ thousandths (b - a)) (thousandths (a - b))

abbrev pub signed_text : Option ℕ → Option ℕ → List ℕ
signed_text None b = ascii "-"
signed_text (Some a) None = ascii "-"
signed_text (Some a) (Some b) = signed a b

-- after less before, from the two numbers as they are shown
abbrev pub difference : Float → Float → List ℕ
difference after before = signed_text (grams_of after) (grams_of before)

-- the kg before the change, and the difference; a refused slip has dashes
abbrev pub compared : Slip → Float → List ℕ
compared s before = pick (s.code == 0) (spaced_shown before ++ (32 ∷ difference s.kg before)) (ascii " - -")

-- the whole line
abbrev pub slip_line : Slip → Float → List ℕ
slip_line s before =
    decimal s.code ++ (ration_text s.ration ++ (spaced_shown s.kg ++ (compared s before ++ (10 ∷ []))))
