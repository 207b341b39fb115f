-- The bars of the member's page, a cascade: each begins where the last one ended. A step is a sum of CO2e, counted from 2^63 on, so that what is
-- below zero has a number too and steps are compared as they stand.
-- Assumes nothing.
use Rattle.std.specs.Prelude.{ℕ, ◌+◌, ◌-◌, ◌/◌, ◌%◌, ◌^◌, Bool, List, [], ◌++◌, ◌==◌, nat_lt}
use Rattle.base.specs.Choice.{pick}
use Rattle.printing.specs.Ascii.{ascii}
use Rattle.printing.specs.Decimal.{decimal}
use Rattle.page.specs.declared.Scale.{Scale}

-- words of eight bytes added and taken away, in two's complement
abbrev pub plus8 : ℕ → ℕ → ℕ
plus8 a b = (a + b) % 2 ^ 64

abbrev pub minus8 : ℕ → ℕ → ℕ
minus8 a b = pick (nat_lt a b) (a + (2 ^ 64 - b)) (a - b)

-- the step before any row
abbrev pub no_step : ℕ
no_step = 2 ^ 63

abbrev pub lesser : ℕ → ℕ → ℕ
lesser a b = pick (nat_lt a b) a b

abbrev pub greater : ℕ → ℕ → ℕ
greater a b = pick (nat_lt a b) b a

-- one part of a thousand of the way from the lowest step to the highest, rounded up, and at least 1
abbrev pub unit_of : ℕ → ℕ
unit_of way = pick (way == 0) 1 ((way + 999) / 1000)

-- the scale of a cascade that rises to a peak and then goes, with its last row, up or down to its end: its lowest step is the first or the last one,
-- its highest the peak or the last one, as page_sums shows of both tables
unfoldable pub scale_of : ℕ → ℕ → Scale
scale_of peak end = record { lo = lesser no_step end; unit = unit_of (greater peak end - lesser no_step end) }

-- where a step stands, of 1000
abbrev pub place_of : Scale → ℕ → ℕ
place_of sc step = (step - sc.lo) / sc.unit

-- from the smaller to the greater of two places; hollow where CO2 is taken up
unfoldable pub rect_text : Bool → ℕ → ℕ → List ℕ
rect_text up p q =
    pick up
    (ascii " class=\"up\" x=\""
    ++ (decimal (lesser p q) ++ (ascii "\" y=\"1\" width=\"" ++ (decimal (greater p q - lesser p q) ++ ascii "\" height=\"6\""))))
    (ascii " x=\"" ++ (decimal (lesser p q) ++ (ascii "\" y=\"0\" width=\"" ++ (decimal (greater p q - lesser p q) ++ ascii "\" height=\"8\""))))

-- a mark at zero, where a step is below it
unfoldable pub mark_text : Scale → List ℕ
mark_text sc =
    pick (nat_lt sc.lo no_step)
    (ascii "<line class=\"zero\" x1=\""
    ++ (decimal (place_of sc no_step) ++ (ascii "\" y1=\"0\" x2=\"" ++ (decimal (place_of sc no_step) ++ ascii "\" y2=\"8\"></line>"))))
    []

-- the bar of a row that leads from one step to another
unfoldable pub bar_text : Scale → ℕ → ℕ → Bool → List ℕ
bar_text sc from to up =
    ascii "<svg viewBox=\"0 0 1000 8\" preserveAspectRatio=\"none\" aria-hidden=\"true\"><rect"
    ++ (rect_text up (place_of sc from) (place_of sc to) ++ (ascii "></rect>" ++ (mark_text sc ++ ascii "</svg>")))
