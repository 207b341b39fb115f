-- Document 01, "The what-if slip", over the values of IEEE 754 double precision.
use Rattle.std.specs.Prelude.{◌≡◌, ℕ, Bool, false, not, ◌&&◌, pos, T, leb, Float}
use Rattle.std.specs.Float.{fin, binary64}
use Rattle.std.specs.Float.Ieee.{round, mul, div, le, of_int, is_nan}
use Rattle.base.specs.Choice.{pick}
use Rattle.slip.specs.declared.Ration.{Ration}
use Rattle.slip.specs.declared.Slip.{Slip}
use Rattle.slip.specs.declared.Change.{Change}
use Rattle.slip.specs.declared.Change.TheVariants.{Feed, Ym, Head}

-- the double nearest to a / b
abbrev pub double : ℕ → ℕ → Float
double a b = round binary64 false a b

-- a product and a quotient, each rounded once to a double
infixl 40 ◌⊗◌
abbrev pub ◌⊗◌ : Float → Float → Float
x ⊗ y = mul binary64 x y

infixl 40 ◌⊘◌
abbrev pub ◌⊘◌ : Float → Float → Float
x ⊘ y = div binary64 x y

-- the positive zero
abbrev pub +0 : Float
+0 = fin false 0 (pos 0)

-- x is a number from lo to hi: `le` is false where a NaN stands
abbrev pub within : Float → Float → Float → Bool
within lo hi x = le lo x && le x hi

-- GE 1..1000 MJ
abbrev pub ge_in_range : Float → Bool
ge_in_range x = within (double 1 1) (double 1000 1) x

-- Ym 0.5..20 per cent, in a ration and as a change
abbrev pub ym_in_range : Float → Bool
ym_in_range x = within (double 1 2) (double 20 1) x

-- head 1..20000
abbrev pub head_in_range : Float → Bool
head_in_range x = within (double 1 1) (double 20000 1) x

-- whole days 1..366
abbrev pub days_in_range : ℕ → Bool
days_in_range d = leb 1 d && leb d 366

-- a factor 0.5..2, of feed or of head
abbrev pub factor_in_range : Float → Bool
factor_in_range x = within (double 1 2) (double 2 1) x

-- the four numbers of the ration
unfoldable pub ration_in_range : Ration → Bool
ration_in_range r = ((ge_in_range r.ge && ym_in_range r.ym) && head_in_range r.head) && days_in_range r.days

-- the number of the change
unfoldable pub change_in_range : Change → Bool
change_in_range (Feed factor) = factor_in_range factor
change_in_range (Ym ym) = ym_in_range ym
change_in_range (Head factor) = factor_in_range factor

-- the change applied with one rounding; feed stands for GE
abbrev pub changed_by : Ration → Change → Ration
changed_by r (Feed factor) = record { ge = r.ge ⊗ factor; ym = r.ym; head = r.head; days = r.days }
changed_by r (Ym ym) = record { ge = r.ge; ym = ym; head = r.head; days = r.days }
changed_by r (Head factor) = record { ge = r.ge; ym = r.ym; head = r.head ⊗ factor; days = r.days }

-- the changed value of the changed ration n
unfoldable pub changed_in_range : Ration → Change → Bool
changed_in_range n (Feed factor) = ge_in_range n.ge
changed_in_range n (Ym ym) = ym_in_range n.ym
changed_in_range n (Head factor) = head_in_range n.head

-- kg CH4 = (((GE × (Ym / 100)) × head) × days) / 55.65, each operation rounded once in that order
unfoldable pub kg_ch4 : Ration → Float
kg_ch4 r = (((r.ge ⊗ (r.ym ⊘ double 100 1)) ⊗ r.head) ⊗ of_int binary64 (pos r.days)) ⊘ double 5565 100

-- 14 and 15: the ration back unchanged and zero kg
abbrev pub refused_with : ℕ → Ration → Slip
refused_with code r = record { code = code; ration = r; kg = +0 }

-- otherwise: the changed ration with its kg
abbrev pub estimated : Ration → Slip
estimated n = record { code = 0; ration = n; kg = kg_ch4 n }

-- the slip: 14 is tried first, then 15
unfoldable pub what_if : Ration → Change → Slip
what_if r c =
    pick (ration_in_range r && change_in_range c)
    (pick (changed_in_range (changed_by r c) c) (estimated (changed_by r c)) (refused_with 15 r))
    (refused_with 14 r)

-- what an answer is held to: it is the slip, and so its kg is a number
pub record Answers (r : Ration) (c : Change) (s : Slip) : Type 0 where
  pub exact : s ≡ what_if r c
  pub number : T (not (is_nan s.kg))

-- the number that a change bears
abbrev pub number_of : Change → Float
number_of (Feed factor) = factor
number_of (Ym ym) = ym
number_of (Head factor) = factor
