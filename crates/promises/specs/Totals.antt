-- The total line. The close gives the sums and CO2e (document 01, with document 02, W10); document 02, W2: "The farm's CH4, N2O and both
-- nitrogens are proved equal to the subtotals added up". Read from the bytes of the lines.
-- Assumes nothing.
use Rattle.std.specs.Prelude.{ℕ, ◌+◌, ◌≡◌, List, [], ◌∷◌}
use Rattle.codec.specs.Codec.{val_at}
use Rattle.account.specs.declared.Account.{Account}
use Rattle.account.specs.declared.Figures.{Figures}
use Rattle.account.specs.declared.Subtotal.{Subtotal}
use Rattle.promises.specs.Subtotals.{Group, added_up}

-- the last of some lines; no bytes where there is none
unfoldable pub last_of : List (List ℕ) → List ℕ
last_of [] = []
last_of (l ∷ []) = l
last_of (l ∷ (m ∷ ls)) = last_of (m ∷ ls)

-- the figure in the 8 bytes of a line from at on, of some lines, added up
unfoldable pub added_lines : ℕ → List (List ℕ) → ℕ
added_lines at [] = 0
added_lines at (l ∷ ls) = val_at l at 8 + added_lines at ls

-- for each figure that a group has, by its place in a line: CH4, N2O, excreted and land nitrogen
abbrev pub EachOfGroup : (ℕ → Type 0) → Type 0
EachOfGroup P = P 6 × (P 14 × (P 30 × P 38))

-- between the accounts a and b the farm's figure has grown by that of the groups gs, the group that a is in with what it had counted out
abbrev pub Gains : (Figures → ℕ) → (Subtotal → ℕ) → Account → Account → List Group → Type 0
Gains farm group a b gs = farm b.sums + group a.subtotal ≡ farm a.sums + added_up group gs
