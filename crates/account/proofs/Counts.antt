-- What a record's lines can cost: only a record that is accepted gives lines, and it counts as one more record.
-- Assumes nothing.
use Prim.Native.Nat.{ℕ, ◌+◌, ◌*◌, ◌≤◌}
use mathlib.Core.Path.{◌≡◌, refl}
use mathlib.Core.List.{List, []}
use mathlib.Core.Logic.{◌⊎◌, inl, inr, ⊎_elim}
use native.Mathlib.Omega.{arith}
use lib.ListN.{length}
use lib.Dec.{eqb}
use Rattle.base.proofs.Tests.{of-choice}
use Rattle.line_bytes.specs.Lines.{lines_most}
use Rattle.account.specs.declared.Account.{Account}
use Rattle.account.specs.Sorts.{sort_of}
use Rattle.account.specs.Line.{joined}
use Rattle.account.specs.Judge.{record_row, refusals, first, Step, accepted, judge}
use Rattle.account.proofs.Sorts.{by-sort}
use Rattle.account.proofs.Keeps.{judge-short}

-- a record gives no lines and is not counted, or is counted
abbrev Counted : ℕ → Step → Type 0
Counted n s = ((s.lines ≡ []) × (s.account.records ≡ n)) ⊎ (s.account.records ≡ n + 1)

counted : (a : Account) (r : List ℕ) → Counted a.records (judge a r)
unfolding judge accepted
counted a r =
    of-choice (Counted a.records) (eqb (first (refusals a r)) 0)
    (λ e. by-sort (Counted a.records) (sort_of (record_row r)) (λ e. inr refl) (λ e. inr refl) (λ e. inr refl) (λ e. inr refl) (λ e. inr refl))
    (λ e. inl (refl, refl))

-- the bytes of a record's lines are at most so many for each record that it adds to those accepted
pub judge-counts : (a : Account) (r : List ℕ) → length (joined (judge a r).lines) + lines_most * a.records ≤ lines_most * (judge a r).account.records
judge-counts a r =
    ⊎_elim
    (λ (q : ((judge a r).lines ≡ []) × ((judge a r).account.records ≡ a.records)). rw (q.0, q.1) (omega arith))
    (λ (q : (judge a r).account.records ≡ a.records + 1). omega (arith, judge-short a r))
    (counted a r)
