-- The lines of details are no subtotals: what stands before and behind them has all that there are.
-- Assumes nothing.
use Prim.Native.Nat.{ℕ, ◌≤◌, ◌<◌}
use mathlib.Core.Path.{◌≡◌, refl, ap, ◌∙◌}
use mathlib.Core.List.{List, [], ◌∷◌, ◌++◌, map}
use native.Mathlib.Omega.{arith}
use borrow.Author.Tests.{ne_eqb}
use Rattle.base.proofs.Tests.{not-false}
use Rattle.codec.specs.Table.{is_kind}
use Rattle.codec.specs.Codec.{val_at}
use Rattle.codec.proofs.EachKind.{row-most, row-of-kind}
use Rattle.account.specs.declared.Account.{Account}
use Rattle.account.specs.declared.Heading.{Heading}
use Rattle.account.specs.Sorts.{sort_of}
use Rattle.account.specs.Line.{group_of}
use Rattle.account.specs.Judge.{version_of, kind_byte, record_row}
use Rattle.account.proofs.Sorts.{by-sort}
use Rattle.account.proofs.Details.{with_record}
use Rattle.promises.specs.Headings.{Mark}
use Rattle.promises.specs.Subtotals.{subtotal_lines}
use Rattle.promises.proofs.Headings.{line-mark}
use Rattle.promises.proofs.Subtotals.{lines-append}
use Rattle.orders.proofs.Orders.{InTurn, line_in}

another-kind : (l : List ℕ) (ls : List (List ℕ)) (k : ℕ) → val_at l 3 1 ≡ k → (k ≡ 16 → ⊥) → subtotal_lines (l ∷ ls) ≡ subtotal_lines ls
unfolding subtotal_lines
another-kind l ls k e n = rw (e, ne_eqb k 16 n) refl

group-small : (h : Heading) (k : ℕ) → h.group ≤ 65535 → group_of h k < 65536
group-small h k g =
    by-sort (λ (n : ℕ). n < 65536) (sort_of k) (λ e. omega arith) (λ e. omega arith) (λ e. omega arith) (λ e. omega arith) (λ e. omega arith)

none-there : (rs : List (List ℕ)) (a : Account) (h : Heading) → h.group ≤ 65535 → InTurn a rs → subtotal_lines (map (line_in h) rs) ≡ []
unfolding subtotal_lines
none-there [] a h g t = refl
none-there (r ∷ rs) a h g t =
    let k = row-most (record_row r) (row-of-kind (version_of r) (kind_byte r) (not-false (is_kind (kind_byte r)) t.0.takes.passes.kind)) in
    let m = ap (λ (m : Mark). m.kind) (line-mark (record_row r) (group_of h (record_row r)) _ (omega (arith, k)) (group-small h (record_row r) g)) in
    another-kind (line_in h r) (map (line_in h) rs) (record_row r) m (λ e. omega (arith, e, k)) ∙ none-there rs (with_record a r) h g t.1

pub around : (rs : List (List ℕ)) (a : Account) (h : Heading) (ks ls : List (List ℕ)) → h.group ≤ 65535 → InTurn a rs
    → subtotal_lines (ks ++ (map (line_in h) rs ++ ls)) ≡ subtotal_lines ks ++ subtotal_lines ls
around rs a h ks ls g t =
    lines-append ks (map (line_in h) rs ++ ls)
    ∙ ap (λ (l : List (List ℕ)). subtotal_lines ks ++ l)
    (lines-append (map (line_in h) rs) ls ∙ ap (λ (l : List (List ℕ)). l ++ subtotal_lines ls) (none-there rs a h g t))
