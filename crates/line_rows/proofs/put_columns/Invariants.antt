-- One column behind another. Assumes nothing.
use Prim.Native.Nat.{ℕ, ◌+◌, ◌*◌, ◌≤◌}
use mathlib.Core.Path.{◌≡◌}
use mathlib.Core.List.{List}
use lib.ListN.{length, drop}
use Rattle.printing.specs.Decimal.{Put}
use Rattle.line_rows.specs.declared.Form.{Form}
use Rattle.line_rows.specs.Rows.{columns_text}
use Rattle.line_rows.proofs.put_columns.Given as goal

-- there is room for what is left, and putting it makes the whole
pub record SoFar (out₀ : List ℕ) (at : ℕ) (form : Form) (values out : List ℕ) (end k : ℕ) : Type 0 where
  pub same : length out ≡ length out₀
  pub room : end + 21 * length values ≤ length out + 21 * k
  pub small : end + 21 ≤ at + 21 * k
  pub rest : (zs : List ℕ) (q : ℕ) → Put out zs end (columns_text form k (drop k values)) q → Put out₀ zs at (columns_text form 1 (drop 1 values)) q

abbrev pub invariant-loop-k : goal.invariant-loop-k
invariant-loop-k l = SoFar l.initial.out l.at l.form l.values l.out l.end l.k
