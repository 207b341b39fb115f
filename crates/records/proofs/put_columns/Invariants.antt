-- One column after another. Assumes nothing.
use Prim.Native.Nat.{ℕ, ◌+◌, ◌*◌, ◌≤◌}
use mathlib.Core.Path.{◌≡◌}
use mathlib.Core.List.{List}
use lib.ListN.{length, drop}
use Rattle.printing.specs.Decimal.{Put}
use Rattle.line_rows.specs.declared.Form.TheVariants.{Sheet}
use Rattle.line_rows.specs.Rows.{columns_text}
use Rattle.records.specs.Table.{number_most}
use Rattle.records.proofs.put_columns.Given as goal

-- there is room for what is left, and putting it makes the whole
pub record SoFar (out₀ : List ℕ) (at : ℕ) (values out : List ℕ) (end k : ℕ) : Type 0 where
  pub same : length out ≡ length out₀
  pub from : 2 ≤ k
  pub to : k ≤ length values
  pub room : end + number_most * length values ≤ length out + number_most * k
  pub small : end + 42 ≤ at + number_most * k
  pub rest : (zs : List ℕ) (q : ℕ) → Put out zs end (columns_text Sheet k (drop k values)) q → Put out₀ zs at (columns_text Sheet 2 (drop 2 values)) q

abbrev pub invariant-loop-k : goal.invariant-loop-k
invariant-loop-k l = SoFar l.initial.out l.at l.values l.out l.end l.k
