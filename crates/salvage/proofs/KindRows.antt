-- A record's row where its kind is 8 or 1.
-- Assumes nothing.
use Prim.Native.Nat.{ℕ}
use mathlib.Core.Path.{◌≡◌, refl}
use mathlib.Core.Bool.{Bool, true, false, ◌&&◌}
use mathlib.Core.Logic.{⊎_elim}
use native.Mathlib.Omega.{arith}
use borrow.Author.Tests.{eqb-true}
use lib.Dec.{eqb}
use Rattle.base.specs.Choice.{pick}
use Rattle.base.proofs.Tests.{and_r, or_cases}
use Rattle.codec.specs.Table.{row_of, last_row, is_kind}
use Rattle.codec.proofs.EachKind.{kind-most}
use Rattle.account.specs.Sorts.{is_farm}

module _ (version kind : ℕ) where
  pub row-eight : row_of version kind ≡ 8 → kind ≡ 8
  row-eight e = go (eqb version 2 && eqb kind 1) e
    where
      go : (b : Bool) → pick b last_row kind ≡ 8 → kind ≡ 8
      go true e = absurd (omega arith)
      go false e = e

  pub eight-row : kind ≡ 8 → row_of version kind ≡ 8
  eight-row e = rw e (go (eqb version 2))
    where
      go : (b : Bool) → ◌≡◌ {A = ℕ} (pick (b && false) last_row 8) 8
      go true = refl
      go false = refl

  pub farm-row : is_kind kind ≡ true → is_farm (row_of version kind) ≡ true → kind ≡ 1
  farm-row l f = go (eqb version 2 && eqb kind 1) refl f
    where
      go : (b : Bool) → eqb version 2 && eqb kind 1 ≡ b → is_farm (pick b last_row kind) ≡ true → kind ≡ 1
      go true e f = eqb-true _ _ (and_r (eqb version 2) (eqb kind 1) e)
      go false e f =
          ⊎_elim (λ (p : eqb kind 1 ≡ true). eqb-true _ _ p)
          (λ (p : eqb kind last_row ≡ true). let z = eqb-true kind last_row p in let m = kind-most kind l in absurd (omega arith))
          (or_cases (eqb kind 1) (eqb kind last_row) f)
