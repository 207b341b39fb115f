-- The version of a whole record: 1, 2 of a farm record, or none.
-- Assumes nothing.
use Prim.Native.Nat.{ℕ}
use mathlib.Core.Path.{◌≡◌, refl, sym}
use mathlib.Core.List.{List}
use mathlib.Core.Bool.{Bool, true, false, ◌&&◌, ◌||◌, not}
use borrow.Author.Tests.{eqb-true, ne_eqb}
use lib.Dec.{eqb}
use Rattle.base.proofs.Tests.{no_bool}
use Rattle.codec.specs.Table.{last_row}
use Rattle.account.specs.Judge.{WholeRecord, version_of, kind_byte, record_row, wrong_version, wrong_kind}
use Rattle.account.specs.Told.{Kind}

module _ (r : List ℕ) where
  -- with version 1 the row is the kind
  pub first-version : version_of r ≡ 1 → wrong_version r ≡ false
  first-version e = rw e refl

  pub own_row : version_of r ≡ 1 → record_row r ≡ kind_byte r
  own_row e = rw e refl

  -- neither 1, nor 2 of a farm record
  pub no-version : (version_of r ≡ 1 → ⊥) → not (eqb (version_of r) 2) || not (eqb (kind_byte r) 1) ≡ true → wrong_version r ≡ true
  no-version n e = rw (ne_eqb _ 1 n) (go (eqb (version_of r) 2) (eqb (kind_byte r) 1) e)
    where
      go : (a b : Bool) → not a || not b ≡ true → not (false || (a && b)) ≡ true
      go true true q = q
      go true false q = refl
      go false b q = refl

  -- 2 of a farm record
  pub second-version : WholeRecord r → not (eqb (version_of r) 2) || not (eqb (kind_byte r) 1) ≡ false → Kind last_row r
  second-version w e = record { whole = w; version = passes; listed = listed; kind = row }
    where
      go : (a b : Bool) → not a || not b ≡ false → (a ≡ true) × (b ≡ true)
      go true true q = (refl, refl)
      go true false q = no_bool (sym q)
      go false b q = no_bool (sym q)

      two : eqb (version_of r) 2 ≡ true
      two = (go (eqb (version_of r) 2) (eqb (kind_byte r) 1) e).0

      one : eqb (kind_byte r) 1 ≡ true
      one = (go (eqb (version_of r) 2) (eqb (kind_byte r) 1) e).1

      passes : wrong_version r ≡ false
      passes = rw (eqb-true (version_of r) 2 two, eqb-true (kind_byte r) 1 one) refl

      listed : wrong_kind r ≡ false
      listed = rw (eqb-true (kind_byte r) 1 one) refl

      row : record_row r ≡ last_row
      row = rw (eqb-true (version_of r) 2 two, eqb-true (kind_byte r) 1 one) refl
