-- Laws of the unusual values of an entry, one field after the other.
-- Assumes nothing.
use Prim.Native.Nat.{ℕ, suc, ◌+◌, ◌-◌, ◌<◌, ◌≤◌}
use native.Mathlib.Numerals.{add-one}
use native.Mathlib.Omega.{arith}
use mathlib.Core.Path.{◌≡◌, refl}
use mathlib.Core.List.{[], ◌++◌}
use Rattle.base.specs.Choice.{pick, one_more_lem}
use Rattle.writer.specs.declared.typed_line.Entry.{Entry}
use Rattle.writer.specs.Unusual.{is_unusual, unusual_from, one_remark, remarks_from}

module _ (n i who : ℕ) (e : Entry) (count : ℕ) where
  pub one_field : i < n
      → unusual_from (n - i) i who e count ≡ unusual_from (n - (i + 1)) (i + 1) who e (pick (is_unusual who e i) (one_more_lem count) count)
  unfolding unusual_from
  one_field h = let left : n - i ≡ suc (n - (i + 1)) = omega arith in rw (left, add-one i) refl

  pub no_field : n ≤ i → unusual_from (n - i) i who e count ≡ count
  unfolding unusual_from
  no_field h = let left : n - i ≡ 0 = omega arith in rw left refl

  pub one-said : (line : ℕ) → i < n
      → remarks_from (n - i) i line who e count
      ≡ one_remark line who e i count ++ remarks_from (n - (i + 1)) (i + 1) line who e (pick (is_unusual who e i) (one_more_lem count) count)
  unfolding remarks_from
  one-said line h = let left : n - i ≡ suc (n - (i + 1)) = omega arith in rw (left, add-one i) refl

  pub none_said : (line : ℕ) → n ≤ i → remarks_from (n - i) i line who e count ≡ []
  unfolding remarks_from
  none_said line h = let left : n - i ≡ 0 = omega arith in rw left refl
