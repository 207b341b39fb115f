-- The numbers of the groups of a book's accepted records.
-- Assumes nothing.
use Prim.Native.Nat.{ℕ, ◌≤◌, ◌<◌}
use mathlib.Core.Path.{◌≡◌, refl, subst}
use mathlib.Core.List.{List, [], ◌∷◌}
use mathlib.Core.Bool.{true, not}
use native.Mathlib.Omega.{arith}
use borrow.Author.Tests.{eqb-true, eqb-false, eq-eqb}
use lib.ListN.{get_or}
use lib.Dec.{eqb, ltb}
use Rattle.std.proofs.Common.{Option, Some, None, IfSome, IfNone}
use Rattle.base.proofs.Tests.{of-choice, and_r, and-false, not-true}
use Rattle.codec.specs.Table.{table, fields, row_of}
use Rattle.codec.specs.Codec.{in_twelve, first_bad}
use Rattle.codec.proofs.Within.{first-within}
use Rattle.account.specs.declared.Account.{Account}
use Rattle.account.specs.Judge.{version_of, kind_byte, record_row, values_of, judge}
use Rattle.account.proofs.Refusals.{passed, judged-passes}
use Rattle.walk.specs.Walk.{Entry, entry_of, accepts, entries_from}
use Rattle.compare.specs.Records.{values_in}
use Rattle.compare.specs.Places.{heads, no_group}

-- a heading's number is below the one that stands for no group
abbrev pub Low : Entry → Type 0
Low e = heads e ≡ true → get_or (values_in e.bytes) 0 0 < no_group

unfoldable pub AllLow : List Entry → Type 0
AllLow [] = Unit {0}
AllLow (e ∷ es) = Low e × AllLow es

first-value : (vs : List ℕ) → get_or (in_twelve vs) 0 0 ≡ get_or vs 0 0
first-value [] = refl
first-value (v ∷ vs) = refl

pub row-two : (version kind : ℕ) → kind ≡ 2 → row_of version kind ≡ 2
row-two version kind e = rw (e, and-false (eqb version 2)) refl

low_value : (row : ℕ) (vs : List ℕ) → row ≡ 2 → first_bad (fields row) vs 0 ≡ 0 → get_or vs 0 0 ≤ 65535
unfolding table
low_value row vs e h = (first-within _ _ vs 0 (rw e at h)).0.below

low : (a : Account) (r : List ℕ) → ((judge a r).account.stage ≡ 3 → ⊥) → Low (entry_of a r)
low a r still h =
    let t = judged-passes a r still in
    let p = passed a (record_row r) (values_of r) t.values in
    let v = low_value (record_row r) (values_of r) (row-two (version_of r) (kind_byte r) (eqb-true _ _ h)) p.ranges in
    let f = first-value (values_of r) in
    omega (arith, v, f)

pub all-low : (a : Account) (rs : List (List ℕ)) → AllLow (entries_from a rs)
unfolding AllLow entries_from
all-low a [] = tt
all-low a (r ∷ rs) =
    of-choice AllLow (accepts a r)
    (λ t. (
      low a r (eqb-false _ _ (not-true _ (and_r (ltb a.stage 2) (not (eqb (judge a r).account.stage 3)) t))),
      all-low
          (judge a r).account rs,
    ))
    (λ t. tt)

-- the number of the first of them, if it is a heading
pub number-low : (es : List Entry) (e : Entry) (l : List Entry) (v : List ℕ) → AllLow es → es ≡ e ∷ l → kind_byte e.bytes ≡ 2 → v ≡ values_in e.bytes
    → get_or v 0 0 < no_group
unfolding AllLow
number-low es e l v a q h f = rw f ((subst AllLow q a).0 (eq-eqb _ _ h))

-- ---- the number as the code has it, if there is one

pub some-number : (n : ℕ) (o : Option ℕ) (g : ℕ) → IfSome o (λ h. (h ≡ n) × (h < no_group)) → o ≡ Some g → (g ≡ n) × (g < no_group)
some-number n o g s e = rw e at s

pub no-number : (n : ℕ) (o : Option ℕ) → IfNone o (n ≡ no_group) → o ≡ None → n ≡ no_group
no-number n o s e = rw e at s
