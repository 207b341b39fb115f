-- Laws of the rows of the table: which numbers are kinds and rows, and what holds of each row holds of all.
-- Assumes nothing.
use Prim.Native.Nat.{ℕ, zero, suc, ◌+◌, ◌<◌, ◌≤◌}
use mathlib.Core.Path.{◌≡◌, refl}
use mathlib.Core.Bool.{Bool, true, false, ◌&&◌}
use mathlib.Core.List.{[]}
use native.Mathlib.Omega.{arith}
use borrow.Author.Tests.{eqb-true, eqb-false, leb-true, leb-false, le-leb}
use lib.Dec.{leb, eqb}
use lib.ListN.{get_or-eq_default}
use Rattle.base.specs.Choice.{pick}
use Rattle.base.proofs.Tests.{by-test, and_l, and_r}
use Rattle.codec.specs.Table.{table, fields, row_of, last_kind, last_row, is_kind, is_row}

pub kind-least : (k : ℕ) → is_kind k ≡ true → 1 ≤ k
kind-least k e = leb-true _ _ (and_l (leb 1 k) (leb k last_kind) e)

pub kind-most : (k : ℕ) → is_kind k ≡ true → k ≤ last_kind
kind-most k e = leb-true _ _ (and_r (leb 1 k) (leb k last_kind) e)

pub row-least : (k : ℕ) → is_row k ≡ true → 1 ≤ k
row-least k e = leb-true _ _ (and_l (leb 1 k) (leb k last_row) e)

pub row-most : (k : ℕ) → is_row k ≡ true → k ≤ last_row
row-most k e = leb-true _ _ (and_r (leb 1 k) (leb k last_row) e)

-- a kind is a row, and so is the row of a record of some kind
pub kind_row : (k : ℕ) → is_kind k ≡ true → is_row k ≡ true
kind_row k e = let l = kind-least k e in let m = kind-most k e in rw (le-leb 1 k l, le-leb k last_row (omega arith)) refl

pub row-of-kind : (version kind : ℕ) → is_kind kind ≡ true → is_row (row_of version kind) ≡ true
row-of-kind version kind e = go (eqb version 2 && eqb kind 1)
  where
    go : (b : Bool) → is_row (pick b last_row kind) ≡ true
    go true = refl
    go false = kind_row kind e

-- ---- one after the other

-- k is none of the numbers 1 to n: what the last arm of a `match` knows
abbrev pub NoneOf : ℕ → ℕ → Type 0
NoneOf zero k = Unit {0}
NoneOf (suc n) k = NoneOf n k × (k ≡ suc n → ⊥)

past : (n k : ℕ) → 1 ≤ k → NoneOf n k → n < k
past zero k l h = l
past (suc n) k l h = let m = past n k l h.0 in let other = h.1 in omega arith

-- a number that is none of the kinds is no kind
pub no_kind : (k : ℕ) → NoneOf last_kind k → is_kind k ≡ false
no_kind k h = by-test (is_kind k) (λ e. absurd (omega (arith, past last_kind k (kind-least k e) h, kind-most k e))) (λ e. e)

-- a row that is none of those from 1 on is 0
pub row_zero : (k : ℕ) → k ≤ last_row → NoneOf last_row k → k ≡ 0
row_zero k m h =
    by-test (leb 1 k) (λ e. absurd (omega (arith, past last_row k (leb-true 1 k e) h))) (λ e. let l = leb-false 1 k e in omega arith)

-- P of each of n numbers, from i on
abbrev pub EachFrom : (ℕ → Type 0) → ℕ → ℕ → Type 0
EachFrom P i zero = Unit {0}
EachFrom P i (suc n) = P i × EachFrom P (suc i) n

of-each : (P : ℕ → Type 0) (n i : ℕ) → EachFrom P i n → (k : ℕ) → i ≤ k → k < i + n → P k
of-each P zero i c k l m = absurd (omega arith)
of-each P (suc n) i c k l m =
    by-test (eqb k i) (λ e. rw (eqb-true k i e) c.0) (λ e. let o = eqb-false k i e in of-each P n (suc i) c.1 k (omega arith) (omega arith))

-- what holds of each row holds of any
pub each_row : (P : ℕ → Type 0) → EachFrom P 1 last_row → (k : ℕ) → is_row k ≡ true → P k
each_row P c k e = of-each P last_row 1 c k (row-least k e) (omega (arith, row-most k e))

-- past the last row there are no fields
pub no_fields : (k : ℕ) → last_row < k → fields k ≡ []
unfolding table
no_fields k h = get_or-eq_default table [] h
