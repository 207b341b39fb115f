-- A whole record whose length is its kind's: its values, read by the kind's own function, decide.
-- Assumes nothing.
use Prim.Native.Nat.{ℕ, ◌+◌, ◌≤◌}
use mathlib.Core.Path.{◌≡◌, refl, ap, ◌∙◌}
use mathlib.Core.List.{List}
use mathlib.Core.Bool.{true, false, ◌||◌}
use mathlib.Core.Logic.{⊎_elim}
use native.Mathlib.Omega.{arith}
use borrow.Author.Tests.{ltb-true, ltb-false, le-leb, lt-leb}
use lib.ListN.{length}
use lib.Dec.{ltb, leb}
use Rattle.base.proofs.Tests.{and-false, or_cases, or_l, or_r}
use Rattle.codec.specs.Table.{fields, length_of, last_kind, is_kind}
use Rattle.codec.specs.Codec.{values_at}
use Rattle.account.specs.declared.Account.{Account}
use Rattle.account.specs.declared.Judged.{Judged}
use Rattle.account.specs.Judge.{record_row, weigh, judge}
use Rattle.account.specs.Told.{TellsIn, Kind}
use Rattle.rules.specs.Right.{Right}
use Rattle.account.proofs.Told.{right-length}
use Rattle.rules.proofs.ByVersion.{first-version, own_row}

-- the kinds go from 1 to the highest
module _ (k : ℕ) where
  pub not_listed : ltb k 1 || ltb last_kind k ≡ true → is_kind k ≡ false
  not_listed e =
      ⊎_elim (λ (l : ltb k 1 ≡ true). rw (lt-leb 1 k (ltb-true k 1 l)) refl)
      (λ (l : ltb last_kind k ≡ true). rw (lt-leb k last_kind (ltb-true last_kind k l)) (and-false (leb 1 k))) (or_cases (ltb k 1) (ltb last_kind k) e)

  pub listed : ltb k 1 || ltb last_kind k ≡ false → is_kind k ≡ true
  listed e =
      let least = ltb-false k 1 (or_l (ltb k 1) (ltb last_kind k) e) in
      let most = ltb-false last_kind k (or_r (ltb k 1) (ltb last_kind k) e) in
      rw (le-leb 1 k least, le-leb k last_kind most) refl

module _ {r : List ℕ} (s : Right r) (k : ℕ) (e : record_row r ≡ k) where
  -- the bytes that the kind's function reads are there
  pub there : (n : ℕ) → 2 + length_of k ≡ n → n ≤ length r
  there n f =
      let same : length r ≡ n = s.long ∙ ap (λ (i : ℕ). 2 + length_of i) e ∙ f in
      omega arith

  -- what the values do is what the record does
  pub by-kind : (room : ℕ) (a : Account) (v : List ℕ) (j : Judged) → v ≡ values_at (fields k) r 4 → TellsIn room a (weigh a k v) j
      → TellsIn room a (judge a r) j
  by-kind room a v j q t =
      let is : Kind (record_row r) r =
      record { whole = s.whole; version = first-version r s.version; listed = rw (← own_row r s.version, s.kinds) refl; kind = refl } in
      let size : length_of (record_row r) + 2 ≡ length r = omega (arith, s.long) in
      rw (right-length a (record_row r) r (length r) is size refl, e, ← q) t
