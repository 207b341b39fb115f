-- The close that is written: a whole record, and right after the records that it counts.
-- Assumes nothing.
use Prim.Native.Nat.{ℕ, ◌+◌, ◌≤◌}
use mathlib.Core.Path.{◌≡◌, refl, ap, ◌∙◌}
use mathlib.Core.List.{List, [], ◌∷◌}
use native.Mathlib.Omega.{arith}
use borrow.Author.Tests.{le-leb, lt-leb, eq-eqb, ne_eqb}
use lib.ListN.{get_or}
use Rattle.codec.specs.Table.{table, fields, size, length_of}
use Rattle.codec.specs.Codec.{first_bad, record_bytes}
use Rattle.codec.proofs.BigEndian.{one_byte}
use Rattle.codec.proofs.Round.{record-back, record-length, record-whole}
use Rattle.account.specs.declared.Account.{Account}
use Rattle.account.specs.Sorts.{sort_of}
use Rattle.account.specs.Account.{closed}
use Rattle.account.specs.Judge.{in_place_lem, first, accepted, judge, weigh}
use Rattle.account.specs.Told.{Kind}
use Rattle.account.proofs.Told.{right-length}

-- any count of kept records is in the field's range
pub any-count : (n : ℕ) → n ≤ 4096 → first_bad (fields 8) (n ∷ []) 0 ≡ 0
unfolding table first_bad
any-count n h = rw (le-leb 0 n (omega arith), le-leb n 65535 (omega arith))

pub close-kind : (v : List ℕ) → Kind 8 (record_bytes 8 v)
unfolding table size
close-kind v =
    let r = record_bytes 8 v in
    let w = record-whole 8 v (omega arith) in
    let first-version : get_or r 2 0 ≡ 1 = one_byte r 2 (get_or r 2 0) refl ∙ w.version-is in
    let eight : get_or r 3 0 ≡ 8 = one_byte r 3 (get_or r 3 0) refl ∙ w.kind-is in
    record {
      whole = record { long = omega (arith, w.complete, w.length-is); low = omega (arith, w.length-is); high = omega (arith, w.length-is) };
      version = rw first-version refl;
      listed = rw eight refl;
      kind = rw first-version eight;
    }

-- it does what its value does
close-weighs : (a : Account) (n : ℕ) → n ≤ 4096 → judge a (record_bytes 8 (n ∷ [])) ≡ weigh a 8 (n ∷ [])
unfolding table
close-weighs a n h =
    right-length a 8 (record_bytes 8 (n ∷ [])) (length_of 8 + 2) (close-kind (n ∷ [])) refl (omega (arith, record-length 8 (n ∷ [])))
    ∙ ap (weigh a 8) (record-back 8 (n ∷ []) (any-count n h) refl)

-- with the right count, after one record at least, it closes the book
pub close-closes : (a : Account) → 1 ≤ a.records → a.records ≤ 4095 → (judge a (record_bytes 8 (a.records ∷ []))).account ≡ closed a
unfolding weigh first in_place_lem accepted sort_of
close-closes a l h =
    rw (
      close-weighs a a.records (omega arith),
      lt-leb 4096 a.records (omega arith),
      ne_eqb a.records 0 (λ e. omega arith),
      any-count a.records (omega arith),
      eq-eqb a.records a.records refl,
    )
