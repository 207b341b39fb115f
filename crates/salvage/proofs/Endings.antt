-- What ends a reading, as it is computed: the close at the front, and the end of a damaged book.
-- Assumes nothing.
use Prim.Native.Nat.{ℕ, ◌-◌, ◌≤◌}
use mathlib.Core.Path.{◌≡◌, refl}
use mathlib.Core.List.{List}
use mathlib.Core.Bool.{◌&&◌}
use native.Mathlib.Omega.{arith}
use lib.Dec.{eqb}
use lib.ListN.{length, drop}
use Rattle.base.proofs.Tests.{of-choice}
use Rattle.account.specs.Judge.{kind_byte}
use Rattle.book.specs.Front.{Front, unfinished, bad_length, whole, front}
use Rattle.walk.specs.Walk.{record_at}
use Rattle.book.proofs.Fronts.{meaning}
use Rattle.salvage.specs.declared.Reading.{Reading}
use Rattle.salvage.specs.declared.how_far.Ending.{Ending}
use Rattle.salvage.specs.declared.how_far.ReadingEnd.{ReadingEnd}
use Rattle.salvage.specs.declared.how_far.Reached.{Reached}
use Rattle.salvage.specs.Salvage.{dropped_by}
use Rattle.salvage.specs.HowFar.{close_bytes, ending_at, end_of}
use Rattle.salvage.specs.Inner.{Reaches}

module _ (s : Reading) (xs : List ℕ) where
  pub close-most : close_bytes (front xs) s xs ≤ length xs
  close-most = go (front xs) refl
    where
      go : (f : Front) → front xs ≡ f → close_bytes f s xs ≤ length xs
      go unfinished e = omega arith
      go bad_length e = omega arith
      go whole e =
          of-choice (λ (n : ℕ). n ≤ length xs) (eqb (kind_byte (record_at xs)) 8 && eqb (dropped_by s (record_at xs)) 0)
          (λ z. (meaning xs whole e).3) (λ z. omega arith)

-- the end, from where the reading was reached
pub end_is : (xs rest : List ℕ) (r : Reached) (close : ℕ) (why : Ending) → Reaches xs r → rest ≡ drop r.at xs
    → close ≡ close_bytes (front rest) r.reading rest → why ≡ ending_at r.reading rest close
    → ◌≡◌ {A = ReadingEnd} (record { at = r.at; why = why; unread = length rest - close }) (end_of xs)
unfolding end_of
end_is xs rest r close why y p q k = rw (k, q, p, y.reading, y.at)
