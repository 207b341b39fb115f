-- Theorem: the bench's calls are a way of rule 3: some parts give the bytes of its lines.
-- Assumes nothing.
use Prim.Native.Nat.{ℕ, zero, suc, ◌-◌}
use mathlib.Core.Path.{◌≡◌, refl, ap}
use mathlib.Core.List.{List, [], ◌∷◌, ◌++◌, append-nil}
use lib.ListN.{length, take, drop}
use Rattle.base.proofs.Tests.{of-choice}
use Rattle.book.specs.declared.State.{State}
use Rattle.book.specs.State.{no_record_yet}
use Rattle.book.specs.Call.{call}
use Rattle.book.specs.Way.{Part, way}
use Rattle.benchdesk.specs.Bench.{Bench, last, bench_by, benched}

-- some parts from a state give these bytes
pub record IsWay (s : State) (xs bytes : List ℕ) : Type 0 where
  pub parts : List Part
  pub same : (way s xs parts).bytes ≡ bytes

-- so do the calls from any state
calls-way : (n : ℕ) (s : State) (xs : List ℕ) (part room : ℕ) → IsWay s xs (bench_by n s xs part room).bytes
unfolding bench_by way
calls-way zero s xs part room = record { parts = []; same = refl }
calls-way (suc n) s xs part room =
    let c = call s (take part xs) room in
    let i = calls-way n c.state (drop c.taken xs) part (room - length c.bytes) in
    of-choice (λ (b : Bench). IsWay s xs b.bytes) (last c xs)
    (λ e. record { parts = record { offered = part; room = room } ∷ []; same = append-nil c.bytes })
    (λ e. record { parts = record { offered = part; room = room } ∷ i.parts; same = ap (λ (l : List ℕ). c.bytes ++ l) i.same })

-- A book that the bench reads in parts gives the lines of a way from no record.
pub bench-way : (book : List ℕ) (part room : ℕ) → IsWay no_record_yet book (benched book part room).bytes
bench-way book part room = calls-way (length book) no_record_yet book part room
