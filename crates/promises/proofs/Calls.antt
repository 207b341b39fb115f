-- What the promises need of a call: it is the beginning of a run.
use Prim.Native.Nat.{ℕ, ◌-◌, ◌≤◌}
use mathlib.Core.Path.{◌≡◌, refl, ap}
use mathlib.Core.List.{List, ◌++◌}
use native.Mathlib.Omega.{arith}
use lib.ListN.{length, take, drop, length-drop, length-take, take-append-drop}
use lib.Seq.{take-take, drop-append-le, length-take-le}
use Rattle.account.specs.Line.{joined}
use Rattle.book.specs.declared.State.{State}
use Rattle.book.specs.State.{InRange}
use Rattle.book.specs.Run.{outcome, run}
use Rattle.book.specs.Call.{longest, fits, answer_of, call}
use Rattle.book.specs.Way.{called_then}
use Rattle.book.proofs.Outcomes.{outcome-append}
use Rattle.book.proofs.Calls.{call_at}
use Rattle.book.proofs.RunLeaves.{Tail, run-leaves}
use Rattle.promises.proofs.Fitting.{longest-most}

-- how many of the k bytes offered are run
abbrev some : State → List ℕ → ℕ → ℕ → ℕ
some s xs k room = longest (fits s (take k xs) room) (length (take k xs))

some_in : (s : State) (xs : List ℕ) (k room : ℕ) → (some s xs k room ≤ length xs) × (some s xs k room ≤ k)
some_in s xs k room =
    let m = longest-most (fits s (take k xs) room) (length (take k xs)) in
    (omega (arith, m, length-take k xs), omega (arith, m, length-take k xs))

call-is : (s : State) (xs : List ℕ) (k room : ℕ) → InRange s
    → call s (take k xs) room ≡ record {
      state = (run s (take (some s xs k room) xs)).state;
      taken = some s xs k room - length (run s (take (some s xs k room) xs)).left;
      bytes = joined (run s (take (some s xs k room) xs)).lines;
      answer =
          answer_of (run s (take (some s xs k room) xs)).state.account (some s xs k room - length (run s (take (some s xs k room) xs)).left)
          (length (take k xs));
    }
call-is s xs k room v =
    let n = some s xs k room in
    let e : take n (take k xs) ≡ take n xs = take-take n k xs (some_in s xs k room).1 in
    call_at s (take k xs) room n (outcome (run s (take n xs))) v refl (ap (λ (l : List ℕ). outcome (run s l)) e)

pub call-range : (s : State) (xs : List ℕ) (k room : ℕ) → InRange s → InRange (call s (take k xs) room).state
call-range s xs k room v = rw (call-is s xs k room v) (run-leaves s (take (some s xs k room) xs) v).range

-- what is left of the first n, and what stands behind them
tail-on : (l xs : List ℕ) (n : ℕ) → n ≤ length xs → Tail l (take n xs) → drop (n - length l) xs ≡ l ++ drop n xs
tail-on l xs n h t =
    let k : length (take n xs) ≡ n = length-take-le n xs h in
    let m : n - length l ≡ t.at = omega (arith, ap length t.is, length-drop t.at (take n xs), t.inside) in
    let e : drop t.at (take n xs ++ drop n xs) ≡ drop t.at (take n xs) ++ drop n xs =
    drop-append-le t.at (take n xs) (drop n xs) t.inside in
    rw (m, t.is) (rw take-append-drop at e)

-- a run is a call, and then a run of what is left
pub call-goes : (s : State) (xs : List ℕ) (k room : ℕ) → InRange s
    → outcome (run s xs) ≡ called_then (call s (take k xs) room) (outcome (run (call s (take k xs) room).state (drop (call s (take k xs) room).taken xs)))
call-goes s xs k room v =
    let n = some s xs k room in
    let r = run s (take n xs) in
    rw (call-is s xs k room v, tail-on r.left xs n (some_in s xs k room).0 (run-leaves s (take n xs) v).tail)
    (rw take-append-drop at (outcome-append s (take n xs) (drop n xs) (outcome r) refl))
