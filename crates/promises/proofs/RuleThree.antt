-- Rule 3: however a run is cut into calls, and whatever the line buffers' sizes, what comes out is what rule 2 gives for the uncut run.
use Prim.Native.Nat.{ℕ, ◌≤◌}
use mathlib.Core.Path.{◌≡◌, refl, ap, sym, ◌∙◌}
use mathlib.Core.List.{List, [], ◌∷◌, ◌++◌, append_assoc, append-nil}
use mathlib.Core.Bool.{false}
use mathlib.Core.Logic.{⊎_elim}
use lib.ListN.{take, drop}
use Rattle.book.specs.declared.State.{State}
use Rattle.book.specs.State.{InRange, in_range}
use Rattle.book.specs.Run.{then, Outcome, outcome, run}
use Rattle.book.specs.Call.{call}
use Rattle.book.specs.Way.{Part, called_then, way, Ended}
use Rattle.book.proofs.Runs.{run-append, run_none, run-ended}
use Rattle.book.proofs.Outcomes.{join}
use Rattle.promises.proofs.Calls.{call-range, call-goes}
use Rattle.promises.proofs.StaysInRange.{outside-answer}

-- A run may be broken anywhere: a run of xs and ys gives the lines of the run of xs, and then what a run from the state reached gives
-- for what was left of xs, and ys.
pub broken-anywhere : (s : State) (xs ys : List ℕ) → run s (xs ++ ys) ≡ then (run s xs).lines (run (run s xs).state ((run s xs).left ++ ys))
broken-anywhere = run-append

-- a series of calls is the beginning of a run
record Goes (s : State) (xs : List ℕ) (o : Outcome) : Type 0 where
  range : InRange o.state
  on : outcome (run s xs) ≡ join o (outcome (run o.state o.left))

way-goes : (ps : List Part) (s : State) (xs : List ℕ) → InRange s → Goes s xs (way s xs ps)
unfolding way
way-goes [] s xs v = record { range = v; on = refl }
way-goes (p ∷ ps) s xs v =
    let c = call s (take p.offered xs) p.room in
    let i = way-goes ps c.state (drop c.taken xs) (call-range s xs p.offered p.room v) in
    record { range = i.range; on = call-goes s xs p.offered p.room v ∙ ap (called_then c) i.on ∙ rw append_assoc }

-- Rule 3: a series of calls from a state in range that is at its end has the state, the lines and the bytes left of the uncut run.
pub way-is-run : (s : State) (xs : List ℕ) (ps : List Part) → InRange s → Ended (way s xs ps) → way s xs ps ≡ outcome (run s xs)
way-is-run s xs ps v e =
    let w = way s xs ps in
    let g = way-goes ps s xs v in
    let done : outcome (run w.state w.left) ≡ record { state = w.state; bytes = []; left = w.left } =
    ⊎_elim (λ (h : w.left ≡ []). rw (h, run_none w.state g.range))
    (λ (h : 2 ≤ w.state.account.stage). rw (run-ended w.state w.left g.range h)) e in
    sym (g.on ∙ ap (join w) done ∙ rw append-nil)

-- Two series of calls over one run, each at its end, give the same state, the same lines, and leave the same bytes.
pub ways-agree : (s : State) (xs : List ℕ) (ps qs : List Part) → InRange s → Ended (way s xs ps) → Ended (way s xs qs) → way s xs ps ≡ way s xs qs
ways-agree s xs ps qs v d e = way-is-run s xs ps v d ∙ sym (way-is-run s xs qs v e)

-- A series of calls from a state in range ends in one.
pub way-range : (s : State) (xs : List ℕ) (ps : List Part) → InRange s → InRange (way s xs ps).state
way-range s xs ps v = (way-goes ps s xs v).range

-- From a state outside the ranges every series of calls leaves the state as it was, gives nothing and keeps all bytes; each call's answer is 13
-- (`outside-answer`).
pub outside-ways : (s : State) (xs : List ℕ) (ps : List Part) → in_range s ≡ false → way s xs ps ≡ record { state = s; bytes = []; left = xs }
unfolding way
outside-ways s xs [] e = refl
outside-ways s xs (p ∷ ps) e = rw (outside-answer s (take p.offered xs) p.room e).0 (rw (outside-ways s xs ps e) refl)
