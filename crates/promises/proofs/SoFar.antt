-- A way, at its end or not: what it has given and where it stands is what rule 2 gives for the bytes that it has taken; so the heading law holds of
-- each call and of each way. And some way ends, for every state in range and every run.
-- Assumes nothing.
use Prim.Native.Nat.{ℕ, ◌-◌, ◌≤◌, ◌<◌}
use mathlib.Core.Path.{◌≡◌, refl, sym, ap, ◌∙◌}
use mathlib.Core.List.{List, [], ◌∷◌, ◌++◌, append-nil}
use mathlib.Core.Logic.{inl, inr, ⊎_elim}
use native.Mathlib.Omega.{arith}
use native.Mathlib.Nat.{sub-zero}
use borrow.Author.Tests.{le-leb}
use lib.ListN.{length, take, drop, length-append, length-drop, length-take, take-append-drop, drop_of_length-le}
use lib.Seq.{take-add, take-take, take-length, length-take-le}
use Rattle.base.proofs.Tests.{lt-or-ge}
use Rattle.account.specs.Line.{joined}
use Rattle.book.specs.declared.State.{State}
use Rattle.book.specs.State.{InRange}
use Rattle.book.specs.Run.{Run, then, Outcome, outcome, run}
use Rattle.book.specs.Call.{longest, fits, call}
use Rattle.book.specs.Way.{Part, way, Ended}
use Rattle.book.proofs.Runs.{run-append, run_none, run-ended}
use Rattle.book.proofs.RunLeaves.{run-leaves}
use Rattle.book.proofs.Outcomes.{join, outcome-append}
use Rattle.book.proofs.Calls.{call_at}
use Rattle.promises.specs.Taken.{taken_by}
use Rattle.promises.specs.Headings.{marks_of, Bears, accepted_records}
use Rattle.promises.proofs.Fitting.{longest-most, longest-least}
use Rattle.promises.proofs.SureStep.{takes_one}
use Rattle.promises.proofs.StaysInRange.{stays-in-range}
use Rattle.promises.proofs.Taken.{taken-most, way-leaves}
use Rattle.promises.proofs.Headings.{headings}

-- ---- the bytes that a run takes

no_length : (l : List ℕ) → length l ≡ 0 → l ≡ []
no_length [] e = refl
no_length (x ∷ l) e = absurd (omega (arith, e))

-- r has left nothing, and w is r but for what it leaves
record Trims (r w : Run) : Type 0 where
  none : r.left ≡ []
  state : r.state ≡ w.state
  lines : r.lines ≡ w.lines

-- what is left of xs is of no matter
module _ (s : State) (ys zs : List ℕ) (v : InRange s) (left : (run s (ys ++ zs)).left ≡ zs) where
  abbrev r : Run
  r = run s ys

  broken : run s (ys ++ zs) ≡ then r.lines (run r.state (r.left ++ zs))
  broken = run-append s ys zs

  left_open : r.state.account.stage < 2 → Trims r (run s (ys ++ zs))
  left_open h =
      let w = run-leaves s ys v in
      let n = w.all h in
      let e : run s (ys ++ zs) ≡ then r.lines (run r.state zs) = rw n at broken in
      let l : length (run r.state zs).left ≡ length zs = ap length (sym (ap (λ (w : Run). w.left) e) ∙ left) in
      let z : zs ≡ [] =
      ⊎_elim (λ (p : length zs < 1). no_length zs (omega arith))
      (λ (p : 1 ≤ length zs). absurd (omega (arith, takes_one r.state zs w.range h (omega arith)))) (lt-or-ge (length zs) 1) in
      let f : run r.state zs ≡ record { state = r.state; lines = []; left = [] } = rw z (run_none r.state w.range) in
      let g : run s (ys ++ zs) ≡ record { state = r.state; lines = r.lines ++ []; left = [] } = e ∙ ap (then r.lines) f in
      record { none = n; state = rw g refl; lines = rw (g, append-nil) refl }

  left_ended : 2 ≤ r.state.account.stage → Trims r (run s (ys ++ zs))
  left_ended h =
      let w = run-leaves s ys v in
      let g : run s (ys ++ zs) ≡ record { state = r.state; lines = r.lines ++ []; left = r.left ++ zs } =
      broken ∙ ap (then r.lines) (run-ended r.state (r.left ++ zs) w.range h) in
      let l : r.left ++ zs ≡ zs = sym (ap (λ (w : Run). w.left) g) ∙ left in
      let n : r.left ≡ [] = no_length r.left (omega (arith, ap length l, length-append r.left zs)) in
      record { none = n; state = rw g refl; lines = rw (g, append-nil) refl }

  trims : Trims r (run s (ys ++ zs))
  trims = ⊎_elim left_open left_ended (lt-or-ge r.state.account.stage 2)

-- a run over the bytes that a run takes is that run, with nothing left
trimmed : (s : State) (xs : List ℕ) (k : ℕ) → InRange s → k ≡ length xs - length (run s xs).left → Trims (run s (take k xs)) (run s xs)
trimmed s xs k v e =
    let t = (run-leaves s xs v).tail in
    let i : k ≡ t.at = omega (arith, ap length t.is, length-drop t.at xs, t.inside) in
    let l : (run s xs).left ≡ drop k xs = rw i t.is in
    rw (take-append-drop k xs) at (trims s (take k xs) (drop k xs) v (rw (take-append-drop k xs) l))

-- ---- one call

-- A call's state and lines are what rule 2 gives for the bytes that it has taken.
pub call-so-far : (s : State) (xs : List ℕ) (room : ℕ) → InRange s
    → outcome (run s (take (call s xs room).taken xs)) ≡ record { state = (call s xs room).state; bytes = (call s xs room).bytes; left = [] }
call-so-far s xs room v =
    let n = longest (fits s xs room) (length xs) in
    let c = call_at s xs room n (outcome (run s (take n xs))) v refl refl in
    let m : n ≤ length xs = longest-most (fits s xs room) (length xs) in
    let k : ℕ = n - length (run s (take n xs)).left in
    let long : length (take n xs) ≡ n = length-take-le n xs m in
    let t = trimmed s (take n xs) k v (rw long refl) in
    let e : take k (take n xs) ≡ take k xs = take-take k n xs (omega arith) in
    rw (c, ← e, t.none, t.state, t.lines) refl

-- Its lines bear the last headings before them, those of the records that it has taken.
pub call-headings : (s : State) (xs : List ℕ) (room : ℕ) → InRange s
    → Bears (marks_of s.account.heading.group (accepted_records s (take (call s xs room).taken xs))) (call s xs room).bytes
call-headings s xs room v =
    let ys = take (call s xs room).taken xs in
    record { lines = (run s ys).lines; are = sym (ap (λ (o : Outcome). o.bytes) (call-so-far s xs room v)); bear = headings s ys v }

-- ---- a series of calls

so_far : (ps : List Part) (s : State) (xs : List ℕ) → InRange s
    → outcome (run s (take (taken_by s xs ps) xs)) ≡ record { state = (way s xs ps).state; bytes = (way s xs ps).bytes; left = [] }
unfolding way taken_by
so_far [] s xs v = rw (run_none s v) refl
so_far (p ∷ ps) s xs v =
    let offered = take p.offered xs in
    let c = call s offered p.room in
    let n = taken_by c.state (drop c.taken xs) ps in
    let i = so_far ps c.state (drop c.taken xs) (stays-in-range s offered p.room v) in
    let t : c.taken ≤ p.offered = omega (arith, taken-most s offered p.room v, length-take p.offered xs) in
    let o : Outcome = record { state = c.state; bytes = c.bytes; left = [] } in
    let f : outcome (run s (take c.taken xs)) ≡ o = rw (take-take c.taken p.offered xs t) at (call-so-far s offered p.room v) in
    rw (take-add c.taken n xs) (outcome-append s (take c.taken xs) (take n (drop c.taken xs)) o f ∙ ap (join o) i)

-- A series of calls from a state in range, at its end or not, has the state and the lines that rule 2 gives for the bytes taken, and leaves the
-- others.
pub way-so-far : (s : State) (xs : List ℕ) (ps : List Part) → InRange s
    → way s xs ps
    ≡ record {
      state = (run s (take (taken_by s xs ps) xs)).state;
      bytes = joined (run s (take (taken_by s xs ps) xs)).lines;
      left = drop (taken_by s xs ps) xs;
    }
way-so-far s xs ps v =
    let e = so_far ps s xs v in
    let a : (run s (take (taken_by s xs ps) xs)).state ≡ (way s xs ps).state = ap (λ (o : Outcome). o.state) e in
    let b : joined (run s (take (taken_by s xs ps) xs)).lines ≡ (way s xs ps).bytes = ap (λ (o : Outcome). o.bytes) e in
    rw (a, b, ← (way-leaves ps s xs v).left) refl

-- Its lines bear the last headings before them.
pub way-headings : (s : State) (xs : List ℕ) (ps : List Part) → InRange s
    → Bears (marks_of s.account.heading.group (accepted_records s (take (taken_by s xs ps) xs))) (way s xs ps).bytes
way-headings s xs ps v =
    let ys = take (taken_by s xs ps) xs in
    record { lines = (run s ys).lines; are = ap (λ (o : Outcome). o.bytes) (way-so-far s xs ps v); bear = headings s ys v }

-- ---- some way ends

-- Some way ends, for every state in range and every run: one call that is offered all bytes, with room for the lines of the run.
pub some-way-ends : (s : State) (xs : List ℕ) (room : ℕ) → InRange s → length (joined (run s xs).lines) ≤ room
    → Ended (way s xs (record { offered = length xs; room = room } ∷ []))
unfolding way
some-way-ends s xs room v h =
    let all : take (length xs) xs ≡ xs = take-length xs in
    let w = run-leaves s xs v in
    let fit : length (joined (run s (take (length xs) xs)).lines) ≤ room = rw all h in
    let n = longest (fits s xs room) (length xs) in
    let e : n ≡ length xs =
    omega (arith, longest-most (fits s xs room) (length xs), longest-least (fits s xs room) (length xs) (length xs) (omega arith) (le-leb _ _ fit)) in
    let c = call_at s xs room (length xs) (outcome (run s xs)) v e (ap (λ (l : List ℕ). outcome (run s l)) all) in
    rw (all, c)
    (⊎_elim (λ (k : (run s xs).state.account.stage < 2). inl (rw (w.all k, sub-zero) (drop_of_length-le xs {i = length xs} (omega arith)))) inr
    (lt-or-ge (run s xs).state.account.stage 2))
