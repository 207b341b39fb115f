-- The count of bytes taken: a series of calls that is at its end has taken as many as rule 2 gives for the uncut run, so that two of them
-- have taken equally many.
-- Assumes nothing.
use Prim.Native.Nat.{ℕ, ◌-◌, ◌≤◌}
use mathlib.Core.Path.{◌≡◌, refl, sym, ap, ◌∙◌}
use mathlib.Core.List.{List, [], ◌∷◌}
use native.Mathlib.Omega.{arith}
use lib.ListN.{length, take, drop, length-take, length-drop}
use lib.Seq.{drop-drop}
use Rattle.book.specs.declared.State.{State}
use Rattle.book.specs.State.{InRange}
use Rattle.book.specs.Run.{run, Outcome, outcome}
use Rattle.book.specs.Call.{longest, fits, call}
use Rattle.book.specs.Way.{Part, way, Ended}
use Rattle.book.proofs.Calls.{call_at}
use Rattle.promises.specs.Taken.{taken_by}
use Rattle.promises.proofs.Fitting.{longest-most}
use Rattle.promises.proofs.RuleThree.{way-is-run}
use Rattle.promises.proofs.StaysInRange.{stays-in-range}

-- a call takes no more than it is offered
pub taken-most : (s : State) (xs : List ℕ) (room : ℕ) → InRange s → (call s xs room).taken ≤ length xs
taken-most s xs room v =
    let n = longest (fits s xs room) (length xs) in
    let m : n ≤ length xs = longest-most (fits s xs room) (length xs) in
    rw (call_at s xs room n (outcome (run s (take n xs))) v refl refl) (omega arith)

-- what a series of calls leaves is what stands behind the bytes taken
pub record Leaves (xs : List ℕ) (o : Outcome) (n : ℕ) : Type 0 where
  pub most : n ≤ length xs
  pub left : o.left ≡ drop n xs

pub way-leaves : (ps : List Part) (s : State) (xs : List ℕ) → InRange s → Leaves xs (way s xs ps) (taken_by s xs ps)
unfolding way taken_by
way-leaves [] s xs v = record { most = omega arith; left = refl }
way-leaves (p ∷ ps) s xs v =
    let offered = take p.offered xs in
    let c = call s offered p.room in
    let i = way-leaves ps c.state (drop c.taken xs) (stays-in-range s offered p.room v) in
    let t : c.taken ≤ length xs = omega (arith, taken-most s offered p.room v, length-take p.offered xs) in
    record {
      most = omega (arith, i.most, length-drop c.taken xs);
      left = i.left ∙ drop-drop (taken_by c.state (drop c.taken xs) ps) c.taken xs;
    }

-- A series of calls at its end has taken all bytes but those that rule 2 leaves for the uncut run.
pub taken-by-rule-two : (s : State) (xs : List ℕ) (ps : List Part) → InRange s → Ended (way s xs ps)
    → taken_by s xs ps ≡ length xs - length (run s xs).left
taken-by-rule-two s xs ps v e =
    let w = way-leaves ps s xs v in
    let l : (run s xs).left ≡ drop (taken_by s xs ps) xs = sym (ap (λ (o : Outcome). o.left) (way-is-run s xs ps v e)) ∙ w.left in
    omega (arith, w.most, ap length l, length-drop (taken_by s xs ps) xs)

-- Two series of calls over one run, each at its end, have taken equally many bytes.
pub equally-many : (s : State) (xs : List ℕ) (ps qs : List Part) → InRange s → Ended (way s xs ps) → Ended (way s xs qs)
    → taken_by s xs ps ≡ taken_by s xs qs
equally-many s xs ps qs v d e = taken-by-rule-two s xs ps v d ∙ sym (taken-by-rule-two s xs qs v e)
