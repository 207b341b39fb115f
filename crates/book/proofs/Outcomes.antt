-- What comes of bytes in two parts.
use Prim.Native.Nat.{ℕ, ◌+◌, ◌-◌, ◌≤◌}
use mathlib.Core.Path.{◌≡◌, refl, ap, sym, ◌∙◌}
use mathlib.Core.List.{List, [], ◌∷◌, ◌++◌, append_assoc}
use native.Mathlib.Omega.{arith}
use lib.ListN.{length, take, drop, length-append}
use lib.Seq.{take-add}
use Rattle.account.specs.Line.{joined}
use Rattle.book.specs.declared.State.{State}
use Rattle.book.specs.Run.{Outcome, outcome, run}
use Rattle.book.proofs.Runs.{run-append}

joined-append : (ls ms : List (List ℕ)) → joined (ls ++ ms) ≡ joined ls ++ joined ms
joined-append [] ms = refl
joined-append (l ∷ ls) ms = ap (λ (x : List ℕ). l ++ x) (joined-append ls ms) ∙ sym (append_assoc l (joined ls) (joined ms))

-- o, and then p
abbrev pub join : Outcome → Outcome → Outcome
join o p = record { state = p.state; bytes = o.bytes ++ p.bytes; left = p.left }

pub outcome-append : (s : State) (xs ys : List ℕ) (o : Outcome) → outcome (run s xs) ≡ o
    → outcome (run s (xs ++ ys)) ≡ join o (outcome (run o.state (o.left ++ ys)))
outcome-append s xs ys o e = rw (← e) (ap outcome (run-append s xs ys) ∙ rw joined-append)

-- more bytes give no fewer lines
pub more-lines : (s : State) (xs : List ℕ) (n m : ℕ) → n ≤ m → length (joined (run s (take n xs)).lines) ≤ length (joined (run s (take m xs)).lines)
more-lines s xs n m h =
    let e : n + (m - n) ≡ m = omega arith in
    let r = run s (take n xs) in
    let q = run r.state (r.left ++ take (m - n) (drop n xs)) in
    let a : outcome (run s (take n xs ++ take (m - n) (drop n xs))) ≡ join (outcome r) (outcome q) =
    outcome-append s (take n xs) (take (m - n) (drop n xs)) (outcome r) refl in
    let b : joined (run s (take m xs)).lines ≡ joined r.lines ++ joined q.lines =
    rw (← take-add n (m - n) xs, e) at (ap (λ (o : Outcome). o.bytes) a) in
    omega (arith, ap length b, length-append (joined r.lines) (joined q.lines))
