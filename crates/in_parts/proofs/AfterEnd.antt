-- Document 01, "Figures to meet", of the lister: "Bytes after the close are ignored." After a close, and after a refusal too, bytes change nothing
-- of what is printed.
-- Assumes nothing.
use Prim.Native.Nat.{ℕ, ◌≤◌}
use mathlib.Core.Path.{◌≡◌, refl, ap, ◌∙◌}
use mathlib.Core.List.{List, [], ◌++◌, append-nil}
use native.Mathlib.Omega.{arith}
use Rattle.book.specs.declared.State.{State}
use Rattle.book.specs.State.{InRange, no_record_yet}
use Rattle.book.specs.Run.{then, run}
use Rattle.book.proofs.Runs.{run-ended}
use Rattle.book.proofs.RunLeaves.{run-leaves}
use Rattle.promises.proofs.RuleThree.{broken-anywhere}
use Rattle.promises.proofs.StaysInRange.{new-in-range}
use Rattle.lister.specs.Listing.{listing_from, listing_of}

-- Where a run from a state in range ends the book, what is printed for it is printed with any bytes after it.
pub after-end : (s : State) (xs ys : List ℕ) → InRange s → 2 ≤ (run s xs).state.account.stage → listing_from s (xs ++ ys) ≡ listing_from s xs
after-end s xs ys v h =
    let r = run s xs in
    let e : run s (xs ++ ys) ≡ then r.lines (record { state = r.state; lines = []; left = r.left ++ ys }) =
    broken-anywhere s xs ys ∙ ap (then r.lines) (run-ended r.state (r.left ++ ys) (run-leaves s xs v).range h) in
    rw (e, append-nil) refl

-- Bytes after the close are ignored: where xs closes the book, the listing of xs with any bytes after it is that of xs.
pub after-close : (xs ys : List ℕ) → (run no_record_yet xs).state.account.stage ≡ 2 → listing_of (xs ++ ys) ≡ listing_of xs
after-close xs ys q = after-end no_record_yet xs ys new-in-range (omega arith)
