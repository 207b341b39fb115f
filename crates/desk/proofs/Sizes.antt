-- A book's lines are few enough for the herd desk's number: at most 4,096 records give lines.
use Prim.Native.Nat.{ℕ, zero, suc, ◌+◌, ◌*◌, ◌^◌, ◌≤◌, ◌<◌}
use mathlib.Core.Path.{◌≡◌, refl}
use mathlib.Core.List.{List, [], ◌∷◌, ◌++◌}
use mathlib.Core.Logic.{⊎_elim}
use native.Mathlib.Omega.{arith}
use lib.ListN.{length, take, drop, length-append, length-drop}
use Rattle.base.proofs.Tests.{lt-or-ge}
use Rattle.account.specs.declared.Account.{Account}
use Rattle.account.specs.Account.{no_record}
use Rattle.account.specs.Judge.{judge}
use Rattle.account.specs.Line.{joined}
use Rattle.line_bytes.specs.Lines.{lines_most}
use Rattle.account.proofs.Counts.{judge-counts}
use Rattle.account.proofs.Keeps.{in-range-none}
use Rattle.book.specs.declared.State.{State}
use Rattle.book.specs.Front.{Front, unfinished, bad_length, whole, need, front}
use Rattle.book.specs.State.{held_of, no_record_yet, InRange}
use Rattle.book.specs.Run.{Run, outcome, book, run}
use Rattle.book.specs.Call.{longest, fits, call}
use Rattle.book.proofs.Fronts.{meaning}
use Rattle.book.proofs.Ranges.{range-idle}
use Rattle.book.proofs.Runs.{book-ended, book-unfinished, book-bad, book-whole}
use Rattle.book.proofs.RunLeaves.{run-leaves}
use Rattle.book.proofs.Calls.{call_at}

joined_length : (ls ms : List (List ℕ)) → length (joined (ls ++ ms)) ≡ length (joined ls) + length (joined ms)
joined_length [] ms = omega arith
joined_length (l ∷ ls) ms = let i = joined_length ls ms in rw (length-append, length-append) (omega arith)

-- the lines of a run that begins with so many records are paid for by the records that it adds
abbrev Paid : ℕ → Run → Type 0
Paid n r = length (joined r.lines) + lines_most * n ≤ lines_most * r.state.account.records

paid-at : (a : Account) (xs : List ℕ) → a.stage < 2
    → ((b : Account) (zs : List ℕ) → length zs < length xs → Paid b.records (book b zs)) → (f : Front) → front xs ≡ f
    → Paid a.records (book a xs)
paid-at a xs k ih unfinished e = rw (book-unfinished a xs k e) (omega arith)
paid-at a xs k ih bad_length e = rw (book-bad a xs k e) (omega arith)
paid-at a xs k ih whole e =
    let m = meaning xs whole e in
    let r = take (need xs) xs in
    let j = judge a r in
    let b = book j.account (drop (need xs) xs) in
    let short : length (drop (need xs) xs) < length xs = rw length-drop (omega arith) in
    rw (book-whole a xs k e, joined_length) (omega (arith, judge-counts a r, ih j.account (drop (need xs) xs) short))

paid-by : (n : ℕ) (a : Account) (xs : List ℕ) → length xs < n → Paid a.records (book a xs)
paid-by zero a xs h = absurd (omega arith)
paid-by (suc n) a xs h =
    ⊎_elim
    (λ (k : a.stage < 2). paid-at a xs k (λ b zs p. paid-by n b zs (omega arith)) (front xs) refl)
    (λ (k : 2 ≤ a.stage). rw (book-ended a xs k) (omega arith))
    (lt-or-ge a.stage 2)

-- the bytes of lines of a run are at most so many for each record that it adds to those accepted
pub run-paid : (s : State) (xs : List ℕ)
    → length (joined (run s xs).lines) + lines_most * s.account.records ≤ lines_most * (run s xs).state.account.records
unfolding run
run-paid s xs = paid-by (suc (length (held_of s ++ xs))) s.account (held_of s ++ xs) (omega arith)

-- a book has at most 4,096 records
pub run_small : (s : State) (xs : List ℕ) → InRange s → length (joined (run s xs).lines) ≤ lines_most * 4096
run_small s xs v = omega (arith, run-paid s xs, (run-leaves s xs v).range.account.started.counted.records-most)

-- the lines of a call from a state in range
pub call-few : (s : State) (xs : List ℕ) (room : ℕ) → InRange s → length (call s xs room).bytes ≤ lines_most * 4096
call-few s xs room v =
    let n = longest (fits s xs room) (length xs) in
    rw (call_at s xs room n (outcome (run s (take n xs))) v refl refl) (run_small s (take n xs) v)

-- the state before any record is in range
new-range : InRange no_record_yet
new-range = range-idle no_record in-range-none

pub call-small : (xs : List ℕ) (room : ℕ) → length (call no_record_yet xs room).bytes ≤ lines_most * 4096
call-small xs room = call-few no_record_yet xs room new-range

-- so the bytes written stay below 2^32
pub written-fits : (xs : List ℕ) (room : ℕ) → length (call no_record_yet xs room).bytes < 2 ^ 32
written-fits xs room = omega (arith, call-small xs room)
