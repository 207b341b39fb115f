-- A call, by the beginning that it takes; and what a loop has to have read to have done a call.
use Prim.Native.Nat.{ℕ, ◌+◌, ◌-◌, ◌≤◌, ◌<◌}
use mathlib.Core.Path.{◌≡◌, refl, ap, sym}
use mathlib.Core.List.{List, [], append-nil}
use mathlib.Core.Bool.{true, false}
use native.Mathlib.Omega.{arith}
use native.Mathlib.Nat.{sub-zero}
use borrow.Author.Tests.{le-leb, lt-leb}
use lib.ListN.{length, take, drop, length-drop, take-append-drop}
use lib.Seq.{length-take-le}
use Rattle.account.specs.Line.{joined}
use Rattle.book.specs.declared.State.{State}
use Rattle.book.specs.declared.Fed.{Fed}
use Rattle.book.specs.State.{InRange, in_range}
use Rattle.book.specs.Run.{Outcome, outcome, run}
use Rattle.book.specs.Call.{longest, fits, answer_of, outside, call, fed_of, lines_laid}
use Rattle.book.specs.Inner.{Reading, fed}
use Rattle.book.proofs.Ranges.{range-test}
use Rattle.book.proofs.Runs.{run_none, run-ended}
use Rattle.book.proofs.Longest.{longest-is, longest-top}
use Rattle.book.proofs.Outcomes.{more-lines}
use Rattle.book.proofs.Readings.{reads_on}

pub call_at : (s : State) (xs : List ℕ) (room n : ℕ) (o : Outcome) → InRange s → longest (fits s xs room) (length xs) ≡ n
    → outcome (run s (take n xs)) ≡ o
    → call s xs room ≡ record {
      state = o.state;
      taken = n - length o.left;
      bytes = o.bytes;
      answer = answer_of o.state.account (n - length o.left) (length xs);
    }
unfolding call
call_at s xs room n o v e f = rw (range-test s v, e, ← f)

-- a call of these bytes ends so
abbrev pub Done : State → List ℕ → ℕ → State → ℕ → List ℕ → Type 0
Done s₀ input room s i bytes = call s₀ input room ≡ record { state = s; taken = i; bytes = bytes; answer = answer_of s.account i (length input) }

module _ {input out₀ : List ℕ} {s₀ : State} {out : List ℕ} {s : State} {i w : ℕ} (r : Reading input out₀ s₀ out s i w) where
  -- lines of the first n bytes that are those written fit the buffer
  in-room : (n : ℕ) (l : List ℕ) → outcome (run s₀ (take n input)) ≡ record { state = s; bytes = take w out; left = l }
      → fits s₀ input (length out₀) n ≡ true
  in-room n l e =
      let b : joined (run s₀ (take n input)).lines ≡ take w out = ap (λ (o : Outcome). o.bytes) e in
      let k : length (joined (run s₀ (take n input)).lines) ≤ length out₀ = rw b (omega (arith, length-take-le w out r.fits, r.fits, r.long)) in
      le-leb _ _ k

  -- the next byte's lines do not fit
  pub done_full : i < length input → length out₀ < length (joined (run s₀ (take (i + 1) input)).lines) → Done s₀ input (length out₀) s i (take w out)
  done_full h b =
      let e : longest (fits s₀ input (length out₀)) (length input) ≡ i =
      longest-is (fits s₀ input (length out₀)) (length input) i r.within (in-room i [] r.so_far)
      (λ m p q.
      let big : length out₀ < length (joined (run s₀ (take m input)).lines) = omega (arith, b, more-lines s₀ input (i + 1) m (omega arith)) in
      lt-leb _ _ big) in
      rw sub-zero at (call_at s₀ input (length out₀) i (record { state = s; bytes = take w out; left = [] }) r.first e r.so_far)

  -- all the rest gives nothing more
  done_all : (l : List ℕ) → i + length l ≡ length input
      → outcome (run s (take (length input - i) (drop i input))) ≡ record { state = s; bytes = []; left = l }
      → Done s₀ input (length out₀) s i (take w out)
  done_all l k f =
      let n : i + (length input - i) ≡ length input = omega (arith, r.within) in
      let o : outcome (run s₀ (take (length input) input)) ≡ record { state = s; bytes = take w out; left = l } =
      rw (n, append-nil) at (reads_on r (length input - i) (record { state = s; bytes = []; left = l }) f) in
      let e : longest (fits s₀ input (length out₀)) (length input) ≡ length input =
      longest-top (fits s₀ input (length out₀)) (length input) (in-room (length input) l o) in
      let m : length input - length l ≡ i = omega arith in
      rw m at (call_at s₀ input (length out₀) (length input) (record { state = s; bytes = take w out; left = l }) r.first e o)

  -- every byte is taken
  pub done_end : length input ≤ i → Done s₀ input (length out₀) s i (take w out)
  done_end h = let z : length input - i ≡ 0 = omega arith in done_all [] (omega (arith, r.within)) (rw (z, run_none s r.range))

  -- the book is closed or refused
  pub done-ended : 2 ≤ s.account.stage → Done s₀ input (length out₀) s i (take w out)
  done-ended h =
      let l = take (length input - i) (drop i input) in
      done_all l (omega (arith, r.within, length-drop i input, length-take-le (length input - i) (drop i input) (rw length-drop (omega arith))))
      (rw (run-ended s l r.range h))

  -- the three clauses of feed's contract
  pub meets : {f : Fed} → f ≡ fed s i w (length input) → Done s₀ input (length out₀) s i (take w out)
      → (f ≡ fed_of (call s₀ input (length out₀))) × ((out ≡ lines_laid (call s₀ input (length out₀)) out₀) ×
      ((f.taken ≤ length input) × (f.written ≤ length out₀)))
  meets g e =
      let l = length-take-le w out r.fits in
      rw (g, e, l) (refl, (rw (← r.rest) (sym (take-append-drop w out)), (r.within, omega (arith, r.fits, r.long))))

pub meets-outside : (s : State) (xs out₀ : List ℕ) {f : Fed} → in_range s ≡ false → f ≡ fed_of (outside s)
    → (f ≡ fed_of (call s xs (length out₀))) × ((out₀ ≡ lines_laid (call s xs (length out₀)) out₀) × ((f.taken ≤ length xs) × (f.written ≤ length out₀)))
unfolding call
meets-outside s xs out₀ e g = rw (g, e) (refl, (refl, (omega arith, omega arith)))
