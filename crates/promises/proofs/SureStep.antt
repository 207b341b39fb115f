-- The sure step. Document 01, with document 02, W10: in stages 0 and 1, at least one input byte and 116 bytes of room always take at least one byte.
use Prim.Native.Nat.{ℕ, suc, ◌-◌, ◌≤◌, ◌<◌}
use mathlib.Core.Path.{◌≡◌, refl}
use mathlib.Core.List.{List, [], ◌∷◌, ◌++◌, append-nil}
use native.Mathlib.Omega.{arith}
use borrow.Author.Tests.{le-leb}
use lib.ListN.{length, take, drop, length-append, length-drop, drop_of_length-le}
use lib.Seq.{length-take-le}
use Rattle.line_bytes.specs.Lines.{lines_most}
use Rattle.account.specs.Judge.{judge}
use Rattle.account.specs.Line.{joined}
use Rattle.account.proofs.Keeps.{in-range-judge, judge-short}
use Rattle.book.specs.declared.State.{State}
use Rattle.book.specs.Front.{Front, unfinished, bad_length, whole, need, front}
use Rattle.book.specs.State.{held_of, InRange}
use Rattle.book.specs.Run.{outcome, book, run}
use Rattle.book.specs.Call.{longest, fits, call}
use Rattle.book.proofs.Fronts.{held-bad, held_whole}
use Rattle.book.proofs.Runs.{book-unfinished, book-bad, book-whole, book-none}
use Rattle.book.proofs.Calls.{call_at}
use Rattle.book.proofs.RunLeaves.{book-leaves, over-held}
use Rattle.promises.proofs.Fitting.{longest-most, longest-least}

-- ---- an open state takes one byte of some at least

module _ (s : State) (xs : List ℕ) (v : InRange s) (early : s.account.stage < 2) (more : 0 < length xs) where
  takes_at : (f : Front) → front (held_of s ++ xs) ≡ f → length (run s xs).left < length xs
  unfolding run
  takes_at unfinished e = rw (book-unfinished s.account (held_of s ++ xs) early e) more
  takes_at bad_length e =
      let h = held-bad (held_of s) xs v.begun e in
      rw (book-bad s.account (held_of s ++ xs) early e, over-held (held_of s) xs 2 (omega arith), length-drop) (omega arith)
  takes_at whole e =
      let zs = held_of s ++ xs in
      let h = held_whole (held_of s) xs v.begun in
      let j = judge s.account (take (need zs) zs) in
      let b = book j.account (drop (need zs) zs) in
      let i = (book-leaves j.account (drop (need zs) zs) (in-range-judge s.account (take (need zs) zs) v.account early)).tail in
      let d : length (drop (need zs) zs) ≡ length xs - (need zs - length (held_of s)) =
      rw (over-held (held_of s) xs (need zs) (omega arith), length-drop (need zs - length (held_of s)) xs) in
      let l : length b.left ≡ length (drop (need zs) zs) - i.at = rw (i.is, length-drop i.at (drop (need zs) zs)) in
      rw (book-whole s.account zs early e) (omega arith)

  pub takes_one : length (run s xs).left < length xs
  takes_one = takes_at (front (held_of s ++ xs)) refl

-- ---- one byte gives at most lines_most bytes of lines

module _ (s : State) (b : ℕ) (v : InRange s) (early : s.account.stage < 2) where
  short-at : (f : Front) → front (held_of s ++ (b ∷ [])) ≡ f → length (joined (run s (b ∷ [])).lines) ≤ lines_most
  unfolding run
  short-at unfinished e = rw (book-unfinished s.account (held_of s ++ (b ∷ [])) early e) (omega arith)
  short-at bad_length e = rw (book-bad s.account (held_of s ++ (b ∷ [])) early e) (omega arith)
  short-at whole e =
      let zs = held_of s ++ (b ∷ []) in
      let h = held_whole (held_of s) (b ∷ []) v.begun in
      let j = judge s.account (take (need zs) zs) in
      let d : drop (need zs) zs ≡ [] = drop_of_length-le zs {i = need zs} (omega (arith, length-append (held_of s) (b ∷ []))) in
      rw (
        book-whole s.account zs early e,
        d,
        book-none j.account (in-range-judge s.account (take (need zs) zs) v.account early),
        append-nil,
      )
      (judge-short s.account (take (need zs) zs))

  one-short : length (joined (run s (b ∷ [])).lines) ≤ lines_most
  one-short = short-at (front (held_of s ++ (b ∷ []))) refl

-- The sure step: in stages 0 and 1 a call that is offered one byte at least, with room for lines_most bytes, takes one at least.
pub sure_step : (s : State) (b : ℕ) (xs : List ℕ) (room : ℕ) → InRange s → s.account.stage < 2 → lines_most ≤ room → 0 < (call s (b ∷ xs) room).taken
sure_step s b xs room v early big =
    let n = longest (fits s (b ∷ xs) room) (suc (length xs)) in
    let one : length (joined (run s (b ∷ [])).lines) ≤ room = omega (arith, one-short s b v early) in
    let p : 1 ≤ n = longest-least (fits s (b ∷ xs) room) (suc (length xs)) 1 (omega arith) (le-leb _ _ one) in
    let q : n ≤ suc (length xs) = longest-most (fits s (b ∷ xs) room) (suc (length xs)) in
    let l : length (take n (b ∷ xs)) ≡ n = length-take-le n (b ∷ xs) (omega arith) in
    let k = takes_one s (take n (b ∷ xs)) v early (omega arith) in
    rw (call_at s (b ∷ xs) room n (outcome (run s (take n (b ∷ xs)))) v refl refl) (omega arith)
