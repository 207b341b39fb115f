-- What each answer of a call means, in document 01's numbers: "More: all input taken. Full: the next record is complete and right but its
-- line doesn't fit; its last byte isn't taken. Closed: the close is in; .. Refused: ..".
use Prim.Native.Nat.{ℕ, ◌+◌, ◌-◌, ◌≤◌, ◌<◌}
use mathlib.Core.Path.{◌≡◌, refl, ap, ◌∙◌}
use mathlib.Core.List.{List, [], ◌∷◌, ◌++◌, append-nil}
use mathlib.Core.Bool.{Bool, true, false}
use native.Mathlib.Omega.{arith}
use native.Mathlib.Nat.{sub-zero}
use borrow.Author.Tests.{ltb-true, ltb-false, le-leb, leb-true, leb-false, eqb-true, eqb-false}
use lib.ListN.{length, get_or, take, drop, length-append, drop_of_length-le}
use lib.Seq.{take_all, take-add, drop-cons}
use lib.Dec.{ltb, eqb}
use Rattle.base.specs.Choice.{pick}
use Rattle.base.proofs.Tests.{of-choice}
use Rattle.account.specs.declared.Account.{Account}
use Rattle.account.specs.Line.{joined}
use Rattle.account.specs.Judge.{refusals, first, Step, judge}
use Rattle.account.proofs.Keeps.{in-range-judge}
use Rattle.book.specs.declared.State.{State}
use Rattle.book.specs.declared.Answer.TheVariants.{More, Full, Closed, Refused}
use Rattle.book.specs.Front.{Front, unfinished, bad_length, whole, need, front}
use Rattle.book.specs.State.{held_of, InRange}
use Rattle.book.specs.Run.{Outcome, outcome, run}
use Rattle.book.specs.Call.{numbers, longest, fits, answer_of, call}
use Rattle.book.proofs.Fronts.{meaning, held_whole}
use Rattle.book.proofs.Runs.{book-unfinished, book-bad, book-whole, book-none, run_none}
use Rattle.book.proofs.Outcomes.{join, outcome-append}
use Rattle.book.proofs.Calls.{call_at}
use Rattle.book.proofs.RunLeaves.{run-leaves}
use Rattle.promises.specs.Answers.{NextTooLong}
use Rattle.promises.proofs.Fitting.{longest-most, longest-ok, longest-next}

-- ---- an answer's numbers tell what it was made of

-- what a list of numbers says of the account reached, of the bytes taken, and of the n offered
abbrev Says : Account → ℕ → ℕ → List ℕ → Type 0
Says a taken n ks =
    (ks ≡ 17 ∷ [] → taken ≡ n)
    × (ks ≡ 16 ∷ [] → (a.stage < 2) × (taken ≡ n → ⊥))
    × (ks ≡ 0 ∷ [] → a.stage ≡ 2)
    × ((c k f : ℕ) → ks ≡ c ∷ k ∷ f ∷ [] → (2 < a.stage) × (ks ≡ a.refusal.code ∷ a.refusal.accepted ∷ a.refusal.field ∷ []))

first_of : List ℕ → ℕ
first_of [] = 0
first_of (k ∷ ks) = k

says : (a : Account) (taken n : ℕ) → Says a taken n (numbers (answer_of a taken n))
unfolding answer_of first_of
says a taken n = by (ltb a.stage 2) (eqb taken n) (eqb a.stage 2) refl refl refl
  where
    by : (p q r : Bool) → ltb a.stage 2 ≡ p → eqb taken n ≡ q → eqb a.stage 2 ≡ r
        → Says a taken n (numbers (pick p (pick q More Full) (pick r Closed (Refused a.refusal))))
    by true true r e f g = (
      λ h. eqb-true taken n f,
      λ h. absurd (omega (arith, ap first_of h)),
      λ h. absurd (omega (arith, ap first_of h)),
      λ c k l h. absurd (omega (arith, ap length h)),
    )
    by true false r e f g = (
      λ h. absurd (omega (arith, ap first_of h)),
      λ h. (ltb-true _ _ e, eqb-false taken n f),
      λ h. absurd (omega (arith, ap first_of h)),
      λ c k l h. absurd (omega (arith, ap length h)),
    )
    by false q true e f g = (
      λ h. absurd (omega (arith, ap first_of h)),
      λ h. absurd (omega (arith, ap first_of h)),
      λ h. eqb-true _ _ g,
      λ c k l h. absurd (omega (arith, ap length h)),
    )
    by false q false e f g =
        let s : 2 ≤ a.stage = ltb-false _ _ e in
        let t : a.stage ≡ 2 → ⊥ = eqb-false a.stage 2 g in (
          λ h. absurd (omega (arith, ap length h)),
          λ h. absurd (omega (arith, ap length h)),
          λ h. absurd (omega (arith, ap length h)),
          λ c k l h. (omega (arith, t), refl),
        )

-- ---- a byte more whose lines do not fit

module _ (s : State) (b room : ℕ) (v : InRange s) (early : s.account.stage < 2) where
  abbrev zs : List ℕ
  zs = held_of s ++ (b ∷ [])

  -- a record that is refused gives no line
  refused_none : (r : List ℕ) → room < length (joined (judge s.account r).lines) → first (refusals s.account r) ≡ 0
  unfolding judge
  refused_none r =
      of-choice (λ (j : Step). room < length (joined j.lines) → first (refusals s.account r) ≡ 0) (eqb (first (refusals s.account r)) 0)
      (λ e h. eqb-true _ _ e) (λ e h. absurd (omega (arith, h)))

  too-long-at : (f : Front) → front zs ≡ f → room < length (joined (run s (b ∷ [])).lines) → NextTooLong s b room
  unfolding run
  too-long-at unfinished e = rw (book-unfinished s.account zs early e) (λ h. absurd (omega (arith, h)))
  too-long-at bad_length e = rw (book-bad s.account zs early e) (λ h. absurd (omega (arith, h)))
  too-long-at whole e =
      let m = meaning zs whole e in
      let h = held_whole (held_of s) (b ∷ []) v.begun in
      let n : length zs ≤ need zs = omega (arith, length-append (held_of s) (b ∷ [])) in
      let d : drop (need zs) zs ≡ [] = drop_of_length-le zs {i = need zs} n in
      let t : take (need zs) zs ≡ zs = take_all (need zs) zs n in
      let j = in-range-judge s.account zs v.account early in
      rw (book-whole s.account zs early e, t, d, book-none (judge s.account zs).account j, append-nil)
      (λ l. record { complete = e; right = refused_none zs l; long = l })

  too_long : room < length (joined (run s (b ∷ [])).lines) → NextTooLong s b room
  too_long = too-long-at (front zs) refl

-- ---- the answer of a call from a state in range

module _ (s : State) (xs : List ℕ) (room : ℕ) (v : InRange s) where
  -- the bytes that are run, and what is said of the answer
  many : ℕ
  many = longest (fits s xs room) (length xs)

  called : call s xs room ≡ record {
    state = (run s (take many xs)).state;
    taken = many - length (run s (take many xs)).left;
    bytes = joined (run s (take many xs)).lines;
    answer = answer_of (run s (take many xs)).state.account (many - length (run s (take many xs)).left) (length xs);
  }
  unfolding many
  called = call_at s xs room many (outcome (run s (take many xs))) v refl refl

  told : Says (call s xs room).state.account (call s xs room).taken (length xs) (numbers (call s xs room).answer)
  told = rw called (says (run s (take many xs)).state.account (many - length (run s (take many xs)).left) (length xs))

  -- More (17): all input is taken.
  pub more-means : numbers (call s xs room).answer ≡ 17 ∷ [] → (call s xs room).taken ≡ length xs
  more-means = told.0

  -- Full (16): the book is open, a byte is left, and the lines of one byte more do not fit: it completes a right record whose lines are longer than
  -- the room that is left.
  pub full-means : numbers (call s xs room).answer ≡ 16 ∷ []
      → ((call s xs room).state.account.stage < 2)
      × ((call s xs room).taken < length xs)
      × (room < length (joined (run s (take ((call s xs room).taken + 1) xs)).lines))
      × NextTooLong (call s xs room).state (get_or xs (call s xs room).taken 0) (room - length (call s xs room).bytes)
  unfolding many
  full-means e =
      let t = told.1 e in
      let h : (run s (take many xs)).state.account.stage < 2 = rw called at t.0 in
      let l : (run s (take many xs)).left ≡ [] = (run-leaves s (take many xs) v).all h in
      let n : (call s xs room).taken ≡ many = rw (called, l, sub-zero) in
      let m = longest-most (fits s xs room) (length xs) in
      let k : many < length xs = omega (arith, n, t.1) in
      let w = run s (take many xs) in
      let b = get_or xs many 0 in
      let one : take (many + 1) xs ≡ take many xs ++ (b ∷ []) = take-add many 1 xs ∙ rw (drop-cons xs many 0 k) refl in
      let a : outcome (run s (take (many + 1) xs)) ≡ join (outcome w) (outcome (run w.state (b ∷ []))) =
      rw one (rw l at (outcome-append s (take many xs) (b ∷ []) (outcome w) refl)) in
      let big : room < length (joined (run s (take (many + 1) xs)).lines) = leb-false _ _ (longest-next (fits s xs room) (length xs) k) in
      let c = ap (λ (o : Outcome). length o.bytes) a in
      let none : fits s xs room 0 ≡ true = rw (run_none s v) (le-leb 0 room (omega arith)) in
      let ok : length (joined w.lines) ≤ room = leb-true _ _ (longest-ok (fits s xs room) (length xs) none) in
      let more : room - length (joined w.lines) < length (joined (run w.state (b ∷ [])).lines) =
      omega (arith, c, length-append (joined w.lines) (joined (run w.state (b ∷ [])).lines), big) in
      let next = too_long w.state b (room - length (joined w.lines)) (run-leaves s (take many xs) v).range h more in
      (t.0, rw n k, rw n big, rw (called, l, sub-zero) next)

  -- Closed (0): the close is in.
  pub closed-means : numbers (call s xs room).answer ≡ 0 ∷ [] → (call s xs room).state.account.stage ≡ 2
  closed-means = told.2

  -- Refused: its three numbers are those of the refusal in the state handed back.
  pub refused-means : (code number field : ℕ) → numbers (call s xs room).answer ≡ code ∷ number ∷ field ∷ []
      → (2 < (call s xs room).state.account.stage)
      × (numbers (call s xs room).answer ≡ (call s xs room).state.account.refusal.code ∷ (call s xs room).state.account.refusal.accepted
      ∷ (call s xs room).state.account.refusal.field ∷ [])
  refused-means = told.3
