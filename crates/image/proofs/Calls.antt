-- A call on an image is the call on the state.
-- Assumes nothing.
use Prim.Native.Nat.{ℕ, ◌-◌, ◌≤◌}
use mathlib.Core.Path.{◌≡◌, refl, ap, sym, ◌∙◌}
use mathlib.Core.List.{List}
use mathlib.Core.Bool.{true, false}
use native.Mathlib.Omega.{arith}
use borrow.Author.Tests.{eq-eqb, ne_eqb, ltb-false, eqb-false}
use lib.ListN.{length, take}
use lib.Dec.{ltb, eqb}
use Rattle.base.proofs.Tests.{by-test, of-choice}
use Rattle.account.specs.declared.Account.{Account}
use Rattle.account.specs.Range.{AccountInRange}
use Rattle.book.specs.declared.State.{State}
use Rattle.book.specs.declared.Fed.{Fed}
use Rattle.book.specs.declared.Answer.{Answer}
use Rattle.book.specs.State.{no_record_yet, InRange, in_range}
use Rattle.book.specs.Run.{outcome, run}
use Rattle.book.specs.Call.{Call, longest, fits, answer_of, call, outside, fed_of, lines_laid}
use Rattle.book.proofs.Ranges.{range-parts}
use Rattle.book.proofs.RunLeaves.{run-leaves}
use Rattle.book.proofs.Calls.{call_at}
use Rattle.image.specs.declared.Called.{Called}
use Rattle.image.specs.Image.{image_size, image_of, state_in, Possible, is_image}
use Rattle.image.specs.Calls.{started, call_on, image_after, called_of, answer_code, no_image}
use Rattle.image.proofs.Images.{image-back, is-image, other_length, by-range}
use Rattle.image.proofs.Words.{call-possible}

-- ---- what a call on an image is

pub call-image : (image xs : List ℕ) (room : ℕ) → is_image image ≡ true → call_on image xs room ≡ call (state_in image) xs room
unfolding call_on
call-image image xs room e = rw e

pub call_none : (image xs : List ℕ) (room : ℕ) → is_image image ≡ false → call_on image xs room ≡ outside (state_in image)
unfolding call_on
call_none image xs room e = rw e

pub after-image : (image xs : List ℕ) (room : ℕ) → is_image image ≡ true → image_after image xs room ≡ image_of (call (state_in image) xs room).state
unfolding image_after
after-image image xs room e = rw (e, call-image image xs room e)

after_none : (image xs : List ℕ) (room : ℕ) → is_image image ≡ false → image_after image xs room ≡ image
unfolding image_after
after_none image xs room e = rw e

-- where it is no image, it stays as it was, so do the lines, nothing is taken or written, and the answer is 13
pub image-untouched : (image xs out : List ℕ) → is_image image ≡ false
    → (image_after image xs (length out) ≡ image)
    × (lines_laid (call_on image xs (length out)) out ≡ out)
    × (called_of (call_on image xs (length out)) ≡ no_image)
image-untouched image xs out e =
    (after_none image xs (length out) e, rw (call_none image xs (length out) e), rw (call_none image xs (length out) e))

-- a call on a state's image answers and writes as the call on the state does, and leaves the image of the state that this hands back
pub call-is-feed : (s : State) (xs : List ℕ) (room : ℕ) → Possible s
    → (call_on (image_of s) xs room ≡ call s xs room) × (image_after (image_of s) xs room ≡ image_of (call s xs room).state)
call-is-feed s xs room p =
    let i = is-image s p in
    (call-image (image_of s) xs room i ∙ rw (image-back s p), after-image (image_of s) xs room i ∙ rw (image-back s p))

-- the image left is again a state's
pub image-kept : (s : State) (xs : List ℕ) (room : ℕ) → Possible s → is_image (image_after (image_of s) xs room) ≡ true
image-kept s xs room p = rw (call-is-feed s xs room p).1 (is-image (call s xs room).state (call-possible s xs room p))

-- ---- 13 is told of no state in range

not-thirteen : (a : Account) (taken n : ℕ) → AccountInRange a → answer_code (answer_of a taken n) ≡ 13 → ⊥
unfolding answer_of
not-thirteen a taken n v =
    of-choice (λ (r : Answer). answer_code r ≡ 13 → ⊥) (ltb a.stage 2)
    (λ e. of-choice (λ (r : Answer). answer_code r ≡ 13 → ⊥) (eqb taken n) (λ f h. omega (arith, h)) (λ f h. omega (arith, h)))
    (λ e. of-choice (λ (r : Answer). answer_code r ≡ 13 → ⊥) (eqb a.stage 2) (λ f h. omega (arith, h))
    (λ f h.
    let late : 2 ≤ a.stage = ltb-false _ _ e in
    let no : a.stage ≡ 2 → ⊥ = eqb-false _ _ f in
    let r = v.ended.refused (omega (arith, no, v.started.counted.stage-most)) in
    omega (arith, h, r.code-most)))

in-range-answer : (s : State) (xs : List ℕ) (room : ℕ) → InRange s → answer_code (call s xs room).answer ≡ 13 → ⊥
in-range-answer s xs room v =
    let n = longest (fits s xs room) (length xs) in
    let r = run s (take n xs) in
    rw (call_at s xs room n (outcome r) v refl refl)
    (not-thirteen r.state.account (n - length r.left) (length xs) (run-leaves s (take n xs) v).range.account)

out_of_range : (s : State) (xs : List ℕ) (room : ℕ) → in_range s ≡ false → call s xs room ≡ outside s
unfolding call
out_of_range s xs room e = rw e

thirteen-outside : (s : State) (xs : List ℕ) (room : ℕ) → answer_code (call s xs room).answer ≡ 13 → in_range s ≡ false
thirteen-outside s xs room t = by-test (in_range s) (λ e. absurd (in-range-answer s xs room (range-parts s e) t)) (λ e. e)

other-inside : (s : State) (xs : List ℕ) (room : ℕ) → (answer_code (call s xs room).answer ≡ 13 → ⊥) → in_range s ≡ true
other-inside s xs room t = by-test (in_range s) (λ e. e) (λ e. absurd (t (ap (λ (c : Call). answer_code c.answer) (out_of_range s xs room e))))

-- ---- what the code does

pub start-long : (image : List ℕ) → length image ≡ image_size → started image ≡ image_of no_record_yet
unfolding started
start-long image l = rw (eq-eqb _ _ l)

pub start_none : (image : List ℕ) → (length image ≡ image_size → ⊥) → started image ≡ image
unfolding started
start_none image h = rw (ne_eqb _ _ h)

-- the four clauses of call's contract
abbrev Meets : List ℕ → List ℕ → List ℕ → List ℕ → List ℕ → Called → Type 0
Meets image image' xs out out' r =
    (r ≡ called_of (call_on image xs (length out)))
    × ((image' ≡ image_after image xs (length out))
    × ((out' ≡ lines_laid (call_on image xs (length out)) out) × ((r.taken ≤ length xs) × (r.written ≤ length out))))

module _ (image xs out : List ℕ) {r : Called} where
  meets-no-image : is_image image ≡ false → r ≡ no_image → Meets image image xs out out r
  meets-no-image n e =
      rw (e, call_none image xs (length out) n, after_none image xs (length out) n) (refl, (refl, (refl, (omega arith, omega arith))))

  -- another length
  pub meets-length : (length image ≡ image_size → ⊥) → r ≡ no_image → Meets image image xs out out r
  meets-length h e = meets-no-image (other_length image h) e

module _ (image xs out out' : List ℕ) {s : State} {f : Fed} (l : length image ≡ image_size) (es : s ≡ state_in image)
    (ef : f ≡ fed_of (call s xs (length out))) (eo : out' ≡ lines_laid (call s xs (length out)) out) where
  fed : f ≡ fed_of (call (state_in image) xs (length out))
  fed = rw es at ef

  -- no state's
  pub meets-outside : {k : ℕ} {r : Called} → k ≡ answer_code f.answer → k ≡ 13 → r ≡ no_image → Meets image image xs out out' r
  meets-outside ek t e =
      let o = thirteen-outside (state_in image) xs (length out) (ap (λ (g : Fed). answer_code g.answer) (sym fed) ∙ sym ek ∙ t) in
      let same : out' ≡ out = rw (es, out_of_range (state_in image) xs (length out) o) at eo in
      rw same (meets-no-image image xs out (by-range image l ∙ o) e)

  -- a state's: the image of the state handed back is written
  pub meets-inside : {k : ℕ} {image' : List ℕ} → k ≡ answer_code f.answer → (k ≡ 13 → ⊥) → image' ≡ image_of f.state
      → (f.taken ≤ length xs) × (f.written ≤ length out)
      → Meets image image' xs out out' (record { taken = f.taken; written = f.written; answer = f.answer })
  meets-inside ek t ei c =
      let o = other-inside (state_in image) xs (length out) (λ e. t (ek ∙ ap (λ (g : Fed). answer_code g.answer) fed ∙ e)) in
      let i = by-range image l ∙ o in
      rw (call-image image xs (length out) i, after-image image xs (length out) i, ei, eo, es, fed) (refl, (refl, (refl, rw fed at c)))
