-- The range of a state: its parts and the test that decides it; what a state in range holds; which states are in range.
use Prim.Native.Nat.{ℕ, zero, suc, ◌+◌, ◌-◌, ◌≤◌, ◌<◌}
use mathlib.Core.Path.{◌≡◌, refl, ap₂, sym, ◌∙◌}
use mathlib.Core.List.{List, [], ◌∷◌, ◌++◌}
use mathlib.Core.Bool.{true, false, ◌||◌}
use native.Mathlib.Omega.{arith}
use borrow.Author.Tests.{ltb-false, le-ltb, le-leb, lt-leb, leb-true, eqb-true, eq-eqb}
use lib.ListN.{length, drop, replicate, length-append, length-drop, length-replicate, take-append-drop}
use lib.Seq.{paste, length-take-le, take-length, take-append_seam, drop-append_seam, drop-drop}
use lib.Dec.{ltb, leb, eqb}
use Rattle.base.proofs.Tests.{and-false, both, no_bool, or_left, or_right}
use Rattle.account.specs.declared.Account.{Account}
use Rattle.account.specs.Range.{AccountInRange, account_in_range}
use Rattle.account.proofs.Clauses.{in-range-parts, in-range-test}
use Rattle.book.specs.declared.State.{State}
use Rattle.book.specs.Front.{Front, unfinished, bad_length, whole, front}
use Rattle.book.specs.State.{held_of, holding, zeros, is_unfinished, InRange, in_range}
use Rattle.book.proofs.Fronts.{unfinished-short, front-none}

-- ---- the parts and the test

pub begins : (f : Front) → is_unfinished f ≡ true → f ≡ unfinished
begins unfinished e = refl
begins bad_length e = no_bool e
begins whole e = no_bool e

pub range-parts : (s : State) → in_range s ≡ true → InRange s
unfolding in_range
range-parts s e =
    let t1 = both _ (ltb s.account.stage 2 || eqb s.count 0) e in
    let t2 = both _ (is_unfinished (front (held_of s))) t1.0 in
    let t3 = both _ (zeros (drop s.count s.held)) t2.0 in
    let t4 = both _ (account_in_range s.account) t3.0 in
    let t5 = both (eqb (length s.held) 27) (leb s.count 27) t4.0 in
    record {
      account = in-range-parts s.account t4.1;
      places = eqb-true _ _ t5.0;
      count = leb-true _ _ t5.1;
      unused = t3.1;
      begun = begins (front (held_of s)) t2.1;
      none = λ h. eqb-true _ _ (or_right (ltb s.account.stage 2) (eqb s.count 0) t1.1 (le-ltb _ _ h));
    }

pub range-test : (s : State) → InRange s → in_range s ≡ true
unfolding in_range
range-test s v =
    rw (eq-eqb _ _ v.places, le-leb _ _ v.count, in-range-test s.account v.account, v.unused, v.begun)
    (or_left (ltb s.account.stage 2) (eqb s.count 0) (λ e. eq-eqb _ _ (v.none (ltb-false _ _ e))))

pub too_many : (s : State) → 27 < s.count → in_range s ≡ false
unfolding in_range
too_many s h = simp (lt-leb _ _ h, and-false)

-- ---- what is held

pub held-holding : (a : Account) (h : List ℕ) → held_of (holding a h) ≡ h
held-holding a h = take-append_seam h (replicate (27 - length h) 0)

pub held-length : (s : State) → InRange s → length (held_of s) ≡ s.count
held-length s v = length-take-le s.count s.held (omega (arith, v.count, v.places))

zeros-are : (l : List ℕ) → zeros l ≡ true → l ≡ replicate (length l) 0
zeros-are [] e = refl
zeros-are (x ∷ l) e = let b = both (eqb x 0) (zeros l) e in ap₂ ◌∷◌ (eqb-true x 0 b.0) (zeros-are l b.1)

-- fewer zeros are zeros
zeros-behind : (l : List ℕ) (n k : ℕ) → zeros (drop n l) ≡ true → zeros (drop (n + k) l) ≡ true
zeros-behind l n k e = rw (← drop-drop k n l) (go k (drop n l) e)
  where
    go : (k : ℕ) (l : List ℕ) → zeros l ≡ true → zeros (drop k l) ≡ true
    go zero l e = e
    go (suc k) [] e = refl
    go (suc k) (x ∷ l) e = go k l (both (eqb x 0) (zeros l) e).1

-- a state in range is its account and what it holds
pub holding-held : (s : State) → InRange s → holding s.account (held_of s) ≡ s
holding-held s v =
    let n = s.count in
    let d : replicate (27 - n) 0 ≡ drop n s.held = sym (zeros-are (drop n s.held) v.unused ∙ rw (length-drop n s.held, v.places)) in
    rw (held-length s v, d, take-append-drop)

-- more bytes are held behind those that are
pub holding-more : (s : State) (xs : List ℕ) → InRange s → s.count + length xs ≤ 27
    → record { account = s.account; held = paste s.held s.count xs (length xs); count = s.count + length xs }
    ≡ holding s.account (held_of s ++ xs)
holding-more s xs v h =
    let n = s.count + length xs in
    let l : length (held_of s ++ xs) ≡ n = rw (length-append (held_of s) xs, held-length s v) in
    let z = zeros-are (drop n s.held) (zeros-behind s.held s.count (length xs) v.unused) in
    let d : replicate (27 - n) 0 ≡ drop n s.held = sym (z ∙ rw (length-drop n s.held, v.places)) in
    rw (l, d, take-length xs)

pub ended_held : (s : State) → InRange s → 2 ≤ s.account.stage → held_of s ≡ []
ended_held s v h = rw (v.none h)

pub ended_is : (s : State) → InRange s → 2 ≤ s.account.stage → holding s.account [] ≡ s
ended_is s v h = rw (ended_held s v h) at (holding-held s v)

-- ---- states in range

zeros_of : (n : ℕ) → zeros (replicate n 0) ≡ true
zeros_of zero = refl
zeros_of (suc n) = zeros_of n

pub range-holding : (a : Account) (xs : List ℕ) → AccountInRange a → a.stage < 2 → front xs ≡ unfinished → InRange (holding a xs)
range-holding a xs v k e =
    let short = unfinished-short xs e in
    record {
      account = v;
      places = rw (length-append, length-replicate) (omega arith);
      count = short;
      unused = rw drop-append_seam (zeros_of (27 - length xs));
      begun = rw held-holding e;
      none = λ h. absurd (omega arith);
    }

pub range-idle : (a : Account) → AccountInRange a → InRange (holding a [])
range-idle a v = record { account = v; places = refl; count = omega arith; unused = refl; begun = front-none; none = λ h. refl }
