-- The next record of a walk: by the front of the bytes, and as the run of rule 2 has it.
-- Assumes nothing.
use Prim.Native.Nat.{ℕ, ◌+◌, ◌≤◌, ◌<◌}
use mathlib.Core.Path.{◌≡◌, refl, ap, ◌∙◌}
use mathlib.Core.List.{List, [], ◌++◌}
use native.Mathlib.Omega.{arith}
use borrow.Author.Tests.{lt-ltb, le-ltb}
use lib.ListN.{length, take, drop}
use lib.Seq.{paste, take_all}
use Rattle.line_bytes.specs.Lines.{lines_most}
use Rattle.account.specs.declared.Account.{Account}
use Rattle.account.specs.declared.Judged.{Judged}
use Rattle.account.specs.Range.{AccountInRange}
use Rattle.account.specs.Judge.{judge}
use Rattle.account.specs.Line.{bytes_of}
use Rattle.account.specs.Told.{TellsIn}
use Rattle.account.proofs.Told.{tells-fit, lines-short}
use Rattle.account.proofs.Keeps.{in-range-judge, in-range-length}
use Rattle.walk.specs.declared.Found.TheVariants.{Record, Ended}
use Rattle.walk.specs.declared.Next.{Next}
use Rattle.book.specs.Front.{Front, unfinished, bad_length, whole, need, front}
use Rattle.book.specs.Inner.{told}
use Rattle.book.specs.declared.front.Front.TheVariants.{BadLength}
use Rattle.book.proofs.RecordRuns.{record-in}
use Rattle.walk.specs.Walk.{record_at, lines_of, none_but, at_front, next_of, lines_at, lines_next}

-- ---- the front as the code has it

pub front-bad : (f : Front) → told f ≡ BadLength → f ≡ bad_length
front-bad unfinished e = let z : ◌≡◌ {A = ℕ} 0 1 = cc in absurd (omega arith)
front-bad bad_length e = refl
front-bad whole e = let z : ◌≡◌ {A = ℕ} 0 1 = cc in absurd (omega arith)

pub front-begun : (f : Front) → (f ≡ whole → ⊥) → (told f ≡ BadLength → ⊥) → f ≡ unfinished
front-begun unfinished w b = refl
front-begun bad_length w b = absurd (b refl)
front-begun whole w b = absurd (w refl)

-- ---- the next record by the front

module _ (a : Account) (xs : List ℕ) where
  pub next-ended : 2 ≤ a.stage → next_of a xs ≡ none_but Ended a
  unfolding next_of
  next-ended h = rw (le-ltb _ _ h)

  pub lines-ended : 2 ≤ a.stage → lines_next a xs ≡ []
  unfolding lines_next
  lines-ended h = rw (le-ltb _ _ h)

  pub next-open : a.stage < 2 → next_of a xs ≡ at_front (front xs) a xs
  unfolding next_of
  next-open h = rw (lt-ltb _ _ h)

  pub lines-open : a.stage < 2 → lines_next a xs ≡ lines_at (front xs) a xs
  unfolding lines_next
  lines-open h = rw (lt-ltb _ _ h)

-- no lines where no whole record is
pub no_lines : (f : Front) (a : Account) (xs : List ℕ) → (f ≡ whole → ⊥) → lines_at f a xs ≡ []
no_lines unfinished a xs n = refl
no_lines bad_length a xs n = refl
no_lines whole a xs n = absurd (n refl)

pub nothing_written : (f : Front) (a : Account) (xs : List ℕ) → (f ≡ whole → ⊥) → (at_front f a xs).written ≡ 0
nothing_written unfinished a xs n = refl
nothing_written bad_length a xs n = refl
nothing_written whole a xs n = absurd (n refl)

-- ---- what is left

-- so many bytes are no more than there are, the lines fit, and the account after it is in range
abbrev pub Inside : List ℕ → Next → Type 0
Inside xs t = (t.size ≤ length xs) × (t.written ≤ lines_most) × AccountInRange t.account

pub inside-front : (f : Front) (a : Account) (xs : List ℕ) → front xs ≡ f → (f ≡ whole → ⊥) → AccountInRange a → Inside xs (at_front f a xs)
inside-front unfinished a xs e n v = (omega arith, omega arith, v)
inside-front bad_length a xs e n v = (omega arith, omega arith, in-range-length a v)
inside-front whole a xs e n v = absurd (n refl)

-- ---- a whole record, as the code finds it

module _ (a : Account) (xs bytes : List ℕ) (n : ℕ) (j : Judged) (early : a.stage < 2) (f : front xs ≡ whole) (k : n ≡ need xs)
    (b : bytes ≡ take n xs) (t : TellsIn lines_most a (judge a bytes) j) where
  told-lines : bytes_of j ≡ lines_of a (record_at xs)
  told-lines = (tells-fit t (lines-short t)).bytes ∙ rw (b, k) refl

  told-long : length (lines_of a (record_at xs)) ≡ j.line.given
  told-long = rw (← told-lines) (tells-fit t (lines-short t)).long

  told-account : j.account ≡ (judge a (record_at xs)).account
  told-account = (tells-fit t (lines-short t)).account ∙ rw (b, k) refl

  pub next-is : record { found = Record; size = n; account = j.account; written = j.line.given } ≡ next_of a xs
  next-is = rw (next-open a xs early, f, told-long, told-account, k) refl

  pub lines_are : (out out' : List ℕ) → out' ≡ paste out 0 (bytes_of j) j.line.given → out' ≡ lines_next a xs ++ drop j.line.given out
  lines_are out out' e =
      let z : 0 + j.line.given ≡ j.line.given = omega arith in
      (rw z at e)
      ∙ ap (λ (l : List ℕ). l ++ drop j.line.given out) (take_all j.line.given (bytes_of j) (omega (arith, (tells-fit t (lines-short t)).long)))
      ∙ rw (lines-open a xs early, f, told-lines) refl

  pub next-inside : AccountInRange a → Inside xs (record { found = Record; size = n; account = j.account; written = j.line.given })
  next-inside v = (record-in xs n f k, lines-short t, rw told-account (in-range-judge a (record_at xs) v early))
