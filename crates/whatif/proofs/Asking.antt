-- What a line asks, by the tests that the code makes one after the other.
-- Assumes nothing.
use Rattle.std.proofs.Common.{◌≡◌, ℕ, ◌<◌, ◌≤◌, List, length, sym, ap, eq-eqb, ne_eqb, le-leb}
use borrow.Author.Tests.{lt-leb}
use Rattle.std.specs.Prelude.{Result, Ok, Err}
use Rattle.std.specs.Result.{IsErrAnd}
use Rattle.typed_words.specs.Words.{nth_word}
use Rattle.slip.specs.declared.Ration.{Ration}
use Rattle.slip.specs.declared.Change.{Change}
use Rattle.whatif.specs.declared.Fault.{Fault}
use Rattle.whatif.specs.declared.Fault.TheVariants.{TooLong}
use Rattle.whatif.specs.declared.Asked.TheVariants.{Nothing, Wrong}
use Rattle.whatif.specs.Asked.{words_read, estimate_of, asked_of}

pub too_long : (line : List ℕ) → 1024 ≤ length line → Wrong TooLong ≡ asked_of line
unfolding asked_of
too_long line h = sym (rw (le-leb 1024 (length line) h))

-- w is its first word
module _ (line : List ℕ) (short : length line < 1024) {w : List ℕ} (first : w ≡ nth_word 0 line) where
  pub no_word : length w ≡ 0 → Nothing ≡ asked_of line
  unfolding asked_of
  no_word z = sym (rw (lt-leb 1024 (length line) short, ← first, eq-eqb (length w) 0 z))

  -- r is what its words say
  pub estimate : (length w ≡ 0 → ⊥) → {r : Result (Ration × Change) Fault} → r ≡ words_read line → estimate_of r ≡ asked_of line
  unfolding asked_of
  estimate some e = sym (rw (lt-leb 1024 (length line) short, ← first, ne_eqb (length w) 0 some, ← e))

-- what the exit of a `?` returns
pub faulted : {A : Type 0} {f : Fault} (r : Result A Fault) → IsErrAnd r (λ e. e ≡ f) → r ≡ Err f
faulted (Ok x) a = absurd a
faulted (Err e) a = ap (λ (x : Fault). Err x) a
