-- Laws of `lines_of`: a text cut at its first line feed, and one that goes on.
-- Assumes nothing.
use Prim.Native.Nat.{ℕ, ◌≤◌}
use mathlib.Core.Path.{◌≡◌, refl, ap, ◌∙◌}
use mathlib.Core.Bool.{false}
use mathlib.Core.List.{List, [], ◌∷◌, ◌++◌, append-nil}
use lib.ListN.{length}
use lib.Dec.{eqb}
use Rattle.base.proofs.Tests.{by-test}
use Rattle.base.specs.Bytes.{index_of}
use Rattle.text_lines.specs.Lines.{has, on_first, lines_of}
use Rattle.text_lines.proofs.Bytes.{absent, first-other, rest-others}

-- every text has a first line
pub by_lines : (P : List (List ℕ) → Type 0) → ((line : List ℕ) (lines : List (List ℕ)) → P (line ∷ lines)) → (text : List ℕ) → P (lines_of text)
unfolding lines_of
by_lines P f [] = f [] []
by_lines P f (b ∷ text) =
    by-test (eqb b 10)
    (λ t. rw t (f [] (lines_of text)))
    (λ n. rw n (by_lines (λ ls. P (on_first b ls)) (λ l ls. f (b ∷ l) ls) text))

-- a in front of the first line
abbrev pub in_front : List ℕ → List (List ℕ) → List (List ℕ)
in_front a [] = a ∷ []
in_front a (line ∷ lines) = (a ++ line) ∷ lines

goes_on : (a text : List ℕ) → length a ≤ index_of 10 a → lines_of (a ++ text) ≡ in_front a (lines_of text)
unfolding lines_of
goes_on [] text h = by_lines (λ ls. ls ≡ in_front [] ls) (λ l ls. refl) text
goes_on (b ∷ a) text h =
    rw (first-other 10 b a h, goes_on a text (rest-others 10 b a h))
    (by_lines (λ ls. on_first b (in_front a ls) ≡ in_front (b ∷ a) ls) (λ l ls. refl) text)

-- a has no line feed
module _ (a : List ℕ) (none : has 10 a ≡ false) where
  pub lines-on : (text : List ℕ) → lines_of (a ++ text) ≡ in_front a (lines_of text)
  lines-on text = goes_on a text (absent 10 a none)

  pub lines_cut : (rest : List ℕ) → lines_of (a ++ (10 ∷ rest)) ≡ a ∷ lines_of rest
  unfolding lines_of
  lines_cut rest = lines-on (10 ∷ rest) ∙ ap (λ (l : List ℕ). l ∷ lines_of rest) (append-nil a)
