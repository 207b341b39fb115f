-- Laws of what people are told: texts behind one another, and the texts of a line by what it asks.
-- Assumes nothing.
use Rattle.std.proofs.Common.{◌≡◌, ℕ, List, sym, ◌∙◌, eq-eqb, ne_eqb}
use Rattle.printing.specs.Says.{Says}
use Rattle.printing.specs.declared.text.Text.{Text}
use Rattle.printing.proofs.Texts.{says-none}
use Rattle.slip.specs.Slip.{what_if, double}
use Rattle.slip.specs.declared.Change.{Change}
use Rattle.slip.specs.declared.Change.TheVariants.{Feed}
use Rattle.slip.specs.declared.Ration.{Ration}
use Rattle.slip.specs.declared.Slip.{Slip}
use Rattle.whatif.specs.declared.Asked.{Asked}
use Rattle.whatif.specs.declared.Counts.{Counts}
use Rattle.whatif.specs.Asked.{asked_of}
use Rattle.whatif.specs.Shown.{slip_line}
use Rattle.whatif.specs.Told.{refused_text, refusal_text, slip_text, answer_by, answer_text, remark_by, remark_text, counted_by, counted_of}

-- s is the slip that answers
module _ (number : ℕ) (r : Ration) (change : Change) {s : Slip} (e : s ≡ what_if r change) where
  pub no-refusal : {t : Text} → s.code ≡ 0 → Says t t (refusal_text number r change)
  no-refusal z = rw (← e, eq-eqb s.code 0 z) says-none

  pub refusal : {t u : Text} → (s.code ≡ 0 → ⊥) → Says t u (refused_text number s.code r change) → Says t u (refusal_text number r change)
  refusal n p = rw (← e, ne_eqb s.code 0 n) p

  pub slip-said : {b : Slip} {t u : Text} → b ≡ what_if r (Feed (double 1 1)) → Says t u (slip_line s b.kg) → Says t u (slip_text r change)
  slip-said f p = rw (← e, ← f) p

-- a is what the line asks
module _ (line : List ℕ) {a b : Asked} (e : a ≡ asked_of line) (f : a ≡ b) where
  is_b : asked_of line ≡ b
  is_b = sym e ∙ f

  pub answer-by : {t u : Text} → Says t u (answer_by b) → Says t u (answer_text line)
  unfolding answer_text
  answer-by p = rw is_b p

  pub remark-by : (number : ℕ) {t u : Text} → Says t u (remark_by number line b) → Says t u (remark_text number line)
  unfolding remark_text
  remark-by number p = rw is_b p

  pub counted-by : (c : Counts) {r : Counts} → r ≡ counted_by c b → r ≡ counted_of c line
  unfolding counted_of
  counted-by c p = rw is_b p
