-- What is said of a public function: that it asks nothing of its caller, and that two answers which meet its contract are equal. The contract is
-- that of the source itself: ps and r are the kinds of its parameters and of its result, Asked is what its `requires` ask, Learnt what a caller
-- learns from its `ensures`.
-- Assumes nothing.
use Rattle.std.specs.Prelude.{ℕ, ◌≡◌, List}
use contract.Lifetimes.{Lfts}
use borrow.Fn.Kinds.{ParamKind, ResultKind, In, Out, Dens, res_t, ended_of}
use denote.Triple.Clauses.{AtExit}

abbrev pub AsksNothing : {n : ℕ} (ps : List (ParamKind n)) → In n ps → Type 0
AsksNothing {n} ps Asked = (κs : Lfts n) (args : Dens κs ps) → Asked κs args

module _ {n : ℕ} (ps : List (ParamKind n)) (r : ResultKind n) (Learnt : Out n ps r) where
  -- two answers f and g, with the parameters at the end in e and e', are the same in this sense
  abbrev pub TwoAnswers : ((κs : Lfts n) → Dens κs ps → (f g : (res_t r κs).Denot) → (e e' : AtExit (ended_of n ps r) κs) → Type 0) → Type 0
  TwoAnswers Same =
      (κs : Lfts n) (args : Dens κs ps) (f g : (res_t r κs).Denot) (e e' : AtExit (ended_of n ps r) κs)
      → Learnt κs args f e → Learnt κs args g e' → Same κs args f g e e'

  abbrev pub OneAnswer : Type 0
  OneAnswer = TwoAnswers (λ κs args f g e e'. f ≡ g)

  -- and so is what was lent, as it is at the end
  abbrev pub OneAnswerWith : {B : Type 0} → ((κs : Lfts n) → AtExit (ended_of n ps r) κs → B) → Type 0
  OneAnswerWith lent = TwoAnswers (λ κs args f g e e'. (f ≡ g) × (lent κs e ≡ lent κs e'))
