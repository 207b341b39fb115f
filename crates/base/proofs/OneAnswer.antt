-- One answer of each public function (base, specs/Answers). Of a slice no more bytes are asked for than it has; the others ask nothing. Assumes
-- nothing.
use mathlib.Core.Path.{◌≡◌, sym, ◌∙◌}
use Rattle.base.specs.Answers.{AsksNothing, TwoAnswers, OneAnswer}
use Rattle.base.proofs.least.Kinds as lesser
use Rattle.base.proofs.least.Reads as lesser-contract
use Rattle.base.proofs.one_more.Kinds as next-number
use Rattle.base.proofs.one_more.Reads as next-number-contract
use Rattle.base.proofs.first_of.Kinds as front
use Rattle.base.proofs.first_of.Reads as front-contract
use Rattle.base.proofs.rest_of.Kinds as back
use Rattle.base.proofs.rest_of.Reads as back-contract
use Rattle.base.proofs.find.Kinds as place
use Rattle.base.proofs.find.Reads as place-contract

pub least-asks-nothing : AsksNothing lesser.ps lesser-contract.Asked
least-asks-nothing κs args = tt

-- The lesser of two.
pub one-least : OneAnswer lesser.ps lesser.r lesser-contract.Learnt
one-least κs args f g e e' p q = p ∙ sym q

pub one-more-asks-nothing : AsksNothing next-number.ps next-number-contract.Asked
one-more-asks-nothing κs args = tt

-- The next number.
pub one-one-more : OneAnswer next-number.ps next-number.r next-number-contract.Learnt
one-one-more κs args f g e e' p q = p ∙ sym q

-- The first bytes of a slice.
pub one-first-of : TwoAnswers front.ps front.r front-contract.Learnt (λ κs args f g e e'. f.now ≡ g.now)
one-first-of κs args f g e e' p q = p ∙ sym q

-- The others.
pub one-rest-of : TwoAnswers back.ps back.r back-contract.Learnt (λ κs args f g e e'. f.now ≡ g.now)
one-rest-of κs args f g e e' p q = p ∙ sym q

pub find-asks-nothing : AsksNothing place.ps place-contract.Asked
find-asks-nothing κs args = tt

-- Where a byte stands.
pub one-find : OneAnswer place.ps place.r place-contract.Learnt
one-find κs args f g e e' p q = p.0 ∙ sym q.0
