-- One answer of each public function, which asks nothing (base, specs/Answers). Assumes nothing.
use mathlib.Core.Path.{◌≡◌, sym, ◌∙◌}
use Rattle.base.specs.Answers.{AsksNothing, TwoAnswers, OneAnswer, OneAnswerWith}
use Rattle.printing.proofs.Examples.{one-put}
use Rattle.retype.proofs.retype.Kinds as typed
use Rattle.retype.proofs.retype.Reads as typed-contract
use Rattle.retype.proofs.say_end.Kinds as last
use Rattle.retype.proofs.say_end.Reads as last-contract
use Rattle.retype.proofs.status.Kinds as digit
use Rattle.retype.proofs.status.Reads as digit-contract

pub retype-asks-nothing : AsksNothing typed.ps typed-contract.Asked
retype-asks-nothing κs args = tt

pub say-end-asks-nothing : AsksNothing last.ps last-contract.Asked
say-end-asks-nothing κs args = tt

pub status-asks-nothing : AsksNothing digit.ps digit-contract.Asked
status-asks-nothing κs args = tt

-- A part of a book typed again: all of Retyped, and the buffer at the end (the third parameter, out).
pub one-retype : TwoAnswers typed.ps typed.r typed-contract.Learnt
    (λ κs args f g e e'. (f.account ≡ g.account) × (f.taken ≡ g.taken) × (f.more ≡ g.more) × ((f.written ≡ g.written)
    × (e.1.1.0.now ≡ e'.1.1.0.now)))
one-retype κs args f g e e' p q =
    (p.0.account ∙ sym q.0.account, p.0.taken ∙ sym q.0.taken, p.0.more ∙ sym q.0.more, one-put p.0.put q.0.put)

-- The end of a book: its length, and the buffer at the end (the first parameter, out).
pub one-say-end : OneAnswerWith last.ps last.r last-contract.Learnt (λ κs e. e.0.now)
one-say-end κs args f g e e' p q = one-put p.put q.put

-- The exit status.
pub one-status : OneAnswer digit.ps digit.r digit-contract.Learnt
one-status κs args f g e e' p q = p ∙ sym q
