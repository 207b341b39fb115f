-- One answer of each public function, with the buffer at the end where one is lent (base, specs/Answers); the loop (pump) reads and writes.
-- None asks anything of its caller. Assumes nothing.
use mathlib.Core.Path.{◌≡◌, sym, ◌∙◌}
use Rattle.base.specs.Answers.{AsksNothing, TwoAnswers, OneAnswerWith}
use Rattle.printing.proofs.Examples.{one-put}
use Rattle.lister.proofs.begin.Kinds as head
use Rattle.lister.proofs.begin.Reads as head-contract
use Rattle.lister.proofs.list.Kinds as listed
use Rattle.lister.proofs.list.Reads as listed-contract

pub list-asks-nothing : AsksNothing listed.ps listed-contract.Asked
list-asks-nothing κs args = tt

pub begin-asks-nothing : AsksNothing head.ps head-contract.Asked
begin-asks-nothing κs args = tt

-- A part listed: the state after it, the bytes taken and written, and the rows (the fourth parameter, out).
pub one_list : TwoAnswers listed.ps listed.r listed-contract.Learnt
    (λ κs args f g e e'. (f.state ≡ g.state) × ((f.taken ≡ g.taken) × ((f.written ≡ g.written)
    × (e.1.1.1.0.now ≡ e'.1.1.1.0.now))))
one_list κs args f g e e' p q =
    (p.0.state ∙ sym q.0.state, (p.0.taken ∙ sym q.0.taken, one-put p.0.text q.0.text))

-- What stands before the rows: its length, and the buffer at the end.
pub one-begin : OneAnswerWith head.ps head.r head-contract.Learnt (λ κs e. e.0.now)
one-begin κs args f g e e' p q = one-put p q
