-- One answer of each public function, which asks nothing (base, specs/Answers). Assumes nothing.
use Prim.Native.Nat.{ℕ}
use mathlib.Core.Path.{◌≡◌, refl, sym, ◌∙◌}
use mathlib.Core.Bool.{Bool}
use Rattle.base.specs.Answers.{AsksNothing, OneAnswerWith}
use Rattle.printing.proofs.Examples.{one-put}
use Rattle.account.specs.declared.Account.{Account}
use Rattle.retype.specs.declared.Retyped.{Retyped}
use Rattle.records.proofs.rows.Kinds as table
use Rattle.records.proofs.rows.Reads as table-contract
use Rattle.records.proofs.say_header.Kinds as head
use Rattle.records.proofs.say_header.Reads as head-contract

pub rows-asks-nothing : AsksNothing table.ps table-contract.Asked
rows-asks-nothing κs args = tt

pub say-header-asks-nothing : AsksNothing head.ps head-contract.Asked
say-header-asks-nothing κs args = tt

-- an answer by its parts
by_parts : (a b : Account) (taken taken' written written' : ℕ) (more more' : Bool) → a ≡ b → taken ≡ taken' → written ≡ written' → more ≡ more'
    → ◌≡◌ {A = Retyped} (record { account = a; taken = taken; written = written; more = more })
    (record { account = b; taken = taken'; written = written'; more = more' })
by_parts a b taken taken' written written' more more' p q r s = rw (p, q, r, s) refl

-- The rows of a part of a book: all of Retyped, and the buffer at the end (the fourth parameter, out).
pub one-rows : OneAnswerWith table.ps table.r table-contract.Learnt (λ κs e. e.1.1.1.0.now)
one-rows κs args f g e e' p q =
    let put = one-put p.0.put q.0.put in (
      by_parts f.account g.account f.taken g.taken f.written g.written f.more g.more (p.0.account ∙ sym q.0.account)
          (p.0.taken ∙ sym q.0.taken) put.0 (p.0.more ∙ sym q.0.more),
      put.1,
    )

-- The names of the columns: their length, and the buffer at the end.
pub one-say-header : OneAnswerWith head.ps head.r head-contract.Learnt (λ κs e. e.0.now)
one-say-header κs args f g e e' p q = one-put p.put q.put
