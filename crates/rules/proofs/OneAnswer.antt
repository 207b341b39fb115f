-- One answer of judge, and of outside::weigh (base, specs/Answers); of a kind below its own module. All ask for an open account in its ranges, and
-- for a whole record, its values or the position of a value. Assumes nothing.
use Prim.Native.Nat.{ℕ, ◌≤◌, ◌<◌}
use mathlib.Core.Path.{◌≡◌, sym, ◌∙◌}
use mathlib.Core.Logic.{⊎_elim}
use Rattle.base.specs.Answers.{TwoAnswers, OneAnswer}
use Rattle.base.proofs.Tests.{lt-or-ge}
use Rattle.account.specs.declared.Account.{Account}
use Rattle.account.specs.declared.Judged.{Judged}
use Rattle.account.specs.Judge.{Step}
use Rattle.account.specs.Told.{TellsIn}
use Rattle.account.proofs.Told.{tells-fit, account-kept, lines_long}
use Rattle.rules.specs.Alike.{Alike}
use Rattle.rules.proofs.judge.Kinds as whole
use Rattle.rules.proofs.judge.Reads as whole-contract
use Rattle.rules.proofs.outside.weigh.Kinds as outside
use Rattle.rules.proofs.outside.weigh.Reads as outside-contract

-- Two answers that tell the same step are alike.
pub tell-alike : {room : ℕ} {a : Account} {j : Step} {f g : Judged} → TellsIn room a j f → TellsIn room a j g → Alike room f g
tell-alike {room} {a} {j} {f} {g} p q =
    let l : f.line.given ≡ g.line.given = sym (lines_long p) ∙ lines_long q in
    record {
      account = ⊎_elim (λ (h : room < f.line.given). account-kept p h ∙ sym (account-kept q (rw l at h)))
          (λ (h : f.line.given ≤ room). (tells-fit p h).account ∙ sym (tells-fit q (rw l at h)).account)
          (lt-or-ge room f.line.given);
      given = l;
      bytes = λ (h : f.line.given ≤ room). (tells-fit p h).bytes ∙ sym (tells-fit q (rw l at h)).bytes;
    }

-- What a whole record does.
pub one-judge : TwoAnswers whole.ps whole.r whole-contract.Learnt (λ κs args f g e e'. Alike args.1.1.0 f g)
one-judge κs args f g e e' p q = tell-alike p q

-- What one with a value out of its range does.
pub one_outside : OneAnswer outside.ps outside.r outside-contract.Learnt
one_outside κs args f g e e' p q = p ∙ sym q
