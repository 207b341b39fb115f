-- The test of an account's ranges decides them, clause by clause.
-- Assumes nothing.
use mathlib.Core.Path.{◌≡◌}
use mathlib.Core.List.{List, [], ◌∷◌}
use mathlib.Core.Bool.{Bool, true}
use Rattle.base.proofs.Tests.{all-each, each_all}
use Rattle.account.specs.declared.Account.{Account}
use Rattle.account.specs.Range.{AccountInRange, started_test, bounded_test, under_test, ended_test, account_in_range}
use Rattle.account.proofs.Sums.{bounded-parts, bounded-test}
use Rattle.account.proofs.Started.{started-parts, started-test}
use Rattle.account.proofs.Under.{under-parts, under-test}
use Rattle.account.proofs.Ended.{ended-parts, ended-test}

module _ (a : Account) where
  abbrev rest : List Bool
  rest =
      bounded_test a.sums a.records
      ∷ under_test a.heading a.used a.subtotal a.records
      ∷ ended_test a.stage a.refusal a.records
      ∷ []

  pub in-range-parts : account_in_range a ≡ true → AccountInRange a
  unfolding account_in_range
  in-range-parts e =
      let t = all-each (started_test a.stage a.records a.farm) rest e in
      record {
        started = started-parts _ _ _ t.0;
        sums = bounded-parts _ _ t.1.0;
        under = under-parts _ _ _ _ t.1.1.0;
        ended = ended-parts _ _ _ t.1.1.1.0;
      }

  pub in-range-test : AccountInRange a → account_in_range a ≡ true
  unfolding account_in_range
  in-range-test f =
      each_all (started_test a.stage a.records a.farm) rest (started-test _ _ _ f.started)
      (bounded-test _ _ f.sums, (under-test _ _ _ _ f.under, (ended-test _ _ _ f.ended, tt)))
