-- Assumes nothing.
use mathlib.Core.Path.{sym, ◌∙◌}
use native.Mathlib.Omega.{arith}
use borrow.Author.Rules.{rules}
use lib.ListN.{drop}
use Rattle.book.specs.WholeRecords.{records_of}
use Rattle.compare.proofs.GroupNumbers.{all-low, number-low}
use Rattle.compare.proofs.Walks.{long-enough, passed-left}
use Rattle.compare.proofs.Sums.{group-none, group-other, group-some}
use Rattle.compare.proofs.places.group_at.Goals as goal

pub rest_of-rest-requires : goal.rest_of-rest-requires
rest_of-rest-requires c = c.requires.inside

pub step-t-requires : goal.step-t-requires
step-t-requires c = c.requires.range

pub returns-then-t-eq0 : goal.returns-then-t-eq0
returns-then-t-eq0 c = record {
  some = search rules;
  none = sym (group-none _ ((rw c.rest_of-rest.ensures at c.step-t.ensures).ended c.if-t-eq0.true));
}

pub first_of-r-requires : goal.first_of-r-requires
first_of-r-requires c = c.step-t.ensures.inside

pub kind_of-requires : goal.kind_of-requires
kind_of-requires c = long-enough _ _ _ c.first_of-r.ensures c.step-t.ensures.inside (c.step-t.ensures.some (omega (arith, c.if-t-eq0.false)))

pub returns-then-kind_of-ne-HEADING : goal.returns-then-kind_of-ne-HEADING
returns-then-kind_of-ne-HEADING c = record {
  some = search rules;
  none = sym (group-other _ _ _
      (passed-left _ _ c.requires _ (rw c.rest_of-rest.ensures at c.step-t.ensures) (omega (arith, c.if-t-eq0.false)))
      (λ z. c.if-kind_of-ne-HEADING.true ((rw (c.first_of-r.ensures, c.rest_of-rest.ensures) at c.kind_of.ensures) ∙ z)));
}

pub values-v-requires : goal.values-v-requires
values-v-requires c = rw c.first_of-r.ensures (c.step-t.ensures.readable (omega (arith, c.if-t-eq0.false)))

pub returns : goal.returns
returns c =
    let l = passed-left _ _ c.requires _ (rw c.rest_of-rest.ensures at c.step-t.ensures) (omega (arith, c.if-t-eq0.false)) in
    let h = sym (rw (c.first_of-r.ensures, c.rest_of-rest.ensures) at c.kind_of.ensures) ∙ c.if-kind_of-ne-HEADING.false in
    let v = rw (c.first_of-r.ensures, c.rest_of-rest.ensures) at c.values-v.ensures in
    let a = all-low c.args.p.account (records_of (drop c.args.p.at c.args.book.now)) in
    record { some = (group-some _ _ _ _ l h v, number-low _ _ _ _ a l h v); none = search rules }
