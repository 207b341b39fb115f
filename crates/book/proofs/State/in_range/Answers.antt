use mathlib.Core.Path.{◌≡◌, sym, ◌∙◌}
use native.Mathlib.Omega.{arith}
use borrow.Author.Rules.{rules}
use borrow.Author.Tests.{le-leb}
use lib.ListN.{length}
use Rattle.book.specs.Front.{front}
use Rattle.book.specs.State.{held_of, in_range}
use Rattle.book.proofs.Fronts.{told-more, told-unfinished}
use Rattle.book.proofs.Ranges.{too_many}
use Rattle.book.proofs.State.in_range.Goals as goal

pub returns-then-n-gt27 : goal.returns-then-n-gt27
unfolding in_range
returns-then-n-gt27 c = sym (too_many c.args.self c.if-n-gt27.true)

pub in_range-requires : goal.in_range-requires
unfolding in_range
in_range-requires c = tt

pub returns-then-not-in_range : goal.returns-then-not-in_range
unfolding in_range
returns-then-not-in_range c =
    let places : length c.args.self.held ≡ 27 = search rules in
    rw (
      places,
      le-leb _ _ c.if-n-gt27.false,
      ← c.in_range.ensures,
      c.if-not-in_range.true,
    )

pub zeroed-requires : goal.zeroed-requires
unfolding in_range
zeroed-requires c = tt

pub returns-then-not-zeroed : goal.returns-then-not-zeroed
unfolding in_range
returns-then-not-zeroed c =
    let places : length c.args.self.held ≡ 27 = search rules in
    rw (
      places,
      le-leb _ _ c.if-n-gt27.false,
      ← c.in_range.ensures,
      c.if-not-in_range.false,
      ← c.zeroed.ensures,
      c.if-not-zeroed.true,
    )

pub slice_bounds-front_of-end : goal.slice_bounds-front_of-end
unfolding in_range
slice_bounds-front_of-end c = search rules

pub front_of-requires : goal.front_of-requires
unfolding in_range
front_of-requires c =
    let places : length c.args.self.held ≡ 27 = search rules in
    let l = places in omega arith

pub returns-in_default : goal.returns-in_default
unfolding in_range
returns-in_default c =
    let places : length c.args.self.held ≡ 27 = search rules in
    rw (
      places,
      le-leb _ _ c.if-n-gt27.false,
      ← c.in_range.ensures,
      c.if-not-in_range.false,
      ← c.zeroed.ensures,
      c.if-not-zeroed.false,
      told-more (front (held_of c.args.self))
          (λ e. c.in_default.not-Unfinished (c.front_of.ensures ∙ e)),
    )

pub returns-in-Unfinished : goal.returns-in-Unfinished
unfolding in_range
returns-in-Unfinished c =
    let places : length c.args.self.held ≡ 27 = search rules in
    rw (
      places,
      le-leb _ _ c.if-n-gt27.false,
      ← c.in_range.ensures,
      c.if-not-in_range.false,
      ← c.zeroed.ensures,
      c.if-not-zeroed.false,
      told-unfinished (front (held_of c.args.self)) (sym c.front_of.ensures ∙ c.in-Unfinished.is),
    )
