use mathlib.Core.Path.{◌≡◌, ap, sym, ◌∙◌}
use native.Mathlib.Omega.{arith}
use borrow.Author.Rules.{rules}
use lib.Seq.{take-length}
use Rattle.book.specs.Front.{whole, front}
use Rattle.book.specs.Inner.{told}
use Rattle.book.proofs.Fronts.{meaning, told-whole}
use Rattle.book.proofs.front.ready.Goals as goal

pub be16-requires : goal.be16-requires
be16-requires c =
    let is-whole : front c.args.s.now ≡ whole = told-whole _ (rw take-length at (sym c.front_of.ensures ∙ c.in-Whole.is)) in
    omega (arith, (meaning _ whole (is-whole)).0)

pub overflow_add-result : goal.overflow_add-result
overflow_add-result c =
    let is-whole : front c.args.s.now ≡ whole = told-whole _ (rw take-length at (sym c.front_of.ensures ∙ c.in-Whole.is)) in
    let m = (meaning _ whole (is-whole)).2 in search rules

pub returns-in-Whole : goal.returns-in-Whole
returns-in-Whole c =
    let is-whole : front c.args.s.now ≡ whole = told-whole _ (rw take-length at (sym c.front_of.ensures ∙ c.in-Whole.is)) in
    record { some = λ h. (is-whole, rw c.be16.ensures); none = λ h. absurd (omega arith) }

pub returns-in_default : goal.returns-in_default
returns-in_default c =
    record { some = λ h. absurd (omega arith); none = λ h e. c.in_default.not-Whole (rw take-length at c.front_of.ensures ∙ ap told e) }
