-- By the front. Assumes nothing.
use mathlib.Core.Path.{◌≡◌, sym, ◌∙◌}
use lib.Seq.{take-length}
use Rattle.book.specs.Front.{bad_length, unfinished, front}
use Rattle.walk.proofs.NextRecords.{front-bad, front-begun}
use Rattle.walk.proofs.unread.Goals as goal

pub returns-in-BadLength : goal.returns-in-BadLength
returns-in-BadLength c =
    let bad-is : front c.args.xs.now ≡ bad_length = front-bad _ (rw take-length at (sym c.front_of.ensures ∙ c.in-BadLength.is)) in
    rw (c.refuse-refused.ensures, bad-is)

pub returns-in_default : goal.returns-in_default
returns-in_default c =
    let begun-is : front c.args.xs.now ≡ unfinished =
    front-begun _ c.requires (λ e. c.in_default.not-BadLength (rw take-length at c.front_of.ensures ∙ e)) in
    rw (begun-is)
