use mathlib.Core.Path.{refl, ◌∙◌}
use Rattle.typed_words.proofs.Blanks.{past_end}
use borrow.Author.Rules.{rules}
use Rattle.typed_words.proofs.behind_point.Goals as goal

pub returns-then-p-s : goal.returns-then-p-s
returns-then-p-s c = c.rest_of.ensures ∙ past_end c.args.s.now c.args.p (search rules)

pub returns : goal.returns
returns c = rw c.rest_of-2.ensures refl
