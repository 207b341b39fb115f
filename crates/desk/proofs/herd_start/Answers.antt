use mathlib.Core.Path.{sym, ◌∙◌}
use Rattle.desk.proofs.Images.{is-start-number}
use Rattle.desk.proofs.herd_start.Goals as goal

pub returns-then-start : goal.returns-then-start
returns-then-start c = let s = c.start.ensures in record { number = is-start-number c.args.image.now (sym s.long ∙ c.if-start.true); image = s.image }

pub returns-else-start : goal.returns-else-start
returns-else-start c = let s = c.start.ensures in record { number = is-start-number c.args.image.now (sym s.long ∙ c.if-start.false); image = s.image }
