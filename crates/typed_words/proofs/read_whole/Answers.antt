use mathlib.Core.Path.{◌∙◌}
use lib.ListN.{length}
use borrow.Author.Tests.{lt-ltb, le-ltb}
use borrow.Author.Rules.{rules}
use Rattle.typed_words.proofs.read_whole.Goals as goal

pub returns-then-s-eq0 : goal.returns-then-s-eq0
returns-then-s-eq0 c = simp (le-ltb 0 (length c.args.s.now) (search rules))

pub returns : goal.returns
returns c = c.digits.ensures.value ∙ simp (lt-ltb 0 (length c.args.s.now) (search rules))
