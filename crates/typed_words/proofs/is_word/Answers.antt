use mathlib.Core.Path.{◌∙◌}
use Rattle.typed_words.proofs.Same.{same-text}
use Rattle.typed_words.proofs.is_word.Goals as goal

pub returns : goal.returns
returns c = c.eq.ensures ∙ same-text c.args.s.now c.args.word.now
