use native.Mathlib.Omega.{arith}
use Rattle.typed_words.proofs.Blanks.{no-others, behind-one}
use Rattle.typed_words.proofs.+word.Goals as goal

pub returns-then-n-eq0 : goal.returns-then-n-eq0
returns-then-n-eq0 t c = rw (c.first_word.ensures, no-others c.args.n c.args.s.now c.if-n-eq0.true)

pub returns : goal.returns
returns t c = rw (c.word.ensures, c.past_word.ensures, behind-one c.args.n c.args.s.now (omega arith))
