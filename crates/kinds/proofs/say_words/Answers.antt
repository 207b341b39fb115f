-- The invariant: saying the words that are left makes all after the first. Assumes nothing.
use native.Mathlib.Omega.{arith}
use Rattle.printing.proofs.Texts.{◌⟫◌, says-none}
use Rattle.kinds.proofs.Steps.{one_word, no_word}
use Rattle.kinds.proofs.say_words.Goals as goal

pub loop-v-init : goal.loop-v-init
loop-v-init c = λ end p. p

pub loop-v-preserved : goal.loop-v-preserved
loop-v-preserved c = λ end p. c.loop-v.invariant end (rw (one_word c.args.n c.loop-v.v c.args.row c.args.i (omega arith)) (c.say_word.ensures ⟫ p))

pub returns : goal.returns
returns c = c.say_choice.ensures ⟫ c.loop-v.invariant c.loop-v.out (rw (no_word c.args.n c.loop-v.v c.args.row c.args.i (omega arith)) says-none)
