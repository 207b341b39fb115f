-- The invariant: the word's number is its number among those that are left. Assumes nothing.
use Prim.Native.Nat.{◌-◌}
use mathlib.Core.Path.{◌≡◌}
use Rattle.typed_words.specs.Words.{lowered}
use Rattle.names.specs.Names.{choices_most, chosen_from}
use Rattle.names.proofs.choice_in.Given as goal

abbrev pub invariant-loop-k : goal.invariant-loop-k
invariant-loop-k l = chosen_from (choices_most - l.k) l.k l.words (lowered l.typed) ≡ chosen_from choices_most 0 l.words (lowered l.typed)
