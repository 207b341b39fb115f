-- The invariant: the word's kind is its kind among those that are left. Assumes nothing.
use Prim.Native.Nat.{◌-◌}
use mathlib.Core.Path.{◌≡◌}
use Rattle.codec.specs.Table.{last_kind}
use Rattle.typed_words.specs.Words.{lowered}
use Rattle.writer.specs.Line.{named_from}
use Rattle.writer.proofs.typed_line.named.Given as goal

abbrev pub invariant-loop-kind : goal.invariant-loop-kind
invariant-loop-kind l = named_from (last_kind - l.kind) l.kind (lowered l.word) ≡ named_from last_kind 0 (lowered l.word)
