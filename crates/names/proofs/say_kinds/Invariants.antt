-- One name behind another. Assumes nothing.
use Prim.Native.Nat.{suc, ◌-◌}
use Rattle.codec.specs.Table.{last_kind}
use Rattle.printing.specs.Says.{Says}
use Rattle.printing.specs.declared.text.Text.{Text}
use Rattle.names.specs.Names.{names_from}
use Rattle.names.proofs.say_kinds.Given as goal

-- saying the names that are left makes all behind the first
abbrev pub invariant-loop-kind : goal.invariant-loop-kind
invariant-loop-kind l = (end : Text) → Says l.out end (names_from (suc last_kind - l.kind) l.kind)
    → Says l.initial.out end (names_from (suc last_kind - 2) 2)
