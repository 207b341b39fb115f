-- The invariant: the word's kind is its kind among those that are left. Assumes nothing.
use mathlib.Core.Path.{sym, ◌∙◌}
use native.Mathlib.Omega.{arith}
use Rattle.writer.proofs.TypedLines.{named_here, named-on, named_none}
use Rattle.writer.proofs.typed_line.named.Goals as goal

pub returns-then-is_kind_name : goal.returns-then-is_kind_name
returns-then-is_kind_name c = let l = c.loop-kind in
    sym (named_here _ l.kind (omega arith) c.is_kind_name.ensures c.if-is_kind_name.true) ∙ l.invariant

pub loop-kind-preserved : goal.loop-kind-preserved
loop-kind-preserved c = let l = c.loop-kind in
    sym (named-on _ l.kind (omega arith) c.is_kind_name.ensures c.if-is_kind_name.false) ∙ l.invariant

pub returns : goal.returns
returns c = let l = c.loop-kind in sym (named_none _ l.kind (omega arith)) ∙ l.invariant
