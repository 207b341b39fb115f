use mathlib.Core.Path.{sym, ap, ◌∙◌}
use mathlib.Core.List.{List}
use Prim.Native.Nat.{ℕ}
use native.Mathlib.Omega.{arith}
use lib.ListN.{drop, length-drop}
use lib.Seq.{take_all}
use lib.Dec.{eqb}
use Rattle.std.specs.List.{starts_with}
use Rattle.sheet.proofs.Reading.{starts-as}
use Rattle.sheet.proofs.rows.starts.Goals as goal

pub returns : goal.returns
returns c = let a = c.args in
    let rest = drop a.at a.text.now in
    c.starts_with.ensures.value
    ∙ ap (λ (s : List ℕ). starts_with eqb s a.word.now) (take_all _ rest (omega (arith, length-drop a.at a.text.now)))
    ∙ sym (starts-as a.word.now rest)
