-- The part of the header. Assumes nothing.
use Prim.Native.Nat.{ℕ}
use mathlib.Core.Path.{ap, ◌∙◌}
use mathlib.Core.Bool.{true}
use mathlib.Core.List.{List}
use native.Mathlib.Omega.{arith}
use lib.ListN.{take}
use Rattle.sheet.specs.Faults.{after_marks, part_at}
use Rattle.sheet.proofs.Plans.{header-fits}
use Rattle.sheet.proofs.Places.{names_at, names-end}
use Rattle.sheet.proofs.faults.say_name.Goals as goal

pub put_header-n-requires : goal.put_header-n-requires
put_header-n-requires c = omega (arith, header-fits)

pub overflow_sub-n : goal.overflow_sub-n
overflow_sub-n c = omega (arith, names-end c.put_header-n.ensures)

pub returns : goal.returns
returns c = let p = c.put_header-n.ensures in
    let j = c.args.j in
    let names = c.first_of-names.ensures ∙ names_at p in
    let rest = c.rest_of-rest.ensures ∙ c.after_marks.ensures.1 ∙ ap (λ (l : List ℕ). after_marks 44 j l) names in
    let text = c.first_of.ensures ∙ ap (λ (k : ℕ). take k c.rest_of-rest.result.now) c.part_length.ensures.0 ∙ ap (part_at true) rest in
    rw text at c.say.ensures
