-- The columns of a sheet after its first two. Assumes nothing.
use Rattle.std.proofs.Common.{rules, ℕ, List, drop, ap, ◌∙◌, arith}
use Rattle.printing.proofs.Sayings.{text-at-start}
use Rattle.printing.proofs.Texts.{said-from-start, ◌⟫◌}
use Rattle.table.proofs.Columns.{header-least, header-most}
use Rattle.table.proofs.rows.say_header.Goals as goal

pub put_header-n-requires : goal.put_header-n-requires
put_header-n-requires c = omega (arith, header-most)

pub rest_of-requires : goal.rest_of-requires
rest_of-requires c = rw (c.first_of.ensures ∙ text-at-start c.put_header-n.ensures) (omega (arith, header-least))

pub returns : goal.returns
returns c = let words = c.rest_of.ensures ∙ ap (λ (l : List ℕ). drop 10 l) (c.first_of.ensures ∙ text-at-start c.put_header-n.ensures) in
    let whole = c.say.ensures ⟫ (rw words at c.say-2.ensures) in
    let same = whole.same in
    said-from-start whole c.new-text.ensures.buffer c.new-text.ensures.empty (search rules)
