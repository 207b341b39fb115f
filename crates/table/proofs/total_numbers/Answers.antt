-- The line is laid and read. Assumes nothing.
use Rattle.std.proofs.Common.{◌∙◌, rules}
use Rattle.table.proofs.Ends.{total-read}
use Rattle.table.proofs.total_numbers.Goals as goal

pub returns : goal.returns
returns c = let put = c in
    let w = put in
    c.total_numbers.ensures
    ∙ total-read _ _ _ _ (search rules)
    (rw w.co2e-co2e.ensures at (rw (put.word.ensures, put.listed.ensures) at put.put_total.ensures))
