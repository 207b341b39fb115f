-- `grams::tillage_table::entry_at` meets its contract. Assumes nothing.
use Rattle.std.proofs.Common.{◌∙◌, ◌≢◌, arith}
use Rattle.grams.proofs.tillage_table.Pairs.{place_of, pacific-medium, pacific-fine, no-exception}
use Rattle.grams.proofs.tillage_table.entry_at.Goals as goal

pub returns-in-825 : goal.returns-in-825
returns-in-825 c = pacific-medium c.requires c.in-825.is

pub returns-in-835 : goal.returns-in-835
returns-in-835 c = pacific-fine c.requires c.in-835.is

pub returns-in_default : goal.returns-in_default
returns-in_default c =
    let medium : place_of c.args.zone c.args.texture c.args.change ≢ 825 = omega arith in
    let fine : place_of c.args.zone c.args.texture c.args.change ≢ 835 = omega arith in
    c.towards_less.ensures ∙ no-exception c.requires medium fine
