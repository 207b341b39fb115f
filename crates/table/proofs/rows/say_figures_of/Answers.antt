-- One text after another. Assumes nothing.
use Rattle.std.proofs.Common.{◌≡◌, Bool, drop, rules}
use Rattle.printing.specs.Ascii.{ascii}
use Rattle.printing.specs.Says.{Says}
use Rattle.printing.specs.declared.text.Text.{Text}
use Rattle.printing.proofs.Texts.{◌⟫◌}
use Rattle.table.specs.declared.Seen.{Seen}
use Rattle.table.specs.Seen.{is_closed}
use Rattle.table.specs.Rows.{cells_text, figures_text}
use Rattle.table.proofs.rows.say_figures_of.Goals as goal

-- the cells are those of a closed book where it is closed
said-figures : {t u v : Text} (s : Seen) {b : Bool} → Says t u (cells_text b 2 (drop 2 s.numbers)) → Says u v (ascii "\r\n") → b ≡ is_closed s
    → Says t v (figures_text s)
said-figures s p q e = rw (← e) (p ⟫ q)

pub returns : goal.returns
returns c = said-figures c.args.s c.say_figures.ensures c.say.ensures (search rules)
