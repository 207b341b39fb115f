-- For the contracts of rules (each kind's function, refusals, outside, lines), of account::line and of make_record, which carry out specs/Judge: what
-- each makes of a record. A reader of the promises can pass it over.
-- Assumes nothing.
use Rattle.std.specs.Prelude.{ℕ, ◌≤◌, ◌≡◌, List, [], ◌∷◌, false, not, length, leb, eqb}
use Rattle.base.specs.Choice.{pick}
use Rattle.line_bytes.specs.Lines.{line_size, total_size, lines_most, subtotal_kind}
use Rattle.grams.specs.Units.{no_co2}
use Rattle.grams.specs.declared.units.Co2.{Co2}
use Rattle.account.specs.declared.Account.{Account}
use Rattle.account.specs.declared.Figures.{Figures}
use Rattle.account.specs.declared.Subtotal.{Subtotal}
use Rattle.account.specs.declared.Used.{Used}
use Rattle.account.specs.declared.Judged.{Judged}
use Rattle.account.specs.declared.line.Line.{Line}
use Rattle.account.specs.Figures.{no_figures, group_figures}
use Rattle.account.specs.Range.{Bounded}
use Rattle.account.specs.Line.{joined, bytes_of, co2e_in}
use Rattle.account.specs.Account.{refused, under_heading, with_detail, closed}
use Rattle.account.specs.Judge.{Step, WholeRecord, record_row, wrong_version, wrong_kind, book_full, out_of_place, first}

-- r tells what j says: the account, and j's lines one after the other
pub record Tells (j : Step) (r : Judged) : Type 0 where
  pub account : r.account ≡ j.account
  pub bytes : bytes_of r ≡ joined j.lines
  pub long : length (bytes_of r) ≡ r.line.given
  pub short : r.line.given ≤ lines_most

-- j where its lines fit the room; else its lines, and the account a as it was
abbrev pub in_room : ℕ → Account → Judged → Judged
in_room room a j = record { account = pick (leb j.line.given room) j.account a; line = j.line }

-- r tells what j says after the account a, as far as the room allows
pub record TellsIn (room : ℕ) (a : Account) (j : Step) (r : Judged) : Type 0 where
  pub whole : Judged
  pub tells : Tells j whole
  pub is : r ≡ in_room room a whole

-- r is a whole record that 2 and 3 let through, of the row
pub record Kind (row : ℕ) (r : List ℕ) : Type 0 where
  pub whole : WholeRecord r
  pub version : wrong_version r ≡ false
  pub listed : wrong_kind r ≡ false
  pub kind : record_row r ≡ row

-- what one line adds at most: the sums of one record
abbrev pub Small : Figures → Type 0
Small f = Bounded f 1

abbrev pub no_line_lem : Line
no_line_lem = record { given = 0; kind = 0; group = 0; figures = no_figures; co2e = no_co2 }

-- a detail's line or a subtotal
abbrev pub one_line_lem : ℕ → ℕ → Figures → Line
one_line_lem kind group f = record { given = line_size; kind = kind; group = group; figures = f; co2e = no_co2 }

-- the close's: the total, and before it the subtotal of the last group, where there is one
abbrev pub closing_line : ℕ → Figures → Co2 → Line
closing_line group f co2e =
    record { given = pick (eqb group 0) total_size lines_most; kind = subtotal_kind; group = group; figures = f; co2e = co2e }

abbrev pub quiet : Account → Judged
quiet a = record { account = a; line = no_line_lem }

abbrev pub refusing : Account → ℕ → ℕ → Judged
refusing a code field = quiet (refused a code field)

-- the number that refuses a record of the row with a value out of its range at that position: the first of 5, 6 and 7 that holds
abbrev pub outside_by : Account → ℕ → ℕ → ℕ
outside_by a row position = first ((book_full a, 5) ∷ (out_of_place a row, 6) ∷ (not (eqb position 0), 7) ∷ [])

-- refused by it, with the position for 7
abbrev pub refusing_outside : Account → ℕ → ℕ → Judged
refusing_outside a row position = refusing a (outside_by a row position) (pick (eqb (outside_by a row position) 7) position 0)

abbrev pub detailing : Account → ℕ → ℕ → Used → Subtotal → Figures → Judged
detailing a kind group used subtotal f =
    record { account = with_detail a used subtotal f; line = one_line_lem kind group f }

abbrev pub group_line : Account → Line
group_line a =
    pick (eqb a.heading.group 0) no_line_lem (one_line_lem subtotal_kind a.heading.group (group_figures a.subtotal))

abbrev pub heading : Account → ℕ → ℕ → ℕ → Judged
heading a group class head = record { account = under_heading a group class head; line = group_line a }

abbrev pub closing : Account → Judged
closing a = record { account = closed a; line = closing_line a.heading.group (group_figures a.subtotal) (co2e_in a) }
