-- One answer of each public function, with the buffer at the end where one is lent (base, specs/Answers). Those with a `requires` ask for an index
-- inside the text, a column of a row, a whole line or room; export, import and the others ask nothing. Assumes nothing.
use Prim.Native.Nat.{ℕ, ◌-◌, ◌≤◌}
use native.Mathlib.Omega.{arith}
use mathlib.Core.Path.{◌≡◌, refl, sym, ap, ◌∙◌}
use mathlib.Core.List.{List}
use lib.ListN.{length, drop, length-drop}
use Rattle.base.specs.Answers.{AsksNothing, OneAnswer, OneAnswerWith}
use Rattle.printing.proofs.Examples.{one-put}
use Rattle.sheet.specs.declared.numbers.Read.{Read}
use Rattle.sheet.specs.declared.rows.RowRead.{RowRead}
use Rattle.sheet.specs.declared.rows.BadRow.{BadRow}
use Rattle.sheet.specs.Numbers.{Cell}
use Rattle.sheet.specs.Rows.{Row, kind_in, row_in}
use Rattle.sheet.specs.Code.{IsRead, IsRowRead, IsFault, IsBadRow, IsRow}
use Rattle.std.specs.Prelude.{true, Result, Ok, Err}
use Rattle.base.proofs.Tests.{no_bool}
use Rattle.sheet.specs.declared.numbers.CellFault.{CellFault}
use Rattle.sheet.specs.declared.numbers.CellFault.TheVariants.{Malformed, Outside}
use Rattle.sheet.proofs.export.Kinds as sheet
use Rattle.sheet.proofs.export.Reads as sheet-contract
use Rattle.sheet.proofs.import.Kinds as lines-back
use Rattle.sheet.proofs.import.Reads as lines-contract
use Rattle.sheet.proofs.Refused.numbered.Kinds as numbered
use Rattle.sheet.proofs.Refused.numbered.Reads as numbered-contract
use Rattle.sheet.proofs.numbers.byte.Kinds as byte
use Rattle.sheet.proofs.numbers.byte.Reads as byte-contract
use Rattle.sheet.proofs.numbers.unsigned_cell.Kinds as unsigned
use Rattle.sheet.proofs.numbers.unsigned_cell.Reads as unsigned-contract
use Rattle.sheet.proofs.numbers.signed_cell.Kinds as signed
use Rattle.sheet.proofs.numbers.signed_cell.Reads as signed-contract
use Rattle.sheet.proofs.rows.column_of.Kinds as column
use Rattle.sheet.proofs.rows.column_of.Reads as column-contract
use Rattle.sheet.proofs.rows.starts.Kinds as begun
use Rattle.sheet.proofs.rows.starts.Reads as begun-contract
use Rattle.sheet.proofs.rows.read_row.Kinds as row
use Rattle.sheet.proofs.rows.read_row.Reads as row-contract
use Rattle.sheet.proofs.lines.add.Kinds as total
use Rattle.sheet.proofs.lines.add.Reads as total-contract
use Rattle.sheet.proofs.lines.put_line.Kinds as line
use Rattle.sheet.proofs.lines.put_line.Reads as line-contract
use Rattle.sheet.proofs.lines.put_row.Kinds as row_put
use Rattle.sheet.proofs.lines.put_row.Reads as row-put-contract
use Rattle.sheet.proofs.lines.row_size.Kinds as row-long
use Rattle.sheet.proofs.lines.row_size.Reads as row-long-contract
use Rattle.sheet.proofs.remarks.say_end.Kinds as last
use Rattle.sheet.proofs.remarks.say_end.Reads as last-contract
use Rattle.sheet.proofs.remarks.say_answer.Kinds as answered
use Rattle.sheet.proofs.remarks.say_answer.Reads as answered-contract
use Rattle.sheet.proofs.remarks.say_too_long.Kinds as too_long
use Rattle.sheet.proofs.remarks.say_too_long.Reads as too-long-contract
use Rattle.sheet.proofs.remarks.say_lines_too_long.Kinds as lines_long
use Rattle.sheet.proofs.remarks.say_lines_too_long.Reads as lines-long-contract
use Rattle.sheet.proofs.remarks.status.Kinds as digit
use Rattle.sheet.proofs.remarks.status.Reads as digit-contract

pub export-asks-nothing : AsksNothing sheet.ps sheet-contract.Asked
export-asks-nothing κs args = tt

pub import-asks-nothing : AsksNothing lines-back.ps lines-contract.Asked
import-asks-nothing κs args = tt

pub one-export : OneAnswerWith sheet.ps sheet.r sheet-contract.Learnt (λ κs e. e.1.0.now)
one-export κs args f g e e' p q = (p.0 ∙ sym q.0, p.1 ∙ sym q.1)

pub one-import : OneAnswerWith lines-back.ps lines-back.r lines-contract.Learnt (λ κs e. e.1.0.now)
one-import κs args f g e e' p q = (p.0 ∙ sym q.0, p.1 ∙ sym q.1)

pub numbered-asks-nothing : AsksNothing numbered.ps numbered-contract.Asked
numbered-asks-nothing κs args = tt

-- A refusal by its number.
pub one-numbered : OneAnswer numbered.ps numbered.r numbered-contract.Learnt
one-numbered κs args f g e e' p q = p ∙ sym q

pub byte-asks-nothing : AsksNothing byte.ps byte-contract.Asked
byte-asks-nothing κs args = tt

-- A byte of a text, 0 past its end.
pub one_byte : OneAnswer byte.ps byte.r byte-contract.Learnt
one_byte κs args f g e e' p q = p ∙ sym q

-- What stands after something read begins at one index.
one_end : (text : List ℕ) (m n : ℕ) → drop m text ≡ drop n text → m ≤ length text → n ≤ length text → m ≡ n
one_end text m n e h k = let l : length text - m ≡ length text - n = sym (length-drop m text) ∙ ap length e ∙ length-drop n text in omega arith

one_cell : {text : List ℕ} {k : Cell} {f g : Read} → IsRead text k f → IsRead text k g → f ≡ g
one_cell {text} {k} {f} {g} p q =
    let number : f.number ≡ g.number = p.number ∙ sym q.number in
    let end : f.end ≡ g.end = one_end text f.end g.end (p.rest ∙ sym q.rest) p.inside q.inside in
    rw (number, end) refl

one_row_read : {text : List ℕ} {kind : ℕ} {k : Row} {f g : RowRead} → IsRowRead text kind k f → IsRowRead text kind k g → f ≡ g
one_row_read {text} {kind} {k} {f} {g} p q =
    let kinds : f.kind ≡ g.kind = p.kinds ∙ sym q.kinds in
    let values : f.values ≡ g.values = p.values ∙ sym q.values in
    let end : f.end ≡ g.end = one_end text f.end g.end (p.rest ∙ sym q.rest) p.inside q.inside in
    rw (kinds, values, end) refl

one_fault : (k : Row) (d e : CellFault) → IsFault k d → IsFault k e → d ≡ e
one_fault k Malformed Malformed p q = refl
one_fault k Malformed Outside p q = no_bool (sym p ∙ q.0)
one_fault k Outside Malformed p q = no_bool (sym q ∙ p.0)
one_fault k Outside Outside p q = refl

-- a row that is whole has nothing wrong
no_fault : (k : Row) (e : CellFault) → k.good ≡ true → k.fits ≡ true → IsFault k e → ⊥
no_fault k Malformed g f p = no_bool (sym p ∙ g)
no_fault k Outside g f p = no_bool (sym p.1 ∙ f)

one-bad : {text : List ℕ} {kind : ℕ} {k : Row} {f g : BadRow} → IsBadRow text kind k f → IsBadRow text kind k g → f ≡ g
one-bad {text} {kind} {k} {f} {g} p q =
    let fault : f.fault ≡ g.fault = one_fault k f.fault g.fault p.fault q.fault in
    let fits : f.fits ≡ g.fits = p.fits ∙ sym q.fits in
    let read : f.read ≡ g.read = one_row_read p.read q.read in
    rw (fault, fits, read) refl

one-row : (text : List ℕ) (kind : ℕ) (k : Row) (f g : Result RowRead BadRow) → IsRow text kind k f → IsRow text kind k g → f ≡ g
one-row text kind k (Ok f) (Ok g) p q = ap Ok (one_row_read p.read q.read)
one-row text kind k (Ok f) (Err b) p q = absurd (no_fault k b.fault p.good p.fits q.fault)
one-row text kind k (Err b) (Ok g) p q = absurd (no_fault k b.fault q.good q.fits p.fault)
one-row text kind k (Err b) (Err d) p q = ap Err (one-bad p q)

-- A number in its field.
pub one-unsigned-cell : OneAnswer unsigned.ps unsigned.r unsigned-contract.Learnt
one-unsigned-cell κs args f g e e' p q = one_cell p q

-- A signed one.
pub one-signed-cell : OneAnswer signed.ps signed.r signed-contract.Learnt
one-signed-cell κs args f g e e' p q = one_cell p q

-- A column of a row.
pub one-column-of : OneAnswer column.ps column.r column-contract.Learnt
one-column-of κs args f g e e' p q = p.0 ∙ sym q.0

-- Whether a text goes on with a word.
pub one-starts : OneAnswer begun.ps begun.r begun-contract.Learnt
one-starts κs args f g e e' p q = p ∙ sym q

-- A row.
pub one-read-row : OneAnswer row.ps row.r row-contract.Learnt
one-read-row κs args f g e e' p q =
    let s = drop args.1.0 args.0.now in one-row args.0.now (kind_in s) (row_in s) f g p q

pub add-asks-nothing : AsksNothing total.ps total-contract.Asked
add-asks-nothing κs args = tt

-- A count of bytes.
pub one-add : OneAnswer total.ps total.r total-contract.Learnt
one-add κs args f g e e' p q = p ∙ sym q

-- A line from its numbers: the index past it, and the buffer at the end (the first parameter, out).
pub one-put-line : OneAnswerWith line.ps line.r line-contract.Learnt (λ κs e. e.0.now)
one-put-line κs args f g e e' p q = one-put p q

-- A row of text.
pub one-put-row : OneAnswerWith row_put.ps row_put.r row-put-contract.Learnt (λ κs e. e.0.now)
one-put-row κs args f g e e' p q = one-put p q

-- Its length.
pub one-row-size : OneAnswer row-long.ps row-long.r row-long-contract.Learnt
one-row-size κs args f g e e' p q = p ∙ sym q

pub say-end-asks-nothing : AsksNothing last.ps last-contract.Asked
say-end-asks-nothing κs args = tt

-- The last word: its length, and the buffer at the end.
pub one-say-end : OneAnswerWith last.ps last.r last-contract.Learnt (λ κs e. e.0.now)
one-say-end κs args f g e e' p q = one-put p.put q.put

pub say-answer-asks-nothing : AsksNothing answered.ps answered-contract.Asked
say-answer-asks-nothing κs args = tt

-- The last word of an answer as it is given.
pub one-say-answer : OneAnswerWith answered.ps answered.r answered-contract.Learnt (λ κs e. e.0.now)
one-say-answer κs args f g e e' p q = one-put p.put q.put

pub say-too-long-asks-nothing : AsksNothing too_long.ps too-long-contract.Asked
say-too-long-asks-nothing κs args = tt

-- That the sheet is too long.
pub one-say-too-long : OneAnswerWith too_long.ps too_long.r too-long-contract.Learnt (λ κs e. e.0.now)
one-say-too-long κs args f g e e' p q = one-put p.put q.put

pub say-lines-too-long-asks-nothing : AsksNothing lines_long.ps lines-long-contract.Asked
say-lines-too-long-asks-nothing κs args = tt

-- That the lines are.
pub one-say-lines-too-long : OneAnswerWith lines_long.ps lines_long.r lines-long-contract.Learnt (λ κs e. e.0.now)
one-say-lines-too-long κs args f g e e' p q = one-put p.put q.put

pub status-asks-nothing : AsksNothing digit.ps digit-contract.Asked
status-asks-nothing κs args = tt

-- The status byte.
pub one-status : OneAnswer digit.ps digit.r digit-contract.Learnt
one-status κs args f g e e' p q = p ∙ sym q
