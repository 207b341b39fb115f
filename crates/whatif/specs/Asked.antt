-- A line that a person types for document 01's what-if slip: GE Ym head days CHANGE X, with CHANGE feed, ym or head, capitals or not.
use Rattle.std.specs.Prelude.{ℕ, Bool, List, length, ◌==◌, nat_le, Float, Option, Some, None, unwrap_or, ok_or, Result, Ok, Err}
use Rattle.std.specs.Result.{result_err}
use Rattle.base.specs.Choice.{pick}
use Rattle.printing.specs.Ascii.{ascii}
use Rattle.typed_words.specs.Words.{nth_word, same_text_lem, lowered}
use Rattle.typed_words.specs.Numbers.{whole_of, decimal_of, +0}
use Rattle.slip.specs.declared.Change.{Change}
use Rattle.slip.specs.declared.Change.TheVariants.{Feed, Ym, Head}
use Rattle.slip.specs.declared.Ration.{Ration}
use Rattle.whatif.specs.declared.Fault.{Fault}
use Rattle.whatif.specs.declared.Fault.TheVariants.{TooLong, TooFew, TooMany, NoNumber, NoChange}
use Rattle.whatif.specs.declared.Asked.{Asked}
use Rattle.whatif.specs.declared.Asked.TheVariants.{Nothing, Estimate, Wrong}

-- the place where the test fails, else the other
abbrev pub unless : Bool → ℕ → ℕ → ℕ
unless good place other = pick good other place

-- the word is the name, capitals or not
abbrev pub is_name : List ℕ → List ℕ → Bool
is_name word name = same_text_lem (lowered word) name

-- the word is feed, ym or head; with any other it is no change
abbrev pub change_named : List ℕ → Float → Option Change
change_named word x =
    pick (is_name word (ascii "feed")) (Some (Feed x))
    (pick (is_name word (ascii "ym")) (Some (Ym x)) (pick (is_name word (ascii "head")) (Some (Head x)) None))

-- days up to 65535, whether in the ration's range or not
abbrev pub up_to65535 : Option ℕ → Option ℕ
up_to65535 None = None
up_to65535 (Some days) = pick (nat_le days 65535) (Some days) None

-- the days that the word names
abbrev pub days_of : List ℕ → Option ℕ
days_of word = up_to65535 (whole_of word)

-- the change that the line names, with its number, or 0 where that is none
abbrev pub change_in : List ℕ → Option Change
change_in line = change_named (nth_word 4 line) (unwrap_or (decimal_of (nth_word 5 line)) +0)

-- ---- what a line says, or its first fault from the left

-- what f says of the value; a fault stays
abbrev pub when_ok : {A B : Type 0} → (A → Result B Fault) → Result A Fault → Result B Fault
when_ok f (Ok x) = f x
when_ok f (Err fault) = Err fault

-- the word at a place as a number
abbrev pub number_at : ℕ → List ℕ → Result Float Fault
number_at place line = ok_or (decimal_of (nth_word place line)) (NoNumber place)

-- GE, Ym, head and days
unfoldable pub ration_read : List ℕ → Result Ration Fault
ration_read line =
    when_ok (λ ge. when_ok (λ ym. when_ok (λ head.
    when_ok (λ days. Ok (record { ge = ge; ym = ym; head = head; days = days })) (ok_or (days_of (nth_word 3 line)) (NoNumber 3)))
    (number_at 2 line)) (number_at 1 line)) (number_at 0 line)

-- the change, its number, and what stands behind
unfoldable pub change_read : List ℕ → Result Change Fault
change_read line =
    when_ok (λ change. when_ok (λ x. pick (length (nth_word 6 line) == 0) (Ok change) (Err TooMany)) (number_at 5 line))
    (ok_or (change_in line) NoChange)

-- the six words of a line
unfoldable pub words_read : List ℕ → Result (Ration × Change) Fault
words_read line =
    pick (length (nth_word 5 line) == 0) (Err TooFew)
    (when_ok (λ ration. when_ok (λ change. Ok (ration, change)) (change_read line)) (ration_read line))

-- the first fault of a line
abbrev pub fault_of : List ℕ → Option Fault
fault_of line = result_err (words_read line)

-- the estimate of a line without fault
abbrev pub estimate_of : Result (Ration × Change) Fault → Asked
estimate_of (Ok words) = Estimate words.0 words.1
estimate_of (Err fault) = Wrong fault

-- what the line asks: nothing without a word, an estimate where each of its six words is right and no other follows
unfoldable pub asked_of : List ℕ → Asked
asked_of line =
    pick (nat_le 1024 (length line)) (Wrong TooLong)
    (pick (length (nth_word 0 line) == 0) Nothing (estimate_of (words_read line)))
