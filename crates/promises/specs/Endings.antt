-- The byte that ends a book, and what it does. Document 01, "Refusal numbers": "Numbers 1 to 12 take the byte that decides them, come before Full,
-- drop the held bytes, keep all the rest, and store code, records accepted so far, and the field (0 but for 7)"; "Lines, calls and state":
-- "Closed: the close is in; nothing more is taken, now or later; heading, day sums and sums stay."
-- Assumes nothing.
use Rattle.std.specs.Prelude.{ℕ, ◌<◌, ◌≡◌, List, [], ◌∷◌, ◌++◌, eqb}
use Rattle.base.specs.Choice.{pick}
use Rattle.codec.specs.Table.{fields}
use Rattle.codec.specs.Codec.{first_bad}
use Rattle.account.specs.declared.Account.{Account}
use Rattle.account.specs.Line.{subtotals, total_of}
use Rattle.account.specs.Account.{standing, refused, closed}
use Rattle.account.specs.Judge.{record_row, values_of, refusals, first}
use Rattle.book.specs.declared.State.{State}
use Rattle.book.specs.Front.{bad}
use Rattle.book.specs.State.{held_of, holding}
use Rattle.book.specs.Run.{Run, run}

-- the account of the records before: those of the state, and those accepted in the bytes ys
abbrev pub account_after : State → List ℕ → Account
account_after s ys = (run s ys).state.account

-- the bytes that are held after ys, with one more
abbrev pub with_byte : State → List ℕ → ℕ → List ℕ
with_byte s ys byte = held_of (run s ys).state ++ (byte ∷ [])

-- the code of the refusal of zs after the account a: 1 where their length is none of a record, else the number of the first test that refuses
abbrev pub code_for : Account → List ℕ → ℕ
code_for a zs = pick (bad zs) 1 (first (refusals a zs))

-- its field, 0 but for 7
abbrev pub field_for : Account → List ℕ → ℕ
field_for a zs = pick (eqb (code_for a zs) 7) (first_bad (fields (record_row zs)) (values_of zs) 0) 0

-- refused so: code, records accepted so far and field are stored, all the rest is kept
abbrev pub refused_for : Account → List ℕ → Account
refused_for a zs = refused a (code_for a zs) (field_for a zs)

-- a byte refuses: it is taken, and none behind it; nothing is held, the account before is kept but for the refusal stored, and there is no line more
abbrev pub refusing : State → List ℕ → ℕ → List ℕ → Run
refusing s before byte behind =
    record {
      state = holding (refused_for (account_after s before) (with_byte s before byte)) [];
      lines = (run s before).lines;
      left = behind;
    }

-- a byte closes: it is taken, and none behind it; nothing is held, the account before is kept with one record more, and the last lines are the
-- subtotal of the group that ends and the total
abbrev pub closing : State → List ℕ → ℕ → List ℕ → Run
closing s before byte behind =
    record {
      state = holding (closed (account_after s before)) [];
      lines = (run s before).lines ++ (subtotals (account_after s before) ++ (total_of (account_after s before) ∷ []));
      left = behind;
    }

-- a run over xs is ended by a byte: those before it leave the book open, and with it the run is what gives says
pub record EndsBy (gives : State → List ℕ → ℕ → List ℕ → Run) (s : State) (xs : List ℕ) : Type 0 where
  pub before : List ℕ
  pub byte : ℕ
  pub behind : List ℕ
  pub bytes : xs ≡ before ++ (byte ∷ behind)
  pub early : (account_after s before).stage < 2
  pub is : run s xs ≡ gives s before byte behind

-- all the rest: b is a but for stage, records and refusal
abbrev pub KeepsRest : Account → Account → Type 0
KeepsRest a b = b ≡ standing a b.stage b.records b.refusal
