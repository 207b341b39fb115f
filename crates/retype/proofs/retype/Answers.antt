-- An account outside its ranges has no more records. Assumes nothing.
use mathlib.Core.Path.{sym, refl, ◌∙◌}
use native.Mathlib.Omega.{arith}
use Rattle.account.proofs.Clauses.{in-range-parts}
use Rattle.printing.proofs.Puts.{none}
use Rattle.retype.proofs.retype.Goals as goal

pub returns-then-not-in_range : goal.returns-then-not-in_range
returns-then-not-in_range c = let out = sym c.in_range.ensures ∙ c.if-not-in_range.true in
    record {
      retypes = rw out (record { account = refl; taken = refl; more = refl; put = none _ 0 (omega arith) });
      taken_in_bounds = omega arith;
    }

pub type_records-requires : goal.type_records-requires
type_records-requires c = in-range-parts _ (sym c.in_range.ensures ∙ c.if-not-in_range.false)

pub returns : goal.returns
returns c = let inside = sym c.in_range.ensures ∙ c.if-not-in_range.false in
    let q = c.type_records.ensures in record { retypes = rw inside q.retypes; taken_in_bounds = q.taken_in_bounds }
