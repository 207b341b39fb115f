-- Assumes nothing.
use mathlib.Core.Path.{sym, ◌∙◌}
use Prim.Native.Nat.{◌<◌}
use native.Mathlib.Omega.{arith}
use Rattle.compare.proofs.Walks.{long-enough, passed-left}
use Rattle.compare.proofs.Sums.{close-none, close_other, close-is}
use Rattle.compare.proofs.places.close_lines.Goals as goal

pub rest_of-rest-requires : goal.rest_of-rest-requires
rest_of-rest-requires c = c.requires.0.inside

pub turn-t-requires : goal.turn-t-requires
turn-t-requires c = (c.requires.0.range, c.requires.1)

pub returns-then-t-eq0 : goal.returns-then-t-eq0
returns-then-t-eq0 c = record {
  lines_after = close-none _ ((rw c.rest_of-rest.ensures at c.turn-t.ensures.turned).ended c.if-t-eq0.true);
  upper_bound = omega arith;
}

pub first_of-requires : goal.first_of-requires
first_of-requires c = c.turn-t.ensures.turned.inside

pub kind_of-requires : goal.kind_of-requires
kind_of-requires c = long-enough _ _ _ c.first_of.ensures c.turn-t.ensures.turned.inside
    (c.turn-t.ensures.turned.some (omega (arith, c.if-t-eq0.false)))

pub returns-then-kind_of-ne-CLOSE : goal.returns-then-kind_of-ne-CLOSE
returns-then-kind_of-ne-CLOSE c =
    record {
      lines_after = close_other _ _ _ (passed-left _ _ c.requires.0 _ (rw c.rest_of-rest.ensures at c.turn-t.ensures.turned)
          (omega (arith, c.if-t-eq0.false)))
          (λ z. c.if-kind_of-ne-CLOSE.true ((rw (c.first_of.ensures, c.rest_of-rest.ensures) at c.kind_of.ensures) ∙ z));
      upper_bound = omega arith;
    }

pub returns : goal.returns
returns c = let k : 0 < c.turn-t.result.n = omega (arith, c.if-t-eq0.false) in
    record {
      lines_after = close-is _ _ _ _ (passed-left _ _ c.requires.0 _ (rw c.rest_of-rest.ensures at c.turn-t.ensures.turned) k)
          (sym (rw (c.first_of.ensures, c.rest_of-rest.ensures) at c.kind_of.ensures) ∙ c.if-kind_of-ne-CLOSE.false)
          ((rw c.rest_of-rest.ensures at c.turn-t.ensures.written).are k);
      upper_bound = c.turn-t.ensures.written.inside;
    }
