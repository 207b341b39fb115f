-- All three passed, or one test after the other. Assumes nothing.
use mathlib.Core.Path.{◌≡◌}
use mathlib.Core.Bool.{Bool, true, false, ◌&&◌}
use borrow.Author.Tests.{le-leb, lt-leb, lt-ltb, ltb-true}
use Rattle.base.proofs.Tests.{both, and_no}
use Rattle.account.specs.Judge.{first}
use Rattle.rules.proofs.refusals.barred.Goals as goal

last-fails : (a b c : Bool) → (a && b) && c ≡ false → a ≡ true → b ≡ true → c ≡ false
last-fails a b c e f g = let h : a && b ≡ true = simp (f, g) in and_no (a && b) c e h

pub returns-then-records-placed : goal.returns-then-records-placed
unfolding first
returns-then-records-placed c = let e = both _ _ c.if-records-placed.true in
    let f = both _ _ e.0 in
    rw (lt-leb _ _ (ltb-true _ _ f.0), f.1, e.1)

pub returns-then-records-ge4096 : goal.returns-then-records-ge4096
unfolding first
returns-then-records-ge4096 c = rw (le-leb 4096 _ c.if-records-ge4096.true)

pub returns-then-not-placed : goal.returns-then-not-placed
unfolding first
returns-then-not-placed c = rw (lt-leb _ _ c.if-records-ge4096.false, c.if-not-placed.true)

pub returns : goal.returns
unfolding first
returns c = let few = c.if-records-ge4096.false in
    rw (lt-leb _ _ few, c.if-not-placed.false, last-fails _ _ _ c.if-records-placed.false (lt-ltb _ _ few) (c.if-not-placed.false))
