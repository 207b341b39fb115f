use Prim.Native.Nat.{◌+◌, ◌≤◌}
use mathlib.Core.Path.{◌≡◌, sym, ◌∙◌}
use mathlib.Core.Bool.{false, ◌||◌}
use borrow.Author.Rules.{rules}
use borrow.Author.Tests.{ltb-false, lt-ltb, le-ltb}
use lib.Dec.{ltb}
use Rattle.base.proofs.Tests.{neither}
use Rattle.book.proofs.front.front_by.Goals as goal

pub returns-then-bad_length : goal.returns-then-bad_length
returns-then-bad_length c = rw (← c.bad_length.ensures, c.if-bad_length.true)

pub overflow_add-length : goal.overflow_add-length
overflow_add-length c =
    let good : (ltb c.args.length 4 || ltb 26 c.args.length) ≡ false = sym c.bad_length.ensures ∙ c.if-bad_length.false in
    let short : c.args.length ≤ 26 = let l = c.args.length in ltb-false _ _ (neither (ltb l 4) (ltb 26 l) (good)).1 in
    let h = short in search rules

pub returns-then-n-length : goal.returns-then-n-length
returns-then-n-length c =
    let good : (ltb c.args.length 4 || ltb 26 c.args.length) ≡ false = sym c.bad_length.ensures ∙ c.if-bad_length.false in
    let a = c.args in rw (good, lt-ltb a.n (a.length + 2) c.if-n-length.true)

pub returns-else-n-length : goal.returns-else-n-length
returns-else-n-length c =
    let good : (ltb c.args.length 4 || ltb 26 c.args.length) ≡ false = sym c.bad_length.ensures ∙ c.if-bad_length.false in
    let a = c.args in rw (good, le-ltb a.n (a.length + 2) c.if-n-length.false)
