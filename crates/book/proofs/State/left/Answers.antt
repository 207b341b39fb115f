use mathlib.Core.Path.{◌≡◌, refl, sym, ◌∙◌}
use mathlib.Core.Bool.{false}
use native.Mathlib.Omega.{arith}
use borrow.Author.Rules.{rules}
use Rattle.book.specs.Front.{whole, bad}
use Rattle.book.proofs.Fronts.{Means, meaning, is-bad}
use Rattle.book.proofs.OneTurn.{has-length, is-record, bad-count, whole-count}
use Rattle.book.proofs.State.left.Goals as goal

pub be16-length-requires : goal.be16-length-requires
be16-length-requires c = has-length c.requires

pub overflow_sub-result : goal.overflow_sub-result
overflow_sub-result c =
    let tested : c.bad_length.result ≡ bad c.args.src.now = rw c.be16-length.ensures at c.bad_length.ensures in
    let t = c in
    let p = t.requires in
    omega (arith, bad-count p (is-bad _ (has-length p, sym (tested) ∙ t.if-bad_length.true)))

pub returns-then-bad_length : goal.returns-then-bad_length
returns-then-bad_length c =
    let tested : c.bad_length.result ≡ bad c.args.src.now = rw c.be16-length.ensures at c.bad_length.ensures in
    let t = c in
    rw (← tested, t.if-bad_length.true, c.idle-s.ensures, c.refuse-refused.ensures) refl

pub overflow_add-n : goal.overflow_add-n
overflow_add-n c =
    let tested : c.bad_length.result ≡ bad c.args.src.now = rw c.be16-length.ensures at c.bad_length.ensures in
    let good : bad c.args.src.now ≡ false = sym (tested) ∙ c.if-bad_length.false in
    let is-whole : Means c.args.src.now whole = meaning _ whole (is-record c.requires (good)) in
    let m = (is-whole).2 in search rules

pub hold-s-requires : goal.hold-s-requires
hold-s-requires c =
    let tested : c.bad_length.result ≡ bad c.args.src.now = rw c.be16-length.ensures at c.bad_length.ensures in
    let good : bad c.args.src.now ≡ false = sym (tested) ∙ c.if-bad_length.false in
    let is-whole : Means c.args.src.now whole = meaning _ whole (is-record c.requires (good)) in
    let m = is-whole in rw c.be16-length.ensures (omega (arith, m.2), omega (arith, m.3))

pub overflow_sub-result-2 : goal.overflow_sub-result-2
overflow_sub-result-2 c = let e = c in rw e.be16-length.ensures (omega (arith, whole-count e.requires))

pub returns : goal.returns
returns c =
    let tested : c.bad_length.result ≡ bad c.args.src.now = rw c.be16-length.ensures at c.bad_length.ensures in
    let good : bad c.args.src.now ≡ false = sym (tested) ∙ c.if-bad_length.false in
    let e = c in rw (good, c.hold-s.ensures, e.be16-length.ensures)
