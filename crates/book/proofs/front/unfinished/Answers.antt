use Prim.Native.Nat.{◌+◌}
use mathlib.Core.Path.{◌≡◌, sym, ap, ◌∙◌}
use mathlib.Core.List.{◌++◌}
use native.Mathlib.Omega.{arith}
use borrow.Author.Rules.{rules}
use lib.ListN.{length, take, length-append}
use lib.Seq.{length-take-le}
use Rattle.book.specs.State.{is_unfinished}
use Rattle.book.specs.Inner.{by_length_lem}
use Rattle.book.proofs.Fronts.{too_long, too_short, front_long, told-more, told-unfinished}
use Rattle.book.proofs.front.unfinished.Goals as goal

pub returns-then-count-rest : goal.returns-then-count-rest
returns-then-count-rest c =
    let places : length c.args.held ≡ 27 = search rules in
    let total : length (take c.args.count c.args.held ++ c.args.rest.now) ≡ c.args.count + length c.args.rest.now = rw (length-append, length-take-le c.args.count c.args.held (omega (arith, places, c.requires))) in
    let s = c in too_long (take s.args.count s.args.held ++ s.args.rest.now) (omega (arith, total, c.if-count-rest.true, s.requires))

pub returns-then-n-lt2 : goal.returns-then-n-lt2
returns-then-n-lt2 c =
    let places : length c.args.held ≡ 27 = search rules in
    let total : length (take c.args.count c.args.held ++ c.args.rest.now) ≡ c.args.count + length c.args.rest.now = rw (length-append, length-take-le c.args.count c.args.held (omega (arith, places, c.requires))) in
    too_short _ (omega (arith, total, c.if-n-lt2.true))

pub returns-in-Unfinished : goal.returns-in-Unfinished
returns-in-Unfinished c =
    let places : length c.args.held ≡ 27 = search rules in
    let total : length (take c.args.count c.args.held ++ c.args.rest.now) ≡ c.args.count + length c.args.rest.now = rw (length-append, length-take-le c.args.count c.args.held (omega (arith, places, c.requires))) in
    let b = c in
    let s = b in
    let n = s.args.count + length s.args.rest.now in
    rw (front_long (take s.args.count s.args.held ++ s.args.rest.now) (omega (arith, total, b.if-n-lt2.false)), total, ← b.length_of.ensures)
    (ap is_unfinished (sym (told-unfinished (by_length_lem b.length_of.result n) (sym c.front_by.ensures ∙ c.in-Unfinished.is))))

pub returns-in_default : goal.returns-in_default
returns-in_default c =
    let places : length c.args.held ≡ 27 = search rules in
    let total : length (take c.args.count c.args.held ++ c.args.rest.now) ≡ c.args.count + length c.args.rest.now = rw (length-append, length-take-le c.args.count c.args.held (omega (arith, places, c.requires))) in
    let b = c in
    let s = b in
    let n = s.args.count + length s.args.rest.now in
    rw (front_long (take s.args.count s.args.held ++ s.args.rest.now) (omega (arith, total, b.if-n-lt2.false)), total, ← b.length_of.ensures)
    (sym (told-more (by_length_lem b.length_of.result n) (λ e. c.in_default.not-Unfinished (c.front_by.ensures ∙ e))))
