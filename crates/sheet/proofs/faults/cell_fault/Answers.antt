-- By the tests. Assumes nothing.
use Prim.Native.Nat.{ℕ}
use mathlib.Core.Path.{◌≡◌, refl, sym, ap, ◌∙◌}
use mathlib.Core.Bool.{true}
use lib.ListN.{take}
use Rattle.sheet.specs.Faults.{has, part_at, cell_fault}
use Rattle.sheet.proofs.Places.{last-cell}
use Rattle.sheet.proofs.faults.cell_fault.Goals as goal

pub returns-then-has : goal.returns-then-has
unfolding cell_fault
returns-then-has c =
    let cell : c.first_of-cell.result.now ≡ part_at true c.args.text.now =
    c.first_of-cell.ensures ∙ ap (λ (k : ℕ). take k c.args.text.now) c.part_length.ensures.0 in
    let quotes : c.has.result ≡ has 34 (part_at true c.args.text.now) = rw (cell) at c.has.ensures in
    rw (sym (quotes) ∙ c.if-has.true) refl

pub returns-then-has-2 : goal.returns-then-has-2
unfolding cell_fault
returns-then-has-2 c =
    let cell : c.first_of-cell.result.now ≡ part_at true c.args.text.now =
    c.first_of-cell.ensures ∙ ap (λ (k : ℕ). take k c.args.text.now) c.part_length.ensures.0 in
    let quotes : c.has.result ≡ has 34 (part_at true c.args.text.now) = rw (cell) at c.has.ensures in
    let semicolons : c.has-2.result ≡ has 59 (part_at true c.args.text.now) = rw (cell) at c.has-2.ensures in
    rw (sym (quotes) ∙ c.if-has.false, sym (semicolons) ∙ c.if-has-2.true) refl

pub returns-then-c : goal.returns-then-c
unfolding cell_fault
returns-then-c c =
    let cell : c.first_of-cell.result.now ≡ part_at true c.args.text.now =
    c.first_of-cell.ensures ∙ ap (λ (k : ℕ). take k c.args.text.now) c.part_length.ensures.0 in
    let quotes : c.has.result ≡ has 34 (part_at true c.args.text.now) = rw (cell) at c.has.ensures in
    let semicolons : c.has-2.result ≡ has 59 (part_at true c.args.text.now) = rw (cell) at c.has-2.ensures in
    c.last_fault.ensures
    ∙ sym (last-cell _ _ (sym (quotes) ∙ c.if-has.false) (sym (semicolons) ∙ c.if-has-2.false)
    c.if-c.true)

pub returns : goal.returns
unfolding cell_fault
returns c =
    let cell : c.first_of-cell.result.now ≡ part_at true c.args.text.now =
    c.first_of-cell.ensures ∙ ap (λ (k : ℕ). take k c.args.text.now) c.part_length.ensures.0 in
    let quotes : c.has.result ≡ has 34 (part_at true c.args.text.now) = rw (cell) at c.has.ensures in
    let semicolons : c.has-2.result ≡ has 59 (part_at true c.args.text.now) = rw (cell) at c.has-2.ensures in
    rw (sym (quotes) ∙ c.if-has.false, sym (semicolons) ∙ c.if-has-2.false, c.if-c.false) refl
