-- By the tests. Assumes nothing.
use Prim.Native.Nat.{ℕ, ◌-◌}
use mathlib.Core.Path.{◌≡◌, refl, sym, ap, ◌∙◌}
use mathlib.Core.Bool.{false, ◌&&◌}
use native.Mathlib.Omega.{arith}
use lib.Dec.{eqb}
use lib.ListN.{length, get_or, take}
use Rattle.line_rows.specs.Rows.{column_names}
use Rattle.sheet.specs.Rows.{starts_with}
use Rattle.sheet.specs.Faults.{has, part_at, first_fault}
use Rattle.sheet.proofs.Plans.{header-fits}
use Rattle.sheet.proofs.Places.{names_at, names-end, both-same}
use Rattle.sheet.proofs.faults.first_fault.Goals as goal

pub returns-then-starts : goal.returns-then-starts
unfolding first_fault
returns-then-starts c = rw (sym c.starts.ensures ∙ c.if-starts.true) refl

pub returns-then-has : goal.returns-then-has
unfolding first_fault
returns-then-has c =
    let line : c.first_of-line.result.now ≡ part_at false c.args.text.now = c.first_of-line.ensures
    ∙ ap (λ (k : ℕ). take k c.args.text.now) c.part_length.ensures.0 in
    let quotes : c.has.result ≡ has 34 (part_at false c.args.text.now) = rw (line) at c.has.ensures in
    rw (sym c.starts.ensures ∙ c.if-starts.false, sym (quotes) ∙ c.if-has.true) refl

pub returns-then-has-2 : goal.returns-then-has-2
unfolding first_fault
returns-then-has-2 c =
    let line : c.first_of-line.result.now ≡ part_at false c.args.text.now = c.first_of-line.ensures
    ∙ ap (λ (k : ℕ). take k c.args.text.now) c.part_length.ensures.0 in
    let quotes : c.has.result ≡ has 34 (part_at false c.args.text.now) = rw (line) at c.has.ensures in
    let semicolons : c.has-2.result ≡ has 59 (part_at false c.args.text.now) = rw (line) at c.has-2.ensures in
    rw (sym c.starts.ensures ∙ c.if-starts.false, sym (quotes) ∙ c.if-has.false, sym (semicolons) ∙ c.if-has-2.true) refl

pub put_header-n-requires : goal.put_header-n-requires
unfolding first_fault
put_header-n-requires c = omega (arith, header-fits)

pub overflow_sub-n : goal.overflow_sub-n
unfolding first_fault
overflow_sub-n c = omega (arith, names-end c.put_header-n.ensures)

pub returns-then-named-byte : goal.returns-then-named-byte
unfolding first_fault
returns-then-named-byte c =
    let line : c.first_of-line.result.now ≡ part_at false c.args.text.now = c.first_of-line.ensures
    ∙ ap (λ (k : ℕ). take k c.args.text.now) c.part_length.ensures.0 in
    let quotes : c.has.result ≡ has 34 (part_at false c.args.text.now) = rw (line) at c.has.ensures in
    let semicolons : c.has-2.result ≡ has 59 (part_at false c.args.text.now) = rw (line) at c.has-2.ensures in
    let feed : let text = c.args.text.now in
    (c.starts-named.result && eqb c.byte.result 10) ≡ (starts_with column_names text && eqb (get_or text (length column_names) 0) 10) = let p =
    c.put_header-n.ensures in
    let text = c.args.text.now in
    let n : c.put_header-n.result - 2 ≡ length column_names = omega (arith, names-end p) in
    both-same (rw (c.first_of.ensures ∙ names_at p) at c.starts-named.ensures)
    (c.byte.ensures ∙ ap (λ (k : ℕ). get_or text k 0) n) in
    rw (
      sym c.starts.ensures ∙ c.if-starts.false,
      sym (quotes) ∙ c.if-has.false,
      sym (semicolons) ∙ c.if-has-2.false,
      sym (feed) ∙ c.if-named-byte.true,
    ) refl

pub returns-then-named-text : goal.returns-then-named-text
unfolding first_fault
returns-then-named-text c =
    let line : c.first_of-line.result.now ≡ part_at false c.args.text.now = c.first_of-line.ensures
    ∙ ap (λ (k : ℕ). take k c.args.text.now) c.part_length.ensures.0 in
    let quotes : c.has.result ≡ has 34 (part_at false c.args.text.now) = rw (line) at c.has.ensures in
    let semicolons : c.has-2.result ≡ has 59 (part_at false c.args.text.now) = rw (line) at c.has-2.ensures in
    let feed : let text = c.args.text.now in
    (c.starts-named.result && eqb c.byte.result 10) ≡ (starts_with column_names text && eqb (get_or text (length column_names) 0) 10) = let p =
    c.put_header-n.ensures in
    let text = c.args.text.now in
    let n : c.put_header-n.result - 2 ≡ length column_names = omega (arith, names-end p) in
    both-same (rw (c.first_of.ensures ∙ names_at p) at c.starts-named.ensures)
    (c.byte.ensures ∙ ap (λ (k : ℕ). get_or text k 0) n) in
    let stop : let text = c.args.text.now in
    (c.starts-named.result && eqb (length text) (c.put_header-n.result - 2))
    ≡ (starts_with column_names text && eqb (length text) (length column_names)) = let p = c.put_header-n.ensures in
    let n : c.put_header-n.result - 2 ≡ length column_names = omega (arith, names-end p) in
    rw (rw (c.first_of.ensures ∙ names_at p) at c.starts-named.ensures, n) refl in
    rw (
      sym c.starts.ensures ∙ c.if-starts.false,
      sym (quotes) ∙ c.if-has.false,
      sym (semicolons) ∙ c.if-has-2.false,
      sym (feed) ∙ c.if-named-byte.false,
      sym (stop) ∙ c.if-named-text.true,
    ) refl

pub returns : goal.returns
unfolding first_fault
returns c =
    let line : c.first_of-line.result.now ≡ part_at false c.args.text.now = c.first_of-line.ensures
    ∙ ap (λ (k : ℕ). take k c.args.text.now) c.part_length.ensures.0 in
    let quotes : c.has.result ≡ has 34 (part_at false c.args.text.now) = rw (line) at c.has.ensures in
    let semicolons : c.has-2.result ≡ has 59 (part_at false c.args.text.now) = rw (line) at c.has-2.ensures in
    let feed : let text = c.args.text.now in
    (c.starts-named.result && eqb c.byte.result 10) ≡ (starts_with column_names text && eqb (get_or text (length column_names) 0) 10) = let p =
    c.put_header-n.ensures in
    let text = c.args.text.now in
    let n : c.put_header-n.result - 2 ≡ length column_names = omega (arith, names-end p) in
    both-same (rw (c.first_of.ensures ∙ names_at p) at c.starts-named.ensures)
    (c.byte.ensures ∙ ap (λ (k : ℕ). get_or text k 0) n) in
    let stop : let text = c.args.text.now in
    (c.starts-named.result && eqb (length text) (c.put_header-n.result - 2))
    ≡ (starts_with column_names text && eqb (length text) (length column_names)) = let p = c.put_header-n.ensures in
    let n : c.put_header-n.result - 2 ≡ length column_names = omega (arith, names-end p) in
    rw (rw (c.first_of.ensures ∙ names_at p) at c.starts-named.ensures, n) refl in
    rw (
      sym c.starts.ensures ∙ c.if-starts.false,
      sym (quotes) ∙ c.if-has.false,
      sym (semicolons) ∙ c.if-has-2.false,
      sym (feed) ∙ c.if-named-byte.false,
      sym (stop) ∙ c.if-named-text.false,
    ) refl
