-- `line_bytes::is_line` meets its contract.
-- Assumes nothing.
use mathlib.Core.Path.{refl, sym, ap, ◌∙◌}
use native.Mathlib.Omega.{arith}
use lib.ListN.{get_or}
use Rattle.codec.proofs.BigEndian.{one_byte}
use Rattle.line_bytes.specs.Lines.{is_line_kind}
use Rattle.line_bytes.proofs.AnyLine.{kind-least, line-short, line-tests, tests_same}
use Rattle.line_bytes.proofs.is_line.Goals as goal

pub returns-then-s-lt-LINE_SIZE : goal.returns-then-s-lt-LINE_SIZE
returns-then-s-lt-LINE_SIZE c = let s = c.args.s.now in
    sym (line-short s (omega (arith, kind-least (get_or s 3 0))))

pub returns-then-s-size : goal.returns-then-s-size
returns-then-s-size c = let s = c.args.s.now in
    sym (line-short s (omega (arith, c.front_size-size.ensures)))

pub overflow_sub-result : goal.overflow_sub-result
overflow_sub-result c = let s = c.args.s.now in
    omega (arith, c.front_size-size.ensures, kind-least (get_or s 3 0))

pub returns : goal.returns
returns c = let z = c.front_size-size.ensures in
    let s = c.args.s.now in
    let kind = c.is_line_kind.ensures ∙ ap is_line_kind (c.be8.ensures ∙ sym (one_byte s 3 (get_or s 3 0) refl)) in
    tests_same _ _ _ _ (get_or s 2 0) _ _ c.be16.ensures (omega (arith, z)) kind
    ∙ sym (line-tests s (omega (arith, z, c.if-s-size.false)))
