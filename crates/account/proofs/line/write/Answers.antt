-- No line, a detail's or a subtotal, the total, or a subtotal and the total. Assumes nothing.
use mathlib.Core.Path.{◌≡◌, ap, ◌∙◌}
use mathlib.Core.List.{List}
use Prim.Native.Nat.{ℕ, ◌+◌}
use native.Mathlib.Omega.{arith}
use lib.ListN.{length}
use lib.Seq.{sets, length-sets}
use Rattle.line_bytes.specs.Lines.{line_size, lines_most}
use Rattle.account.proofs.Written.{total, none_written, line-written, total-written, both-are, both-written}
use Rattle.account.proofs.line.write.Goals as goal

pub returns-then-line-eq-LINE_SIZE : goal.returns-then-line-eq-LINE_SIZE
returns-then-line-eq-LINE_SIZE c = let b = c in
    let s = b in
    c.put_line.ensures ∙ line-written s.args.out.now s.args.w s.args.j s.requires.0 b.if-line-eq-LINE_SIZE.true

pub returns-then-line-eq-TOTAL_SIZE : goal.returns-then-line-eq-TOTAL_SIZE
returns-then-line-eq-TOTAL_SIZE c = let b = c in
    let s = b in
    c.put_total.ensures ∙ total-written s.args.out.now s.args.w s.args.j s.requires.0 b.if-line-eq-TOTAL_SIZE.true

pub overflow_add-w : goal.overflow_add-w
overflow_add-w c =
    let both : c.args.j.line.given ≡ lines_most = let s = c in
    let second = c in
    both-are s.args.out.now s.args.w s.args.j s.requires.0 second.if-line-eq0.false second.if-line-eq-LINE_SIZE.false c.if-line-eq-TOTAL_SIZE.false
    s.requires.1 in
    let b = c in omega (arith, both, b.requires.0)

pub put_total-requires-2 : goal.put_total-requires-2
put_total-requires-2 c =
    let both : c.args.j.line.given ≡ lines_most = let s = c in
    let second = c in
    both-are s.args.out.now s.args.w s.args.j s.requires.0 second.if-line-eq0.false second.if-line-eq-LINE_SIZE.false c.if-line-eq-TOTAL_SIZE.false
    s.requires.1 in
    let b = c in
    omega (arith, both, b.requires.0, simp length-sets at (ap length c.put_line-2.ensures))

pub returns : goal.returns
returns c = let b = c in
    let second = b in
    let s = b in
    c.put_total-2.ensures
    ∙ ap (λ (l : List ℕ). sets l (s.args.w + line_size) (total s.args.j)) c.put_line-2.ensures
    ∙ both-written s.args.out.now s.args.w s.args.j s.requires.0 second.if-line-eq0.false second.if-line-eq-LINE_SIZE.false
    b.if-line-eq-TOTAL_SIZE.false s.requires.1

pub returns-then-line-eq0 : goal.returns-then-line-eq0
returns-then-line-eq0 c = let s = c in none_written s.args.out.now s.args.w s.args.j c.if-line-eq0.true

pub put_total-requires : goal.put_total-requires
put_total-requires c = omega (arith, c.if-line-eq-TOTAL_SIZE.true, c.requires.0)

pub put_line-requires-2 : goal.put_line-requires-2
put_line-requires-2 c =
    let both : c.args.j.line.given ≡ lines_most = let s = c in
    let second = c in
    both-are s.args.out.now s.args.w s.args.j s.requires.0 second.if-line-eq0.false second.if-line-eq-LINE_SIZE.false c.if-line-eq-TOTAL_SIZE.false
    s.requires.1 in
    omega (arith, both, c.requires.0)
