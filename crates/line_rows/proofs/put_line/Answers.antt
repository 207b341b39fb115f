use Prim.Native.Nat.{◌+◌}
use mathlib.Core.Path.{◌≡◌}
use native.Mathlib.Omega.{arith}
use borrow.Author.Rules.{rules}
use lib.ListN.{length}
use Rattle.line_bytes.specs.Lines.{figure_count, line_size, total_size, front_size}
use Rattle.line_rows.proofs.Texts.{size-total, row-total, size-detail, row-detail}
use Rattle.line_rows.proofs.put_line.Goals as goal

pub total_numbers-numbers-requires : goal.total_numbers-numbers-requires
total_numbers-numbers-requires c = omega (arith, size-total c.args.s.now c.if-s.true)

pub put_row-requires : goal.put_row-requires
put_row-requires c =
    let count : length c.total_numbers-numbers.result ≡ 3 + figure_count = search rules in
    let total : front_size c.args.s.now ≡ total_size = size-total c.args.s.now c.if-s.true in
    record { in_bounds = omega (arith, count); values_in_bounds = omega (arith, count, total) }

pub put_row-requires-else-s : goal.put_row-requires-else-s
put_row-requires-else-s c =
    let count : length c.detail_numbers-numbers.result ≡ 2 + figure_count = search rules in
    let detail : front_size c.args.s.now ≡ line_size = size-detail c.args.s.now c.if-s.false in
    record { in_bounds = omega (arith, count); values_in_bounds = omega (arith, count, detail) }

pub returns-then-s : goal.returns-then-s
returns-then-s c =
    let count : length c.total_numbers-numbers.result ≡ 3 + figure_count = search rules in
    let total : front_size c.args.s.now ≡ total_size = size-total c.args.s.now c.if-s.true in
    let p = c.put_row.ensures in
    record {
      put = rw (row-total c.args.s.now c.if-s.true _, ← c.total_numbers-numbers.ensures) p.put;
      upper_bound = omega (arith, p.upper_bound, count, total);
    }

pub returns-else-s : goal.returns-else-s
returns-else-s c =
    let count : length c.detail_numbers-numbers.result ≡ 2 + figure_count = search rules in
    let detail : front_size c.args.s.now ≡ line_size = size-detail c.args.s.now c.if-s.false in
    let p = c.put_row-else-s.ensures in
    record {
      put = rw (row-detail c.args.s.now c.if-s.false _, ← c.detail_numbers-numbers.ensures) p.put;
      upper_bound = omega (arith, p.upper_bound, count, detail);
    }
