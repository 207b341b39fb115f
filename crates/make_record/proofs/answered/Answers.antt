-- The refusals, each in its turn, and the record. Assumes nothing.
use mathlib.Core.Path.{◌≡◌, sym, ap, ◌∙◌}
use mathlib.Core.Bool.{true}
use lib.ListN.{length}
use Rattle.book.specs.State.{in_range}
use Rattle.make_record.specs.Write.{row_for, written_of, Ready, OfKind}
use Rattle.make_record.proofs.Rows.{of_row}
use Rattle.make_record.proofs.Answers.{ready, of-kind, by-13, by-own, by-22, by-3, by_4, by-reader, by-16, wrote_so}
use Rattle.make_record.proofs.answered.Goals as goal

pub returns-then-not-in_range : goal.returns-then-not-in_range
returns-then-not-in_range c = c.outside.ensures ∙ ap written_of (sym (by-13 _ _ _ _ _ (sym c.in_range.ensures
    ∙ c.if-not-in_range.true)))

pub returns-then-a-eq3 : goal.returns-then-a-eq3
returns-then-a-eq3 c =
    let inside : in_range c.args.state ≡ true = sym c.in_range.ensures ∙ c.if-not-in_range.false in
    c.refused.ensures ∙ ap written_of (sym (by-own _ _ _ _ _ (inside)
    c.if-a-eq3.true))

pub returns-then-a-state : goal.returns-then-a-state
returns-then-a-state c =
    let inside : in_range c.args.state ≡ true = sym c.in_range.ensures ∙ c.if-not-in_range.false in
    c.refused_by.ensures ∙ ap written_of (sym (by-22 _ _ _ _ _ (inside)
    c.if-a-eq3.false c.if-a-state.true))

pub returns-then-kind : goal.returns-then-kind
returns-then-kind c =
    let inside : in_range c.args.state ≡ true = sym c.in_range.ensures ∙ c.if-not-in_range.false in
    let open-state : Ready c.args.state = ready _ (inside) c.if-a-eq3.false c.if-a-state.false in
    c.refused_by-then-kind.ensures ∙ ap written_of (sym (by-3 _ _ _ _ _ (open-state) c.if-kind.true))

pub returns-then-values-values_of : goal.returns-then-values-values_of
returns-then-values-values_of c =
    let inside : in_range c.args.state ≡ true = sym c.in_range.ensures ∙ c.if-not-in_range.false in
    let open-state : Ready c.args.state = ready _ (inside) c.if-a-eq3.false c.if-a-state.false in
    let count = rw c.row_for-row.ensures at c.values_of.ensures in
    c.refused_by-then-values-values_of.ensures ∙ ap written_of (sym (by_4 _ _ _ _ _ (open-state)
    c.if-kind.false (λ e. c.if-values-values_of.true (e ∙ sym count))))

pub weighed-j-requires : goal.weighed-j-requires
weighed-j-requires c =
    let inside : in_range c.args.state ≡ true = sym c.in_range.ensures ∙ c.if-not-in_range.false in
    let open-state : Ready c.args.state = ready _ (inside) c.if-a-eq3.false c.if-a-state.false in
    let values : OfKind c.args.kind
    c.row_for-row.result c.args.values.now = of-kind _ _ _ c.if-kind.false (c.if-values-values_of.false ∙ c.values_of.ensures) in
    let y = open-state in
    (y.range.account, y.early, of_row _ _ c.row_for-row.ensures (values))

pub returns-then-next-eq3 : goal.returns-then-next-eq3
returns-then-next-eq3 c =
    let inside : in_range c.args.state ≡ true = sym c.in_range.ensures ∙ c.if-not-in_range.false in
    let open-state : Ready c.args.state = ready _ (inside) c.if-a-eq3.false c.if-a-state.false in
    let values : OfKind c.args.kind
    c.row_for-row.result c.args.values.now = of-kind _ _ _ c.if-kind.false (c.if-values-values_of.false ∙ c.values_of.ensures) in
    let valued : OfKind c.args.kind
    (row_for c.args.kind
    (length c.args.values.now))
    c.args.values.now = rw c.row_for-row.ensures at (values) in
    let e = c in
    let next = rw e.row_for-row.ensures at c.weighed-j.ensures.account in
    c.refused-then-next-eq3.ensures ∙ ap written_of (sym (by-reader _ _ _ _ _ (open-state) (valued) _ next
    c.if-next-eq3.true))

pub bytes_of-bytes-requires : goal.bytes_of-bytes-requires
bytes_of-bytes-requires c =
    let values : OfKind c.args.kind
    c.row_for-row.result c.args.values.now = of-kind _ _ _ c.if-kind.false (c.if-values-values_of.false ∙ c.values_of.ensures) in
    let e = c in let o = of_row _ _ e.row_for-row.ensures (values) in o.most

pub returns-then-room-bytes : goal.returns-then-room-bytes
returns-then-room-bytes c =
    let inside : in_range c.args.state ≡ true = sym c.in_range.ensures ∙ c.if-not-in_range.false in
    let open-state : Ready c.args.state = ready _ (inside) c.if-a-eq3.false c.if-a-state.false in
    let values : OfKind c.args.kind
    c.row_for-row.result c.args.values.now = of-kind _ _ _ c.if-kind.false (c.if-values-values_of.false ∙ c.values_of.ensures) in
    let valued : OfKind c.args.kind
    (row_for c.args.kind
    (length c.args.values.now))
    c.args.values.now = rw c.row_for-row.ensures at (values) in
    let e = c in
    let row = e.row_for-row.ensures in
    let next = rw row at c.weighed-j.ensures.account in
    let short = rw (c.bytes_of-bytes.ensures, row) at c.if-room-bytes.true in
    c.refused_by-then-room-bytes.ensures ∙ ap written_of (sym (by-16 _ _ _ _ _ (open-state) (valued) _ next
    c.if-next-eq3.false short))

pub returns : goal.returns
returns c =
    let inside : in_range c.args.state ≡ true = sym c.in_range.ensures ∙ c.if-not-in_range.false in
    let open-state : Ready c.args.state = ready _ (inside) c.if-a-eq3.false c.if-a-state.false in
    let values : OfKind c.args.kind
    c.row_for-row.result c.args.values.now = of-kind _ _ _ c.if-kind.false (c.if-values-values_of.false ∙ c.values_of.ensures) in
    let valued : OfKind c.args.kind
    (row_for c.args.kind
    (length c.args.values.now))
    c.args.values.now = rw c.row_for-row.ensures at (values) in
    let e = c in
    let row = e.row_for-row.ensures in
    let next = rw row at c.weighed-j.ensures.account in
    let size = rw row at c.bytes_of-bytes.ensures in
    wrote_so _ _ _ _ _ (open-state) (valued) _ next c.if-next-eq3.false _ size c.if-room-bytes.false
