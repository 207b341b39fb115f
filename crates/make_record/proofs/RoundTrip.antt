-- The round trip, for every row of the table at once. Document 02, W1: "What it writes reads back to the same values, and an
-- accepted record read and written again is the same bytes."
-- Assumes nothing.
use Prim.Native.Nat.{ℕ, ◌+◌, ◌≤◌}
use mathlib.Core.Path.{◌≡◌, refl, sym, ap, ◌∙◌}
use mathlib.Core.List.{List, []}
use mathlib.Core.Bool.{true, ◌&&◌}
use native.Mathlib.Omega.{arith}
use borrow.Author.Tests.{eqb-true, not-false}
use lib.Dec.{eqb}
use lib.ListN.{length, get_or}
use Rattle.base.specs.Choice.{pick}
use Rattle.codec.specs.Table.{fields, length_of, Of, is_kind}
use Rattle.codec.specs.Codec.{val_at, record_bytes, Bytes}
use Rattle.codec.proofs.BigEndian.{one_byte}
use Rattle.codec.proofs.Values.{values_length}
use Rattle.codec.proofs.EachKind.{kind-least, kind-most}
use Rattle.codec.proofs.Rows.{fit-kind}
use Rattle.codec.proofs.Round.{record-again}
use Rattle.account.specs.Judge.{WholeRecord, version_of, kind_byte, record_row, values_of, judge, weigh}
use Rattle.account.proofs.Refusals.{judged-passes}
use Rattle.account.proofs.Told.{right-length}
use Rattle.book.specs.declared.State.{State}
use Rattle.book.specs.State.{holding}
use Rattle.std.specs.Prelude.{Ok}
use Rattle.make_record.specs.Write.{row_for, write_row, write, Ready, OfKind}
use Rattle.make_record.proofs.Answers.{written-so, wrote}
use Rattle.make_record.proofs.OneRecord.{is-kind, version-written, kind-written, values-read}
use Rattle.make_record.proofs.Rows.{version-of-row, kind-of-row, of_row, row-again, version-again, kind-again}

-- What it writes is a record of the kind, of version 2 where it is a farm record of four values and else of version 1, and its fields are the
-- values.
pub reads-back : (s : State) (k : ℕ) (v : List ℕ) (room : ℕ) → (write s k v room).answer ≡ Ok tt
    → (version_of (write s k v room).bytes ≡ pick (eqb k 1 && eqb (length v) 4) 2 1)
    × (kind_byte (write s k v room).bytes ≡ k)
    × (values_of (write s k v room).bytes ≡ v)
reads-back s k v room e =
    let row = row_for k (length v) in
    let w = written-so s k row v room e in
    let o : Of row v = of_row k v refl w.of in
    let i = is-kind row v o in
    rw w.is (
      version-written row v o ∙ version-of-row k (length v) w.of.most,
      kind-written row v o ∙ kind-of-row k (length v) w.of.most,
      rw i.kind (values-read row v o (fit-kind v row w.ranges)),
    )

-- ---- a record that the reader accepts

-- An accepted record, read and written again by the state that reads it, is the same bytes, and the state is the one that the reader reaches.
pub written-again : (s : State) (r : List ℕ) (room : ℕ) → Ready s → Bytes r → WholeRecord r → ((judge s.account r).account.stage ≡ 3 → ⊥)
    → length r ≤ room
    → write s (kind_byte r) (values_of r) room ≡ record { state = holding (judge s.account r).account []; bytes = r; answer = Ok tt }
written-again s r room y b w h f =
    let k = record_row r in
    let v = values_of r in
    let t = judged-passes s.account r h in
    let kinds : is_kind (kind_byte r) ≡ true = not-false _ t.kind in
    let long : val_at r 0 2 ≡ length_of k = eqb-true _ _ (not-false _ t.long) in
    let o : OfKind (kind_byte r) k v = record {
      least = kind-least (kind_byte r) kinds;
      most = kind-most (kind_byte r) kinds;
      count = values_length (fields k) r 4;
    } in
    let e : judge s.account r ≡ weigh s.account k v =
    right-length s.account k r (length_of k + 2) (record { whole = w; version = t.version; listed = t.kind; kind = refl }) refl
    (omega (arith, w.long, long)) in
    let again : record_bytes k v ≡ r = record-again k r (record {
      bytes = b;
      complete = omega (arith, w.long, long);
      length-is = long;
      version-is = sym (one_byte r 2 (get_or r 2 0) refl) ∙ version-again (version_of r) (kind_byte r) t.version kinds;
      kind-is = sym (one_byte r 3 (get_or r 3 0) refl) ∙ kind-again (version_of r) (kind_byte r) kinds;
    }) in
    ap (λ (row : ℕ). write_row s (kind_byte r) row v room) (row-again (version_of r) (kind_byte r) (length v) o.count)
    ∙ wrote s (kind_byte r) k v room y o (judge s.account r).account (ap (λ j. j.account) e) h (omega (arith, w.long, long)) ∙ rw (again, e)
