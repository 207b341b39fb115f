-- Values in their ranges, judged as the record that they make.
-- Assumes nothing.
use Prim.Native.Nat.{ℕ, ◌+◌, ◌≤◌}
use mathlib.Core.Path.{◌≡◌, ap, ◌∙◌, sym}
use mathlib.Core.List.{List}
use native.Mathlib.Omega.{arith}
use lib.ListN.{length, take, drop}
use lib.Seq.{sets, sets-eq, take_at}
use Rattle.codec.specs.Table.{fields, length_of, Of}
use Rattle.codec.specs.Codec.{first_bad, record_bytes}
use Rattle.codec.proofs.Rows.{fit-kind}
use Rattle.codec.proofs.Round.{record-length}
use Rattle.line_bytes.specs.Lines.{lines_most}
use Rattle.account.specs.declared.Account.{Account}
use Rattle.account.specs.declared.Judged.{Judged}
use Rattle.account.specs.Judge.{WholeRecord, weigh, judge}
use Rattle.account.specs.Told.{Tells, TellsIn}
use Rattle.account.proofs.Told.{tells-fit, lines-short}
use Rattle.make_record.proofs.OneRecord.{is-kind, judge-is}

-- a record stored at the start of a slice is its first n bytes
pub at-start : (row : ℕ) (v out : List ℕ) {out' : List ℕ} {n : ℕ} → 2 + length_of row ≤ length out → out' ≡ sets out 0 (record_bytes row v)
    → n ≡ 2 + length_of row → take n out' ≡ record_bytes row v
at-start row v out {out'} {n} h e f =
    let r = record_bytes row v in
    ap (take n) (e ∙ sets-eq r out 0 (rw record-length (omega arith))) ∙ take_at r (drop (0 + length r) out) n (record-length row v ∙ sym f)

module _ (row : ℕ) (v : List ℕ) (o : Of row v) {r : List ℕ} (e : r ≡ record_bytes row v) where
  pub whole : WholeRecord r
  whole = rw e (is-kind row v o).whole

  -- any record's lines fit the most that one gives
  pub told : (a : Account) {j : Judged} → first_bad (fields row) v 0 ≡ 0 → TellsIn lines_most a (judge a r) j → Tells (weigh a row v) j
  told a p t = rw (e, judge-is row v o a (fit-kind v row p)) at (tells-fit t (lines-short t))
