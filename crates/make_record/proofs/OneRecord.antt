-- What the reader makes of one whole record, and of the record that the writer makes of some values.
-- Assumes nothing.
use Prim.Native.Nat.{ℕ, zero, suc, ◌+◌, ◌≤◌, ◌<◌}
use mathlib.Core.Path.{◌≡◌, refl, ap, ◌∙◌}
use mathlib.Core.List.{List, [], ◌++◌, append-nil}
use mathlib.Core.Bool.{Bool, true, ◌&&◌}
use mathlib.Core.Logic.{⊎_elim}
use native.Mathlib.Omega.{arith}
use native.Mathlib.Nat.{sub-zero}
use borrow.Author.Tests.{le-leb, leb-true}
use lib.Dec.{leb}
use lib.ListN.{length, get_or, take}
use lib.Seq.{take_all, take-length}
use Rattle.base.proofs.Tests.{and_l, and_r, lt-or-ge}
use Rattle.codec.specs.Table.{table, fields, size, length_of, row_version, row_kind, Of, last_row}
use Rattle.codec.specs.Codec.{be, values_at, bytes_of, record_bytes, Fit}
use Rattle.codec.proofs.BigEndian.{one_byte}
use Rattle.codec.proofs.Rows.{length_most}
use Rattle.codec.proofs.Round.{values-back, record-length, record-whole}
use Rattle.line_bytes.specs.Lines.{lines_most}
use Rattle.account.specs.declared.Account.{Account}
use Rattle.account.specs.Judge.{WholeRecord, version_of, kind_byte, judge, weigh}
use Rattle.account.specs.Line.{joined}
use Rattle.account.specs.Told.{Kind}
use Rattle.account.proofs.Told.{right-length}
use Rattle.account.proofs.Keeps.{judge-short}
use Rattle.book.specs.declared.State.{State}
use Rattle.book.specs.Front.{whole, need, front}
use Rattle.book.specs.State.{held_of, holding}
use Rattle.book.specs.Run.{run}
use Rattle.book.specs.Call as reader
use Rattle.book.proofs.Fronts.{is-whole}
use Rattle.book.proofs.RecordRuns.{book-one}
use Rattle.book.proofs.Longest.{longest-top}
use Rattle.book.proofs.Calls.{call_at}
use Rattle.make_record.specs.Write.{Ready}
use Rattle.make_record.proofs.Rows.{row_back, version-passes, kind-passes}

-- ---- one whole record, read by a state that holds no bytes

module _ (s : State) (y : Ready s) (r : List ℕ) (w : WholeRecord r) where
  is_front : front r ≡ whole
  is_front = is-whole r (omega (arith, w.long), w.low, w.high, omega (arith, w.long))

  pub run-one : run s r ≡ record { state = holding (judge s.account r).account []; lines = (judge s.account r).lines; left = [] }
  unfolding run
  run-one =
      let t : take (need r) r ≡ r = take_all (need r) r (omega (arith, w.long)) in
      let h : held_of s ≡ [] = rw y.none in
      rw h (rw (t, append-nil) at (book-one r (need r) is_front refl s.account y.range.account y.early))

  -- lines_most bytes have room for its lines
  pub call-one : (room : ℕ) → lines_most ≤ room
      → reader.call s r room ≡ record {
        state = holding (judge s.account r).account [];
        taken = length r;
        bytes = joined (judge s.account r).lines;
        answer = reader.answer_of (judge s.account r).account (length r) (length r);
      }
  call-one room h =
      let o : run s (take (length r) r) ≡ record {
        state = holding (judge s.account r).account [];
        lines = (judge s.account r).lines;
        left = [];
      } = rw (take-length r) run-one in
      let f : length (joined (run s (take (length r) r)).lines) ≤ room = rw o (omega (arith, judge-short s.account r)) in
      let l = longest-top (reader.fits s r room) (length r) (le-leb _ _ f) in
      rw sub-zero
      at (call_at s r room (length r) (record {
        state = holding (judge s.account r).account [];
        bytes = joined (judge s.account r).lines;
        left = [];
      }) y.range l (rw o))

-- ---- the record of some values

-- length, version and kind: what stands before the fields
start : ℕ → List ℕ
start k = be 2 (length_of k) ++ (be 1 (row_version k) ++ be 1 (row_kind k))

start-length : (k : ℕ) → length (start k) ≡ 4
unfolding start be
start-length k = refl

start-then : (k : ℕ) (v : List ℕ) → record_bytes k v ≡ start k ++ bytes_of (fields k) v 0
unfolding start record_bytes be
start-then k v = refl

-- each number from 1 to n passes the test
each : (ℕ → Bool) → ℕ → Bool
each p zero = true
each p (suc n) = p (suc n) && each p n

each_at : (p : ℕ → Bool) (n : ℕ) → each p n ≡ true → (k : ℕ) → 1 ≤ k → k ≤ n → p k ≡ true
unfolding each
each_at p zero e k l h = absurd (omega arith)
each_at p (suc n) e k l h =
    ⊎_elim
    (λ (g : k < suc n). each_at p n (and_r (p (suc n)) (each p n) e) k l (omega arith))
    (λ (g : suc n ≤ k). let z : k ≡ suc n = omega arith in rw z (and_l (p (suc n)) (each p n) e))
    (lt-or-ge k (suc n))

-- no row's length is below 4: antt computes it for each
length-least : (k : ℕ) → 1 ≤ k → k ≤ last_row → 4 ≤ length_of k
unfolding table size each
length-least k l h = leb-true _ _ (each_at (λ n. leb 4 (length_of n)) last_row refl k l h)

module _ (k : ℕ) (v : List ℕ) (o : Of k v) where
  -- its version and its kind are the row's
  pub version-written : version_of (record_bytes k v) ≡ row_version k
  version-written =
      let r = record_bytes k v in
      one_byte r 2 (get_or r 2 0) refl ∙ (record-whole k v (omega (arith, o.most))).version-is

  pub kind-written : kind_byte (record_bytes k v) ≡ row_kind k
  kind-written =
      let r = record_bytes k v in
      one_byte r 3 (get_or r 3 0) refl ∙ (record-whole k v (omega (arith, o.most))).kind-is

  -- it is a whole record of its row
  pub is-kind : Kind k (record_bytes k v)
  is-kind =
      let r = record_bytes k v in
      let w = record-whole k v (omega (arith, o.most)) in
      let least = length-least k o.least o.most in
      record {
        whole = record { long = omega (arith, w.complete, w.length-is); low = rw w.length-is least; high = rw w.length-is (length_most k) };
        version = rw (version-written, kind-written) (version-passes k);
        listed = rw kind-written (kind-passes k o.least o.most);
        kind = rw (version-written, kind-written) (row_back k);
      }

  -- values that fit their bytes, read again
  pub values-read : Fit (fields k) v 0 → values_at (fields k) (record_bytes k v) 4 ≡ v
  values-read f =
      rw (start-then k v) (rw (start-length k, append-nil (bytes_of (fields k) v 0)) at (values-back (fields k) v (start k) [] f o.count))

  -- the record does what its values do
  pub judge-is : (a : Account) → Fit (fields k) v 0 → judge a (record_bytes k v) ≡ weigh a k v
  judge-is a f =
      right-length a k (record_bytes k v) (length_of k + 2) is-kind refl (omega (arith, record-length k v))
      ∙ ap (weigh a k) (values-read f)
