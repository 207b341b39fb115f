-- The writer and the reader agree. Document 02, W1: it "hands back the reader's next state, or gives the number the reader would give, writes
-- nothing and keeps the state".
-- Assumes nothing.
use Prim.Native.Nat.{ℕ, ◌+◌, ◌≤◌}
use mathlib.Core.Path.{◌≡◌, refl, ◌∙◌}
use mathlib.Core.List.{List, []}
use mathlib.Core.Bool.{Bool, true, false, ◌||◌}
use native.Mathlib.Omega.{arith}
use mathlib.Core.Logic.{⊎_elim}
use borrow.Author.Tests.{ne_eqb, eqb-true, eqb-false, ltb-true, le-ltb, le-leb, lt-leb}
use lib.Dec.{ltb, leb, eqb}
use lib.ListN.{length, replicate, length-replicate}
use Rattle.base.specs.Choice.{pick}
use Rattle.base.proofs.Tests.{and-false, or_cases}
use Rattle.codec.specs.Table.{fields, length_of, Of, last_kind, is_kind}
use Rattle.codec.specs.Codec.{val_at, record_bytes, Fit}
use Rattle.codec.proofs.Rows.{fit-kind}
use Rattle.line_bytes.specs.Lines.{lines_most}
use Rattle.account.specs.declared.Refusal.{Refusal}
use Rattle.account.specs.Judge.{kind_byte, record_row, wrong_version, wrong_kind, wrong_length, first, judge, weigh}
use Rattle.book.specs.declared.State.{State}
use Rattle.book.specs.State.{InRange, in_range}
use Rattle.book.specs.Run.{run}
use Rattle.book.specs.Call as reader
use Rattle.book.proofs.Ranges.{range-parts}
use Rattle.book.proofs.RunLeaves.{run-leaves}
use Rattle.book.proofs.Readings.{reading-none}
use Rattle.book.proofs.Calls.{done-ended}
use Rattle.std.specs.Prelude.{Ok, Err}
use Rattle.make_record.specs.Write.{Answer}
use Rattle.make_record.specs.Write.{numbers, row_for, next, refusals, answer_of, by_answer, write_row, write, Ready, OfKind, saying}
use Rattle.make_record.proofs.Rows.{of_row}
use Rattle.make_record.proofs.Answers.{written-so, by-13, by-own, by-3, by_4, by-reader, wrote}
use Rattle.make_record.proofs.OneRecord.{run-one, call-one, is-kind, judge-is}

-- ---- a record that is written

module _ (s : State) (k : ℕ) (v : List ℕ) (room : ℕ) (e : (write s k v room).answer ≡ Ok tt) where
  -- The state that the writer hands back is the one that the reader reaches on the bytes written, all of which it takes.
  pub next-state : run s (write s k v room).bytes ≡ record {
    state = (write s k v room).state;
    lines = (weigh s.account (row_for k (length v)) v).lines;
    left = [];
  }
  next-state =
      let row = row_for k (length v) in
      let w = written-so s k row v room e in
      let o : Of row v = of_row k v refl w.of in
      let j = judge-is row v o s.account (fit-kind v row w.ranges) in
      rw w.is (run-one s w.ready (record_bytes row v) (is-kind row v o).whole ∙ rw j)

  -- A call of the reader with lines_most bytes of room takes all of them and reaches it.
  pub call-reaches : (lines : ℕ) → lines_most ≤ lines
      → ((reader.call s (write s k v room).bytes lines).state ≡ (write s k v room).state) ×
      ((reader.call s (write s k v room).bytes lines).taken ≡ length (write s k v room).bytes)
  call-reaches lines h =
      let row = row_for k (length v) in
      let w = written-so s k row v room e in
      let o : Of row v = of_row k v refl w.of in
      let j = judge-is row v o s.account (fit-kind v row w.ranges) in
      rw (w.is, call-one s w.ready (record_bytes row v) (is-kind row v o).whole lines h) (rw j, refl)

-- ---- a record that is refused

-- A refusal writes nothing and keeps the state.
pub refusal-keeps : (s : State) (k : ℕ) (v : List ℕ) (room : ℕ) (r : Refusal) → (write s k v room).answer ≡ Err r
    → ((write s k v room).state ≡ s) × ((write s k v room).bytes ≡ [])
unfolding write_row
refusal-keeps s k v room r e = go (answer_of (refusals s k (row_for k (length v)) v room)) e
  where
    row : ℕ
    row = row_for k (length v)

    go : (a : Answer) → (by_answer a s row v).answer ≡ Err r → ((by_answer a s row v).state ≡ s) × ((by_answer a s row v).bytes ≡ [])
    go (Ok u) e = let z : ◌≡◌ {A = ℕ} 0 1 = cc in absurd (omega arith)
    go (Err q) e = (refl, refl)

module _ (s : State) (y : Ready s) (k : ℕ) (v : List ℕ) (room : ℕ) where
  -- Of values that fit their bytes, with room for the record, the writer refuses exactly those whose record the reader refuses, with the
  -- reader's number, records and field.
  pub refuses-as-reader : OfKind k (row_for k (length v)) v → Fit (fields (row_for k (length v))) v 0 → 2 + length_of (row_for k (length v)) ≤ room
      → (write s k v room).answer ≡ saying (run s (record_bytes (row_for k (length v)) v)).state.account
  refuses-as-reader o f h =
      rw (
        run-one s y (record_bytes (row_for k (length v)) v) (is-kind (row_for k (length v)) v (of_row k v refl o)).whole,
        judge-is (row_for k (length v)) v (of_row k v refl o) s.account f,
      )
      (go (eqb (next s (row_for k (length v)) v).stage 3) refl)
    where
      go : (b : Bool) → eqb (next s (row_for k (length v)) v).stage 3 ≡ b
          → (write s k v room).answer ≡ pick b (Err (next s (row_for k (length v)) v).refusal) (Ok tt)
      go true e = rw (by-reader s k (row_for k (length v)) v room y o (next s (row_for k (length v)) v) refl (eqb-true _ _ e))
      go false e = rw (wrote s k (row_for k (length v)) v room y o (next s (row_for k (length v)) v) refl (eqb-false _ _ e) h)

  -- r is any record of that kind, of a version that the kind has
  module _ (r : List ℕ) (version : wrong_version r ≡ false) (kind : kind_byte r ≡ k) where
    -- For a kind that there is not the writer gives what the reader gives for any record of that kind.
    pub kind-as-reader : ltb k 1 || ltb last_kind k ≡ true → (write s k v room).answer ≡ Err (judge s.account r).account.refusal
    unfolding judge first
    kind-as-reader e =
        let none : wrong_kind r ≡ true = rw (kind, other k e) refl in
        rw (by-3 s k (row_for k (length v)) v room y e, version, none)
      where
        other : (n : ℕ) → ltb n 1 || ltb last_kind n ≡ true → is_kind n ≡ false
        other n e =
            ⊎_elim
            (λ (g : ltb n 1 ≡ true). rw (lt-leb 1 n (ltb-true _ _ g)))
            (λ (g : ltb last_kind n ≡ true). rw (lt-leb n last_kind (ltb-true _ _ g)) (and-false (leb 1 n)))
            (or_cases (ltb n 1) (ltb last_kind n) e)

    -- For a wrong count of values the writer gives what the reader gives for any record of that kind that is not of its version's length.
    pub count-as-reader : 1 ≤ k → k ≤ last_kind → (length v ≡ length (fields (row_for k (length v))) → ⊥)
        → (val_at r 0 2 ≡ length_of (record_row r) → ⊥)
        → (write s k v room).answer ≡ Err (judge s.account r).account.refusal
    unfolding judge first
    count-as-reader l m n h =
        let b : ltb k 1 || ltb last_kind k ≡ false = rw (le-ltb _ _ l, le-ltb _ _ m) in
        let listed : wrong_kind r ≡ false = rw (kind, le-leb _ _ l, le-leb _ _ m) refl in
        let long : wrong_length r ≡ true = rw (ne_eqb _ _ h) refl in
        rw (by_4 s k (row_for k (length v)) v room y b n, version, listed, long)

-- ---- a state that can't be written to

-- For a state out of range the writer says what a call of the reader says: 13, with no record and no field.
pub outside-as-reader : (s : State) (k : ℕ) (v : List ℕ) (room : ℕ) (xs : List ℕ) (lines : ℕ) → in_range s ≡ false
    → numbers (write s k v room).answer ≡ reader.numbers (reader.call s xs lines).answer
unfolding reader.call
outside-as-reader s k v room xs lines e = rw (by-13 s k (row_for k (length v)) v room e, e)

-- For a refused state too: the refusal that the state holds.
pub own-as-reader : (s : State) (k : ℕ) (v : List ℕ) (room : ℕ) (xs : List ℕ) (lines : ℕ) → in_range s ≡ true → s.account.stage ≡ 3
    → numbers (write s k v room).answer ≡ reader.numbers (reader.call s xs lines).answer
unfolding reader.answer_of
own-as-reader s k v room xs lines r e =
    let d = rw length-replicate at (done-ended (reading-none xs (replicate lines 0) s (range-parts s r)) (omega arith)) in
    rw (by-own s k (row_for k (length v)) v room r e, d, e)

-- ---- states stay in range

-- From a state in range the writer hands back one.
pub stays-in-range : (s : State) (k : ℕ) (v : List ℕ) (room : ℕ) → InRange s → InRange (write s k v room).state
stays-in-range s k v room i = go (write s k v room).answer refl
  where
    go : (a : Answer) → (write s k v room).answer ≡ a → InRange (write s k v room).state
    go (Ok u) e = let n = (run-leaves s (write s k v room).bytes i).range in rw (next-state s k v room e) at n
    go (Err r) e = rw (refusal-keeps s k v room r e).0 i
