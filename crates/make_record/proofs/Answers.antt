-- The writer's answer: by the first refusal that holds, and what is known where none does.
-- Assumes nothing.
use Prim.Native.Nat.{ℕ, ◌+◌, ◌≤◌, ◌<◌}
use mathlib.Core.Path.{◌≡◌, refl, sym, ap, ◌∙◌}
use mathlib.Core.List.{List, [], ◌∷◌}
use mathlib.Core.Bool.{Bool, true, false, not, ◌||◌}
use native.Mathlib.Omega.{arith}
use native.Mathlib.Nat.{zero-add}
use borrow.Author.Tests.{ltb-false, eqb-true, eqb-false, le-ltb, lt-ltb, eq-eqb, ne_eqb, not-false}
use lib.ListN.{length}
use lib.Seq.{sets, sets-eq}
use lib.Dec.{ltb, eqb}
use Rattle.base.specs.Choice.{pick}
use Rattle.base.proofs.Tests.{or_l, or_r}
use Rattle.codec.specs.Table.{fields, length_of, last_kind}
use Rattle.codec.specs.Codec.{first_bad, record_bytes}
use Rattle.codec.proofs.Round.{record-length}
use Rattle.account.specs.declared.Account.{Account}
use Rattle.account.specs.declared.Refusal.{Refusal}
use Rattle.account.specs.Judge.{weigh}
use Rattle.account.proofs.Keeps.{stage-most}
use Rattle.account.proofs.Refusals.{passed, weighed-passes}
use Rattle.book.specs.declared.State.{State}
use Rattle.book.specs.State.{in_range, holding}
use Rattle.book.proofs.Ranges.{range-parts, range-test}
use Rattle.std.specs.Prelude.{Ok, Err}
use Rattle.make_record.specs.Write.{Answer}
use Rattle.make_record.specs.declared.Written.{Written}
use Rattle.make_record.specs.Write.{Write, refusal_by, next, refusals, answer_of, refusing, writing, by_answer, write_row, written_of, record_laid}
use Rattle.make_record.specs.Write.{Ready}
use Rattle.make_record.specs.Write.{OfKind}

-- ---- values that the reader would not refuse

pub in-ranges : (a : Account) (k : ℕ) (v : List ℕ) → ((weigh a k v).account.stage ≡ 3 → ⊥) → first_bad (fields k) v 0 ≡ 0
in-ranges a k v h = (passed a k v (weighed-passes a k v h)).ranges

-- ---- a state that can be written to

pub ready : (s : State) → in_range s ≡ true → (s.account.stage ≡ 3 → ⊥) → eqb s.account.stage 2 || not (eqb s.count 0) ≡ false → Ready s
ready s r h b =
    let v = range-parts s r in
    let m = stage-most s.account v.account in
    let n2 : s.account.stage ≡ 2 → ⊥ = eqb-false _ _ (or_l (eqb s.account.stage 2) (not (eqb s.count 0)) b) in
    record {
      range = v;
      early = below s.account.stage m h n2;
      none = eqb-true _ _ (not-false _ (or_r (eqb s.account.stage 2) (not (eqb s.count 0)) b));
    }
  where
    below : (n : ℕ) → n ≤ 3 → (n ≡ 3 → ⊥) → (n ≡ 2 → ⊥) → n < 2
    below n m h g = omega arith

pub kind-in : (k : ℕ) → ltb k 1 || ltb last_kind k ≡ false → (1 ≤ k) × (k ≤ last_kind)
kind-in k b = (ltb-false _ _ (or_l (ltb k 1) (ltb last_kind k) b), ltb-false _ _ (or_r (ltb k 1) (ltb last_kind k) b))

pub of-kind : (k row : ℕ) (v : List ℕ) → ltb k 1 || ltb last_kind k ≡ false → length v ≡ length (fields row) → OfKind k row v
of-kind k row v b e = let i = kind-in k b in record { least = i.0; most = i.1; count = e }

-- ---- what is written, refusal by refusal

module _ (s : State) (k row : ℕ) (v : List ℕ) (room : ℕ) where
  pub by-13 : in_range s ≡ false → write_row s k row v room ≡ refusing s (refusal_by 13 0)
  unfolding write_row refusals answer_of
  by-13 e = rw e

  pub by-own : in_range s ≡ true → s.account.stage ≡ 3 → write_row s k row v room ≡ refusing s s.account.refusal
  unfolding write_row refusals answer_of
  by-own r e = rw (r, eq-eqb _ _ e)

  pub by-22 : in_range s ≡ true → (s.account.stage ≡ 3 → ⊥) → eqb s.account.stage 2 || not (eqb s.count 0) ≡ true
      → write_row s k row v room ≡ refusing s (refusal_by 22 s.account.records)
  unfolding write_row refusals answer_of
  by-22 r h e = rw (r, ne_eqb _ _ h, e)

  -- after the state has passed
  module _ (y : Ready s) where
    state-passes : answer_of (refusals s k row v room) ≡ answer_of (
        (ltb k 1 || ltb last_kind k, refusal_by 3 s.account.records)
        ∷ (not (eqb (length v) (length (fields row))), refusal_by 4 s.account.records)
        ∷ (eqb (next s row v).stage 3, (next s row v).refusal)
        ∷ (ltb room (2 + length_of row), refusal_by 16 s.account.records)
        ∷ []
        )
    unfolding refusals answer_of
    state-passes =
        let n3 : s.account.stage ≡ 3 → ⊥ = λ e. omega (arith, y.early) in
        let n2 : s.account.stage ≡ 2 → ⊥ = λ e. omega (arith, y.early) in
        rw (range-test s y.range, ne_eqb _ _ n3, ne_eqb _ _ n2, eq-eqb _ _ y.none)

    pub by-3 : ltb k 1 || ltb last_kind k ≡ true → write_row s k row v room ≡ refusing s (refusal_by 3 s.account.records)
    unfolding write_row answer_of
    by-3 e = rw (state-passes, e)

    pub by_4 : ltb k 1 || ltb last_kind k ≡ false → (length v ≡ length (fields row) → ⊥)
        → write_row s k row v room ≡ refusing s (refusal_by 4 s.account.records)
    unfolding write_row answer_of
    by_4 b h = rw (state-passes, b, ne_eqb _ _ h)

    -- after the kind and the count of values have passed
    module _ (o : OfKind k row v) where
      values-pass : answer_of (refusals s k row v room) ≡ answer_of (
          (eqb (next s row v).stage 3, (next s row v).refusal)
          ∷ (ltb room (2 + length_of row), refusal_by 16 s.account.records)
          ∷ []
          )
      unfolding answer_of
      values-pass = state-passes ∙ rw (le-ltb _ _ o.least, le-ltb _ _ o.most, eq-eqb _ _ o.count)

      -- b is the reader's next account
      module _ (b : Account) (e : b ≡ next s row v) where
        pub by-reader : b.stage ≡ 3 → write_row s k row v room ≡ refusing s b.refusal
        unfolding write_row answer_of
        by-reader h = let g : (next s row v).stage ≡ 3 = rw e at h in rw (values-pass, eq-eqb _ _ g, e)

        module _ (h : b.stage ≡ 3 → ⊥) where
          still : (next s row v).stage ≡ 3 → ⊥
          still = rw e at h

          pub by-16 : room < 2 + length_of row → write_row s k row v room ≡ refusing s (refusal_by 16 s.account.records)
          unfolding write_row answer_of
          by-16 l = rw (values-pass, ne_eqb _ _ still, lt-ltb _ _ l)

          pub wrote : 2 + length_of row ≤ room → write_row s k row v room ≡ writing s row v
          unfolding write_row answer_of
          wrote l = rw (values-pass, ne_eqb _ _ still, le-ltb _ _ l)

          pub wrote_so : (n : ℕ) → n ≡ 2 + length_of row → n ≤ room
              → record { state = holding b []; written = n; answer = Ok tt } ≡ written_of (write_row s k row v room)
          wrote_so n f l = rw (wrote (rw f at l), e, f, record-length row v)

-- ---- what is known where a record is written

-- none of the tests holds
abbrev pub AllFalse : List (Bool × Refusal) → Type 0
AllFalse [] = Unit {0}
AllFalse (t ∷ ts) = (t.0 ≡ false) × AllFalse ts

head-false : (b : Bool) (r : Refusal) (a : Answer) → pick b (Err r) a ≡ Ok tt → (b ≡ false) × (a ≡ Ok tt)
head-false true r a e = let z : ◌≡◌ {A = ℕ} 0 1 = cc in absurd (omega arith)
head-false false r a e = (refl, e)

all-false : (ts : List (Bool × Refusal)) → answer_of ts ≡ Ok tt → AllFalse ts
unfolding answer_of
all-false [] e = tt
all-false (t ∷ ts) e = let h = head-false t.0 t.1 (answer_of ts) e in (h.0, all-false ts h.1)

pub record Written-so (s : State) (k row : ℕ) (v : List ℕ) (room : ℕ) : Type 0 where
  pub ready : Ready s
  pub of : OfKind k row v
  pub still : (next s row v).stage ≡ 3 → ⊥
  pub ranges : first_bad (fields row) v 0 ≡ 0
  pub fits : 2 + length_of row ≤ room
  pub is : write_row s k row v room ≡ writing s row v

module _ (s : State) (k row : ℕ) (v : List ℕ) (room : ℕ) where
  by-wrote : answer_of (refusals s k row v room) ≡ Ok tt → Written-so s k row v room
  unfolding refusals
  by-wrote e =
      let t = all-false (refusals s k row v room) e in
      let y = ready s (not-false _ t.0) (eqb-false _ _ t.1.0) t.1.1.0 in
      let o = of-kind k row v t.1.1.1.0 (eqb-true _ _ (not-false _ t.1.1.1.1.0)) in
      let n = eqb-false _ _ t.1.1.1.1.1.0 in
      let f = ltb-false _ _ t.1.1.1.1.1.1.0 in
      record {
        ready = y;
        of = o;
        still = n;
        ranges = in-ranges s.account row v n;
        fits = f;
        is = wrote s k row v room y o (next s row v) refl n f;
      }

  -- the answer says it
  pub written-so : (write_row s k row v room).answer ≡ Ok tt → Written-so s k row v room
  unfolding write_row
  written-so e = go (answer_of (refusals s k row v room)) refl e
    where
      go : (a : Answer) → answer_of (refusals s k row v room) ≡ a → (by_answer a s row v).answer ≡ Ok tt → Written-so s k row v room
      go (Ok u) f e = by-wrote f
      go (Err r) f e = let z : ◌≡◌ {A = ℕ} 0 1 = cc in absurd (omega arith)

  -- some bytes say it
  pub bytes-so : (length (write_row s k row v room).bytes ≡ 0 → ⊥) → Written-so s k row v room
  unfolding write_row
  bytes-so h = go (answer_of (refusals s k row v room)) refl h
    where
      go : (a : Answer) → answer_of (refusals s k row v room) ≡ a → (length (by_answer a s row v).bytes ≡ 0 → ⊥) → Written-so s k row v room
      go (Ok u) f h = by-wrote f
      go (Err r) f h = absurd (h refl)

-- ---- the buffer

none_of : (l : List ℕ) → length l ≡ 0 → l ≡ []
none_of [] e = refl
none_of (x ∷ l) e = absurd (omega arith)

laid_none : (w : Write) (out : List ℕ) → length w.bytes ≡ 0 → out ≡ record_laid w out
laid_none w out e = rw (none_of w.bytes e)

laid-record : (s : State) (row : ℕ) (v out : List ℕ) → 2 + length_of row ≤ length out → sets out 0 (record_bytes row v)
    ≡ record_laid (writing s row v) out
laid-record s row v out h = rw zero-add at (sets-eq (record_bytes row v) out 0 (rw record-length (omega arith)))

-- the three clauses of write's contract
module _ (s : State) (k row : ℕ) (v out : List ℕ) {f : Written} (e : f ≡ written_of (write_row s k row v (length out))) where
  -- nothing is written
  pub meets-none : f.written ≡ 0
      → (f ≡ written_of (write_row s k row v (length out))) × ((out ≡ record_laid (write_row s k row v (length out)) out) × (f.written ≤ length out))
  meets-none z = (e, (laid_none (write_row s k row v (length out)) out (sym (ap (λ (w : Written). w.written) e) ∙ z), omega arith))

  -- the record is written
  pub meets-wrote : {out' : List ℕ} → Written-so s k row v (length out) → out' ≡ sets out 0 (record_bytes row v)
      → (f ≡ written_of (write_row s k row v (length out))) × ((out' ≡ record_laid (write_row s k row v (length out)) out) × (f.written ≤ length out))
  meets-wrote w p =
      let n : length (writing s row v).bytes ≤ length out = rw record-length w.fits in
      (e, (p ∙ rw w.is (laid-record s row v out w.fits), rw (e, w.is) n))
