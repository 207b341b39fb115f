-- Laws of a typed line, by the parts that the code reads one after the other.
-- Assumes nothing.
use Prim.Native.Nat.{ℕ, suc, ◌+◌, ◌-◌, ◌≤◌, ◌<◌}
use mathlib.Core.Path.{◌≡◌, refl, sym, ap, ◌∙◌}
use mathlib.Core.List.{List, [], ◌∷◌, ◌++◌, append-nil}
use mathlib.Core.Bool.{Bool, true, false, ◌&&◌, not}
use native.Mathlib.Omega.{arith}
use native.Mathlib.Numerals.{add-one}
use mathlib.Core.Logic.{⊎_elim}
use borrow.Author.Tests.{eq-eqb, ne_eqb, lt-ltb, le-ltb, lt-leb, le-leb}
use lib.ListN.{length, set, replicate, length-append}
use lib.Seq.{take_all, take-append-le, set_at, append_snoc}
use lib.Dec.{eqb, ltb}
use Rattle.base.specs.Choice.{pick}
use Rattle.base.proofs.Tests.{lt-or-ge}
use Rattle.codec.specs.Table.{last_kind, last_row}
use Rattle.std.specs.Prelude.{Option, Some, None}
use Rattle.std.specs.Option.{option_or}
use Rattle.typed_words.specs.Words.{nth_word, same_text_lem}
use Rattle.typed_words.specs.Amounts.{amount_of}
use Rattle.names.specs.Names.{kind_name, chosen, decimals_at}
use Rattle.book.specs.declared.State.{State}
use Rattle.make_record.specs.declared.Written.{Written}
use Rattle.make_record.specs.Write.{write, written_of, record_laid}
use Rattle.writer.specs.declared.typed_line.Values.{Values}
use Rattle.writer.specs.declared.typed_line.Entry.{Entry}
use Rattle.writer.specs.declared.typed_line.Said.TheVariants.{Nothing, Record, Wrong}
use Rattle.writer.specs.Line.{named_from, kind_of, row_of_line, Read, nothing_more, wrong_at, with, value_at, values_from, padded, listed, entry}
use Rattle.writer.specs.Line.{has_field, no_record, by_kind, line_said, completed_of, values_in, write_entry}

-- ---- a word among the names of the kinds

module _ (w : List ℕ) (k : ℕ) (h : k < last_kind) {b : Bool} (f : b ≡ same_text_lem w (kind_name (k + 1))) where
  more : last_kind - k ≡ suc (last_kind - suc k)
  more = omega arith

  test : b ≡ same_text_lem w (kind_name (suc k))
  test = rw add-one at f

  pub named_here : b ≡ true → named_from (last_kind - k) k w ≡ Some (k + 1)
  unfolding named_from
  named_here t = rw (more, ← test, t, add-one)

  pub named-on : b ≡ false → named_from (last_kind - k) k w ≡ named_from (last_kind - (k + 1)) (k + 1) w
  unfolding named_from
  named-on t = rw (more, ← test, t, add-one)

pub named_none : (w : List ℕ) (k : ℕ) → last_kind ≤ k → named_from (last_kind - k) k w ≡ None
unfolding named_from
named_none w k h = let z : last_kind - k ≡ 0 = omega arith in rw z

-- ---- the row of a line

module _ (kind : ℕ) (line : List ℕ) where
  pub no_row : last_kind < kind → 0 ≡ row_of_line kind line
  unfolding row_of_line
  no_row h = rw (lt-ltb _ _ h)

  -- w and x are its fourth and its fifth word behind the kind
  module _ (h : kind ≤ last_kind) {w x : List ℕ} (e : w ≡ nth_word 4 line) (f : x ≡ nth_word 5 line) where
    pub row-second : eqb kind 1 && (not (eqb (length w) 0) && eqb (length x) 0) ≡ true → last_row ≡ row_of_line kind line
    unfolding row_of_line
    row-second t = rw (le-ltb _ _ h, ← e, ← f, t)

    pub row-kind : eqb kind 1 && (not (eqb (length w) 0) && eqb (length x) 0) ≡ false → kind ≡ row_of_line kind line
    unfolding row_of_line
    row-kind t = rw (le-ltb _ _ h, ← e, ← f, t)

-- ---- a value

module _ (row i : ℕ) (w : List ℕ) where
  pub not-read : has_field row i ≡ false → Some 0 ≡ value_at row i w
  unfolding value_at
  not-read f = rw f refl

  module _ (has : has_field row i ≡ true) {x : Option ℕ} (n : x ≡ amount_of (decimals_at row i) w) where
    pub read-value : {y : Option ℕ} → y ≡ option_or x (chosen row i w) → y ≡ value_at row i w
    unfolding value_at
    read-value f = rw (f, has, ← n)

-- ---- the values, one after the other

-- some values, and then what r reads
abbrev pub then : List ℕ → Read → Read
then vs r = record { values = vs ++ r.values; wrong = r.wrong }

-- the value v at a place of the 13; behind them there is none
abbrev stored_of : List ℕ → ℕ → ℕ → List ℕ
stored_of values at v = pick (ltb at 13) (set values at v) values

-- one value more, in its place or behind them all
one_more : (vs : List ℕ) (v : ℕ) → stored_of (padded vs) (length vs) v ≡ padded (vs ++ (v ∷ []))
one_more vs v = ⊎_elim inside behind (lt-or-ge (length vs) 13)
  where
    more : length (vs ++ (v ∷ [])) ≡ length vs + 1
    more = length-append vs (v ∷ [])

    inside : length vs < 13 → stored_of (padded vs) (length vs) v ≡ padded (vs ++ (v ∷ []))
    inside h =
        let k : 13 - length vs ≡ suc (13 - (length vs + 1)) = omega arith in
        rw (
          lt-ltb _ _ h,
          more,
          take_all 13 (vs ++ (v ∷ [])) (omega (arith, more)),
          take_all 13 vs (omega arith),
          k,
          set_at vs 0 (replicate (13 - (length vs + 1)) 0) v (length vs) refl,
          append_snoc,
        )

    behind : 13 ≤ length vs → stored_of (padded vs) (length vs) v ≡ padded (vs ++ (v ∷ []))
    behind h =
        let k : 13 - length vs ≡ 0 = omega arith in
        let k2 : 13 - (length vs + 1) ≡ 0 = omega arith in
        rw (le-ltb _ _ h, more, take-append-le 13 vs (v ∷ []) h, k, k2)

-- what a loop over the words has read: n values
pub record Reading (line : List ℕ) (kind : ℕ) (values : List ℕ) (n : ℕ) : Type 0 where
  pub so_far : List ℕ
  pub long : length so_far ≡ n
  pub most : n ≤ 512
  pub is : values ≡ padded so_far
  pub rest : then so_far (values_from (512 - n) n kind line) ≡ values_from 512 0 kind line

pub reading-none : (line : List ℕ) (kind : ℕ) → Reading line kind (replicate 13 0) 0
reading-none line kind = record { so_far = []; long = refl; most = omega arith; is = refl; rest = refl }

module _ {line : List ℕ} {kind : ℕ} {values : List ℕ} {n : ℕ} (r : Reading line kind values n) where
  -- nothing more is read
  read_up : (wrong : ℕ) → values_from (512 - n) n kind line ≡ wrong_at wrong
      → record { values = values; count = n; wrong = wrong } ≡ listed (values_from 512 0 kind line)
  read_up wrong e =
      let all : record { values = r.so_far; wrong = wrong } ≡ values_from 512 0 kind line = rw (e, append-nil) at r.rest in
      rw (← all, r.is, r.long)

  -- there are no more
  no_more : 512 ≤ n → values_from (512 - n) n kind line ≡ nothing_more
  unfolding values_from
  no_more h = let z : 512 - n ≡ 0 = omega arith in rw z

  pub read_all : 512 ≤ n → record { values = values; count = 512; wrong = 0 } ≡ listed (values_from 512 0 kind line)
  read_all h = let e : n ≡ 512 = omega (arith, r.most) in rw e at (read_up 0 (no_more h))

  -- w is the next word
  module _ (h : n < 512) {w : List ℕ} (e : w ≡ nth_word (n + 1) line) where
    more-values : 512 - n ≡ suc (512 - (n + 1))
    more-values = omega arith

    word-is : nth_word (suc n) line ≡ w
    word-is = rw (← add-one n) (sym e)

    -- there is none
    no_word : length w ≡ 0 → values_from (512 - n) n kind line ≡ nothing_more
    unfolding values_from
    no_word z = rw (more-values, word-is, eq-eqb _ _ z)

    pub read-end : length w ≡ 0 → record { values = values; count = n; wrong = 0 } ≡ listed (values_from 512 0 kind line)
    read-end z = read_up 0 (no_word z)

    -- x is what it reads as
    module _ (some : length w ≡ 0 → ⊥) {x : Option ℕ} (f : x ≡ value_at kind n w) where
      -- it is no number
      no_number : x ≡ None → values_from (512 - n) n kind line ≡ wrong_at (n + 2)
      unfolding values_from
      no_number b = let k : n + 2 ≡ suc (suc n) = omega arith in rw (k, more-values, word-is, ← f, ne_eqb _ _ some, b)

      pub read-wrong : x ≡ None → record { values = values; count = n; wrong = n + 2 } ≡ listed (values_from 512 0 kind line)
      read-wrong b = read_up (n + 2) (no_number b)

      -- it is one
      a-number : {v : ℕ} → x ≡ Some v → values_from (512 - n) n kind line ≡ with v (values_from (512 - (n + 1)) (n + 1) kind line)
      unfolding values_from
      a-number b = rw (more-values, word-is, ← f, ne_eqb _ _ some, b, add-one)

      read_one : {values' : List ℕ} {v : ℕ} → x ≡ Some v → values' ≡ stored_of values n v → Reading line kind values' (n + 1)
      read_one {v = v} b g =
          record {
            so_far = r.so_far ++ (v ∷ []);
            long = omega (arith, length-append r.so_far (v ∷ []), r.long);
            most = omega arith;
            is = g ∙ rw (r.is, ← r.long) (one_more r.so_far v);
            rest = rw append_snoc (rw (a-number b) at r.rest);
          }

      -- the value has a place, or none
      pub read-in : {v : ℕ} → x ≡ Some v → n < 13 → {values' : List ℕ} → values' ≡ set values n v → Reading line kind values' (n + 1)
      read-in b l g = read_one b (g ∙ rw (lt-ltb _ _ l))

      pub read_past : {v : ℕ} → x ≡ Some v → 13 ≤ n → {values' : List ℕ} → values' ≡ values → Reading line kind values' (n + 1)
      read_past b l g = read_one b (g ∙ rw (le-ltb _ _ l))

-- ---- the line

module _ (text : List ℕ) where
  pub too_long : 1024 ≤ length text → no_record (Wrong 0 0) ≡ line_said text
  unfolding line_said
  too_long h = rw (le-leb _ _ h)

  -- w is its first word
  module _ (short : length text < 1024) {w : List ℕ} (e : w ≡ nth_word 0 text) where
    pub says_nothing : length w ≡ 0 → no_record Nothing ≡ line_said text
    unfolding line_said
    says_nothing z = sym (rw (lt-leb _ _ short, ← e, eq-eqb _ _ z))

    module _ (some : length w ≡ 0 → ⊥) {kind : Option ℕ} (k : kind ≡ kind_of w) where
      by-kind : line_said text ≡ by_kind kind text
      unfolding line_said
      by-kind = rw (lt-leb _ _ short, ← e, ne_eqb _ _ some, ← k)

      pub wrong-kind : kind ≡ None → no_record (Wrong 0 1) ≡ line_said text
      wrong-kind b = sym (by-kind ∙ rw b)

      module _ {number : ℕ} (good : kind ≡ Some number) {v : Values} {row : ℕ} (l : row ≡ row_of_line number text)
          (f : v ≡ listed (values_from 512 0 row text)) where
        read-so : v ≡ listed (values_from 512 0 (row_of_line number text) text)
        read-so = rw l at f

        wrong-is : v.wrong ≡ (values_from 512 0 (row_of_line number text) text).wrong
        wrong-is = ap (λ (x : Values). x.wrong) read-so

        pub wrong-value : (v.wrong ≡ 0 → ⊥) → no_record (Wrong number v.wrong) ≡ line_said text
        wrong-value n = sym (by-kind ∙ rw (good, ← wrong-is, ne_eqb _ _ n))

        pub says-record : v.wrong ≡ 0
            → record { said = Record; entry = record { kind = number; values = v.values; count = v.count } } ≡ line_said text
        says-record z = sym (by-kind ∙ rw (good, ← wrong-is, eq-eqb _ _ z, read-so))

-- ---- an entry, completed and written

module _ (e : Entry) (records : ℕ) where
  pub filled : eqb e.kind 8 && eqb e.count 0 ≡ true → entry 8 (records ∷ []) ≡ completed_of e records
  unfolding completed_of
  filled t = rw t

  pub kept : eqb e.kind 8 && eqb e.count 0 ≡ false → e ≡ completed_of e records
  unfolding completed_of
  kept t = rw t

-- d is the entry completed, vs its values: the three clauses of the contract
pub entry-written : (s : State) (e d : Entry) (vs out : List ℕ) → d ≡ completed_of e s.account.records → vs ≡ values_in d
    → {f : Written} {out' : List ℕ}
    → (f ≡ written_of (write s d.kind vs (length out))) × ((out' ≡ record_laid (write s d.kind vs (length out)) out) × (f.written ≤ length out))
    → (f ≡ written_of (write_entry s e (length out))) × ((out' ≡ record_laid (write_entry s e (length out)) out) × (f.written ≤ length out))
entry-written s e d vs out p q h = rw (q, p) at h
