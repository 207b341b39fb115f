-- One accepted record: its typed line, typed by a typist whose state is the reader's, writes the same bytes.
-- Assumes nothing.
use Prim.Native.Nat.{ℕ, zero, suc, ◌+◌, ◌-◌, ◌≤◌, ◌<◌}
use native.Mathlib.Omega.{arith}
use mathlib.Core.Path.{◌≡◌, refl, sym, ap, ◌∙◌}
use mathlib.Core.Bool.{Bool, true, false, ◌&&◌}
use mathlib.Core.List.{List, [], ◌∷◌, ◌++◌}
use lib.ListN.{length, take, replicate, length-append}
use lib.Seq.{take_all, take-append-le}
use lib.Dec.{eqb}
use borrow.Author.Tests.{lt-leb, le-ltb, ne_eqb, eqb-true, eqb-false}
use Rattle.codec.specs.Codec.{Bytes}
use Rattle.base.specs.Choice.{pick}
use Rattle.typed_words.specs.Words.{nth_word}
use Rattle.names.specs.Names.{kind_name, value_text}
use Rattle.text_lines.specs.Lines.{has, kept, unmarked, is_marked}
use Rattle.text_lines.proofs.Bytes.{before-all, has-behind}
use Rattle.codec.specs.Table.{table, fields, row_kind, Of, is_kind, last_kind, last_row, record_most}
use Rattle.base.proofs.Tests.{and-false, by-test, not-false}
use Rattle.account.specs.Sorts.{is_of_group}
use Rattle.account.specs.Judge.{WholeRecord, version_of, kind_byte, record_row, values_of, judge}
use Rattle.book.specs.declared.State.{State}
use Rattle.book.specs.State.{holding}
use Rattle.std.specs.Prelude.{Option, None, is_some, Ok}
use Rattle.make_record.specs.Write.{Write, write, Ready}
use Rattle.make_record.proofs.Rows.{kind-again}
use Rattle.account.proofs.Refusals.{judged-passes}
use Rattle.make_record.proofs.RoundTrip.{written-again}
use Rattle.writer.specs.declared.typed_line.Entry.{Entry}
use Rattle.writer.specs.declared.typed_line.Said.TheVariants as said
use Rattle.writer.specs.Line.{row_of_line, values_from, entry, line_said, completed_of, values_in, write_entry}
use Rattle.writer.proofs.TypedLines.{kept as entry_kept}
use Rattle.writer.specs.declared.Typist.{Typist}
use Rattle.writer.specs.declared.Lost.{Lost}
use Rattle.writer.specs.declared.Fate.TheVariants.{Waits, Wrote}
use Rattle.writer.specs.Typist.{not_lost, hears, early, run_ended, waits, written_as, by_write, close_by, withheld, judged_turn}
use Rattle.writer.specs.Typist.{record_turn, turn, own_close, end_by, closing_turn}
use Rattle.writer.proofs.Fates.{is-close, is-judged, not-headless, said-turn}
use Rattle.retype.proofs.Words.{Word, first-is, past_is, none-in-word}
use Rattle.retype.specs.Typed.{values_typed}
use Rattle.retype.specs.Book.{Typable}
use Rattle.retype.proofs.Steps.{typable, typable-of}
use Rattle.retype.proofs.Close.{close-counts}
use Rattle.retype.proofs.Tables.{name-word, name-some, name-short, kind-back, fields-some, fields-few}
use Rattle.retype.proofs.Values.{AllBack, all_back, typed-ends, first-typed, next-typed, no-more-typed, none-in-typed, typed-length}

-- ---- the values read back

-- the words of the line from the one behind field i on are the values vs
values-back : (row : ℕ) (line : List ℕ) (n i : ℕ) (vs : List ℕ) → length vs < n → AllBack row i vs
    → ((j : ℕ) → nth_word (suc (j + i)) line ≡ nth_word j (values_typed row i vs)) → values_from n i row line ≡ record { values = vs; wrong = 0 }
unfolding values_from
values-back row line zero i vs h p w = absurd (omega arith)
values-back row line (suc n) i [] h p w =
    let z : 0 + i ≡ i = omega arith in
    let e : nth_word (suc i) line ≡ [] = rw z at (w 0) ∙ no-more-typed row i in
    rw e
values-back row line (suc n) i (v ∷ vs) h p w =
    let z : 0 + i ≡ i = omega arith in
    let e : nth_word (suc i) line ≡ value_text row i v = rw z at (w 0) ∙ first-typed row i v vs p.0 in
    let some : length (value_text row i v) ≡ 0 → ⊥ = λ q. omega (arith, p.0.some) in
    let next : (j : ℕ) → nth_word (suc (j + suc i)) line ≡ nth_word j (values_typed row (suc i) vs) =
    λ j. let k : j + suc i ≡ suc j + i = omega arith in rw k (w (suc j) ∙ next-typed row i v vs j p.0) in
    rw (e, ne_eqb _ _ some, p.0.back, values-back row line n (suc i) vs (omega arith) p.1 next)

-- ---- the row of a line

abbrev Line : ℕ → List ℕ → List ℕ → Type 0
Line k v line =
    AllBack k 0 v → length v ≡ length (fields k) → nth_word 4 line ≡ nth_word 3 (values_typed k 0 v) → nth_word 5 line
    ≡ nth_word 4 (values_typed k 0 v)
    → row_of_line (row_kind k) line ≡ k

-- three values are no four words
three-words : (row : ℕ) (v : List ℕ) → AllBack row 0 v → length v ≡ 3 → nth_word 3 (values_typed row 0 v) ≡ []
three-words row [] p e = absurd (omega arith)
three-words row (a ∷ []) p e = absurd (omega arith)
three-words row (a ∷ b ∷ []) p e = absurd (omega arith)
three-words row (a ∷ b ∷ c ∷ []) p e =
    next-typed row 0 a _ 2 p.0 ∙ next-typed row 1 b _ 1 p.1.0 ∙ next-typed row 2 c _ 0 p.1.1.0 ∙ no-more-typed row 3
three-words row (a ∷ b ∷ c ∷ d ∷ v) p e = absurd (omega arith)

-- four are
four-words : (row : ℕ) (v : List ℕ) → AllBack row 0 v → length v ≡ 4
    → (0 < length (nth_word 3 (values_typed row 0 v))) × (nth_word 4 (values_typed row 0 v) ≡ [])
four-words row [] p e = absurd (omega arith)
four-words row (a ∷ []) p e = absurd (omega arith)
four-words row (a ∷ b ∷ []) p e = absurd (omega arith)
four-words row (a ∷ b ∷ c ∷ []) p e = absurd (omega arith)
four-words row (a ∷ b ∷ c ∷ d ∷ []) p e =
    let fourth = p.1.1.1.0 in
    let third : (j : ℕ) → nth_word (suc (suc (suc j))) (values_typed row 0 (a ∷ b ∷ c ∷ d ∷ [])) ≡ nth_word j (values_typed row 3 (d ∷ [])) =
    λ j. next-typed row 0 a _ (suc (suc j)) p.0 ∙ next-typed row 1 b _ (suc j) p.1.0 ∙ next-typed row 2 c _ j p.1.1.0 in (
      rw (third 0 ∙ first-typed row 3 d [] fourth) fourth.some,
      third 1 ∙ next-typed row 3 d [] 0 fourth ∙ no-more-typed row 4,
    )
four-words row (a ∷ b ∷ c ∷ d ∷ e ∷ v) p q = absurd (omega arith)

by-set : (v line : List ℕ) → Line 1 v line
unfolding row_of_line table
by-set v line p n e f = rw (e, three-words 1 v p n) refl

by-factors : (v line : List ℕ) → Line last_row v line
unfolding row_of_line table
by-factors v line p n e f =
    let w = four-words last_row v p n in
    let some : length (nth_word 3 (values_typed last_row 0 v)) ≡ 0 → ⊥ = λ q. omega (arith, w.0, q) in
    rw (e, f, ne_eqb _ _ some, w.1) refl

-- the words of a record's line have its row
row_typed : (k : ℕ) (v line : List ℕ) → 1 ≤ k → k ≤ last_row → Line k v line
unfolding row_of_line
row_typed k v line least most =
    by-test (eqb k 1) (λ e. rw (eqb-true k 1 e) (by-set v line))
    (λ e. by-test (eqb k last_row) (λ f. rw (eqb-true k last_row f) (by-factors v line))
    (λ f b n p q. let o = eqb-false k last_row f in rw (f, le-ltb last_kind k (omega arith), e)))

-- ---- the line of a row and its values

-- the line without its line feed
abbrev pub typed_line : ℕ → List ℕ → List ℕ
typed_line k v = kind_name k ++ values_typed k 0 v

module _ (k : ℕ) (v : List ℕ) (least : 1 ≤ k) (most : k ≤ last_row) (count : length v ≡ length (fields k)) (all : AllBack k 0 v) where
  pub short : length (typed_line k v) ≤ 259
  short =
      omega (arith, length-append (kind_name k) (values_typed k 0 v), name-short k least most, typed-length k 0 v all, fields-few k least most)

  name-first : nth_word 0 (typed_line k v) ≡ kind_name k
  unfolding nth_word
  name-first = first-is (kind_name k) (values_typed k 0 v) (name-word k least most) (name-some k least most) (typed-ends k 0 v)

  words-behind : (j : ℕ) → nth_word (suc j) (typed_line k v) ≡ nth_word j (values_typed k 0 v)
  unfolding nth_word
  words-behind j =
      ap (nth_word j) (past_is (kind_name k) (values_typed k 0 v) (name-word k least most) (name-some k least most) (typed-ends k 0 v))

  values-are : values_from 512 0 k (typed_line k v) ≡ record { values = v; wrong = 0 }
  values-are =
      values-back k (typed_line k v) 512 0 v (omega (arith, fields-few k least most)) all
      (λ j. let z : j + 0 ≡ j = omega arith in rw z (words-behind j))

  -- what the line says
  pub says : line_said (typed_line k v) ≡ record { said = said.Record; entry = entry (row_kind k) v }
  unfolding line_said
  says =
      let n : length (kind_name k) ≡ 0 → ⊥ = λ q. omega (arith, name-some k least most) in
      let few : length (typed_line k v) < 1024 = omega (arith, short) in
      rw (
        lt-leb 1024 (length (typed_line k v)) few,
        name-first,
        ne_eqb _ _ n,
        kind-back k least most,
        row_typed k v (typed_line k v) least most all count (words-behind 3) (words-behind 4),
        values-are,
      )

  -- nothing of it is a comment or a byte order mark, or too long
  no_byte : (b : ℕ) → b < 45 → (b ≡ 32 → ⊥) → has b (typed_line k v) ≡ false
  no_byte b h n =
      has-behind b (kind_name k) (values_typed k 0 v) (none-in-word b h (kind_name k) (name-word k least most)) ∙ none-in-typed b h n k 0 v all

  pub no-line-feed : has 10 (typed_line k v) ≡ false
  no-line-feed = no_byte 10 (omega arith) (λ e. omega arith)

  pub kept_whole : kept (typed_line k v) ≡ typed_line k v
  kept_whole =
      rw (before-all 35 (typed_line k v) (no_byte 35 (omega arith) (λ e. omega arith)))
      (take_all 1027 (typed_line k v) (omega (arith, short)))

  pub no-mark : (n : ℕ) → unmarked n (typed_line k v) ≡ typed_line k v
  unfolding unmarked
  no-mark n = rw (not-marked (kind_name k) (values_typed k 0 v) (name-word k least most) (name-some k least most), and-false (eqb n 1))
    where
      not-marked : (w s : List ℕ) → Word w → 0 < length w → is_marked (w ++ s) ≡ false
      not-marked [] s p h = absurd (omega arith)
      not-marked (b ∷ w) s p h = let e : b ≡ 239 → ⊥ = λ q. omega (arith, p.0.1) in rw (ne_eqb b 239 e)

  -- the values of the entry, and its own count
  entry-values : (j : ℕ) → values_in (entry j v) ≡ v
  entry-values j =
      let t : take 13 v ≡ v = take_all 13 v (omega (arith, fields-few k least most)) in
      rw t (take-append-le (length v) v (replicate (13 - length v) 0) (omega arith) ∙ take_all (length v) v (omega arith))

  own-count : (j records : ℕ) → completed_of (entry j v) records ≡ entry j v
  own-count j records =
      let n : length v ≡ 0 → ⊥ = λ q. omega (arith, fields-some k least most) in
      sym (entry_kept (entry j v) records (rw (ne_eqb _ _ n) (and-false (eqb j 8))))

  pub written : (j : ℕ) (s : State) (room : ℕ) → write_entry s (entry j v) room ≡ write s j v room
  written j s room = rw (own-count j s.account.records, entry-values j)

-- ---- a typist to whom nothing has happened

-- no line failed, no heading is lost, no close waits, no run is open, and nothing was told
pub record Clean (t : Typist) : Type 0 where
  pub lost : t.lost ≡ None
  pub failed : t.failed ≡ None
  pub close : t.waiting.close ≡ None
  pub run : t.waiting.run ≡ None
  pub told : t.counts.told ≡ 0

pub clean-on : (t : Typist) → Clean t → (k : ℕ) (e : Entry) (s : State) → Clean (written_as (hears t k) e s)
clean-on t c k e s =
    record { lost = still (eqb e.kind 2) t.lost c.lost; failed = c.failed; close = c.close; run = c.run; told = c.told }
  where
    still : (b : Bool) (l : Option Lost) → l ≡ None → pick b not_lost l ≡ None
    still true l z = refl
    still false l z = z

-- no close is too early, and no run has to end
none-early : (t : Typist) → t.waiting.close ≡ None → early t ≡ t
unfolding early
none-early t z = rw z refl

pub no_run : (t : Typist) → t.waiting.run ≡ None → run_ended t ≡ t
unfolding run_ended
no_run t z = rw z refl

nothing-failed : (a b c : Bool) → c ≡ false → (a && (b && c)) ≡ false
nothing-failed true true c e = e
nothing-failed true false c e = refl
nothing-failed false b c e = refl

nothing-lost : (a c : Bool) → c ≡ false → (a && c) ≡ false
nothing-lost true c e = e
nothing-lost false c e = refl

-- an entry of a clean typist is judged
module _ (t : Typist) (c : Clean t) (n : ℕ) (e : Entry) (room : ℕ) where
  abbrev hearing : Typist
  hearing = hears t e.kind

  is-judging : record_turn (early hearing) n e room ≡ judged_turn hearing n e room
  is-judging =
      ap (λ (x : Typist). record_turn x n e room) (none-early hearing c.close)
      ∙ sym (not-headless hearing n e room (nothing-lost (is_of_group e.kind) (is_some t.lost) (ap is_some c.lost)))
      ∙ ap (λ (x : Typist). judged_turn x n e room) (no_run hearing c.run)

  not-withheld : withheld hearing e ≡ false
  not-withheld = nothing-failed (eqb e.kind 8) (eqb t.state.account.stage 1) (is_some t.failed) (ap is_some c.failed)

  -- it goes to the writer, and a close waits where the writer would write it
  pub goes_on : eqb e.kind 8 ≡ false → record_turn (early hearing) n e room ≡ by_write hearing n e (write_entry t.state e room)
  goes_on k = is-judging ∙ sym (is-judged hearing n e room not-withheld k)

  pub goes-waiting : e.kind ≡ 8 → record_turn (early hearing) n e room ≡ close_by (write_entry t.state e record_most).answer hearing n e
  goes-waiting k = is-judging ∙ sym (is-close hearing n e room not-withheld k)

-- the close at the end of the text counts the records before it
own-close : (s : State) (room : ℕ) → write_entry s own_close room ≡ write s 8 (s.account.records ∷ []) room
unfolding completed_of
own-close s room = refl

-- ---- one record

module _ (s : State) (y : Ready s) (r : List ℕ) (w : WholeRecord r) (b : Bytes r) (h : (judge s.account r).account.stage ≡ 3 → ⊥) where
  -- the state after it
  abbrev next : State
  next = holding (judge s.account r).account []

  again : write s (kind_byte r) (values_of r) record_most ≡ record { state = next; bytes = r; answer = Ok tt }
  again = written-again s r record_most y b w h (omega (arith, w.long, w.high))

  kinds : is_kind (kind_byte r) ≡ true
  kinds = not-false _ (judged-passes s.account r h).kind

  typed : Typable r
  typed = typable s.account r w h

  of : Of (record_row r) (values_of r)
  of = typable-of r typed

  all : AllBack (record_row r) 0 (values_of r)
  all = all_back (record_row r) (values_of r) of typed.ranges

  -- the entry that its line says
  abbrev said' : Entry
  said' = entry (kind_byte r) (values_of r)

  line-says : line_said (typed_line (record_row r) (values_of r)) ≡ record { said = said.Record; entry = said' }
  line-says =
      let own : row_kind (record_row r) ≡ kind_byte r = sym (kind-again (version_of r) (kind_byte r) kinds) in
      says (record_row r) (values_of r) of.least of.most of.count all
      ∙ ap (λ (j : ℕ). record { said = said.Record; entry = entry j (values_of r) }) own

  -- its line is kept whole, and has no line feed in it
  pub line-whole : (n : ℕ) → unmarked n (kept (typed_line (record_row r) (values_of r))) ≡ typed_line (record_row r) (values_of r)
  line-whole n =
      rw (kept_whole (record_row r) (values_of r) of.least of.most of.count all)
      (no-mark (record_row r) (values_of r) of.least of.most of.count all n)

  pub line-one : has 10 (typed_line (record_row r) (values_of r)) ≡ false
  line-one = no-line-feed (record_row r) (values_of r) of.least of.most of.count all

  module _ (t : Typist) (e : t.state ≡ s) where
    answered : write_entry t.state said' record_most ≡ record { state = next; bytes = r; answer = Ok tt }
    answered =
        ap (λ (x : State). write_entry x said' record_most) e
        ∙ written (record_row r) (values_of r) of.least of.most of.count all (kind_byte r) s record_most ∙ again

    -- the law of one record: its line, typed in any line n by a clean typist with the reader's state, is written, and is the same bytes
    pub record-again : Clean t → (n : ℕ) → eqb (kind_byte r) 8 ≡ false
        → turn t n (typed_line (record_row r) (values_of r)) record_most
        ≡ record { typist = written_as (hears t (kind_byte r)) said' next; fate = Wrote (kind_byte r); bytes = r }
    record-again c n k =
        sym (said-turn t n (typed_line (record_row r) (values_of r)) record_most (sym line-says))
        ∙ goes_on t c n said' record_most k ∙ ap (by_write (hears t (kind_byte r)) n said') answered

    -- a close waits
    pub close-again : Clean t → (n : ℕ) → kind_byte r ≡ 8
        → turn t n (typed_line (record_row r) (values_of r)) record_most
        ≡ record { typist = waits (hears t (kind_byte r)) n; fate = Waits; bytes = [] }
    close-again c n k =
        sym (said-turn t n (typed_line (record_row r) (values_of r)) record_most (sym line-says))
        ∙ goes-waiting t c n said' record_most k ∙ ap (λ (x : Write). close_by x.answer (hears t (kind_byte r)) n said') answered

    -- and at the end of the text it is written, the same bytes
    pub closed-again : kind_byte r ≡ 8 → closing_turn t record_most ≡ record { typist = written_as t own_close next; fate = Wrote 8; bytes = r }
    closed-again k =
        let counts = close-counts s.account r h k in
        let answer : write_entry t.state own_close record_most ≡ record { state = next; bytes = r; answer = Ok tt } =
        ap (λ (x : State). write_entry x own_close record_most) e ∙ own-close s record_most
        ∙ ap (λ (j : ℕ). write s j (s.account.records ∷ []) record_most) (sym k)
        ∙ ap (λ (v : List ℕ). write s (kind_byte r) v record_most) (sym counts) ∙ again in
        ap (λ (x : Write). end_by x.answer t x.state x.bytes) answer
