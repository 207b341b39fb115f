-- The law closed-means-all (specs/Closed.antt).
-- Assumes nothing.
use Prim.Native.Nat.{ℕ, suc, ◌≤◌, ◌<◌}
use native.Mathlib.Numerals.{add-one}
use native.Mathlib.Omega.{arith}
use mathlib.Core.Path.{◌≡◌, refl, sym, ap, ◌∙◌, subst}
use mathlib.Core.List.{List, [], ◌∷◌, ◌++◌, append_assoc, append-nil}
use mathlib.Core.Bool.{Bool, true, false, ◌&&◌, true≢false}
use mathlib.Core.Logic.{◌⊎◌, inl, inr, ⊎_elim}
use borrow.Author.Tests.{eq-eqb, eqb-true, eqb-false, not-true, not-false}
use lib.ListN.{length, get_or}
use lib.Dec.{eqb}
use Rattle.base.specs.Choice.{pick, one_more_lem}
use Rattle.base.proofs.Tests.{of-choice}
use Rattle.codec.specs.Table.{table, record_most}
use Rattle.account.specs.declared.Account.{Account}
use Rattle.account.specs.Judge.{Step, in_place_lem, accepted, weigh}
use Rattle.account.specs.Sorts.{sort_of}
use Rattle.account.proofs.Sorts.{by-sort, closes-eight}
use Rattle.account.proofs.Refusals.{passed, weighed-none, weighed-passes}
use Rattle.book.specs.declared.State.{State}
use Rattle.book.specs.State.{no_record_yet}
use Rattle.make_record.specs.Write.{Answer}
use Rattle.make_record.specs.Write as writer
use Rattle.make_record.proofs.Answers.{Written-so, written-so}
use Rattle.text_lines.specs.Lines.{most, first_cut}
use Rattle.text_lines.specs.Parts.{Numbered, numbered, together}
use Rattle.std.specs.Prelude.{Ok, Err}
use Rattle.writer.specs.declared.typed_line.Entry.{Entry}
use Rattle.writer.specs.declared.typed_line.Said.{Said}
use Rattle.writer.specs.declared.typed_line.Said.TheVariants as said
use Rattle.writer.specs.Line.{line_said, completed_of, values_in, write_entry}
use Rattle.writer.specs.declared.Typist.{Typist}
use Rattle.std.specs.Prelude.{Option, None, Some, is_some}
use Rattle.writer.specs.declared.Run.{Run}
use Rattle.writer.proofs.Remembered.{no_some, none_of, some_of, some_not, line-is}
use Rattle.writer.specs.Typist.{first_failed, beginning, hears, early_by, early, ended_by, run_ended, withheld, headless, Turn, by_answer, by_write}
use Rattle.writer.specs.Typist.{close_by}
use Rattle.writer.specs.Typist.{judged_turn, record_turn, by_said, turn, own_close, end_by, end_turn}
use Rattle.writer.specs.Text.{text_lines, line_turn, typed_by, bytes_typed}
use Rattle.writer.specs.Parts.{Output, output, whole, calls_over, with_end}
use Rattle.writer.specs.Headings.{Mark, none, text_of}
use Rattle.writer.specs.Closed.{record_of, record_said, says_then, records_said, IsRead, EachRead}
use Rattle.writer.proofs.HeadingTyped.{Kept, completed-kind, ended-state, line-keeps, kept-first, one_more}
use Rattle.writer.proofs.InParts.{whole-in-parts, bytes-typed, typist-typed}

-- ---- a record that is written

-- any record but a close leaves the book open
stage-after : (a : Account) (k : ℕ) (v : List ℕ) → ((weigh a k v).account.stage ≡ 3 → ⊥) → (k ≡ 8 → ⊥) → a.stage < 2
    → (weigh a k v).account.stage < 2
unfolding weigh accepted
stage-after a k v h n early =
    rw (weighed-none a k v h)
    (by-sort (λ (s : Step). s.account.stage < 2) (sort_of k) (λ _. omega arith) (λ _. early) (λ _. early) (λ _. early)
    (λ e. absurd (n (closes-eight k e))))

-- and is one more
records-after : (a : Account) (k : ℕ) (v : List ℕ) → ((weigh a k v).account.stage ≡ 3 → ⊥) → (weigh a k v).account.records ≡ suc a.records
unfolding weigh accepted
records-after a k v h =
    rw (weighed-none a k v h)
    (by-sort (λ (s : Step). s.account.records ≡ suc a.records) (sort_of k) (λ _. add-one a.records) (λ _. add-one a.records)
    (λ _. add-one a.records) (λ _. add-one a.records) (λ _. add-one a.records))

-- a close that is accepted counts the records before it, and the book is open
module _ (s : State) (v : List ℕ) (room : ℕ) (so : Written-so s 8 8 v room) where
  right-count : v ≡ s.account.records ∷ []
  unfolding table
  right-count =
      let test = (weighed-passes s.account 8 v so.still).count in
      only v so.of.count (eqb-true _ _ (not-false _ test))
    where
      only : (v : List ℕ) → length v ≡ 1 → get_or v 0 0 ≡ s.account.records → v ≡ s.account.records ∷ []
      only [] l e = absurd (omega arith)
      only (x ∷ []) l e = ap (λ (y : ℕ). y ∷ []) e
      only (x ∷ y ∷ v) l e = absurd (omega arith)

  is_open : s.account.stage ≡ 1
  unfolding in_place_lem sort_of
  is_open =
      let place = (passed s.account 8 v (weighed-passes s.account 8 v so.still)).place in
      let some = eqb-false s.account.records 0 (not-true _ place) in
      one s.account.stage so.ready.early (λ z. some (so.ready.range.account.started.counted.in-zero z))
    where
      one : (n : ℕ) → n < 2 → (n ≡ 0 → ⊥) → n ≡ 1
      one n l z = omega arith

-- the close that the writer makes by itself says the same
close-said : (d : Entry) (r : ℕ) → d.kind ≡ 8 → values_in d ≡ r ∷ [] → record_of d ≡ record_said r own_close
unfolding completed_of
close-said d r k v = rw (k, v) refl

-- ---- what a line with a record does where nothing failed

-- it is written, as its values say
pub record Went (t : Typist) (e : Entry) (x : Turn) : Type 0 where
  pub bytes : x.bytes ≡ record_said t.state.account.records e
  pub records : x.typist.state.account.records ≡ suc t.state.account.records
  pub close : x.typist.waiting.close ≡ None

-- or it is a close, and waits
pub record Waited (t : Typist) (e : Entry) (x : Turn) : Type 0 where
  pub bytes : x.bytes ≡ []
  pub state : x.typist.state ≡ t.state
  pub close : x.typist.waiting.close ≡ None → ⊥
  pub own : record_said t.state.account.records e ≡ record_said t.state.account.records own_close

pub record After (t : Typist) (e : Entry) (x : Turn) : Type 0 where
  pub stage : x.typist.state.account.stage < 2
  pub calm : (x.typist.waiting.close ≡ None → ⊥) → x.typist.failed ≡ None
  pub good : x.typist.failed ≡ None → ((t.failed ≡ None) × (t.waiting.close ≡ None)) × (Went t e x ⊎ Waited t e x)

-- the typist v by which a line is judged, t being the one before it
pub record Settled (t v : Typist) : Type 0 where
  pub state : v.state ≡ t.state
  pub close : v.waiting.close ≡ None
  pub failed : v.failed ≡ None → (t.failed ≡ None) × (t.waiting.close ≡ None)

first-not : (f : Option ℕ) (n : ℕ) → 1 ≤ n → first_failed f n ≡ None → ⊥
first-not None n l z = no_some (sym (line-is n l) ∙ z)
first-not (Some first) n l z = no_some z

settled-early : (t : Typist) (k : ℕ) → Settled t (early (hears t k))
unfolding early
settled-early t k = go t.waiting.close refl
  where
    go : (o : Option ℕ) → t.waiting.close ≡ o → Settled t (early_by o (hears t k))
    go None z = record { state = refl; close = z; failed = λ f. (f, z) }
    go (Some close) z = record { state = refl; close = refl; failed = λ e. absurd (no_some e) }

settled-ended : (t u : Typist) → Settled t u → Settled t (run_ended u)
unfolding run_ended
settled-ended t u s = go u.waiting.run
  where
    go : (o : Option Run) → Settled t (ended_by o u)
    go None = s
    go (Some run) = record { state = s.state; close = s.close; failed = s.failed }

all_three : (a b c : Bool) → a ≡ true → b ≡ true → a && (b && c) ≡ false → c ≡ false
all_three true true c p q r = r
all_three true false c p q r = absurd (true≢false (sym q))
all_three false b c p q r = absurd (true≢false (sym p))

module _ (m : Mark) (h : List ℕ) (t v : Typist) (kept : Kept m h t) (open-yet : t.state.account.stage < 2) (set : Settled t v) (e : Entry)
    (n : ℕ) (l : 1 ≤ n) where
  -- a line that fails
  fails : (x : Turn) → x.typist.state ≡ v.state → x.typist.waiting.close ≡ None → (x.typist.failed ≡ None → ⊥) → After t e x
  fails x a b f =
      record {
        stage = rw (a ∙ set.state) open-yet;
        calm = λ c. absurd (c b);
        good = λ g. absurd (f g);
      }

  not-withheld : withheld v e ≡ true → v.failed ≡ None → ⊥
  not-withheld g z = true≢false (sym g ∙ rw z (and_none (eqb e.kind 8) (eqb v.state.account.stage 1)))
    where
      and_none : (a b : Bool) → a && (b && false) ≡ false
      and_none true true = refl
      and_none true false = refl
      and_none false b = refl

  -- the entry as it is judged after the records of the state
  full : Entry
  full = completed_of e v.state.account.records

  -- a close that is right waits
  close-after : e.kind ≡ 8 → withheld v e ≡ false → After t e (close_by (write_entry v.state e 28).answer v n e)
  close-after eight g = go (write_entry v.state e 28).answer refl
    where
      go : (a : Answer) → (write_entry v.state e 28).answer ≡ a → After t e (close_by a v n e)
      go (Err r) q = fails _ refl set.close (first-not v.failed n l)
      go (Ok u) q =
          let d = completed_of e v.state.account.records in
          let kind : d.kind ≡ 8 = completed-kind e v.state.account.records ∙ eight in
          let so = subst (λ (k : ℕ). Written-so v.state k (writer.row_for k (length (values_in d))) (values_in d) 28) kind
          (written-so v.state d.kind (writer.row_for d.kind (length (values_in d))) (values_in d) 28 q) in
          let calm = all_three (eqb e.kind 8) (eqb v.state.account.stage 1) (is_some v.failed) (eq-eqb _ _ eight)
          (eq-eqb _ _ (is_open v.state (values_in d) 28 so)) g in
          record {
            stage = rw set.state open-yet;
            calm = λ _. none_of v.failed calm;
            good = λ f. (
              set.failed f,
              inr (record {
                bytes = refl;
                state = set.state;
                close = λ z. no_some (sym (line-is n l) ∙ z);
                own =
                    ap (λ (x : State). record_said x.account.records e) (sym set.state)
                    ∙ close-said d v.state.account.records kind (right-count v.state (values_in d) 28 so)
                    ∙ ap (λ (x : State). record_said x.account.records own_close) set.state;
              }),
            );
          }

  wrote_after : (e.kind ≡ 8 → ⊥) → (write_entry v.state e 28).answer ≡ Ok tt
      → After t e (by_answer (Ok tt) v n e (write_entry v.state e 28).state (write_entry v.state e 28).bytes)
  wrote_after k q =
      let d = completed_of e v.state.account.records in
      let row = writer.row_for d.kind (length (values_in d)) in
      let so = written-so v.state d.kind row (values_in d) 28 q in
      let other : row ≡ 8 → ⊥ = other_row d.kind (length (values_in d)) (λ z. k (sym (completed-kind e v.state.account.records) ∙ z)) in
      let is : write_entry v.state e 28 ≡ writer.writing v.state row (values_in d) = so.is in
      record {
        stage =
            rw (ap (λ (x : writer.Write). x.state.account.stage) is)
            (stage-after v.state.account row (values_in d) so.still other so.ready.early);
        calm = λ c. absurd (c set.close);
        good = λ f. (
          set.failed f,
          inl (record {
            bytes = ap (λ (x : writer.Write). x.bytes) is ∙ ap (λ (x : State). record_said x.account.records e) set.state;
            records =
                ap (λ (x : writer.Write). x.state.account.records) is ∙ records-after v.state.account row (values_in d) so.still
                ∙ ap (λ (x : State). suc x.account.records) set.state;
            close = set.close;
          }),
        );
      }
    where
      other_row : (kind count : ℕ) → (kind ≡ 8 → ⊥) → writer.row_for kind count ≡ 8 → ⊥
      other_row kind count n = of-choice (λ (row : ℕ). row ≡ 8 → ⊥) (eqb kind 1 && eqb count 4) (λ _ e. omega arith) (λ _. n)

  judged-after : (e.kind ≡ 8 → ⊥) → After t e (by_write v n e (write_entry v.state e 28))
  judged-after k = go (write_entry v.state e 28).answer refl
    where
      go : (a : Answer) → (write_entry v.state e 28).answer ≡ a
          → After t e (by_answer a v n e (write_entry v.state e 28).state (write_entry v.state e 28).bytes)
      go (Ok u) q = wrote_after k q
      go (Err r) q = fails _ refl set.close (first-not v.failed n l)

  turn-after : After t e (judged_turn v n e 28)
  unfolding judged_turn
  turn-after =
      of-choice (After t e) (withheld v e) (λ g. fails _ refl set.close (not-withheld g))
      (λ g. of-choice (After t e) (eqb e.kind 8) (λ y. close-after (eqb-true _ _ y) g) (λ y. judged-after (eqb-false _ _ y)))

record-after : (m : Mark) (h : List ℕ) (t u : Typist) → Kept m h t → t.state.account.stage < 2 → Settled t u → (e : Entry) (n : ℕ) → 1 ≤ n
    → After t e (record_turn u n e 28)
unfolding record_turn
record-after m h t u k o s e n l =
    of-choice (After t e) (headless u e) (λ _. fails m h t u k o s e n l _ refl s.close (first-not u.failed n l))
    (λ _. turn-after m h t (run_ended u) k o (settled-ended t u s) e n l)

-- ---- a line

-- what a line does, by what it says
abbrev Did : Said → Typist → Entry → Turn → Type 0
Did said.Nothing t e x = (x.typist ≡ t) × (x.bytes ≡ [])
Did said.Record t e x = After t e x
Did (said.Wrong k place) t e x = (x.typist.state.account.stage < 2) × ((x.typist.waiting.close ≡ None) × (x.typist.failed ≡ None → ⊥))

said-did : (m : Mark) (h : List ℕ) (t : Typist) → Kept m h t → t.state.account.stage < 2 → (s : Said) (e : Entry) (n : ℕ) → 1 ≤ n
    → Did s t e (by_said s t n e 28)
said-did m h t k o said.Nothing e n l = (refl, refl)
said-did m h t k o said.Record e n l = record-after m h t (early (hears t e.kind)) k o (settled-early t e.kind) e n l
said-did m h t k o (said.Wrong kind place) e n l =
    let s = settled-ended t (early (hears t kind)) (settled-early t kind) in
    (rw s.state o, (s.close, first-not (run_ended (early (hears t kind))).failed n l))

-- ---- all lines

-- the close that is written at the end, where one waits
abbrev close_of : Typist → List ℕ
close_of r = pick (is_some r.waiting.close) (record_said r.state.account.records own_close) []

-- r and bs are what the lines ls make of the typist t
record Lines (t : Typist) (ls : List Numbered) (r : Typist) (bs : List ℕ) : Type 0 where
  stage : r.state.account.stage < 2
  calm : (r.waiting.close ≡ None → ⊥) → r.failed ≡ None
  ok : r.failed ≡ None → t.failed ≡ None
  read : r.failed ≡ None → EachRead ls
  open-on : r.failed ≡ None → t.waiting.close ≡ None → bs ++ close_of r ≡ records_said t.state.account.records ls
  waits-on : r.failed ≡ None → (t.waiting.close ≡ None → ⊥) → (bs ≡ []) × (((n : ℕ) → records_said n ls ≡ []) × (r ≡ t))

none_more : (t : Typist) → t.state.account.stage < 2 → ((t.waiting.close ≡ None → ⊥) → t.failed ≡ None) → Lines t [] t []
unfolding EachRead records_said
none_more t o c =
    record {
      stage = o;
      calm = c;
      ok = λ f. f;
      read = λ _. tt;
      open-on = λ _ z. rw z refl;
      waits-on = λ _ _. (refl, (λ n. refl, refl));
    }

-- one line before others: x is what it does, and y what the others make of it
module _ (t : Typist) (l : Numbered) (ls : List Numbered) (x : Turn) (r : Typist) (bs : List ℕ) (y : Lines x.typist ls r bs) where
  abbrev Both : Said → Entry → Type 0
  Both s e =
      ((r.failed ≡ None → t.failed ≡ None) × (r.failed ≡ None → IsRead s))
      × ((r.failed ≡ None → t.waiting.close ≡ None → (x.bytes ++ bs) ++ close_of r
      ≡ says_then s (record_said t.state.account.records e) (records_said t.state.account.records ls) (records_said (suc
      t.state.account.records) ls))
      × (r.failed ≡ None → (t.waiting.close ≡ None → ⊥)
      → (x.bytes ++ bs ≡ []) × (((n : ℕ) → says_then s (record_said n e) (records_said n ls) (records_said (suc n) ls) ≡ []) × (r ≡ t))))

  nothing-both : (e : Entry) → x.typist ≡ t → x.bytes ≡ [] → Both said.Nothing e
  nothing-both e a b = (
    (λ f. ap (λ (z : Typist). z.failed) (sym a) ∙ y.ok f, λ _. tt),
    (
      λ f z. rw b (y.open-on f (ap (λ (w : Typist). w.waiting.close) a ∙ z)
          ∙ ap (λ (w : Typist). records_said w.state.account.records ls) a),
      λ f z. let w = y.waits-on f (λ c. z (ap (λ (k : Typist). k.waiting.close) (sym a) ∙ c)) in rw b (w.0, (w.1.0, w.1.1 ∙ a)),
    ),
  )

  record-both : (e : Entry) → After t e x → Both said.Record e
  record-both e a = (
    (λ f. (a.good (y.ok f)).0.0, λ _. tt),
    (λ f z. ⊎_elim (λ w. went f w) (λ w. waited f w) (a.good (y.ok f)).1, λ f z. absurd (z (a.good (y.ok f)).0.1)),
  )
    where
      went : r.failed ≡ None → Went t e x → (x.bytes ++ bs) ++ close_of r
          ≡ record_said t.state.account.records e ++ records_said (suc t.state.account.records) ls
      went f w =
          append_assoc x.bytes bs (close_of r)
          ∙ ap (λ (b : List ℕ). b ++ (bs ++ close_of r)) w.bytes
          ∙ ap (λ (b : List ℕ). record_said t.state.account.records e ++ b) (y.open-on f w.close
          ∙ ap (λ (n : ℕ). records_said n ls) w.records)

      waited : r.failed ≡ None → Waited t e x → (x.bytes ++ bs) ++ close_of r
          ≡ record_said t.state.account.records e ++ records_said (suc t.state.account.records) ls
      waited f w =
          let q = y.waits-on f w.close in
          let own : close_of x.typist ≡ record_said t.state.account.records own_close =
          rw (some_of _ w.close) (ap (λ (s : State). record_said s.account.records own_close) w.state) in
          rw (w.bytes, q.0, q.1.0 (suc t.state.account.records), append-nil (record_said t.state.account.records e))
          (ap close_of q.1.1 ∙ own ∙ sym w.own)

  wrong-both : (k place : ℕ) (e : Entry) → (x.typist.failed ≡ None → ⊥) → Both (said.Wrong k place) e
  wrong-both k place e n =
      ((λ f. absurd (n (y.ok f)), λ f. absurd (n (y.ok f))), (λ f z. absurd (n (y.ok f)), λ f z. absurd (n (y.ok f))))

  did-both : (s : Said) (e : Entry) → Did s t e x → Both s e
  did-both said.Nothing e d = nothing-both e d.0 d.1
  did-both said.Record e d = record-both e d
  did-both (said.Wrong k place) e d = wrong-both k place e d.1.1

did-open : (s : Said) (t : Typist) (e : Entry) (x : Turn) → t.state.account.stage < 2 → Did s t e x → x.typist.state.account.stage < 2
did-open said.Nothing t e x o d = rw d.0 o
did-open said.Record t e x o d = d.stage
did-open (said.Wrong k place) t e x o d = d.0

did-calm : (s : Said) (t : Typist) (e : Entry) (x : Turn) → ((t.waiting.close ≡ None → ⊥) → t.failed ≡ None) → Did s t e x
    → (x.typist.waiting.close ≡ None → ⊥) → x.typist.failed ≡ None
did-calm said.Nothing t e x c d = rw d.0 c
did-calm said.Record t e x c d = d.calm
did-calm (said.Wrong k place) t e x c d = λ z. absurd (z d.1.0)

line-did : (m : Mark) (h : List ℕ) (t : Typist) → Kept m h t → t.state.account.stage < 2 → (l : Numbered) → 1 ≤ l.number
    → Did (line_said (text_of l)).said t (line_said (text_of l)).entry (line_turn t l)
unfolding turn
line-did m h t k o l p = said-did m h t k o (line_said (text_of l)).said (line_said (text_of l)).entry l.number p

all_lines : (lines : List (List ℕ)) (n : ℕ) → 1 ≤ n → (m : Mark) (h : List ℕ) (t : Typist) → Kept m h t → t.state.account.stage < 2
    → ((t.waiting.close ≡ None → ⊥) → t.failed ≡ None)
    → Lines t (numbered n lines) (typed_by t (numbered n lines)).typist (bytes_typed (typed_by t (numbered n lines)).turns)
unfolding numbered typed_by bytes_typed EachRead records_said
all_lines [] n p m h t k o c = none_more t o c
all_lines (b ∷ lines) n p m h t k o c =
    let l : Numbered = record { number = n; bytes = b } in
    let x = line_turn t l in
    let said = (line_said (text_of l)).said in
    let e = (line_said (text_of l)).entry in
    let d = line-did m h t k o l p in
    let y = all_lines lines (one_more_lem n) (one_more n p) _ _ x.typist (line-keeps m h t k l p) (did-open said t e x o d)
    (did-calm said t e x c d) in
    let both = did-both t l (numbered (one_more_lem n) lines) x _ _ y said e d in
    record {
      stage = y.stage;
      calm = y.calm;
      ok = both.0.0;
      read = λ f. (both.0.1 f, y.read f);
      open-on = both.1.0;
      waits-on = both.1.1;
    }

-- ---- the end

-- only a close that waits closes the book, and is written
end-closes : (r : Typist) → r.state.account.stage < 2 → (end_turn true r record_most).typist.state.account.stage ≡ 2
    → (r.waiting.close ≡ None → ⊥) × ((end_turn true r record_most).bytes ≡ close_of r)
unfolding end_turn
end-closes r o =
    of-choice (λ (x : Turn). x.typist.state.account.stage ≡ 2 → (r.waiting.close ≡ None → ⊥) × (x.bytes ≡ close_of r))
    (is_some r.waiting.close) (λ g. closing (some_not _ g) (write_entry (run_ended r).state own_close record_most).answer refl)
    (λ _ z. absurd (still_open z))
  where
    still_open : (run_ended r).state.account.stage ≡ 2 → ⊥
    still_open z = let e = ap (λ (s : State). s.account.stage) (sym (ended-state r)) ∙ z in omega arith

    closing : (r.waiting.close ≡ None → ⊥) → (a : Answer) → (write_entry (run_ended r).state own_close record_most).answer ≡ a
        → (end_by a (run_ended r) (write_entry (run_ended r).state own_close record_most).state
        (write_entry (run_ended r).state own_close record_most).bytes
        ).typist.state.account.stage ≡ 2
        → (r.waiting.close ≡ None → ⊥)
        × ((end_by a (run_ended r) (write_entry (run_ended r).state own_close record_most).state (write_entry
        (run_ended r).state own_close record_most).bytes).bytes
        ≡ close_of r)
    closing n (Err f) q z = absurd (still_open z)
    closing n (Ok u) q z =
        let d = completed_of own_close (run_ended r).state.account.records in
        let so = written-so (run_ended r).state d.kind (writer.row_for d.kind (length (values_in d))) (values_in d) record_most q in (
          n,
          ap (λ (w : writer.Write). w.bytes) so.is ∙ ap (λ (s : State). record_said s.account.records own_close) (ended-state r)
              ∙ rw (some_of _ n) refl,
        )

-- the text of some lines, typed after no record, with its end
pub lines-closed : (text : List ℕ) → (whole (beginning no_record_yet) (text_lines text)).typist.state.account.stage ≡ 2
    → EachRead (text_lines text) × ((whole (beginning no_record_yet) (text_lines text)).bytes ≡ records_said 0 (text_lines text))
lines-closed text z =
    let t = beginning no_record_yet in
    let ls = text_lines text in
    let y = all_lines _ 1 (omega arith) none [] t kept-first (omega arith) (λ _. refl) in
    let end = end-closes _ y.stage (ap (λ (w : Typist). (end_turn true w record_most).typist.state.account.stage) (sym (typist-typed t ls)) ∙ z) in
    let good = y.calm end.0 in (
      y.read good,
      ap (λ (b : List ℕ). b ++ (end_turn true (output t ls).typist record_most).bytes) (bytes-typed t ls)
          ∙ ap (λ (w : Typist). bytes_typed (typed_by t ls).turns ++ (end_turn true w record_most).bytes) (typist-typed t ls)
          ∙ ap (λ (b : List ℕ). bytes_typed (typed_by t ls).turns ++ b) end.1
          ∙ y.open-on good refl,
    )

-- The theorem, in parts of any size: where the calls over a text's parts, its unfinished line and its end close the book, every line of the text that
-- has a word is read as a record, and the bytes written are the records of these lines, in order.
pub closed-means-all : (line : List ℕ) → most ≤ length line → (parts : List (List ℕ))
    → (with_end (calls_over (beginning no_record_yet) (record { line = line; cut = first_cut }) parts)).typist.state.account.stage ≡ 2
    → EachRead (text_lines (together parts))
    × ((with_end (calls_over (beginning no_record_yet) (record { line = line; cut = first_cut }) parts)).bytes
    ≡ records_said 0 (text_lines (together parts)))
closed-means-all line h parts =
    subst
    (λ (o : Output). o.typist.state.account.stage ≡ 2 → EachRead (text_lines (together parts)) × (o.bytes ≡ records_said 0 (text_lines
    (together parts))))
    (sym (whole-in-parts line h no_record_yet parts))
    (lines-closed (together parts))
