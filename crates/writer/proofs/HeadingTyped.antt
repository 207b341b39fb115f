-- The heading law for typed lines (specs/Headings.antt).
-- Assumes nothing.
use Prim.Native.Nat.{ℕ, ◌≤◌, ◌<◌}
use native.Mathlib.Omega.{arith}
use mathlib.Core.Path.{◌≡◌, refl, sym, ap, ◌∙◌}
use mathlib.Core.List.{List, [], ◌∷◌}
use mathlib.Core.Bool.{Bool, true, false, ◌&&◌, ◌||◌, true≢false}
use mathlib.Core.Logic.{◌⊎◌, inl, inr, ⊎_elim}
use borrow.Author.Tests.{eq-eqb, ne_eqb, eqb-true, eqb-false, le-ltb}
use lib.ListN.{length}
use lib.Dec.{eqb, leb, ltb}
use Rattle.base.specs.Choice.{pick, one_more_lem}
use Rattle.base.proofs.Tests.{and_l, of-choice}
use Rattle.codec.specs.Table.{last_kind, last_row}
use Rattle.account.specs.declared.Account.{Account}
use Rattle.account.specs.Judge.{Step, heading_serves, in_place_lem, accepted, weigh}
use Rattle.account.specs.Sorts.{sort_of, is_of_group}
use Rattle.account.proofs.Sorts.{by-sort, heads-two, group-kinds}
use Rattle.account.specs.declared.Refusal.{Refusal}
use Rattle.account.specs.Account.{no_record}
use Rattle.account.proofs.Keeps.{in-range-none}
use Rattle.account.proofs.Refusals.{passed, weighed-none, weighed-passes}
use Rattle.book.proofs.Ranges.{range-test, range-idle}
use Rattle.book.specs.declared.State.{State}
use Rattle.book.specs.State.{InRange, in_range, no_record_yet}
use Rattle.make_record.specs.Write.{Answer}
use Rattle.make_record.specs.Write as writer
use Rattle.make_record.proofs.Answers.{Written-so, written-so}
use Rattle.make_record.proofs.AsReader.{stays-in-range}
use Rattle.std.specs.Prelude.{Ok, Err}
use Rattle.writer.specs.declared.typed_line.Entry.{Entry}
use Rattle.writer.specs.declared.typed_line.Said.{Said}
use Rattle.writer.specs.declared.typed_line.Said.TheVariants as said
use Rattle.writer.specs.Line.{line_said, completed_of, values_in, write_entry}
use Rattle.text_lines.specs.Parts.{Numbered, numbered}
use Rattle.writer.specs.declared.Typist.{Typist}
use Rattle.writer.specs.declared.Fate.{Fate}
use Rattle.writer.specs.declared.Fate.TheVariants.{Wrote}
use Rattle.writer.specs.declared.Cause.{Cause}
use Rattle.writer.specs.declared.Cause.TheVariants as causes
use Rattle.writer.specs.declared.Lost.{Lost}
use Rattle.writer.specs.declared.Run.{Run}
use Rattle.std.specs.Prelude.{Option, None, Some, is_some, option_map}
use Rattle.writer.specs.Typist.{may_head, not_lost, lost_by, beginning, hears, early_by, early, ended_by, run_ended, refused_at, written_as, withheld}
use Rattle.writer.specs.Typist.{headless, lost_in}
use Rattle.writer.specs.Typist.{Turn, by_answer, by_write, close_by, judged_turn, record_turn, by_said, turn}
use Rattle.writer.specs.Remarks.{kind_written}
use Rattle.writer.specs.Text.{line_turn, typed_by}
use Rattle.writer.proofs.Remembered.{no_some, none_of, line-is}
use Rattle.writer.specs.Headings.{Mark, none, unknown, heading, mark_said, mark_line, text_of, last_mark, last_heading, Under}

-- ---- kinds

group-no-head : (k : ℕ) → is_of_group k ≡ true → (eqb k 2 ≡ false) × (may_head k ≡ false)
group-no-head k g =
    let low : 3 ≤ k = (group-kinds k g).0 in
    let high : k ≤ last_kind = (group-kinds k g).1 in
    let two : eqb k 2 ≡ false = ne_eqb k 2 (λ (e : k ≡ 2). omega arith) in
    (two, rw (two, le-ltb k 1 (omega arith), le-ltb last_kind k (omega arith)))

-- ---- what a written record does to the heading

-- any record but a heading keeps it
heading-after : (a : Account) (k : ℕ) (v : List ℕ) → ((weigh a k v).account.stage ≡ 3 → ⊥) → (k ≡ 2 → ⊥) → (weigh a k v).account.heading ≡ a.heading
unfolding weigh accepted
heading-after a k v h n =
    rw (weighed-none a k v h)
    (by-sort (λ (s : Step). s.account.heading ≡ a.heading) (sort_of k) (λ _. refl) (λ e. absurd (n (heads-two k e))) (λ _. refl) (λ _. refl)
    (λ _. refl))

-- a detail of the group is written under a heading only
needs-class : (a : Account) (k : ℕ) (v : List ℕ) → ((weigh a k v).account.stage ≡ 3 → ⊥) → is_of_group k ≡ true → a.heading.class ≡ 0 → ⊥
unfolding in_place_lem
needs-class a k v h g z =
    let place = (passed a k v (weighed-passes a k v h)).place in
    let low : 3 ≤ k = (group-kinds k g).0 in
    let one : eqb k 1 ≡ false = ne_eqb k 1 (λ (e : k ≡ 1). omega arith) in
    let other : eqb k last_row ≡ false = ne_eqb k last_row (λ (e : k ≡ last_row). omega (arith, (group-kinds k g).1)) in
    let serves = and_l (heading_serves a.heading.class k) _ (rw (one, other) at place) in
    no-class (eqb k 5) (rw (g, z) at serves)
  where
    zero_one : false ≡ true → ⊥
    zero_one q = let z : ◌≡◌ {A = ℕ} 0 1 = cc in omega arith

    no-class : (b : Bool) → pick b (eqb 0 4) (leb 1 0 && leb 0 3) ≡ true → ⊥
    no-class true q = zero_one q
    no-class false q = zero_one q

-- the row of some values of a kind: a heading's for headings alone, and the kind itself but for farm records
no-head : (k count : ℕ) → (k ≡ 2 → ⊥) → writer.row_for k count ≡ 2 → ⊥
no-head k count n =
    of-choice (λ (row : ℕ). row ≡ 2 → ⊥) (eqb k 1 && eqb count 4) (λ _ e. omega arith) (λ _. n)

own_row : (k count : ℕ) → 3 ≤ k → writer.row_for k count ≡ k
own_row k count low = rw (ne_eqb k 1 (λ (e : k ≡ 1). omega arith)) refl

-- ---- what is kept from line to line

pub record Kept (m : Mark) (h : List ℕ) (t : Typist) : Type 0 where
  pub range : InRange t.state
  pub empty : t.state.count ≡ 0
  pub under : t.lost ≡ None → t.state.account.stage < 2 → (t.state.account.heading.class ≡ 0) ⊎ Under m h

lost-some : (n : ℕ) (cause : Cause) → 1 ≤ n → lost_in n cause ≡ None → ⊥
lost-some n cause l z = no_some (sym (ap (option_map (λ line. lost_by line cause)) (line-is n l)) ∙ z)

-- a line that may have been a heading loses it
still-lost : (b : Bool) (n : ℕ) (cause : Cause) (lost : Option Lost) (m : Mark) (h : List ℕ) (A : Type 0) → 1 ≤ n
    → pick b (lost_in n cause) lost ≡ None → (lost ≡ None → A ⊎ Under m h) → A ⊎ Under (pick b unknown m) h
still-lost true n cause lost m h A l z f = absurd (lost-some n cause l z)
still-lost false n cause lost m h A l z f = f z

-- what is kept goes by the state and the lost heading alone
kept_same : (m : Mark) (h : List ℕ) (t x : Typist) → Kept m h t → x.state ≡ t.state → x.lost ≡ t.lost → Kept m h x
kept_same m h t x k a b =
    record {
      range = rw a k.range;
      empty = rw a k.empty;
      under = λ z early. rw a (k.under (sym b ∙ z) (rw a at early));
    }

pub early-state : (t : Typist) → (early t).state ≡ t.state
unfolding early
early-state t = go t.waiting.close
  where
    go : (o : Option ℕ) → (early_by o t).state ≡ t.state
    go None = refl
    go (Some close) = refl

pub early-lost : (t : Typist) → (early t).lost ≡ t.lost
unfolding early
early-lost t = go t.waiting.close
  where
    go : (o : Option ℕ) → (early_by o t).lost ≡ t.lost
    go None = refl
    go (Some close) = refl

pub ended-state : (t : Typist) → (run_ended t).state ≡ t.state
unfolding run_ended
ended-state t = go t.waiting.run
  where
    go : (o : Option Run) → (ended_by o t).state ≡ t.state
    go None = refl
    go (Some run) = refl

pub ended-lost : (t : Typist) → (run_ended t).lost ≡ t.lost
unfolding run_ended
ended-lost t = go t.waiting.run
  where
    go : (o : Option Run) → (ended_by o t).lost ≡ t.lost
    go None = refl
    go (Some run) = refl

-- a kind that the book has not is refused by 3
three : (s : State) (k : ℕ) (v : List ℕ) (room : ℕ) → in_range s ≡ true → s.account.stage < 2 → s.count ≡ 0 → ltb k 1 || ltb last_kind k ≡ true
    → (writer.write s k v room).answer ≡ Err (writer.refusal_by 3 s.account.records)
unfolding writer.write_row writer.refusals writer.answer_of
three s k v room r early c g =
    rw (
      r,
      ne_eqb s.account.stage 3 (λ (e : s.account.stage ≡ 3). omega arith),
      ne_eqb s.account.stage 2 (λ (e : s.account.stage ≡ 2). omega arith),
      c,
      g,
    )

pub completed-kind : (e : Entry) (records : ℕ) → (completed_of e records).kind ≡ e.kind
unfolding completed_of
completed-kind e records =
    of-choice (λ (d : Entry). d.kind ≡ e.kind) (eqb e.kind 8 && eqb e.count 0)
    (λ t. sym (eqb-true e.kind 8 (and_l (eqb e.kind 8) (eqb e.count 0) t))) (λ f. refl)

heading-complete : (e : Entry) (records : ℕ) → e.kind ≡ 2 → completed_of e records ≡ e
unfolding completed_of
heading-complete e records k = rw k

-- what is kept behind a turn x of the entry e
abbrev Keeps : Mark → List ℕ → Entry → Turn → Type 0
Keeps m h e x = Kept (mark_said said.Record e m) (pick (eqb (kind_written x.fate) 2) x.bytes h) x.typist

module _ (m : Mark) (h : List ℕ) (t : Typist) (k : Kept m h t) (e : Entry) where
  -- nothing but counts move, and the kind is no heading and one of the book's
  stays : eqb e.kind 2 ≡ false → may_head e.kind ≡ false → (x : Typist) → x.state ≡ t.state → x.lost ≡ t.lost
      → Kept (mark_said said.Record e m) h x
  stays p q x a b =
      rw (q, p) (kept_same m h t x k a b)

  withheld-keeps : withheld t e ≡ true → (x : Typist) → x.state ≡ t.state → x.lost ≡ t.lost → Kept (mark_said said.Record e m) h x
  withheld-keeps g x a b =
      let eight = eqb-true e.kind 8 (and_l (eqb e.kind 8) (eqb t.state.account.stage 1 && is_some t.failed) g) in
      stays (rw eight refl) (rw eight refl) x a b

  headless-keeps : headless t e ≡ true → (x : Typist) → x.state ≡ t.state → x.lost ≡ t.lost → Kept (mark_said said.Record e m) h x
  headless-keeps g x a b =
      let p = group-no-head e.kind (and_l (is_of_group e.kind) (is_some t.lost) g) in
      stays p.0 p.1 x a b

  -- refused by the number code, which is 3 for a kind that the book has not
  refused-keeps : (n : ℕ) → 1 ≤ n → (code : ℕ) → (t.state.account.stage < 2 → ltb e.kind 1 || ltb last_kind e.kind ≡ true → code ≡ 3)
      → (x : Typist)
      → x.state ≡ t.state → x.lost ≡ pick (eqb e.kind 2 || eqb code 3) (lost_in n (pick (eqb e.kind 2) causes.Heading causes.Refused)) t.lost
      → Kept (mark_said said.Record e m) h x
  refused-keeps n l code g x a b =
      record {
        range = rw a k.range;
        empty = rw a k.empty;
        under =
            λ z early. rw a (marks (eqb e.kind 2) (ltb e.kind 1 || ltb last_kind e.kind) (eqb code 3)
            (pick (eqb e.kind 2) causes.Heading causes.Refused) (sym b ∙ z)
            (λ o. eq-eqb code 3 (g (rw a at early) o)) (λ y. k.under y (rw a at early)));
      }
    where
      marks : {A : Type 0} (two out three' : Bool) (cause : Cause) → pick (two || three') (lost_in n cause) t.lost ≡ None
          → (out ≡ true → three' ≡ true) → (t.lost ≡ None → A ⊎ Under m h)
          → A ⊎ Under (pick two (heading e) (pick (two || out) unknown m)) h
      marks true out c cause z g f = absurd (lost-some n cause l z)
      marks false true c cause z g f = absurd (lost-some n cause l (rw (g refl) at z))
      marks false false true cause z g f = absurd (lost-some n cause l z)
      marks false false false cause z g f = f z

  -- written: a heading is the one marked, and any other record keeps what was
  wrote-keeps : (n : ℕ) → (write_entry t.state e 28).answer ≡ Ok tt
      → Kept (mark_said said.Record e m) (pick (eqb e.kind 2) (write_entry t.state e 28).bytes h)
      (written_as t e (write_entry t.state e 28).state)
  wrote-keeps n q =
      let kind = (completed_of e t.state.account.records).kind in
      let v = values_in (completed_of e t.state.account.records) in
      let so = written-so t.state kind (writer.row_for kind (length v)) v 28 q in
      let same = completed-kind e t.state.account.records in
      let range = stays-in-range t.state kind v 28 k.range in
      record {
        range = range;
        empty = rw so.is refl;
        under = λ z early. by-kind (so) (test (eqb e.kind 2)) z;
      }
    where
      test : (b : Bool) → (b ≡ true) ⊎ (b ≡ false)
      test true = inl refl
      test false = inr refl

      by-kind : Written-so t.state (completed_of e t.state.account.records).kind
          (writer.row_for (completed_of e t.state.account.records).kind (length (values_in (completed_of e t.state.account.records))))
          (values_in (completed_of e t.state.account.records)) 28
          → (eqb e.kind 2 ≡ true) ⊎ (eqb e.kind 2 ≡ false) → pick (eqb e.kind 2) not_lost t.lost ≡ None
          → ((write_entry t.state e 28).state.account.heading.class ≡ 0)
          ⊎ Under (mark_said said.Record e m) (pick (eqb e.kind 2) (write_entry t.state e 28).bytes h)
      by-kind so (inl y) z =
          let two = eqb-true e.kind 2 y in
          let whole = heading-complete e t.state.account.records two in
          rw y
          (inr (record { entry = e; marked = refl; is = two; written = ap (λ (x : writer.Write). x.bytes) so.is ∙ rw (whole, two) refl }))
      by-kind so (inr y) z =
          let not-two : (completed_of e t.state.account.records).kind ≡ 2 → ⊥ =
          λ f. eqb-false e.kind 2 y (sym (completed-kind e t.state.account.records) ∙ f) in
          let low = so.of.least in
          let high = so.of.most in
          let one : ltb e.kind 1 ≡ false = rw (← completed-kind e t.state.account.records) (le-ltb _ _ low) in
          let last : ltb last_kind e.kind ≡ false = rw (← completed-kind e t.state.account.records) (le-ltb _ _ high) in
          let head : (write_entry t.state e 28).state.account.heading ≡ t.state.account.heading =
          ap (λ (x : writer.Write). x.state.account.heading) so.is
          ∙ heading-after t.state.account _ _ so.still (no-head (completed_of e t.state.account.records).kind
          (length (values_in (completed_of e t.state.account.records))) not-two) in
          rw (y, one, last, head) (k.under (rw y at z) so.ready.early)

  judged-keeps : (n : ℕ) → 1 ≤ n → Keeps m h e (by_write t n e (write_entry t.state e 28))
  judged-keeps n l = go (write_entry t.state e 28).answer refl
    where
      go : (a : Answer) → (write_entry t.state e 28).answer ≡ a
          → Keeps m h e (by_answer a t n e (write_entry t.state e 28).state (write_entry t.state e 28).bytes)
      go (Ok u) q = wrote-keeps n q
      go (Err r) q =
          refused-keeps n l r.code
          (λ early out. same_code (sym q ∙ three t.state (completed_of e t.state.account.records).kind
          (values_in (completed_of e t.state.account.records)) 28 (range-test t.state k.range) early k.empty
          (rw (completed-kind e t.state.account.records) out)))
          (refused_at t n e.kind r.code) refl refl
        where
          same_code : ◌≡◌ {A = Answer} (Err r) (Err (writer.refusal_by 3 t.state.account.records)) → r.code ≡ 3
          same_code f = let g : r ≡ writer.refusal_by 3 t.state.account.records = cc in ap (λ (x : Refusal). x.code) g

  -- a close is judged, and is not written here
  close-keeps : (n : ℕ) → 1 ≤ n → eqb e.kind 8 ≡ true → Keeps m h e (close_by (write_entry t.state e 28).answer t n e)
  close-keeps n l g =
      let eight = eqb-true e.kind 8 g in
      let ours : ltb e.kind 1 || ltb last_kind e.kind ≡ false = rw eight refl in
      go eight ours (write_entry t.state e 28).answer
    where
      go : e.kind ≡ 8 → ltb e.kind 1 || ltb last_kind e.kind ≡ false → (a : Answer) → Keeps m h e (close_by a t n e)
      go eight ours (Ok u) = stays (rw eight refl) (rw eight refl) _ refl refl
      go eight ours (Err r) =
          refused-keeps n l r.code (λ _ out. absurd (true≢false (sym out ∙ ours))) (refused_at t n e.kind r.code) refl refl

  turn-keeps : (n : ℕ) → 1 ≤ n → Keeps m h e (judged_turn t n e 28)
  unfolding judged_turn
  turn-keeps n l =
      of-choice (Keeps m h e) (withheld t e) (λ g. withheld-keeps g _ refl refl)
      (λ _. of-choice (Keeps m h e) (eqb e.kind 8) (λ g. close-keeps n l g) (λ _. judged-keeps n l))

record-keeps : (m : Mark) (h : List ℕ) (t : Typist) → Kept m h t → (e : Entry) (n : ℕ) → 1 ≤ n → Keeps m h e (record_turn t n e 28)
unfolding record_turn
record-keeps m h t k e n l =
    of-choice (Keeps m h e) (headless t e) (λ g. headless-keeps m h t k e g _ refl refl)
    (λ _. turn-keeps m h (run_ended t) (kept_same m h t (run_ended t) k (ended-state t) (ended-lost t)) e n l)

-- ---- a line

-- a line with a word
heard-keeps : (m : Mark) (h : List ℕ) (t : Typist) → Kept m h t → (kind : ℕ) → Kept m h (early (hears t kind))
heard-keeps m h t k kind = kept_same m h t (early (hears t kind)) k (early-state (hears t kind)) (early-lost (hears t kind))

said-keeps : (m : Mark) (h : List ℕ) (t : Typist) → Kept m h t → (n : ℕ) → 1 ≤ n → (s : Said) (e : Entry)
    → Kept (mark_said s e m) (pick (eqb (kind_written (by_said s t n e 28).fate) 2) (by_said s t n e 28).bytes h) (by_said s t n e 28).typist
said-keeps m h t k n l said.Nothing e = k
said-keeps m h t k n l said.Record e = record-keeps m h (early (hears t e.kind)) (heard-keeps m h t k e.kind) e n l
said-keeps m h t k n l (said.Wrong kind place) e =
    let x = run_ended (early (hears t kind)) in
    let y = kept_same m h _ x (heard-keeps m h t k kind) (ended-state (early (hears t kind))) (ended-lost (early (hears t kind))) in
    record {
      range = y.range;
      empty = y.empty;
      under = λ z early'. still-lost (may_head kind) n (pick (eqb kind 2) causes.Heading causes.Unread) x.lost m h _ l z (λ w. y.under w early');
    }

pub line-keeps : (m : Mark) (h : List ℕ) (t : Typist) → Kept m h t → (l : Numbered) → 1 ≤ l.number
    → Kept (mark_line m l) (pick (eqb (kind_written (line_turn t l).fate) 2) (line_turn t l).bytes h) (line_turn t l).typist
unfolding turn
line-keeps m h t k l p = said-keeps m h t k l.number p (line_said (text_of l)).said (line_said (text_of l)).entry

-- ---- all lines

pub one_more : (n : ℕ) → 1 ≤ n → 1 ≤ one_more_lem n
one_more n h = of-choice (λ (x : ℕ). 1 ≤ x) (ltb n 18446744073709551615) (λ _. omega arith) (λ _. h)

pub lines_keep : (lines : List (List ℕ)) (n : ℕ) → 1 ≤ n → (m : Mark) (h : List ℕ) (t : Typist) → Kept m h t
    → Kept (last_mark m (numbered n lines)) (last_heading h (typed_by t (numbered n lines)).turns) (typed_by t (numbered n lines)).typist
unfolding numbered typed_by last_mark last_heading
lines_keep [] n p m h t k = k
lines_keep (x ∷ xs) n p m h t k =
    lines_keep xs (one_more_lem n) (one_more n p) _ _ _ (line-keeps m h t k (record { number = n; bytes = x }) p)

pub kept-first : Kept none [] (beginning no_record_yet)
kept-first = record { range = range-idle no_record in-range-none; empty = refl; under = λ z early. inl refl }

-- ---- a detail that is written

-- the entry was judged, with the heading not lost, and was written
pub record Judged (t : Typist) (k : ℕ) : Type 0 where
  pub entry : Entry
  pub kind : entry.kind ≡ k
  pub kept : headless t entry ≡ false
  pub wrote : (write_entry t.state entry 28).answer ≡ Ok tt

written-kind : (f : Fate) (k : ℕ) → f ≡ Wrote k → (j : ℕ) → f ≡ Wrote j → j ≡ k
written-kind f k p j q = cc

turn-judged : (t : Typist) (n : ℕ) (e : Entry) (k : ℕ) → (judged_turn t n e 28).fate ≡ Wrote k
    → (e.kind ≡ k) × ((write_entry t.state e 28).answer ≡ Ok tt)
unfolding judged_turn
turn-judged t n e k =
    of-choice P (withheld t e) (λ _ q. absurd (let z : ◌≡◌ {A = ℕ} 0 1 = cc in omega arith))
    (λ _. of-choice P (eqb e.kind 8) (λ _. no-close (write_entry t.state e 28).answer) (λ _. go (write_entry t.state e 28).answer refl))
  where
    P : Turn → Type 0
    P x = x.fate ≡ Wrote k → (e.kind ≡ k) × ((write_entry t.state e 28).answer ≡ Ok tt)

    no-close : (a : Answer) → P (close_by a t n e)
    no-close (Ok u) q = absurd (let z : ◌≡◌ {A = ℕ} 0 1 = cc in omega arith)
    no-close (Err r) q = absurd (let z : ◌≡◌ {A = ℕ} 0 1 = cc in omega arith)

    go : (a : Answer) → (write_entry t.state e 28).answer ≡ a
        → P (by_answer a t n e (write_entry t.state e 28).state (write_entry t.state e 28).bytes)
    go (Ok u) q f = (written-kind (Wrote e.kind) k f e.kind refl, q)
    go (Err r) q f = absurd (let z : ◌≡◌ {A = ℕ} 0 1 = cc in omega arith)

record-judged : (t : Typist) (n : ℕ) (e : Entry) (k : ℕ) → (record_turn t n e 28).fate ≡ Wrote k → Judged t k
unfolding record_turn
record-judged t n e k =
    of-choice (λ (x : Turn). x.fate ≡ Wrote k → Judged t k) (headless t e) (λ _ q. absurd (let z : ◌≡◌ {A = ℕ} 0 1 = cc in omega arith))
    (λ g q. let j = turn-judged (run_ended t) n e k q in
    record { entry = e; kind = j.0; kept = g; wrote = ap (λ (s : State). (write_entry s e 28).answer) (sym (ended-state t)) ∙ j.1 })

-- where the line had a word, the state and the lost heading are those before it
as_before : (t : Typist) (kind k : ℕ) → Judged (early (hears t kind)) k → Judged t k
as_before t kind k j =
    let u = hears t kind in
    record {
      entry = j.entry;
      kind = j.kind;
      kept = ap (λ (l : Option Lost). is_of_group j.entry.kind && is_some l) (sym (early-lost u)) ∙ j.kept;
      wrote = ap (λ (s : State). (write_entry s j.entry 28).answer) (sym (early-state u)) ∙ j.wrote;
    }

said-judged : (s : Said) (t : Typist) (n : ℕ) (e : Entry) (k : ℕ) → (by_said s t n e 28).fate ≡ Wrote k → Judged t k
said-judged said.Nothing t n e k q = absurd (let z : ◌≡◌ {A = ℕ} 0 1 = cc in omega arith)
said-judged said.Record t n e k q = as_before t e.kind k (record-judged (early (hears t e.kind)) n e k q)
said-judged (said.Wrong kind place) t n e k q = absurd (let z : ◌≡◌ {A = ℕ} 0 1 = cc in omega arith)

line-judged : (t : Typist) (l : Numbered) (k : ℕ) → (line_turn t l).fate ≡ Wrote k → Judged t k
unfolding turn
line-judged t l k q = said-judged (line_said (text_of l)).said t l.number (line_said (text_of l)).entry k q

-- where the heading is kept, a written detail stands under it
under-it : (m : Mark) (h : List ℕ) (t : Typist) → Kept m h t → (k : ℕ) → is_of_group k ≡ true → Judged t k → Under m h
under-it m h t kept k g j =
    let so = written-so t.state _ _ _ 28 j.wrote in
    let same = completed-kind j.entry t.state.account.records ∙ j.kind in
    let kind = (completed_of j.entry t.state.account.records).kind in
    let count = length (values_in (completed_of j.entry t.state.account.records)) in
    let grouped : is_of_group kind ≡ true = rw same g in
    let row : is_of_group (writer.row_for kind count) ≡ true = rw (own_row kind count (group-kinds kind grouped).0) grouped in
    let found : t.lost ≡ None = not-lost (is_of_group j.entry.kind) (rw j.kind g) j.kept in
    ⊎_elim (λ z. absurd (needs-class t.state.account _ _ so.still row z)) (λ u. u) (kept.under found so.ready.early)
  where
    not-lost : (b : Bool) → b ≡ true → b && is_some t.lost ≡ false → t.lost ≡ None
    not-lost true p q = none_of t.lost q
    not-lost false p q = absurd (let z : ◌≡◌ {A = ℕ} 0 1 = cc in omega arith)

-- Every written detail of a typed book stands under the heading of the last line before it whose kind is a heading or none of the book's: that line
-- says a heading, and its record is the last heading record written. The lines before it are any, with their numbers from 1 on.
pub heading-typed : (lines : List (List ℕ)) (l : Numbered) (k : ℕ)
    → (line_turn (typed_by (beginning no_record_yet) (numbered 1 lines)).typist l).fate ≡ Wrote k → is_of_group k ≡ true
    → Under (last_mark none (numbered 1 lines)) (last_heading [] (typed_by (beginning no_record_yet) (numbered 1 lines)).turns)
heading-typed lines l k q g =
    under-it _ _ _ (lines_keep lines 1 (omega arith) none [] (beginning no_record_yet) kept-first) k g (line-judged _ l k q)
