-- The lines of the dropped records: a line for each of the list, in order; and however many records a call takes, the calls together give all lines.
-- Assumes nothing.
use Prim.Native.Nat.{ℕ, zero, suc, ◌+◌, ◌≤◌, ◌<◌}
use native.Mathlib.Omega.{arith}
use mathlib.Core.Path.{◌≡◌, refl, sym, ap, ◌∙◌}
use mathlib.Core.Bool.{Bool, true, false, ◌&&◌, not}
use mathlib.Core.Logic.{inl, inr}
use mathlib.Core.List.{List, [], ◌∷◌, ◌++◌, append_assoc}
use borrow.Author.Tests.{ltb-true, lt-ltb, leb-true, le-leb, ne_eqb}
use lib.Dec.{ltb, leb, eqb}
use lib.ListN.{length, drop, length-drop}
use lib.Seq.{drop-drop}
use Rattle.base.specs.Choice.{pick}
use Rattle.base.proofs.Tests.{by-test, of-choice, no_bool, and_r, both, both_true}
use Rattle.account.specs.Sorts.{is_of_group}
use Rattle.account.specs.Judge.{kind_byte, first}
use Rattle.account.specs.Range.{account_in_range}
use Rattle.account.proofs.Clauses.{in-range-parts, in-range-test}
use Rattle.book.specs.Front.{whole, need, front}
use Rattle.walk.specs.Walk.{record_at}
use Rattle.book.specs.WholeRecords.{records_of}
use Rattle.book.proofs.Fronts.{meaning}
use Rattle.book.proofs.WholeRecords.{records-whole}
use Rattle.salvage.specs.declared.Reading.{Reading}
use Rattle.salvage.specs.Salvage.{one_of, would_get, drops, dropped_by, ends, reading_after, start, Entry, Found, nothing, with, found, found_in}
use Rattle.salvage.specs.HowFar.{goes_on_lem}
use Rattle.salvage.specs.Lines.{dropped_text, words_for, line_for, line_of, lines_from, words_from, entries_text, Listed, HeadingsListed}
use Rattle.salvage.specs.Lines.{Telling, behind, tell_by, usable, told_by, series}
use Rattle.salvage.specs.Inner.{Open}
use Rattle.salvage.proofs.Fates.{open_after}
use Rattle.salvage.proofs.OneTurn.{goes-whole, stops-by, found-ends, found-goes}
use Rattle.salvage.proofs.OnePass.{open-start}
use Rattle.salvage.proofs.LineSteps.{none-asked, stops-tell, goes-tell}

-- ---- a reading that can be gone on from

module _ (s : Reading) (xs : List ℕ) where
  parts : usable s xs ≡ true
      → (account_in_range s.account ≡ true) × (ltb s.account.stage 2 ≡ true) × (leb s.heading s.number ≡ true)
      × (ltb (s.number + length xs) 18446744073709551615 ≡ true)
  parts e =
      let a = both (account_in_range s.account) _ e in
      let b = both (ltb s.account.stage 2) _ a.1 in
      let c = both (leb s.heading s.number) _ b.1 in
      (a.0, b.0, c.0, c.1)

  pub usable-open : usable s xs ≡ true → Open s
  usable-open e =
      let p = parts e in
      record { range = in-range-parts _ p.0; early = ltb-true _ _ p.1; headed = leb-true _ _ p.2 }

  pub usable-numbers : usable s xs ≡ true → s.number + length xs < 18446744073709551615
  usable-numbers e = ltb-true _ _ (parts e).3

  pub open-usable : Open s → s.number + length xs < 18446744073709551615 → usable s xs ≡ true
  open-usable o h =
      both_true _ _ (in-range-test _ o.range)
      (both_true _ _ (lt-ltb _ _ o.early) (both_true _ _ (le-leb _ _ o.headed) (lt-ltb _ _ h)))

-- ---- a line for each entry of the list

module _ (s : Reading) (r : List ℕ) (rs : List (List ℕ)) where
  lines_end : ends s r ≡ true → lines_from s (r ∷ rs) ≡ []
  unfolding lines_from
  lines_end e = rw e

  lines-go : ends s r ≡ false → lines_from s (r ∷ rs) ≡ line_of s r ++ lines_from (reading_after s r) rs
  unfolding lines_from
  lines-go e = rw e

  words-end : ends s r ≡ true → words_from s (r ∷ rs) ≡ []
  unfolding words_from
  words-end e = rw e

  words-go : ends s r ≡ false
      → words_from s (r ∷ rs)
      ≡ pick (eqb (dropped_by s r) 0) (words_from (reading_after s r) rs)
      (words_for s (kind_byte r) (dropped_by s r) ∷ words_from (reading_after s r) rs)
  unfolding words_from
  words-go e = rw e

none_told : (s : Reading) → lines_from s [] ≡ []
unfolding lines_from
none_told s = refl

none-listed : (ws : List (List ℕ)) → [] ≡ entries_text [] ws
unfolding entries_text
none-listed ws = refl

-- a record more: none where it is kept
one_line : (s : Reading) (kind c : ℕ) (b : Bool) → eqb c 0 ≡ b → (others : List ℕ) (es : List Entry) (ws : List (List ℕ)) → others ≡ entries_text es ws
    → line_for s kind c ++ others ≡ entries_text (pick b es (record { number = s.number; code = c } ∷ es)) (pick b ws (words_for s kind c ∷ ws))
unfolding line_for entries_text
one_line s kind c true e others es ws ih = rw e ih
one_line s kind c false e others es ws ih = rw e (ap (λ (t : List ℕ). dropped_text s.number c (words_for s kind c) ++ t) ih)

line-each : (s : Reading) (rs : List (List ℕ)) → lines_from s rs ≡ entries_text (found s rs).dropped (words_from s rs)
unfolding found
line-each s [] = none_told s ∙ none-listed (words_from s [])
line-each s (r ∷ rs) = go (ends s r) refl (line-each (reading_after s r) rs)
  where
    go : (b : Bool) → ends s r ≡ b
        → lines_from (reading_after s r) rs ≡ entries_text (found (reading_after s r) rs).dropped (words_from (reading_after s r) rs)
        → lines_from s (r ∷ rs) ≡ entries_text (found s (r ∷ rs)).dropped (words_from s (r ∷ rs))
    go true e ih = rw (lines_end s r rs e, found-ends s r rs e) (none-listed (words_from s (r ∷ rs)))
    go false e ih =
        rw (lines-go s r rs e, found-goes s r rs e, words-go s r rs e)
        (one_line s (kind_byte r) (dropped_by s r) (eqb (dropped_by s r) 0) refl _ _ _ ih)

words-each : (s : Reading) (rs : List (List ℕ)) → length (words_from s rs) ≡ length (found s rs).dropped
unfolding found words_from
words-each s [] = refl
words-each s (r ∷ rs) = go (ends s r) (words-each (reading_after s r) rs)
  where
    f : Found
    f = found (reading_after s r) rs

    ws : List (List ℕ)
    ws = words_from (reading_after s r) rs

    kept : (b : Bool) (w : List ℕ) (e : Entry) → length ws ≡ length f.dropped
        → length (pick b ws (w ∷ ws)) ≡ length (pick b f.dropped (e ∷ f.dropped))
    kept true w e ih = ih
    kept false w e ih = ap suc ih

    go : (b : Bool) → length ws ≡ length f.dropped
        → length (pick b [] (pick (eqb (dropped_by s r) 0) ws (words_for s (kind_byte r) (dropped_by s r) ∷ ws)))
        ≡ length (pick b nothing (with (dropped_by s r) s.number r f)).dropped
    go true ih = refl
    go false ih = kept (eqb (dropped_by s r) 0) _ _ ih

-- The lines are those of the list: for each dropped record, in order, one with its number, its code and its words.
pub lines-listed : (damaged : List ℕ)
    → (lines_from start (records_of damaged) ≡ entries_text (found_in start damaged).dropped (words_from start (records_of damaged)))
    × (length (words_from start (records_of damaged)) ≡ length (found_in start damaged).dropped)
lines-listed damaged = (line-each start (records_of damaged), words-each start (records_of damaged))

-- ---- dropped with its heading

heading-first : (c k : ℕ) (lost : Bool)
    → lost && (is_of_group k && eqb (first (drops c k lost)) 6) ≡ not (one_of 2 4 c) && (lost && is_of_group k)
unfolding first
heading-first c k lost = go (one_of 2 4 c) refl lost (is_of_group k)
  where
    go : (b : Bool) → one_of 2 4 c ≡ b → (l g : Bool)
        → l && (g && eqb (pick b c (pick (l && g) 6 (pick (one_of 6 11 c) c 0))) 6) ≡ not b && (l && g)
    go true e true true = let h = leb-true c 4 (and_r (leb 2 c) (leb c 4) e) in ne_eqb c 6 (λ z. omega arith)
    go true e true false = refl
    go true e false g = refl
    go false e true true = refl
    go false e true false = refl
    go false e false g = refl

-- A line names the heading exactly where of the reasons that drop a record the second, that its heading was dropped, is the first that holds.
pub with-heading : (s : Reading) (r : List ℕ)
    → s.lost && (is_of_group (kind_byte r) && eqb (dropped_by s r) 6) ≡ not (one_of 2 4 (would_get s.account r)) && (s.lost && is_of_group (kind_byte r))
unfolding dropped_by
with-heading s r = heading-first (would_get s.account r) (kind_byte r) s.lost

listed_more : (b : Bool) (e : Entry) (es : List Entry) (n : ℕ) → Listed n es → Listed n (pick b es (e ∷ es))
listed_more true e es n h = h
listed_more false e es n h = inr h

listed-new : (b : Bool) (e : Entry) (es : List Entry) → not b ≡ true → Listed e.number (pick b es (e ∷ es))
listed-new true e es h = no_bool h
listed-new false e es h = inl refl

listed-from : (all : List Entry) (s : Reading) (rs : List (List ℕ)) → ((n : ℕ) → Listed n (found s rs).dropped → Listed n all)
    → (s.lost ≡ true → Listed s.heading all) → HeadingsListed all s rs
listed-from all s [] inc cur = tt
listed-from all s (r ∷ rs) inc cur =
    λ e.
    let b = eqb (dropped_by s r) 0 in
    let entry : Entry = record { number = s.number; code = dropped_by s r } in
    let es = (found (reading_after s r) rs).dropped in
    let is : (found s (r ∷ rs)).dropped ≡ pick b es (entry ∷ es) = ap (λ (f : Found). f.dropped) (found-goes s r rs e) in
    let within : (n : ℕ) → Listed n (pick b es (entry ∷ es)) → Listed n all = λ n h. inc n (rw is h) in
    let next : (k : Bool) → pick k (not b) s.lost ≡ true → Listed (pick k s.number s.heading) all =
    λ k. by-test k (λ t. rw t (λ h. within s.number (listed-new b entry es h))) (λ t. rw t cur) in
    (cur, listed-from all (reading_after s r) rs (λ n h. within n (listed_more b entry es n h)) (next (eqb (kind_byte r) 2)))

-- The heading that a line names is listed: what stands there as its number is that of the last record of kind byte 2, which was dropped.
pub headings-listed : (damaged : List ℕ) → HeadingsListed (found_in start damaged).dropped start (records_of damaged)
headings-listed damaged = listed-from (found_in start damaged).dropped start (records_of damaged) (λ n h. h) (λ e. no_bool e)

-- ---- in parts

clash : {A : Type 0} → true ≡ false → A
clash e = no_bool (sym e)

module _ (s : Reading) (xs : List ℕ) where
  stops-lines : goes_on_lem (front xs) s xs ≡ false → lines_from s (records_of xs) ≡ []
  stops-lines h = stops-by s xs (λ (rs : List (List ℕ)). lines_from s rs ≡ []) (none_told s) (lines_end s) h

  goes_lines : goes_on_lem (front xs) s xs ≡ true
      → lines_from s (records_of xs) ≡ line_of s (record_at xs) ++ lines_from (reading_after s (record_at xs)) (records_of (drop (need xs) xs))
  goes_lines h =
      let w = goes-whole s xs h in
      rw (records-whole xs w.0) (lines-go s (record_at xs) (records_of (drop (need xs) xs)) w.1)

-- t tells the lines of the records that it takes: all where there are no more, else those left make the whole
record Splits (s : Reading) (xs : List ℕ) (t : Telling) : Type 0 where
  last-part : t.more ≡ false → t.text ≡ lines_from s (records_of xs)
  some-part : t.more ≡ true → lines_from s (records_of xs) ≡ t.text ++ lines_from t.reading (records_of (drop t.taken xs))
  opened : Open t.reading
  numbered : t.reading.number + length (drop t.taken xs) ≤ s.number + length xs

module _ (s : Reading) (xs : List ℕ) (h : goes_on_lem (front xs) s xs ≡ true) where
  one-more-splits : (t : Telling) → Splits (reading_after s (record_at xs)) (drop (need xs) xs) t
      → Splits s xs (behind (need xs) (line_of s (record_at xs)) t)
  one-more-splits t i =
      let line = line_of s (record_at xs) in
      let m = meaning xs whole (goes-whole s xs h).0 in
      let d = drop-drop t.taken (need xs) xs in
      let all = goes_lines s xs h in
      record {
        last-part = λ e. ap (λ (l : List ℕ). line ++ l) (i.last-part e) ∙ sym all;
        some-part = λ e.
            all ∙ ap (λ (l : List ℕ). line ++ l) (i.some-part e)
            ∙ sym (append_assoc line t.text (lines_from t.reading (records_of (drop t.taken (drop (need xs) xs)))))
            ∙ ap (λ (l : List ℕ). (line ++ t.text) ++ lines_from t.reading (records_of l)) d;
        opened = i.opened;
        numbered = omega (arith, i.numbered, ap length d, length-drop (need xs) xs, m.1, m.3);
      }

splits : (n : ℕ) (s : Reading) (xs : List ℕ) → Open s → Splits s xs (tell_by n s xs)
splits zero s xs o =
    rw (none-asked s xs) (record { last-part = λ e. clash e; some-part = λ e. refl; opened = o; numbered = omega arith })
splits (suc n) s xs o =
    by-test (goes_on_lem (front xs) s xs)
    (λ h. rw (goes-tell n s xs h) (one-more-splits s xs h _
    (splits n (reading_after s (record_at xs)) (drop (need xs) xs) (open_after s (record_at xs) (goes-whole s xs h).1 o))))
    (λ h. rw (stops-tell n s xs h)
    (record { last-part = λ e. sym (stops-lines s xs h); some-part = λ e. no_bool e; opened = o; numbered = omega arith }))

told_is : (n : ℕ) (s : Reading) (xs : List ℕ) → usable s xs ≡ true → told_by n s xs ≡ tell_by n s xs
unfolding told_by
told_is n s xs u = rw u

-- going on from any reading that is usable
series-lines : (ns : List ℕ) (s : Reading) (xs : List ℕ) → Open s → s.number + length xs < 18446744073709551615 → (series ns s xs).more ≡ false
    → (series ns s xs).text ≡ lines_from s (records_of xs)
unfolding series
series-lines [] s xs o h = λ m. clash m
series-lines (n ∷ ns) s xs o h =
    rw (told_is n s xs (open-usable s xs o h))
    (of-choice (λ (x : Telling). x.more ≡ false → x.text ≡ lines_from s (records_of xs)) (tell_by n s xs).more
    (λ e m.
    let t = tell_by n s xs in
    let i = splits n s xs o in
    ap (λ (l : List ℕ). t.text ++ l) (series-lines ns t.reading (drop t.taken xs) i.opened (omega (arith, i.numbered, h)) m)
    ∙ sym (i.some-part e))
    (λ e m. (splits n s xs o).last-part e))

-- However many records each call takes, the calls up to the end print together the lines of all that was dropped.
pub lines-in-parts : (damaged ns : List ℕ) → length damaged < 18446744073709551615 → (series ns start damaged).more ≡ false
    → (series ns start damaged).text ≡ lines_from start (records_of damaged)
lines-in-parts damaged ns h m = series-lines ns start damaged open-start (omega arith) m
