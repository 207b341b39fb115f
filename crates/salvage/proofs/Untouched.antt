-- A right book stays as it is. Document 02, W5: "a closed book with nothing after it comes back byte for byte".
-- Assumes nothing.
use Prim.Native.Nat.{ℕ, zero, suc, ◌+◌, ◌≤◌, ◌<◌}
use mathlib.Core.Path.{◌≡◌, refl, sym, ap, ◌∙◌}
use mathlib.Core.List.{List, [], ◌∷◌, ◌++◌, append-nil}
use mathlib.Core.Bool.{Bool, true, false}
use mathlib.Core.Logic.{◌⊎◌, inl, inr, ⊎_elim}
use native.Mathlib.Nat.{zero-add}
use native.Mathlib.Omega.{arith}
use borrow.Author.Tests.{eqb-true, eqb-false, ne_eqb, lt-leb, le-ltb}
use lib.Dec.{leb, eqb}
use lib.ListN.{length, get_or, take, drop, length-drop, take-append-drop}
use lib.Seq.{get_or-drop}
use Rattle.base.specs.Choice.{pick}
use Rattle.base.proofs.Tests.{or_left, lt-or-ge}
use Rattle.codec.specs.Table.{table, length_of}
use Rattle.codec.specs.Codec.{values_at, record_bytes, Bytes}
use Rattle.codec.proofs.BigEndian.{one_byte}
use Rattle.codec.proofs.Round.{record-again}
use Rattle.account.specs.declared.Account.{Account}
use Rattle.account.specs.Account.{no_record, closed}
use Rattle.account.specs.Judge.{WholeRecord, version_of, kind_byte, record_row, judge}
use Rattle.book.specs.Front.{Front, unfinished, bad_length, whole, need, front}
use Rattle.book.specs.State.{no_record_yet}
use Rattle.book.specs.Run.{Run, run}
use Rattle.book.specs.Run as reader
use Rattle.book.proofs.Fronts.{meaning}
use Rattle.book.proofs.Runs.{book-ended, book-unfinished, book-bad, book-whole}
use Rattle.book.proofs.RecordRuns.{record-whole}
use Rattle.book.specs.WholeRecords.{records_of}
use Rattle.book.proofs.WholeRecords.{records-whole}
use Rattle.salvage.specs.declared.Reading.{Reading}
use Rattle.salvage.specs.Salvage.{Found, nothing, with, would_get, dropped_by, ends, reading_after, start, book_of, list_of, farm_among, saving}
use Rattle.salvage.specs.Salvage.{answering, salvage_of, found_in}
use Rattle.salvage.specs.Inner.{Open, book_from}
use Rattle.salvage.proofs.KindRows.{row-eight, eight-row}
use Rattle.salvage.proofs.Fates.{grows, refuses, closes-book, below-4096, first-farm, right-count, right-version, right-size, right_kept}
use Rattle.salvage.proofs.Fates.{open_after, records-after}
use Rattle.salvage.proofs.OneTurn.{found-ends, found-goes}
use Rattle.salvage.proofs.OnePass.{open-start, kept-count, book-turn}
use Rattle.salvage.proofs.Answers.{farmed}

-- the book is closed, and nothing is left
record Right (r : Run) : Type 0 where
  stage : r.state.account.stage ≡ 2
  left : r.left ≡ []

-- ---- a right book, by its first record

equal-or : (n m : ℕ) → (n ≡ m) ⊎ (n ≡ m → ⊥)
equal-or n m = go (eqb n m) refl
  where
    go : (b : Bool) → eqb n m ≡ b → (n ≡ m) ⊎ (n ≡ m → ⊥)
    go true e = inl (eqb-true n m e)
    go false e = inr (eqb-false n m e)

-- its first record is whole, and accepted
record Begins (a : Account) (xs : List ℕ) : Type 0 where
  is-whole : front xs ≡ whole
  gets : would_get a (take (need xs) xs) ≡ 0
  behind : Right (reader.book (judge a (take (need xs) xs)).account (drop (need xs) xs))

begins : (a : Account) (xs : List ℕ) → a.stage < 2 → Right (reader.book a xs) → Begins a xs
begins a xs h d = go (front xs) refl
  where
    go : (f : Front) → front xs ≡ f → Begins a xs
    go unfinished e = let s : a.stage ≡ 2 = rw (book-unfinished a xs h e) at d.stage in absurd (omega arith)
    go bad_length e = let s : ◌≡◌ {A = ℕ} 3 2 = rw (book-bad a xs h e) at d.stage in absurd (omega arith)
    go whole e =
        let r = take (need xs) xs in
        let b = book-whole a xs h e in
        let n : Right (reader.book (judge a r).account (drop (need xs) xs)) = record { stage = rw b at d.stage; left = rw b at d.left } in
        ⊎_elim (λ (z : would_get a r ≡ 0). record { is-whole = e; gets = z; behind = n })
        (λ (z : would_get a r ≡ 0 → ⊥).
        let k = refuses a r z in
        let s : (judge a r).account.stage ≡ 2 = rw (book-ended (judge a r).account (drop (need xs) xs) (omega arith)) at n.stage in
        absurd (omega arith))
        (equal-or (would_get a r) 0)

-- after 4,096 records no book is closed any more
never-closed : (a : Account) (xs : List ℕ) → a.stage < 2 → 4096 ≤ a.records → Right (reader.book a xs) → ⊥
never-closed a xs h n d = let b = begins a xs h d in omega (arith, below-4096 a (take (need xs) xs) b.gets, n)

-- ---- its close

-- the close that is written is the one that was there
same-close : (a : Account) (r : List ℕ) → Bytes r → WholeRecord r → would_get a r ≡ 0 → kind_byte r ≡ 8 → record_bytes 8 (a.records ∷ []) ≡ r
unfolding table values_at
same-close a r b w e k =
    let q : record_row r ≡ 8 = eight-row (version_of r) (kind_byte r) k in
    let size : _ ≡ length_of 8 = rw q at (right-size a r e) in
    let v = rw q at (right-count a r e q) in
    let again = record-again 8 r (record {
      bytes = b;
      complete = omega (arith, w.long, size);
      length-is = size;
      version-is = sym (one_byte r 2 (get_or r 2 0) refl) ∙ right-version a r e k;
      kind-is = sym (one_byte r 3 (get_or r 3 0) refl) ∙ k;
    }) in
    rw v at again

-- ---- record by record

-- what is found is all there is: nothing is dropped, and what is kept, with the close, is xs again
record Same (s : Reading) (xs : List ℕ) : Type 0 where
  book : book_from s (found_in s xs) ≡ xs
  list : (found_in s xs).dropped ≡ []

kept-list : (code number : ℕ) (r : List ℕ) (f : Found) → code ≡ 0 → (with code number r f).dropped ≡ f.dropped
kept-list code number r f e = rw e

no-loss : (b : Bool) → pick b false false ≡ false
no-loss true = refl
no-loss false = refl

-- the first record of xs, and the bytes behind it
abbrev leading : List ℕ → List ℕ
leading xs = take (need xs) xs

abbrev rest : List ℕ → List ℕ
rest xs = drop (need xs) xs

-- xs begins with a record that would get no number
module _ (s : Reading) (xs : List ℕ) (o : Open s) (l : s.lost ≡ false) (b : Begins s.account xs) where
  is-kept : dropped_by s (leading xs) ≡ 0
  is-kept = right_kept s (leading xs) b.gets l

  -- the close
  at-close : Bytes xs → kind_byte (leading xs) ≡ 8 → Same s xs
  at-close y k =
      let q : record_row (leading xs) ≡ 8 = eight-row (version_of (leading xs)) (kind_byte (leading xs)) k in
      let d : rest xs ≡ [] =
      rw (closes-book s.account (leading xs) b.gets q, book-ended (closed s.account) (rest xs) (omega arith)) at b.behind.left in
      let t : leading xs ≡ xs = sym (append-nil (leading xs)) ∙ ap (λ (z : List ℕ). leading xs ++ z) (sym d) ∙ take-append-drop (need xs) xs in
      let e : ends s (leading xs) ≡ true = or_left (leb 4095 s.account.records) _ (λ z. rw (k, is-kept)) in
      let n : found_in s xs ≡ nothing = rw (records-whole xs b.is-whole) (found-ends s (leading xs) (records_of (rest xs)) e) in
      let z : s.account.records + 0 ≡ s.account.records = omega arith in
      let c = same-close s.account (leading xs) (rw t y) (record-whole xs (need xs) b.is-whole refl) b.gets k in
      record { book = rw (n, z) (c ∙ t); list = rw n }

  -- another record
  module _ (k : kind_byte (leading xs) ≡ 8 → ⊥) where
    few : s.account.records < 4095
    few =
        let g = grows s.account (leading xs) b.gets in
        ⊎_elim (λ (h : s.account.records < 4095). h)
        (λ (h : 4095 ≤ s.account.records).
        let j = (judge s.account (leading xs)).account in
        let early = g.early (λ z. k (row-eight (version_of (leading xs)) (kind_byte (leading xs)) z)) o.early in
        absurd (never-closed j (rest xs) early (omega (arith, g.records, h)) b.behind))
        (lt-or-ge s.account.records 4095)

    goes : ends s (leading xs) ≡ false
    goes = rw (lt-leb 4095 s.account.records few, ne_eqb (kind_byte (leading xs)) 8 k)

    found-so : found_in s xs ≡ with (dropped_by s (leading xs)) s.number (leading xs) (found_in (reading_after s (leading xs)) (rest xs))
    found-so = rw (records-whole xs b.is-whole) (found-goes s (leading xs) (records_of (rest xs)) goes)

    at_other : (Open (reading_after s (leading xs))
        → (reading_after s (leading xs)).lost ≡ false
        → Right (reader.book (reading_after s (leading xs)).account (rest xs))
        → Same (reading_after s (leading xs)) (rest xs))
        → Same s xs
    at_other ih =
        let c = dropped_by s (leading xs) in
        let f = found_in (reading_after s (leading xs)) (rest xs) in
        let lost : (reading_after s (leading xs)).lost ≡ false = rw (is-kept, l) (no-loss (eqb (kind_byte (leading xs)) 2)) in
        let a : (reading_after s (leading xs)).account ≡ (judge s.account (leading xs)).account = rw is-kept in
        let m = ih (open_after s (leading xs) goes o) lost (rw a b.behind) in
        let p : pick (eqb c 0) (leading xs) [] ≡ leading xs = rw is-kept in
        record {
          book =
              rw (found-so, book-turn c s.number (leading xs) f s (reading_after s (leading xs)) (records-after s (leading xs) goes), p, m.book)
              (take-append-drop (need xs) xs);
          list = rw found-so (kept-list c s.number (leading xs) f is-kept ∙ m.list);
        }

bytes_drop : (n : ℕ) (xs : List ℕ) → Bytes xs → Bytes (drop n xs)
bytes_drop n xs y i = rw (get_or-drop n xs i 0) (y (n + i))

same : (n : ℕ) (s : Reading) (xs : List ℕ) → length xs < n → Open s → s.lost ≡ false → Bytes xs → Right (reader.book s.account xs) → Same s xs
same zero s xs h o l y d = absurd (omega arith)
same (suc n) s xs h o l y d =
    let b = begins s.account xs o.early d in
    let m = meaning xs whole b.is-whole in
    let short : length (rest xs) < n = rw length-drop (omega arith) in
    ⊎_elim (λ (k : kind_byte (leading xs) ≡ 8). at-close s xs o l b y k)
    (λ (k : kind_byte (leading xs) ≡ 8 → ⊥).
    at_other s xs o l b k (λ o' l' d'. same n (reading_after s (leading xs)) (rest xs) short o' l' (bytes_drop (need xs) xs y) d'))
    (equal-or (kind_byte (leading xs)) 8)

-- ---- the promise

-- the farm record is kept
some-kept : (xs : List ℕ) → Begins no_record xs → 1 ≤ length (found_in start xs).kept
some-kept xs b =
    let k = first-farm no_record (leading xs) b.gets refl in
    let g = found-so start xs open-start refl b (λ e. omega (arith, k, e)) in
    let n = kept-count (dropped_by start (leading xs)) 0 (leading xs) (found_in (reading_after start (leading xs)) (rest xs)) in
    let p : ◌≡◌ {A = ℕ} (pick (eqb (dropped_by start (leading xs)) 0) 1 0) 1 = rw (is-kept start xs open-start refl b) in
    rw g (omega (arith, n, p))

-- A book that rule 2 closes with nothing left comes back byte for byte, with an empty list.
pub untouched : (xs : List ℕ) (book_room_lem list_room_lem : ℕ) → Bytes xs → (run no_record_yet xs).state.account.stage ≡ 2
    → (run no_record_yet xs).left ≡ [] → length xs ≤ book_room_lem
    → salvage_of xs book_room_lem list_room_lem ≡ saving xs []
unfolding run salvage_of answering list_of
untouched xs book_room_lem list_room_lem y c e h =
    let d : Right (reader.book no_record xs) = record { stage = c; left = e } in
    let m = same (suc (length xs)) start xs (omega arith) open-start refl y d in
    let book : book_of (found_in start xs).kept ≡ xs = rw zero-add at m.book in
    let some = some-kept xs (begins no_record xs (omega arith) d) in
    let farm : farm_among (found_in start xs).kept ≡ true =
    farmed start (records_of xs) refl open-start ∙ rw (ne_eqb (length (found_in start xs).kept) 0 (λ z. omega arith)) in
    rw (farm, book, m.list, le-ltb book_room_lem (length xs) h, le-ltb list_room_lem 0 (omega arith))
