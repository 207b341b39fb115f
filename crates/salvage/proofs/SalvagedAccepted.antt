-- The result is always accepted. Document 02, W5: "The result is always accepted".
-- Assumes nothing.
use Prim.Native.Nat.{ℕ, zero, suc, ◌+◌, ◌≤◌, ◌<◌}
use mathlib.Core.Path.{◌≡◌, refl, sym, ap, ◌∙◌}
use mathlib.Core.List.{List, [], ◌∷◌, ◌++◌, append_assoc, append-nil}
use mathlib.Core.Bool.{Bool, true, false, ◌||◌, not}
use native.Mathlib.Nat.{zero-add}
use Rattle.std.specs.Prelude.{Ok}
use native.Mathlib.Omega.{arith}
use borrow.Author.Tests.{eqb-false}
use lib.Dec.{ltb}
use lib.ListN.{length, drop}
use lib.Seq.{take-append_seam, drop-append_seam}
use Rattle.base.specs.Choice.{pick}
use Rattle.base.proofs.Tests.{not-true}
use Rattle.codec.specs.Codec.{record_bytes}
use Rattle.account.specs.declared.Account.{Account}
use Rattle.account.specs.Account.{closed}
use Rattle.account.specs.Judge.{WholeRecord, judge}
use Rattle.book.specs.Front.{Front, unfinished, bad_length, whole, need, front}
use Rattle.book.specs.State.{no_record_yet}
use Rattle.book.specs.Run.{Run, then, book, run}
use Rattle.book.proofs.Fronts.{is-whole, length-append-two, whole_append}
use Rattle.book.proofs.Runs.{book-ended, book-whole}
use Rattle.book.proofs.RecordRuns.{record-whole}
use Rattle.book.specs.WholeRecords.{begins_with, records_by, records_of}
use Rattle.salvage.specs.declared.Reading.{Reading}
use Rattle.salvage.specs.declared.Lengths.{Lengths}
use Rattle.salvage.specs.declared.Unsaved.TheVariants.{NoFarm, NoRoom}
use Rattle.salvage.specs.Salvage.{Found, nothing, dropped_by, ends, reading_after, start, found, book_of, list_of, farm_among, refusing, saving}
use Rattle.salvage.specs.Salvage.{answering, salvage_of}
use Rattle.salvage.specs.Inner.{Open, book_from}
use Rattle.salvage.proofs.Fates.{few, kept-account, dropped-account, kept-records, open_after}
use Rattle.salvage.proofs.OneTurn.{by-records}
use Rattle.salvage.proofs.OnePass.{open-start}
use Rattle.salvage.proofs.Closes.{close-kind, close-closes}
use Rattle.salvage.proofs.Answers.{farmed}

-- ---- the records of some bytes are whole

abbrev pub AllWhole : List (List ℕ) → Type 0
AllWhole [] = Unit {0}
AllWhole (r ∷ rs) = WholeRecord r × AllWhole rs

all-by : (n : ℕ) (xs : List ℕ) → AllWhole (records_by n xs)
unfolding records_by
all-by zero xs = tt
all-by (suc n) xs = go (front xs) refl (all-by n (drop (need xs) xs))
  where
    go : (f : Front) → front xs ≡ f → AllWhole (records_by n (drop (need xs) xs)) → AllWhole (begins_with f xs (records_by n (drop (need xs) xs)))
    go unfinished e ih = tt
    go bad_length e ih = tt
    go whole e ih = (record-whole xs (need xs) e refl, ih)

pub all_whole : (xs : List ℕ) → AllWhole (records_of xs)
unfolding records_of
all_whole xs = all-by (suc (length xs)) xs

-- ---- a book that begins with a whole record

pub record-front : (r ys : List ℕ) → WholeRecord r → front (r ++ ys) ≡ whole
record-front r ys w = whole_append r ys (is-whole r (omega (arith, w.long), w.low, w.high, omega (arith, w.long)))

pub book-record : (a : Account) (r ys : List ℕ) → WholeRecord r → a.stage < 2
    → book a (r ++ ys) ≡ then (judge a r).lines (book (judge a r).account ys)
book-record a r ys w h =
    let n : need (r ++ ys) ≡ length r = rw (length-append-two r ys (omega (arith, w.long))) (sym w.long) in
    rw (n, take-append_seam r ys, drop-append_seam r ys) at (book-whole a (r ++ ys) h (record-front r ys w))

-- ---- what is kept, and the close, are accepted

-- the book is closed, nothing is held, and nothing is left
record Done (r : Run) : Type 0 where
  stage : r.state.account.stage ≡ 2
  held : r.state.count ≡ 0
  left : r.left ≡ []

close-done : (s : Reading) → Open s → 1 ≤ s.account.records → s.account.records ≤ 4095 → Done (book s.account (book_from s nothing))
close-done s o l h =
    let a = s.account in
    let z : a.records + 0 ≡ a.records = omega arith in
    let c = record_bytes 8 (a.records ∷ []) in
    let e : book a c ≡ then (judge a c).lines (book (closed a) []) =
    rw (append-nil, close-closes a l h) at (book-record a c [] (close-kind (a.records ∷ [])).whole o.early) in
    rw (z, e, book-ended (closed a) [] (omega arith)) (record { stage = refl; held = refl; left = refl })

-- the clean book that is still to come closes the book
abbrev Closing : Reading → List (List ℕ) → Found → Type 0
Closing s rs f =
    AllWhole rs → Open s → s.account.records ≤ 4095 → 1 ≤ s.account.records + length f.kept → Done (book s.account (book_from s f))

kept-closing : (s : Reading) (r : List ℕ) (rs : List (List ℕ)) (f : Found) → ends s r ≡ false → dropped_by s r ≡ 0 → Closing (reading_after s r) rs f
    → Closing s (r ∷ rs) (record { kept = r ∷ f.kept; dropped = f.dropped })
kept-closing s r rs f e d ih w o h l =
    let ys = book_from (reading_after s r) f in
    let n = kept-records s r e d in
    let c : s.account.records + length (r ∷ f.kept) ≡ (reading_after s r).account.records + length f.kept = omega (arith, n) in
    let m = ih w.1 (open_after s r e o) (omega (arith, n, few s r e)) (omega (arith, c, l)) in
    let same = ap (λ (a : Account). then (judge s.account r).lines (book a ys)) (sym (kept-account s r e d)) in
    let b = book-record s.account r ys w.0 o.early ∙ same in
    rw (c, append_assoc, b) (record { stage = m.stage; held = m.held; left = m.left })

dropped-closing : (s : Reading) (r : List ℕ) (rs : List (List ℕ)) (f : Found) → ends s r ≡ false → (dropped_by s r ≡ 0 → ⊥) → Closing (reading_after s r) rs f
    → Closing s (r ∷ rs) (record { kept = f.kept; dropped = record { number = s.number; code = dropped_by s r } ∷ f.dropped })
dropped-closing s r rs f e n ih w o h l =
    let a = dropped-account s r e n in
    rw a at (ih w.1 (open_after s r e o) (rw a h) (rw a l))

clean-done : (s : Reading) (rs : List (List ℕ)) → Closing s rs (found s rs)
clean-done = by-records Closing (λ s rs w o h l. close-done s o (omega arith) h) kept-closing dropped-closing

-- ---- the promise

-- where it is saved, a farm record is kept, and what is written is what was found
pub saved-so : (f : Found) (book_room_lem list_room_lem : ℕ) (l : Lengths) → (answering f book_room_lem list_room_lem).answer ≡ Ok l
    → (farm_among f.kept ≡ true) × (answering f book_room_lem list_room_lem ≡ saving (book_of f.kept) (list_of f.dropped))
unfolding answering
saved-so f book_room_lem list_room_lem l =
    go (farm_among f.kept) refl (ltb book_room_lem (length (book_of f.kept)) || ltb list_room_lem (length (list_of f.dropped)))
  where
    go : (b : Bool) → farm_among f.kept ≡ b → (b' : Bool)
        → (pick (not b) (refusing NoFarm) (pick b' (refusing NoRoom) (saving (book_of f.kept) (list_of f.dropped)))).answer ≡ Ok l
        → (b ≡ true)
        × (pick (not b) (refusing NoFarm) (pick b' (refusing NoRoom) (saving (book_of f.kept) (list_of f.dropped)))
        ≡ saving (book_of f.kept) (list_of f.dropped))
    go true e true x = let z : ◌≡◌ {A = ℕ} 0 1 = cc in absurd (omega arith)
    go true e false x = (refl, refl)
    go false e b' x = let z : ◌≡◌ {A = ℕ} 0 1 = cc in absurd (omega arith)

some-kept : (rs : List (List ℕ)) → farm_among (found start rs).kept ≡ true → 1 ≤ length (found start rs).kept
some-kept rs e =
    let n = eqb-false (length (found start rs).kept) 0 (not-true _ (sym (farmed start rs refl open-start) ∙ e)) in
    omega (arith, n)

-- Whatever the damaged bytes are: where they are saved, rule 2 closes the clean book, holds nothing and leaves nothing.
pub salvaged-accepted : (damaged : List ℕ) (book_room_lem list_room_lem : ℕ) (l : Lengths) → (salvage_of damaged book_room_lem list_room_lem).answer ≡ Ok l
    → ((run no_record_yet (salvage_of damaged book_room_lem list_room_lem).book).state.account.stage ≡ 2)
    × ((run no_record_yet (salvage_of damaged book_room_lem list_room_lem).book).state.count ≡ 0)
    × ((run no_record_yet (salvage_of damaged book_room_lem list_room_lem).book).left ≡ [])
unfolding run salvage_of
salvaged-accepted damaged book_room_lem list_room_lem l e =
    let rs = records_of damaged in
    let y = saved-so (found start rs) book_room_lem list_room_lem l e in
    let d = rw zero-add at (clean-done start rs (all_whole damaged) open-start (omega arith) (omega (arith, some-kept rs y.0))) in
    rw y.1 (d.stage, d.held, d.left)
