-- Headings. Document 02, W5: "each kept detail has the heading it had".
-- Assumes nothing.
use Prim.Native.Nat.{ℕ, suc, ◌+◌}
use mathlib.Core.Path.{◌≡◌, refl, sym, ap, ◌∙◌}
use mathlib.Core.List.{List, [], ◌∷◌, ◌++◌, append_assoc, append-nil}
use mathlib.Core.Bool.{Bool, true, false, ◌&&◌, not}
use native.Mathlib.Omega.{arith}
use borrow.Author.Tests.{ne_eqb, leb-true}
use lib.Dec.{leb, eqb}
use lib.ListN.{length, take}
use lib.Seq.{take-append_seam, drop-append_seam}
use Rattle.base.specs.Choice.{pick}
use Rattle.base.proofs.Tests.{and_l, no_bool}
use Rattle.codec.specs.Codec.{record_bytes}
use Rattle.account.specs.Sorts.{sort_of, is_of_group}
use Rattle.account.specs.Judge.{WholeRecord, version_of, kind_byte, first}
use Rattle.account.specs.Line.{joined}
use Rattle.book.specs.Front.{need}
use Rattle.book.proofs.Fronts.{front-none, length-append-two}
use Rattle.book.specs.WholeRecords.{records_by, records_of}
use Rattle.book.proofs.WholeRecords.{records-whole}
use Rattle.salvage.specs.declared.Reading.{Reading}
use Rattle.salvage.specs.declared.Lengths.{Lengths}
use Rattle.std.specs.Prelude.{Ok}
use Rattle.salvage.specs.Salvage.{would_get, one_of, drops, dropped_by, reading_after, start, Found, found, book_of, salvage_of, found_in}
use Rattle.salvage.specs.Promised.{read_by, unlisted, Under, under_headings, details}
use Rattle.salvage.proofs.KindRows.{row-eight}
use Rattle.salvage.proofs.OneTurn.{by-records}
use Rattle.salvage.proofs.Closes.{close-kind}
use Rattle.salvage.proofs.SalvagedAccepted.{AllWhole, all_whole, record-front, saved-so}
use Rattle.salvage.proofs.KeptOrListed.{From, from_less, unlisted-kept, unlisted-listed}

-- ---- the heading of a kept detail

-- a kept detail does not stand under a dropped heading
none-lost : (c k : ℕ) (lost : Bool) → first (drops c k lost) ≡ 0 → is_of_group k ≡ true → lost ≡ false
unfolding first
none-lost c k lost e d = go lost (one_of 2 4 c) refl (one_of 6 11 c) (rw d at e)
  where
    go : (l b : Bool) → one_of 2 4 c ≡ b → (b'' : Bool) → pick b c (pick (l && true) 6 (pick b'' c 0)) ≡ 0 → l ≡ false
    go false b p b'' e = refl
    go true true p b'' e = let h = leb-true 2 c (and_l (leb 2 c) (leb c 4) p) in absurd (omega arith)
    go true false p b'' e = absurd (omega arith)

not-lost : (s : Reading) (r : List ℕ) → dropped_by s r ≡ 0 → is_of_group (kind_byte r) ≡ true → s.lost ≡ false
unfolding dropped_by
not-lost s r = none-lost (would_get s.account r) (kind_byte r) s.lost

-- the same details, under the same headings
same-details : (b : Bool) (u u' : Under) (us us' : List Under) → (b ≡ true → u ≡ u') → us ≡ us' → pick b (u ∷ us) us ≡ pick b (u' ∷ us') us'
same-details true u u' us us' p q = rw (p refl, q)
same-details false u u' us us' p q = q

-- h is the last record of kind byte 2 before rs, h' the last kept one: they are the same, unless a dropped one came last
record Kept (s : Reading) (rs : List (List ℕ)) (f : Found) : Type 0 where
  from : From s.number f.dropped
  same : (h h' : List ℕ) → (s.lost ≡ false → h ≡ h')
      → details (under_headings h' f.kept) ≡ details (unlisted f.dropped s.number (under_headings h (take (read_by f) rs)))

none_kept : (s : Reading) (rs : List (List ℕ)) → Kept s rs (record { kept = []; dropped = [] })
unfolding unlisted under_headings details
none_kept s rs = record { from = tt; same = λ h h' p. refl }

module _ (s : Reading) (r : List ℕ) (rs : List (List ℕ)) (f : Found) (ih : Kept (reading_after s r) rs f) where
  one_kept : dropped_by s r ≡ 0 → Kept s (r ∷ rs) (record { kept = r ∷ f.kept; dropped = f.dropped })
  unfolding under_headings details
  one_kept d =
      let m : length (r ∷ f.kept) + length f.dropped ≡ suc (read_by f) = omega arith in
      record {
        from = from_less s.number f.dropped ih.from;
        same = λ h h' p.
            let others = under_headings (pick (eqb (kind_byte r) 2) r h) (take (read_by f) rs) in
            rw (m, unlisted-kept (record { detail = r; heading = h }) others s.number f.dropped ih.from)
            (same-details (is_of_group (kind_byte r)) (record { detail = r; heading = h' }) (record { detail = r; heading = h }) _ _
            (λ k. ap (λ (x : List ℕ). record { detail = r; heading = x }) (sym (p (not-lost s r d k))))
            (ih.same (pick (eqb (kind_byte r) 2) r h) (pick (eqb (kind_byte r) 2) r h') (next h h' p (eqb (kind_byte r) 2))));
      }
    where
      next : (h h' : List ℕ) → (s.lost ≡ false → h ≡ h') → (b : Bool) → pick b (not (eqb (dropped_by s r) 0)) s.lost ≡ false
          → pick b r h ≡ pick b r h'
      next h h' p true e = refl
      next h h' p false e = p e

  one-dropped : (dropped_by s r ≡ 0 → ⊥)
      → Kept s (r ∷ rs) (record { kept = f.kept; dropped = record { number = s.number; code = dropped_by s r } ∷ f.dropped })
  unfolding under_headings
  one-dropped n =
      let m : length f.kept + suc (length f.dropped) ≡ suc (read_by f) = omega arith in
      record {
        from = omega arith;
        same = λ h h' p.
            let others = under_headings (pick (eqb (kind_byte r) 2) r h) (take (read_by f) rs) in
            rw (m, unlisted-listed (record { detail = r; heading = h }) others s.number (dropped_by s r) f.dropped)
            (ih.same (pick (eqb (kind_byte r) 2) r h) h' (next h h' p (eqb (kind_byte r) 2)));
      }
    where
      next : (h h' : List ℕ) → (s.lost ≡ false → h ≡ h') → (b : Bool) → pick b (not (eqb (dropped_by s r) 0)) s.lost ≡ false → pick b r h ≡ h'
      next h h' p true e = let z : true ≡ false = rw (ne_eqb _ _ n) at e in no_bool (sym z)
      next h h' p false e = p e

headings-kept : (s : Reading) (rs : List (List ℕ)) → Kept s rs (found s rs)
headings-kept = by-records Kept none_kept (λ s r rs f e d ih. one_kept s r rs f ih d) (λ s r rs f e n ih. one-dropped s r rs f ih n)

-- ---- the records of the clean book

kept_whole : (s : Reading) (rs : List (List ℕ)) → AllWhole rs → AllWhole (found s rs).kept
kept_whole =
    by-records (λ s rs f. AllWhole rs → AllWhole f.kept) (λ s rs w. tt) (λ s r rs f e d ih w. (w.0, ih w.1)) (λ s r rs f e n ih w. ih w.1)

records-first : (r ys : List ℕ) → WholeRecord r → records_of (r ++ ys) ≡ r ∷ records_of ys
records-first r ys w =
    let n : need (r ++ ys) ≡ length r = rw (length-append-two r ys (omega (arith, w.long))) (sym w.long) in
    rw (n, take-append_seam r ys, drop-append_seam r ys) at (records-whole (r ++ ys) (record-front r ys w))

records-joined : (rs : List (List ℕ)) (ys : List ℕ) → AllWhole rs → records_of (joined rs ++ ys) ≡ rs ++ records_of ys
records-joined [] ys w = refl
records-joined (r ∷ rs) ys w =
    rw append_assoc (records-first r (joined rs ++ ys) w.0 ∙ ap (λ (l : List (List ℕ)). r ∷ l) (records-joined rs ys w.1))

records-none : records_of [] ≡ []
unfolding records_of records_by
records-none = rw front-none

-- a record behind them that is no detail adds none
details-last : (rs : List (List ℕ)) (h c : List ℕ) → is_of_group (kind_byte c) ≡ false
    → details (under_headings h (rs ++ (c ∷ []))) ≡ details (under_headings h rs)
unfolding under_headings details
details-last [] h c e = rw e
details-last (r ∷ rs) h c e = rw (details-last rs (pick (eqb (kind_byte r) 2) r h) c e)

clean-details : (rs : List (List ℕ)) → AllWhole rs → details (under_headings [] (records_of (book_of rs))) ≡ details (under_headings [] rs)
unfolding sort_of
clean-details rs w =
    let c = record_bytes 8 (length rs ∷ []) in
    let k = close-kind (length rs ∷ []) in
    let one : records_of c ≡ c ∷ [] = rw (append-nil, records-none) at (records-first c [] k.whole) in
    rw (records-joined rs c w, one) (details-last rs [] c (rw (row-eight (version_of c) (kind_byte c) k.kind)))

-- ---- the promise

-- The details of the clean book, each with the last heading before it there, are the details of the damaged book that were read and not listed, each
-- with the last record of kind byte 2 before it there, byte for byte and in order.
pub heading-kept : (damaged : List ℕ) (book_room_lem list_room_lem : ℕ) (l : Lengths) → (salvage_of damaged book_room_lem list_room_lem).answer ≡ Ok l
    → details (under_headings [] (records_of (salvage_of damaged book_room_lem list_room_lem).book))
    ≡ details (unlisted (found_in start damaged).dropped 0 (under_headings [] (take (read_by (found_in start damaged)) (records_of damaged))))
unfolding salvage_of
heading-kept damaged book_room_lem list_room_lem l e =
    let rs = records_of damaged in
    rw (saved-so (found start rs) book_room_lem list_room_lem l e).1
    (clean-details (found start rs).kept (kept_whole start rs (all_whole damaged)) ∙ (headings-kept start rs).same [] [] (λ z. refl))
