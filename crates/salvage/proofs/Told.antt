-- What a person is told at the end is what was found: the counts of the kept and the dropped.
-- Assumes nothing.
use Prim.Native.Nat.{ℕ, ◌+◌, ◌-◌, ◌*◌, ◌/◌, ◌≤◌, ◌<◌}
use mathlib.Core.Path.{◌≡◌, sym, ap, ◌∙◌}
use mathlib.Core.List.{List, [], ◌∷◌, ◌++◌, append_assoc}
use native.Mathlib.Omega.{arith}
use borrow.Author.Tests.{le-ltb}
use lib.ListN.{length, length-append}
use Rattle.codec.specs.Table.{table, size}
use Rattle.codec.specs.Codec.{bytes_hold, be, bytes_of, record_bytes}
use Rattle.codec.proofs.BigEndian.{val_at-be}
use Rattle.account.specs.declared.Account.{Account}
use Rattle.account.specs.Line.{joined}
use Rattle.book.specs.WholeRecords.{records_of}
use Rattle.salvage.specs.declared.Reading.{Reading}
use Rattle.salvage.specs.declared.Lengths.{Lengths}
use Rattle.std.specs.Prelude.{Ok}
use Rattle.salvage.specs.declared.how_far.ReadingEnd.{ReadingEnd}
use Rattle.salvage.specs.Salvage.{start, found, found_in, list_of, salvage_of}
use Rattle.salvage.specs.Remarks.{reading_text, kept_in, saved_text, end_text, by_number}
use Rattle.salvage.proofs.Fates.{few, kept-records, dropped-account}
use Rattle.salvage.proofs.OneTurn.{by-records}
use Rattle.salvage.proofs.Answers.{list-long}
use Rattle.salvage.proofs.SalvagedAccepted.{saved-so}

-- ---- the counts

-- a close of n records ends with n
close-count : (p : List ℕ) (n : ℕ) → n < 65536 → kept_in (p ++ record_bytes 8 (n ∷ [])) ≡ n
unfolding kept_in record_bytes table size bytes_of bytes_hold be
close-count p n h =
    let q : List ℕ = 0 ∷ 4 ∷ 1 ∷ 8 ∷ [] in
    let z = be 2 n in
    let long : length (p ++ (q ++ (z ++ []))) ≡ length p + 6 = length-append p (q ++ (z ++ [])) in
    let at : length p + 6 - 2 ≡ length (p ++ q) = sym (length-append p q ∙ omega arith) in
    rw (long, le-ltb (length p + 6) 2 (omega arith), at, ← append_assoc p q (z ++ [])) (val_at-be 2 n (p ++ q) [] (omega arith))

kept-most : (s : Reading) (rs : List (List ℕ)) → s.account.records ≤ 4095 → s.account.records + length (found s rs).kept ≤ 4095
kept-most =
    by-records (λ s rs f. s.account.records ≤ 4095 → s.account.records + length f.kept ≤ 4095) (λ s rs h. omega arith)
    (λ s r rs f e d ih h. let n = kept-records s r e d in let m = ih (omega (arith, n, few s r e)) in omega (arith, n, m))
    (λ s r rs f e n ih h.
    let a = ap (λ (b : Account). b.records) (dropped-account s r e n) in
    let m = ih (omega (arith, a, h)) in
    omega (arith, a, m))

ninth : (n : ℕ) → n * 9 / 9 ≡ n
ninth n = omega arith

-- The last words of a saved book: where the reading ended, unless all was read, and the counts of the kept records, without the close, and of the
-- dropped ones.
pub told-end : (damaged : List ℕ) (book_room_lem list_room_lem : ℕ) (l : Lengths) (end : ReadingEnd) → (salvage_of damaged book_room_lem list_room_lem).answer ≡ Ok l
    → end_text (by_number (salvage_of damaged book_room_lem list_room_lem).answer) end (salvage_of damaged book_room_lem list_room_lem).book
    ≡ reading_text end ++ saved_text (length (found_in start damaged).kept) (length (found_in start damaged).dropped)
unfolding salvage_of
told-end damaged book_room_lem list_room_lem l end e =
    let f = found_in start damaged in
    let y = (saved-so f book_room_lem list_room_lem l e).1 in
    let most = kept-most start (records_of damaged) (omega arith) in
    let k = close-count (joined f.kept) (length f.kept) (omega (arith, most)) in
    let d : length (list_of f.dropped) / 9 ≡ length f.dropped = rw list-long (ninth (length f.dropped)) in
    rw y (rw (k, d))
