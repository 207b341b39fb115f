-- What stands after the end of the reading changes nothing: document 02, W5, "end the reading, unlisted".
-- Assumes nothing.
use Prim.Native.Nat.{ℕ, zero, suc, ◌+◌, ◌-◌, ◌≤◌, ◌<◌, min}
use mathlib.Core.Path.{◌≡◌, refl, sym, ap, ◌∙◌}
use mathlib.Core.List.{List, ◌∷◌, ◌++◌}
use mathlib.Core.Bool.{Bool, true, false}
use native.Mathlib.Omega.{arith}
use lib.ListN.{length, take, drop, length-append, length-drop}
use lib.Seq.{length-take-le, take-append-le, drop-append-le, drop-drop}
use lib.Dec.{leb, eqb}
use borrow.Author.Tests.{ne_eqb, le-leb}
use Rattle.base.specs.Choice.{pick}
use Rattle.codec.specs.Table.{length_most_lem}
use Rattle.account.specs.Line.{joined}
use Rattle.book.specs.Front.{Front, unfinished, bad_length, whole, need, front}
use Rattle.book.specs.Inner.{front_number}
use Rattle.book.proofs.Fronts.{meaning, unfinished-short, bad-append, whole_append, length-append-two}
use Rattle.walk.specs.Walk.{record_at}
use Rattle.book.specs.WholeRecords.{records_of}
use Rattle.book.proofs.WholeRecords.{records-whole, rest-short}
use Rattle.salvage.specs.declared.Reading.{Reading}
use Rattle.salvage.specs.declared.turns.Turn.{Turn}
use Rattle.salvage.specs.Salvage.{Found, nothing, with, dropped_by, ends, reading_after, start, found_in, salvage_of}
use Rattle.salvage.specs.Promised.{read_by}
use Rattle.salvage.specs.HowFar.{goes_on_lem, reached, reached_in, bytes_read, close_bytes, ending_at, end_at, end_of, followed_by}
use Rattle.salvage.specs.Inner.{Open, Turned, Reaches}
use Rattle.salvage.proofs.OneTurn.{found-goes, whole-goes, whole-stops, none-stops, stops-found, stops-reached, goes-found, goes-reached}
use Rattle.salvage.proofs.OnePass.{open-start, turn_inside}
use Rattle.salvage.proofs.Endings.{close-most}

-- ---- a record more is read

pub one_more : (code number : ℕ) (r : List ℕ) (f : Found) → read_by (with code number r f) ≡ suc (read_by f)
one_more code number r f = go (eqb code 0)
  where
    go : (b : Bool)
        → length (pick b (r ∷ f.kept) f.kept) + length (pick b f.dropped (record { number = number; code = code } ∷ f.dropped))
        ≡ suc (length f.kept + length f.dropped)
    go true = omega arith
    go false = omega arith

bytes-goes : (s s' : Reading) (xs : List ℕ) (n code number : ℕ) → n ≤ length xs → records_of xs ≡ take n xs ∷ records_of (drop n xs)
    → found_in s xs ≡ with code number (take n xs) (found_in s' (drop n xs)) → bytes_read s xs ≡ n + bytes_read s' (drop n xs)
bytes-goes s s' xs n code number h e g =
    let f = found_in s' (drop n xs) in
    let counted : read_by (found_in s xs) ≡ suc (read_by f) = ap read_by g ∙ one_more code number (take n xs) f in
    let taken : take (read_by (found_in s xs)) (records_of xs) ≡ take n xs ∷ take (read_by f) (records_of (drop n xs)) = rw counted (rw e) in
    ap (λ (l : List (List ℕ)). length (joined l)) taken
    ∙ length-append (take n xs) (joined (take (read_by f) (records_of (drop n xs))))
    ∙ rw (length-take-le n xs h)

bytes-none : (s : Reading) (xs : List ℕ) → found_in s xs ≡ nothing → bytes_read s xs ≡ 0
bytes-none s xs e = ap (λ (f : Found). length (joined (take (read_by f) (records_of xs)))) e

-- ---- the loop that counts them

pub record Going (xs : List ℕ) (s : Reading) (at : ℕ) : Type 0 where
  pub within : at ≤ length xs
  pub opened : Open s
  pub numbered : s.number ≤ at
  pub bytes : at + bytes_read s (drop at xs) ≡ bytes_read start xs
  pub reaches : reached_in s (drop at xs) ≡ reached_in start xs

pub going-none : (xs : List ℕ) → Going xs start 0
going-none xs = record { within = omega arith; opened = open-start; numbered = omega arith; bytes = omega arith; reaches = refl }

pub going_on : (xs : List ℕ) (at : ℕ) {s : Reading} {t : Turn} → Turned s (drop at xs) t → 0 < t.n → Going xs s at → Going xs t.next (at + t.n)
going_on xs at {s} {t} v h g =
    let more : bytes_read s (drop at xs) ≡ t.n + bytes_read t.next (drop (at + t.n) xs) =
    rw (drop-drop t.n at xs) at (bytes-goes s t.next (drop at xs) t.n (dropped_by s (record_at (drop at xs))) s.number v.inside (v.first_of h) (v.goes h)) in
    let far : reached_in s (drop at xs) ≡ reached_in t.next (drop t.n (drop at xs)) =
    rw (v.next-is h, v.size h) (goes-reached s (drop at xs) (v.on h)) in
    record {
      within = turn_inside xs at v h g.within;
      opened = v.opened;
      numbered = omega (arith, v.number h, g.numbered);
      bytes = omega (arith, more, g.bytes);
      reaches = sym (rw (drop-drop t.n at xs) at far) ∙ g.reaches;
    }

-- past the end it does not go on
pub left-stops : (s : Reading) (xs : List ℕ) (at : ℕ) → length xs ≤ at → goes_on_lem (front (drop at xs)) s (drop at xs) ≡ false
left-stops s xs at h =
    none-stops s (drop at xs) (λ e. let m = (meaning (drop at xs) whole e).0 in omega (arith, m, length-drop at xs))

pub going-ends : (xs : List ℕ) (at : ℕ) {s : Reading} → Going xs s at → goes_on_lem (front (drop at xs)) s (drop at xs) ≡ false
    → Reaches xs (record { reading = s; at = at })
going-ends xs at {s} g e =
    record {
      reading = sym (stops-reached s (drop at xs) e) ∙ g.reaches;
      at = omega (arith, bytes-none s (drop at xs) (stops-found s (drop at xs) e), g.bytes);
      within = g.within;
      opened = g.opened;
    }

-- ---- where a longest record would have room after them, bytes after all of these change nothing

not-both : bad_length ≡ whole → ⊥
not-both e = absurd (omega (arith, ap front_number e))

-- the first record of xs, with bytes after them
first-with : (xs ys : List ℕ) → front xs ≡ whole → records_of (xs ++ ys) ≡ take (need xs) xs ∷ records_of (drop (need xs) xs ++ ys)
first-with xs ys e =
    let m = meaning xs whole e in
    rw (length-append-two xs ys m.0, take-append-le (need xs) xs ys m.3, drop-append-le (need xs) xs ys m.3)
    at (records-whole (xs ++ ys) (whole_append xs ys e))

-- the same is found, the same reading is reached, and the same records are read
record Same (s : Reading) (xs ys : List ℕ) : Type 0 where
  found-so : found_in s (xs ++ ys) ≡ found_in s xs
  reached-so : reached_in s (xs ++ ys) ≡ reached_in s xs
  read : take (read_by (found_in s xs)) (records_of (xs ++ ys)) ≡ take (read_by (found_in s xs)) (records_of xs)

-- neither goes on
same-stops : (s : Reading) (xs ys : List ℕ) → goes_on_lem (front xs) s xs ≡ false → goes_on_lem (front (xs ++ ys)) s (xs ++ ys) ≡ false → Same s xs ys
same-stops s xs ys p q =
    let n = stops-found s xs p in
    record {
      found-so = stops-found s (xs ++ ys) q ∙ sym n;
      reached-so = stops-reached s (xs ++ ys) q ∙ sym (stops-reached s xs p);
      read = rw n refl;
    }

module _ (s : Reading) (xs ys : List ℕ) (e : front xs ≡ whole) where
  -- the first record, with bytes after them
  same_first : record_at (xs ++ ys) ≡ record_at xs
  same_first =
      let m = meaning xs whole e in
      rw (length-append-two xs ys m.0) (take-append-le (need xs) xs ys m.3)

  same_ends : (b : Bool) → ends s (record_at xs) ≡ b
      → (ends s (record_at xs) ≡ false → Same (reading_after s (record_at xs)) (drop (need xs) xs) ys) → Same s xs ys
  unfolding reached
  same_ends true d ih =
      same-stops s xs ys (whole-stops s xs e d) (whole-stops s (xs ++ ys) (whole_append xs ys e) (rw same_first d))
  same_ends false d ih =
      let r = record_at xs in
      let rest = drop (need xs) xs in
      let f = found_in (reading_after s r) rest in
      let i = ih d in
      let g : found_in s xs ≡ with (dropped_by s r) s.number r f = goes-found s xs (whole-goes s xs e d) in
      let counted : read_by (found_in s xs) ≡ suc (read_by f) = ap read_by g ∙ one_more (dropped_by s r) s.number r f in
      record {
        found-so = rw (first-with xs ys e)
            (found-goes s r (records_of (rest ++ ys)) d ∙ ap (λ (x : Found). with (dropped_by s r) s.number r x) i.found-so ∙ sym g);
        reached-so = rw (first-with xs ys e) (rw d (i.reached-so ∙ sym (goes-reached s xs (whole-goes s xs e d))));
        read = rw (counted, first-with xs ys e, records-whole xs e) (ap (λ (l : List (List ℕ)). r ∷ l) i.read);
      }

same_after : (n : ℕ) (s : Reading) (xs ys : List ℕ) → length xs < n → bytes_read s xs + (length_most_lem + 2) ≤ length xs → Same s xs ys
same_after zero s xs ys p q = absurd (omega arith)
same_after (suc n) s xs ys p q = go (front xs) refl (λ e s' h. same_after n s' (drop (need xs) xs) ys (rest-short xs n e p) h)
  where
    go : (f : Front) → front xs ≡ f
        → (front xs ≡ whole → (s' : Reading) → bytes_read s' (drop (need xs) xs) + (length_most_lem + 2) ≤ length (drop (need xs) xs)
        → Same s' (drop (need xs) xs) ys)
        → Same s xs ys
    go unfinished e ih = let z = unfinished-short xs e in absurd (omega (arith, z, q))
    go bad_length e ih =
        same-stops s xs ys (none-stops s xs (λ w. not-both (sym e ∙ w))) (none-stops s (xs ++ ys) (λ w. not-both (sym (bad-append xs ys e) ∙ w)))
    go whole e ih =
        same_ends s xs ys e (ends s (record_at xs)) refl
        (λ d.
        let m = meaning xs whole e in
        let r = record_at xs in
        let g = goes-found s xs (whole-goes s xs e d) in
        let more = bytes-goes s (reading_after s r) xs (need xs) (dropped_by s r) s.number m.3 (records-whole xs e) g in
        ih e (reading_after s r) (omega (arith, more, q, length-drop (need xs) xs)))

-- the salvage of a book of which only the beginning was looked at is that of the whole book
pub after-the-end : (damaged more : List ℕ) (book_room_lem list_room_lem : ℕ) → bytes_read start damaged + (length_most_lem + 2) ≤ length damaged
    → salvage_of (damaged ++ more) book_room_lem list_room_lem ≡ salvage_of damaged book_room_lem list_room_lem
unfolding salvage_of
after-the-end damaged more book_room_lem list_room_lem h = rw (same_after (suc (length damaged)) start damaged more (omega arith) h).found-so

-- ---- the end of the reading is the same, with so many more bytes that were not read

module _ (s : Reading) (xs ys : List ℕ) (h : length_most_lem + 2 ≤ length xs) where
  close-same : close_bytes (front (xs ++ ys)) s (xs ++ ys) ≡ close_bytes (front xs) s xs
  close-same = go (front xs) refl
    where
      go : (f : Front) → front xs ≡ f → close_bytes (front (xs ++ ys)) s (xs ++ ys) ≡ close_bytes f s xs
      go unfinished e = let z = unfinished-short xs e in absurd (omega (arith, z, h))
      go bad_length e = rw (bad-append xs ys e)
      go whole e =
          let m = meaning xs whole e in
          rw (whole_append xs ys e, length-append-two xs ys m.0, take-append-le (need xs) xs ys m.3)

  ending-same : (close : ℕ) → ending_at s (xs ++ ys) close ≡ ending_at s xs close
  ending-same close =
      let l = length-append xs ys in
      let some : eqb (length (xs ++ ys)) 0 ≡ eqb (length xs) 0 =
      ne_eqb (length (xs ++ ys)) 0 (λ z. omega (arith, z, l, h)) ∙ sym (ne_eqb (length xs) 0 (λ z. omega (arith, z, h))) in
      let two : leb 2 (length (xs ++ ys)) ≡ leb 2 (length xs) =
      le-leb 2 (length (xs ++ ys)) (omega (arith, l, h)) ∙ sym (le-leb 2 (length xs) (omega (arith, h))) in
      rw (some, two, length-append-two xs ys (omega (arith, h)))

  end_same : (at : ℕ) → end_at s at (xs ++ ys)
      ≡ record { at = at; why = (end_at s at xs).why; unread = (end_at s at xs).unread + length ys }
  end_same at =
      let c = close_bytes (front xs) s xs in
      let n : length (xs ++ ys) - c ≡ length xs - c + length ys = omega (arith, length-append xs ys, close-most s xs) in
      rw (close-same, ending-same c, n)

-- Where a longest record would have room after the bytes read, the end of the reading is that of the beginning, followed by the bytes after it.
pub end_after : (damaged more : List ℕ) → bytes_read start damaged + (length_most_lem + 2) ≤ length damaged
    → length damaged + length more ≤ 18446744073709551615
    → end_of (damaged ++ more) ≡ followed_by (end_of damaged) (length more)
unfolding end_of
end_after damaged more h k =
    let m = same_after (suc (length damaged)) start damaged more (omega arith) h in
    let at = bytes_read start damaged in
    let s = reached_in start damaged in
    let rest = drop at damaged in
    let far : bytes_read start (damaged ++ more) ≡ at = rw m.found-so (ap (λ (l : List (List ℕ)). length (joined l)) m.read) in
    let cut : drop at (damaged ++ more) ≡ rest ++ more = drop-append-le at damaged more (omega (arith, h)) in
    let full : (end_at s at rest).unread + length more ≡ min ((end_at s at rest).unread + length more) 18446744073709551615 =
    omega (arith, k, length-drop at damaged) in
    let long : length_most_lem + 2 ≤ length rest = omega (arith, h, length-drop at damaged) in
    rw (far, m.reached-so, cut) (end_same s rest more long at ∙ rw (← full))
