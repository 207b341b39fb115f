-- The two passes: what a loop over a damaged book has counted and written so far, and how a turn takes it on.
-- Assumes nothing.
use Prim.Native.Nat.{ℕ, ◌+◌, ◌*◌, ◌≤◌, ◌<◌}
use mathlib.Core.Path.{◌≡◌, refl, sym, ap, ◌∙◌}
use mathlib.Core.List.{List, [], ◌∷◌, ◌++◌, append_assoc}
use mathlib.Core.Bool.{Bool, true, false}
use native.Mathlib.Omega.{arith}
use Rattle.std.specs.Prelude.{Option, Some, None}
use lib.ListN.{length, take, drop, length-append, length-drop}
use lib.Seq.{sets, length-sets, drop-drop, length-take-le}
use lib.Dec.{eqb}
use Rattle.base.specs.Choice.{pick}
use Rattle.codec.specs.Table.{table, size}
use Rattle.codec.specs.Codec.{record_bytes}
use Rattle.codec.proofs.Stores.{sets-append}
use Rattle.codec.proofs.Round.{record-length}
use Rattle.account.specs.Line.{joined}
use Rattle.account.proofs.Keeps.{in-range-none}
use Rattle.book.specs.Front.{whole}
use Rattle.walk.specs.Walk.{record_at}
use Rattle.book.proofs.Fronts.{meaning}
use Rattle.salvage.specs.declared.Reading.{Reading}
use Rattle.salvage.specs.declared.turns.Turn.{Turn}
use Rattle.salvage.specs.Salvage.{Found, nothing, with, dropped_by, start, book_of, entry_bytes, list_of, found_in}
use Rattle.salvage.specs.Inner.{Open, as_told, by_told, Turned, book_from, note_of, note_told, Measured}
use Rattle.salvage.proofs.OneTurn.{none_found, by-is}

pub open-start : Open start
open-start = record { range = in-range-none; early = omega arith; headed = omega arith }

-- ---- a record more

module _ (code number : ℕ) (r : List ℕ) (f : Found) where
  kept-bytes : joined (with code number r f).kept ≡ pick (eqb code 0) r [] ++ joined f.kept
  kept-bytes = go (eqb code 0)
    where
      go : (b : Bool) → joined (pick b (r ∷ f.kept) f.kept) ≡ pick b r [] ++ joined f.kept
      go true = refl
      go false = refl

  pub kept-count : length (with code number r f).kept ≡ pick (eqb code 0) 1 0 + length f.kept
  kept-count = go (eqb code 0)
    where
      go : (b : Bool) → length (pick b (r ∷ f.kept) f.kept) ≡ pick b 1 0 + length f.kept
      go true = omega arith
      go false = omega arith

  listed-bytes : list_of (with code number r f).dropped ≡ note_of code number ++ list_of f.dropped
  unfolding list_of
  listed-bytes = go (eqb code 0)
    where
      go : (b : Bool)
          → list_of (pick b f.dropped (record { number = number; code = code } ∷ f.dropped))
          ≡ pick b [] (entry_bytes (record { number = number; code = code })) ++ list_of f.dropped
      go true = refl
      go false = refl

  listed-count : length (with code number r f).dropped ≡ pick (eqb code 0) 0 1 + length f.dropped
  listed-count = go (eqb code 0)
    where
      go : (b : Bool) → length (pick b f.dropped (record { number = number; code = code } ∷ f.dropped)) ≡ pick b 0 1 + length f.dropped
      go true = omega arith
      go false = omega arith

  -- the clean book that is still to come begins with the record, if it is kept
  pub book-turn : (s s' : Reading) → s'.account.records ≡ s.account.records + pick (eqb code 0) 1 0
      → book_from s (with code number r f) ≡ pick (eqb code 0) r [] ++ book_from s' f
  book-turn s s' e =
      let n : s.account.records + length (with code number r f).kept ≡ s'.account.records + length f.kept = omega (arith, e, kept-count) in
      rw (kept-bytes, n, append_assoc)

-- its entry, by what the code has of the number
note-is : (o : Option ℕ) (code number : ℕ) → o ≡ as_told code → note_told o number ≡ note_of code number
note-is o code number e = rw e (go (eqb code 0))
  where
    go : (b : Bool) → note_told (pick b None (Some code)) number ≡ pick b [] (entry_bytes (record { number = number; code = code }))
    go true = refl
    go false = refl

pick-length : (b : Bool) (n : ℕ) (xs : List ℕ) → n ≤ length xs → length (pick b (take n xs) []) ≡ pick b n 0
pick-length true n xs h = length-take-le n xs h
pick-length false n xs h = refl

pub pick-take : (b : Bool) (n : ℕ) (xs : List ℕ) → take (pick b n 0) xs ≡ pick b (take n xs) []
pick-take true n xs = refl
pick-take false n xs = refl

pub told-most : (o : Option ℕ) (n : ℕ) → by_told o n 0 ≤ n
told-most None n = omega arith
told-most (Some code) n = omega arith

pick-28 : (b : Bool) (n : ℕ) → n ≤ 28 → pick b n 0 ≤ 28 * pick b 1 0
pick-28 true n h = h
pick-28 false n h = omega arith

pick-one : (b : Bool) → pick b 0 1 ≤ 1
pick-one true = omega arith
pick-one false = omega arith

-- past the end nothing is found
pub nothing_left : (s : Reading) (xs : List ℕ) (at : ℕ) → length xs ≤ at → found_in s (drop at xs) ≡ nothing
nothing_left s xs at h = none_found s (drop at xs) (λ e. let m = (meaning (drop at xs) whole e).0 in omega (arith, m, length-drop at xs))

-- ---- counting

-- the records of xs up to at are read: so many bytes of the clean book, its close among them, and so many entries of the list
pub record Measuring (xs : List ℕ) (s : Reading) (at book dropped : ℕ) : Type 0 where
  pub within : at ≤ length xs
  pub opened : Open s
  pub numbered : s.number ≤ at
  pub short : book ≤ 28 * s.account.records + 6
  pub few : dropped ≤ at
  pub kept : s.account.records + length (found_in s (drop at xs)).kept ≡ length (found_in start xs).kept
  pub bytes : book + length (joined (found_in s (drop at xs)).kept) ≡ length (joined (found_in start xs).kept) + 6
  pub entries : dropped + length (found_in s (drop at xs)).dropped ≡ length (found_in start xs).dropped

module _ (xs : List ℕ) (at : ℕ) {s : Reading} {t : Turn} (v : Turned s (drop at xs) t) (h : 0 < t.n) where
  pub turn_inside : at ≤ length xs → at + t.n ≤ length xs
  turn_inside w = omega (arith, v.inside, length-drop at xs)

  -- the number that drops it, 0 where none does
  abbrev code : ℕ
  code = dropped_by s (record_at (drop at xs))

  its-choice : (x y : ℕ) → by_told t.code x y ≡ pick (eqb code 0) x y
  its-choice x y = by-is t.code code (v.code_is h) x y

  its-note : note_told t.code s.number ≡ note_of code s.number
  its-note = note-is t.code code s.number (v.code_is h)

  goes_so : found_in s (drop at xs) ≡ with code s.number (take t.n (drop at xs)) (found_in t.next (drop (at + t.n) xs))
  goes_so = rw (drop-drop t.n at xs) at (v.goes h)

  pub measuring-on : {book dropped : ℕ} → Measuring xs s at book dropped
      → Measuring xs t.next (at + t.n) (book + by_told t.code t.n 0) (dropped + by_told t.code 0 1)
  measuring-on {book} {dropped} m =
      let b = eqb code 0 in
      let r = take t.n (drop at xs) in
      let f = found_in t.next (drop (at + t.n) xs) in
      let g = goes_so in
      let grown : length (joined (found_in s (drop at xs)).kept) ≡ pick b t.n 0 + length (joined f.kept) =
      rw g
      (ap length (kept-bytes code s.number r f)
      ∙ length-append (pick b r []) (joined f.kept)
      ∙ rw (pick-length b t.n (drop at xs) v.inside)) in
      let counted : length (found_in s (drop at xs)).kept ≡ pick b 1 0 + length f.kept = rw g (kept-count code s.number r f) in
      let listed : length (found_in s (drop at xs)).dropped ≡ pick b 0 1 + length f.dropped = rw g (listed-count code s.number r f) in
      rw (its-choice t.n 0, its-choice 0 1)
      (record {
        within = turn_inside m.within;
        opened = v.opened;
        numbered = omega (arith, v.number h, m.numbered);
        short = omega (arith, pick-28 b t.n v.most, v.records h, m.short);
        few = omega (arith, pick-one b, m.few);
        kept = omega (arith, v.records h, counted, m.kept);
        bytes = omega (arith, grown, m.bytes);
        entries = omega (arith, listed, m.entries);
      })

pub book-long : (rs : List (List ℕ)) → length (book_of rs) ≡ length (joined rs) + 6
unfolding table size
book-long rs = length-append (joined rs) (record_bytes 8 (length rs ∷ [])) ∙ ap (λ (n : ℕ). length (joined rs) + n) (record-length 8 (length rs ∷ []))

-- nothing more is found
pub measured : {xs : List ℕ} {s : Reading} {at book dropped : ℕ} → Measuring xs s at book dropped → found_in s (drop at xs) ≡ nothing
    → Measured (found_in start xs) (record { kept = s.account.records; book = book; dropped = dropped })
measured {xs} {s} {at} {book} {dropped} m e =
    let k = rw e at m.kept in
    let b = rw e at m.bytes in
    let d = rw e at m.entries in
    record { kept = omega (arith, k); book = omega (arith, b, book-long (found_in start xs).kept); dropped = omega (arith, d) }

-- ---- writing

-- the bytes all go to the start of out₀: up to w they are in, and todo is still to come
pub record Laying (out₀ out : List ℕ) (w : ℕ) (todo all : List ℕ) : Type 0 where
  pub long : length out ≡ length out₀
  pub room : w + length todo ≤ length out₀
  pub goal : sets out w todo ≡ sets out₀ 0 all

-- some of them more
laying-on : {out₀ out out' : List ℕ} {w n : ℕ} {todo all : List ℕ} (bs : List ℕ) → Laying out₀ out w (bs ++ todo) all → length bs ≡ n
    → out' ≡ sets out w bs
    → Laying out₀ out' (w + n) todo all
laying-on {out₀} {out} {out'} {w} {n} {todo} bs l e p =
    record {
      long = rw p (length-sets out w bs ∙ l.long);
      room = omega (arith, l.room, length-append bs todo, e);
      goal = rw (p, ← e) (sym (sets-append bs todo out w) ∙ l.goal);
    }

-- the records of xs up to at are read: their bytes are in the book up to w, their entries in the list up to v
pub record Writing (xs book₀ list₀ : List ℕ) (book list : List ℕ) (s : Reading) (at w v : ℕ) : Type 0 where
  pub within : at ≤ length xs
  pub opened : Open s
  pub numbered : s.number ≤ at
  pub clean : Laying book₀ book w (book_from s (found_in s (drop at xs))) (book_of (found_in start xs).kept)
  pub listed : Laying list₀ list v (list_of (found_in s (drop at xs)).dropped) (list_of (found_in start xs).dropped)

module _ {xs book₀ list₀ book list : List ℕ} {s : Reading} {at w v : ℕ} (y : Writing xs book₀ list₀ book list s at w v) where
  module _ {t : Turn} (d : Turned s (drop at xs) t) (h : 0 < t.n) where
    -- the bytes of the record, where it is kept
    abbrev its : List ℕ
    its = pick (eqb (code xs at d h) 0) (take t.n (drop at xs)) []

    to-come : Laying book₀ book w (its ++ book_from t.next (found_in t.next (drop (at + t.n) xs))) (book_of (found_in start xs).kept)
    to-come = rw (goes_so xs at d h, book-turn (code xs at d h) s.number _ _ s t.next (d.records h)) at y.clean

    to-list : Laying list₀ list v
        (note_of (code xs at d h) s.number ++ list_of (found_in t.next (drop (at + t.n) xs)).dropped)
        (list_of (found_in start xs).dropped)
    to-list = rw (goes_so xs at d h, listed-bytes (code xs at d h) s.number _ _) at y.listed

    -- there is room for the record, if it is kept, and for its entry, if it is not
    pub record-room : w + by_told t.code t.n 0 ≤ length book
    record-room =
        let b = eqb (code xs at d h) 0 in
        let r = pick b (take t.n (drop at xs)) [] in
        let z = book_from t.next (found_in t.next (drop (at + t.n) xs)) in
        rw (its-choice xs at d h t.n 0)
        (omega (arith, to-come.room, to-come.long, length-append r z, pick-length b t.n (drop at xs) d.inside))

    pub note-room : v + length (note_told t.code s.number) ≤ length list
    note-room =
        let n = note_of (code xs at d h) s.number in
        let z = list_of (found_in t.next (drop (at + t.n) xs)).dropped in
        rw (its-note xs at d h) (omega (arith, to-list.room, to-list.long, length-append n z))

    pub writing-on : {book' list' : List ℕ} {k m : ℕ} → k ≡ by_told t.code t.n 0 → book' ≡ sets book w (take k (drop at xs))
        → list' ≡ sets list v (note_told t.code s.number) → m ≡ length (note_told t.code s.number)
        → Writing xs book₀ list₀ book' list' t.next (at + t.n) (w + k) (v + m)
    writing-on {k = k} f p q' l' =
        let b = eqb (code xs at d h) 0 in
        let e = f ∙ its-choice xs at d h t.n 0 in
        let q = rw (its-note xs at d h) at q' in
        let l = rw (its-note xs at d h) at l' in
        record {
          within = turn_inside xs at d h y.within;
          opened = d.opened;
          numbered = omega (arith, d.number h, y.numbered);
          clean =
              laying-on its to-come (pick-length b t.n (drop at xs) d.inside ∙ sym e)
              (rw (e, pick-take b t.n (drop at xs)) at p);
          listed = laying-on (note_of (code xs at d h) s.number) to-list (sym l) q;
        }

  module _ (e : found_in s (drop at xs) ≡ nothing) where
    last : Laying book₀ book w (record_bytes 8 (s.account.records ∷ [])) (book_of (found_in start xs).kept)
    last = let n : s.account.records + 0 ≡ s.account.records = omega arith in rw (e, n) at y.clean

    pub close-room : w + 6 ≤ length book
    unfolding table size
    close-room = omega (arith, last.room, last.long, record-length 8 (s.account.records ∷ []))

    pub book-written : {book' : List ℕ} → book' ≡ sets book w (record_bytes 8 (s.account.records ∷ []))
        → book' ≡ sets book₀ 0 (book_of (found_in start xs).kept)
    book-written p = p ∙ last.goal

    pub list_written : list ≡ sets list₀ 0 (list_of (found_in start xs).dropped)
    unfolding list_of
    list_written = rw e at y.listed.goal
