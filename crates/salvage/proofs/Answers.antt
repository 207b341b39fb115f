-- The answer: 19 where nothing is kept, 16 where a buffer is short, and else both lengths.
-- Assumes nothing.
use Prim.Native.Nat.{ℕ, ◌*◌, ◌/◌, ◌≤◌}
use mathlib.Core.Path.{◌≡◌, refl, sym, ap, ◌∙◌}
use mathlib.Core.List.{List, [], ◌∷◌}
use mathlib.Core.Bool.{Bool, true, false, ◌||◌, not}
use Rattle.std.specs.Prelude.{Result, Ok}
use native.Mathlib.Nat.{zero-add}
use native.Mathlib.Omega.{arith}
use borrow.Author.Tests.{ltb-true, ltb-false, lt-ltb, le-ltb, eq-eqb, ne_eqb}
use lib.ListN.{length, length-append}
use lib.Seq.{sets, sets-eq, length-sets}
use lib.Dec.{ltb, eqb}
use Rattle.base.proofs.Tests.{or_l, or_r}
use Rattle.codec.specs.Codec.{be}
use Rattle.account.specs.Judge.{kind_byte}
use Rattle.salvage.specs.declared.Reading.{Reading}
use Rattle.salvage.specs.declared.passes.Sizes.{Sizes}
use Rattle.salvage.specs.declared.Lengths.{Lengths}
use Rattle.salvage.specs.declared.Unsaved.{Unsaved}
use Rattle.salvage.specs.declared.Unsaved.TheVariants.{NoFarm, NoRoom}
use Rattle.salvage.specs.Salvage.{Entry, Found, start, found, book_of, entry_bytes, list_of, farm_among, refusing, saving, Salvage, answering}
use Rattle.salvage.specs.Salvage.{salvage_of, saved_in, answer_for, book_after, list_after, found_in}
use Rattle.salvage.specs.Inner.{Open, Measured}
use Rattle.salvage.proofs.Fates.{gets_none, first-farm, dropped-account, open_after}
use Rattle.salvage.proofs.OneTurn.{by-records}
use Rattle.salvage.proofs.OnePass.{open-start}

-- ---- a farm record is among the kept ones, unless there is none

-- some, of which the first is a farm record, or none
abbrev pub Farmed : List (List ℕ) → Type 0
Farmed rs = farm_among rs ≡ not (eqb (length rs) 0)

farmed-none : Farmed []
unfolding farm_among
farmed-none = refl

farmed-some : (r : List ℕ) (rs : List (List ℕ)) → kind_byte r ≡ 1 → Farmed (r ∷ rs)
unfolding farm_among
farmed-some r rs k = rw (k, ne_eqb (length (r ∷ rs)) 0 (λ e. omega arith))

pub farmed : (s : Reading) (rs : List (List ℕ)) → s.account.records ≡ 0 → Open s → Farmed (found s rs).kept
farmed =
    by-records (λ s rs f. s.account.records ≡ 0 → Open s → Farmed f.kept) (λ s rs z o. farmed-none)
    (λ s r rs f e d ih z o. farmed-some r f.kept (first-farm s.account r (gets_none s r e d) z))
    (λ s r rs f e n ih z o. ih (rw (dropped-account s r e n) z) (open_after s r e o))

-- ---- the bytes of the list

pub list-long : (es : List Entry) → length (list_of es) ≡ length es * 9
unfolding list_of be
list-long [] = refl
list-long (e ∷ es) = let h = list-long es in length-append (entry_bytes e) (list_of es) ∙ omega arith

ninth : (room n : ℕ) → ltb room (n * 9) ≡ ltb (room / 9) n
ninth room n = go (ltb (room / 9) n) refl
  where
    go : (b : Bool) → ltb (room / 9) n ≡ b → ltb room (n * 9) ≡ b
    go true e = let h = ltb-true (room / 9) n e in lt-ltb room (n * 9) (omega arith)
    go false e = let h = ltb-false (room / 9) n e in le-ltb room (n * 9) (omega arith)

-- ---- what is answered, by the sizes

pub list-is : (f : Found) (m : Sizes) → Measured f m → m.dropped * 9 ≡ length (list_of f.dropped)
list-is f m d = rw (list-long, d.dropped)

module _ (xs : List ℕ) (book_room_lem list_room_lem : ℕ) (m : Sizes) (d : Measured (found_in start xs) m) where
  farm-is : farm_among (found_in start xs).kept ≡ not (eqb m.kept 0)
  farm-is = rw d.kept (farmed start _ refl open-start)

  room-is : ltb book_room_lem (length (book_of (found_in start xs).kept)) || ltb list_room_lem (length (list_of (found_in start xs).dropped))
      ≡ ltb book_room_lem m.book || ltb (list_room_lem / 9) m.dropped
  room-is = rw (list-long, d.book, d.dropped, ninth)

  pub salvage-19 : m.kept ≡ 0 → salvage_of xs book_room_lem list_room_lem ≡ refusing NoFarm
  unfolding salvage_of answering
  salvage-19 z = rw (farm-is, eq-eqb _ _ z)

  module _ (n : m.kept ≡ 0 → ⊥) where
    pub salvage-16 : ltb book_room_lem m.book || ltb (list_room_lem / 9) m.dropped ≡ true → salvage_of xs book_room_lem list_room_lem ≡ refusing NoRoom
    unfolding salvage_of answering
    salvage-16 e = rw (farm-is, ne_eqb _ _ n, room-is, e)

    pub salvage-saved : ltb book_room_lem m.book || ltb (list_room_lem / 9) m.dropped ≡ false
        → salvage_of xs book_room_lem list_room_lem ≡ saving (book_of (found_in start xs).kept) (list_of (found_in start xs).dropped)
    unfolding salvage_of answering
    salvage-saved e = rw (farm-is, ne_eqb _ _ n, room-is, e)

  pub rooms : ltb book_room_lem m.book || ltb (list_room_lem / 9) m.dropped ≡ false
      → (length (book_of (found_in start xs).kept) ≤ book_room_lem) × (length (list_of (found_in start xs).dropped) ≤ list_room_lem)
  rooms e =
      let b = ltb-false book_room_lem m.book (or_l (ltb book_room_lem m.book) (ltb (list_room_lem / 9) m.dropped) e) in
      let l = ltb-false (list_room_lem / 9) m.dropped (or_r (ltb book_room_lem m.book) (ltb (list_room_lem / 9) m.dropped) e) in
      (omega (arith, d.book, b), omega (arith, list-is (found_in start xs) m d, l))

-- a run of stores from the start on is bytes laid there
pub laid_so : (bs out : List ℕ) → length bs ≤ length out → sets out 0 bs ≡ saved_in bs out
laid_so bs out h = sets-eq bs out 0 (omega arith) ∙ rw zero-add

-- ---- what a caller gets

-- by the salvage
pub gets : (xs book list : List ℕ) (s : Salvage) → salvage_of xs (length book) (length list) ≡ s
    → (s.answer ≡ answer_for xs book list) × ((saved_in s.book book ≡ book_after xs book list) × (saved_in s.list list ≡ list_after xs book list))
gets xs book list s e =
    (sym (ap (λ (x : Salvage). x.answer) e), (sym (ap (λ (x : Salvage). saved_in x.book book) e), sym (ap (λ (x : Salvage). saved_in x.list list) e)))

-- the lengths are those that were found
pub lengths-are : (f : Found) (m : Sizes) → Measured f m
    → ◌≡◌ {A = Result Lengths Unsaved} (Ok (record { book = m.book; list = m.dropped * 9 })) (saving (book_of f.kept) (list_of f.dropped)).answer
lengths-are f m d = rw (d.book, list-is f m d)

-- stores leave a buffer as long as it was
pub still-long : (n : ℕ) (bs out out' : List ℕ) → out' ≡ sets out 0 bs → n ≡ length bs → length bs ≤ length out → n ≤ length out'
still-long n bs out out' e k h = rw e (omega (arith, length-sets out 0 bs, k, h))
