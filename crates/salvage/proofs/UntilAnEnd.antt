-- The reading goes on until one of W5's ends stands there.
-- Assumes nothing.
use Prim.Native.Nat.{ℕ, ◌+◌}
use mathlib.Core.Path.{◌≡◌, refl, ◌∙◌}
use mathlib.Core.List.{List, [], ◌∷◌}
use mathlib.Core.Bool.{Bool, true, false, ◌&&◌}
use mathlib.Core.Logic.{inl, inr, ⊎_elim}
use native.Mathlib.Omega.{arith}
use borrow.Author.Tests.{eqb-true, leb-true}
use lib.Dec.{leb, eqb}
use lib.ListN.{length, drop}
use Rattle.base.specs.Choice.{pick}
use Rattle.base.proofs.Tests.{and_l, and_r, or_cases}
use Rattle.account.specs.Judge.{kind_byte}
use Rattle.book.specs.WholeRecords.{records_of}
use Rattle.salvage.specs.declared.Reading.{Reading}
use Rattle.salvage.specs.Salvage.{dropped_by, ends, reading_after, start, Found, nothing, with, found, found_in}
use Rattle.salvage.specs.Promised.{read_by, EndAt}
use Rattle.salvage.specs.HowFar.{reached, reached_in}
use Rattle.salvage.proofs.Fates.{records-after}
use Rattle.salvage.proofs.OnePass.{kept-count}
use Rattle.salvage.proofs.AfterEnd.{one_more}

-- a record ends it
one_end : (s : Reading) (r : List ℕ) (rs : List (List ℕ)) → ends s r ≡ true → EndAt s (r ∷ rs)
one_end s r rs e =
    let close = eqb (kind_byte r) 8 && eqb (dropped_by s r) 0 in
    ⊎_elim (λ (h : leb 4095 s.account.records ≡ true). inl (leb-true _ _ h))
    (λ (h : close ≡ true). inr (eqb-true _ _ (and_l (eqb (kind_byte r) 8) _ h), eqb-true _ _ (and_r (eqb (kind_byte r) 8) _ h)))
    (or_cases (leb 4095 s.account.records) close e)

until : (s : Reading) (rs : List (List ℕ)) → EndAt (reached s rs) (drop (read_by (found s rs)) rs)
unfolding found reached
until s [] = tt
until s (r ∷ rs) = go (ends s r) refl (until (reading_after s r) rs)
  where
    f : Found
    f = found (reading_after s r) rs

    go : (b : Bool) → ends s r ≡ b → EndAt (reached (reading_after s r) rs) (drop (read_by f) rs)
        → EndAt (pick b s (reached (reading_after s r) rs)) (drop (read_by (pick b nothing (with (dropped_by s r) s.number r f))) (r ∷ rs))
    go true e ih = one_end s r rs e
    go false e ih = rw (one_more (dropped_by s r) s.number r f) ih

-- the account of the reading reached counts the kept records
kept-so : (s : Reading) (rs : List (List ℕ)) → (reached s rs).account.records ≡ s.account.records + length (found s rs).kept
unfolding found reached
kept-so s [] = omega arith
kept-so s (r ∷ rs) = go (ends s r) refl (kept-so (reading_after s r) rs)
  where
    f : Found
    f = found (reading_after s r) rs

    go : (b : Bool) → ends s r ≡ b → (reached (reading_after s r) rs).account.records ≡ (reading_after s r).account.records + length f.kept
        → (pick b s (reached (reading_after s r) rs)).account.records
        ≡ s.account.records + length (pick b nothing (with (dropped_by s r) s.number r f)).kept
    go true e ih = omega arith
    go false e ih = omega (arith, ih, records-after s r e, kept-count (dropped_by s r) s.number r f)

-- After the records that are kept or listed, no whole record is left, since the bytes end or code 1 stands there; or 4,095 are kept; or the next is
-- a close that none of the reasons drops.
pub until-an-end : (damaged : List ℕ)
    → EndAt (reached_in start damaged) (drop (read_by (found_in start damaged)) (records_of damaged))
    × ((reached_in start damaged).account.records ≡ length (found_in start damaged).kept)
until-an-end damaged = (until start (records_of damaged), kept-so start (records_of damaged) ∙ omega arith)
