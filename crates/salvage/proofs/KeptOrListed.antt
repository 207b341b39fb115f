-- Every record that is read is kept or listed, and what is listed has its reason.
-- Assumes nothing.
use Prim.Native.Nat.{ℕ, suc, ◌+◌, ◌≤◌}
use mathlib.Core.Path.{◌≡◌, refl, sym}
use mathlib.Core.List.{List, [], ◌∷◌}
use mathlib.Core.Bool.{Bool, true, false, ◌&&◌, ◌||◌}
use mathlib.Core.Logic.{◌⊎◌, inl, inr}
use native.Mathlib.Omega.{arith}
use borrow.Author.Tests.{eq-eqb, ne_eqb}
use lib.Dec.{eqb}
use lib.ListN.{length, take}
use Rattle.base.specs.Choice.{pick}
use Rattle.base.proofs.Tests.{and_l, and_r, or_left}
use Rattle.account.specs.Sorts.{is_of_group}
use Rattle.account.specs.Account.{no_record}
use Rattle.account.specs.Judge.{kind_byte, first}
use Rattle.book.specs.WholeRecords.{records_of}
use Rattle.salvage.specs.declared.Reading.{Reading}
use Rattle.salvage.specs.Salvage.{would_get, one_of, dropped_by, ends, reading_after, start, Entry, Found, found, found_in}
use Rattle.salvage.specs.Promised.{read_by, unlisted, Reason, Reasons}
use Rattle.salvage.proofs.Fates.{kept-account, dropped-account}
use Rattle.salvage.proofs.OneTurn.{by-records}

-- ---- the numbers of a list rise

-- the first number of es, if there is one, is n at least
abbrev pub From : ℕ → List Entry → Type 0
From n [] = Unit {0}
From n (e ∷ es) = n ≤ e.number

pub from_less : (n : ℕ) (es : List Entry) → From (n + 1) es → From n es
from_less n [] h = tt
from_less n (e ∷ es) h = omega arith

-- what is not listed is passed over, what is listed is left out
module _ {A : Type 0} (x : A) (xs : List A) (n : ℕ) where
  pub unlisted-kept : (es : List Entry) → From (n + 1) es → unlisted es n (x ∷ xs) ≡ x ∷ unlisted es (n + 1) xs
  unfolding unlisted
  unlisted-kept [] h = refl
  unlisted-kept (e ∷ es) h = rw (ne_eqb e.number n (λ z. omega (arith, z)))

  pub unlisted-listed : (code : ℕ) (es : List Entry) → unlisted (record { number = n; code = code } ∷ es) n (x ∷ xs) ≡ unlisted es (n + 1) xs
  unfolding unlisted
  unlisted-listed code es = rw (eq-eqb n n refl)

pub unlisted-none : {A : Type 0} (n : ℕ) (xs : List A) → unlisted [] n xs ≡ xs
unfolding unlisted
unlisted-none n xs = refl

-- ---- every record that is read is kept or listed

-- the records read are some of rs; those that are not listed are kept
record Sorted (n : ℕ) (rs : List (List ℕ)) (f : Found) : Type 0 where
  from : From n f.dropped
  within : read_by f ≤ length rs
  kept : f.kept ≡ unlisted f.dropped n (take (read_by f) rs)

sorted : (s : Reading) (rs : List (List ℕ)) → Sorted s.number rs (found s rs)
sorted =
    by-records (λ s rs f. Sorted s.number rs f) (λ s rs. record { from = tt; within = omega arith; kept = sym (unlisted-none s.number []) })
    (λ s r rs f e d ih.
    let m : length (r ∷ f.kept) + length f.dropped ≡ suc (read_by f) = omega arith in
    record {
      from = from_less s.number f.dropped ih.from;
      within = omega (arith, ih.within);
      kept = rw (m, unlisted-kept r (take (read_by f) rs) s.number f.dropped ih.from, ← ih.kept);
    })
    (λ s r rs f e n ih.
    let m : length f.kept + suc (length f.dropped) ≡ suc (read_by f) = omega arith in
    record {
      from = omega arith;
      within = omega (arith, ih.within);
      kept = rw (m, unlisted-listed r (take (read_by f) rs) s.number (dropped_by s r) f.dropped) ih.kept;
    })

-- ---- what is listed has its reason

reason : (s : Reading) (r : List ℕ) → (dropped_by s r ≡ 0 → ⊥) → Reason s.account s.lost r (dropped_by s r)
unfolding dropped_by first
reason s r n =
    let c = would_get s.account r in
    go c (one_of 2 4 c) refl (s.lost && is_of_group (kind_byte r)) refl (one_of 6 11 c) refl n
  where
    go : (c : ℕ) (b : Bool) → one_of 2 4 c ≡ b → (b' : Bool) → s.lost && is_of_group (kind_byte r) ≡ b' → (b'' : Bool) → one_of 6 11 c ≡ b''
        → (pick b c (pick b' 6 (pick b'' c 0)) ≡ 0 → ⊥)
        → ((c ≡ pick b c (pick b' 6 (pick b'' c 0)))
        × (one_of 2 4 (pick b c (pick b' 6 (pick b'' c 0))) || one_of 6 11 (pick b c (pick b' 6 (pick b'' c 0))) ≡ true))
        ⊎ ((pick b c (pick b' 6 (pick b'' c 0)) ≡ 6) × (s.lost ≡ true) × (is_of_group (kind_byte r) ≡ true))
    go c true p b' p' b'' p'' n = inl (refl, rw p)
    go c false p true p' b'' p'' n = inr (refl, and_l s.lost _ p', and_r s.lost _ p')
    go c false p false p' true p'' n = inl (refl, or_left (one_of 2 4 c) _ (λ z. p''))
    go c false p false p' false p'' n = absurd (n refl)

-- over a record that is kept
pass : (s : Reading) (r : List ℕ) (rs : List (List ℕ)) (es : List Entry) → ends s r ≡ false → dropped_by s r ≡ 0 → From (s.number + 1) es
    → Reasons (reading_after s r).account (reading_after s r).lost (s.number + 1) rs es → Reasons s.account s.lost s.number (r ∷ rs) es
pass s r rs [] e d h q = tt
pass s r rs (x ∷ es) e d h q =
    let l : (reading_after s r).lost ≡ pick (eqb (kind_byte r) 2) false s.lost = rw d in
    (λ z. absurd (omega (arith, z)), λ z. rw (← kept-account s r e d, ← l) q)

reasons : (s : Reading) (rs : List (List ℕ))
    → From s.number (found s rs).dropped × Reasons s.account s.lost s.number rs (found s rs).dropped
reasons =
    by-records (λ s rs f. From s.number f.dropped × Reasons s.account s.lost s.number rs f.dropped) (λ s rs. (tt, tt))
    (λ s r rs f e d ih. (from_less s.number f.dropped ih.0, pass s r rs f.dropped e d ih.0 ih.1))
    (λ s r rs f e n ih.
    let l : (reading_after s r).lost ≡ pick (eqb (kind_byte r) 2) true s.lost = rw (ne_eqb _ _ n) in
    (omega arith, (λ z. (reason s r n, rw (← dropped-account s r e n, ← l) ih.1), λ z. absurd (z refl))))

-- ---- the promise

-- The records read, which are the first of the damaged book, are the kept and the listed ones: the kept are those that are not listed, in order,
-- and each listed one would get its code after the kept ones before it, or stands, with 6, under a dropped heading.
pub kept-or-listed : (damaged : List ℕ)
    → (read_by (found_in start damaged) ≤ length (records_of damaged))
    × ((found_in start damaged).kept ≡ unlisted (found_in start damaged).dropped 0 (take (read_by (found_in start damaged)) (records_of damaged)))
    × Reasons no_record false 0 (records_of damaged) (found_in start damaged).dropped
kept-or-listed damaged = let s = sorted start (records_of damaged) in (s.within, s.kept, (reasons start (records_of damaged)).1)
