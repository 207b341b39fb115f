-- What is used under a heading: the test is the range, what a record adds may be added in either order, and it fits where the sums with it do.
-- Assumes nothing.
use Prim.Native.Nat.{ℕ, ◌+◌, ◌≤◌}
use mathlib.Core.Path.{◌≡◌, refl}
use mathlib.Core.List.{List, [], ◌∷◌}
use mathlib.Core.Bool.{Bool, true, false}
use native.Mathlib.Omega.{arith}
use borrow.Author.Tests.{leb-true, le-leb, le-ltb, ltb-false, eqb-true, eq-eqb}
use lib.ListN.{get_or}
use lib.Dec.{leb, eqb}
use Rattle.base.specs.Choice.{pick}
use Rattle.base.proofs.Tests.{all-each, each_all, by-test, of-choice}
use Rattle.account.specs.declared.Used.{Used}
use Rattle.account.specs.Range.{UsedMost, Unused, used_test, unused_test}
use Rattle.account.specs.Account.{none_used, used_after}
use Rattle.account.specs.Judge.{days_over, grazed_over}

-- ---- the test and the range

module _ (u : Used) where
  abbrev used_rest : List Bool
  used_rest = leb u.nitrogen 366 ∷ leb u.pig 366 ∷ leb u.grazed 10000 ∷ []

  pub used-parts : used_test u ≡ true → UsedMost u
  used-parts e =
      let t = all-each (leb u.enteric 366) used_rest e in
      record {
        enteric = leb-true _ _ t.0;
        nitrogen = leb-true _ _ t.1.0;
        pig = leb-true _ _ t.1.1.0;
        grazed = leb-true _ _ t.1.1.1.0;
      }

  pub used-test : UsedMost u → used_test u ≡ true
  used-test m =
      each_all (leb u.enteric 366) used_rest (le-leb _ _ m.enteric)
      (le-leb _ _ m.nitrogen, (le-leb _ _ m.pig, (le-leb _ _ m.grazed, tt)))

  abbrev unused_rest : List Bool
  unused_rest = eqb u.nitrogen 0 ∷ eqb u.pig 0 ∷ eqb u.grazed 0 ∷ []

  pub unused-parts : unused_test u ≡ true → Unused u
  unused-parts e =
      let t = all-each (eqb u.enteric 0) unused_rest e in
      record {
        enteric = eqb-true _ _ t.0;
        nitrogen = eqb-true _ _ t.1.0;
        pig = eqb-true _ _ t.1.1.0;
        grazed = eqb-true _ _ t.1.1.1.0;
      }

  pub unused-test : Unused u → unused_test u ≡ true
  unused-test n =
      each_all (eqb u.enteric 0) unused_rest (eq-eqb _ _ n.enteric)
      (eq-eqb _ _ n.nitrogen, (eq-eqb _ _ n.pig, (eq-eqb _ _ n.grazed, tt)))

  -- nothing is within any bound
  pub unused-most : Unused u → UsedMost u
  unused-most n = record { enteric = omega arith; nitrogen = omega arith; pig = omega arith; grazed = omega arith }

pub none-unused : Unused none_used
none-unused = record { enteric = refl; nitrogen = refl; pig = refl; grazed = refl }

-- ---- what is added may be added in either order

column-swap : (b c : Bool) (x m n : ℕ) → pick c (pick b (x + m) x + n) (pick b (x + m) x) ≡ pick b (pick c (x + n) x + m) (pick c (x + n) x)
column-swap true true x m n = omega arith
column-swap true false x m n = refl
column-swap false true x m n = refl
column-swap false false x m n = refl

used-same : {e e' n n' p p' g g' : ℕ} → e ≡ e' → n ≡ n' → p ≡ p' → g ≡ g'
    → ◌≡◌ {A = Used} (record { enteric = e; nitrogen = n; pig = p; grazed = g }) (record { enteric = e'; nitrogen = n'; pig = p'; grazed = g' })
used-same p q r s = rw (p, q, r, s) refl

pub used-swap : (u : Used) (k l : ℕ) (v w : List ℕ) → used_after (used_after u k v) l w ≡ used_after (used_after u l w) k v
used-swap u k l v w =
    used-same (column-swap (eqb k 3) (eqb l 3) u.enteric (get_or v 0 0) (get_or w 0 0))
    (column-swap (eqb k 4) (eqb l 4) u.nitrogen (get_or v 0 0) (get_or w 0 0))
    (column-swap (eqb k 5) (eqb l 5) u.pig (get_or v 0 0) (get_or w 0 0))
    (column-swap (eqb k 10) (eqb l 10) u.grazed (get_or v 3 0) (get_or w 3 0))

-- ---- with the values v of kind k none is over

pub record Fits (u : Used) (k : ℕ) (v : List ℕ) : Type 0 where
  pub days : days_over u k v ≡ false
  pub grazed : grazed_over u k v ≡ false

-- so it is exactly where the sums with them are within
module _ (u : Used) (k : ℕ) (v : List ℕ) where
  pub fits-within : UsedMost u → Fits u k v → UsedMost (used_after u k v)
  fits-within m f =
      record {
        enteric = of-choice (λ (n : ℕ). n ≤ 366) (eqb k 3) (λ q. ltb-false _ _ (rw (eqb-true k 3 q) at f.days)) (λ q. m.enteric);
        nitrogen = of-choice (λ (n : ℕ). n ≤ 366) (eqb k 4) (λ q. ltb-false _ _ (rw (eqb-true k 4 q) at f.days)) (λ q. m.nitrogen);
        pig = of-choice (λ (n : ℕ). n ≤ 366) (eqb k 5) (λ q. ltb-false _ _ (rw (eqb-true k 5 q) at f.days)) (λ q. m.pig);
        grazed = of-choice (λ (n : ℕ). n ≤ 10000) (eqb k 10) (λ q. ltb-false _ _ (rw (eqb-true k 10 q) at f.grazed)) (λ q. m.grazed);
      }

  pub within-fits : UsedMost (used_after u k v) → Fits u k v
  within-fits m =
      record {
        days =
            of-choice (λ (b : Bool). b ≡ false) (eqb k 3) (λ q. le-ltb _ _ (rw q at m.enteric))
            (λ q. of-choice (λ (b : Bool). b ≡ false) (eqb k 4) (λ q. le-ltb _ _ (rw q at m.nitrogen))
            (λ q. of-choice (λ (b : Bool). b ≡ false) (eqb k 5) (λ q. le-ltb _ _ (rw q at m.pig)) (λ q. refl)));
        grazed = by-test (eqb k 10) (λ q. rw q (le-ltb _ _ (rw q at m.grazed))) (λ q. rw q refl);
      }

  -- and they were without them
  pub within-before : UsedMost (used_after u k v) → UsedMost u
  within-before m =
      record {
        enteric = less (eqb k 3) _ _ 366 m.enteric;
        nitrogen = less (eqb k 4) _ _ 366 m.nitrogen;
        pig = less (eqb k 5) _ _ 366 m.pig;
        grazed = less (eqb k 10) _ _ 10000 m.grazed;
      }
    where
      less : (b : Bool) (x m most : ℕ) → pick b (x + m) x ≤ most → x ≤ most
      less true x m most h = omega arith
      less false x m most h = h
