-- Laws of grams of CO2 and their bound: none, the bound of more records, amounts added in any order. Assumes nothing.
use Rattle.std.proofs.Common.{◌≡◌, ℕ, ◌+◌, ◌*◌, ◌^◌, ◌<◌, ◌≤◌, true, ℤ, ◌+ℤ◌, nat_abs, ap, ◌∙◌, le_trans, arith, le-leb, leb-true}
use lib.IntN.{+ℤ_comm, +ℤ_idr}
use Rattle.base.proofs.Signed.{signed_word, word-signed, signed-less, signed-mag, word-assoc, abs-plus}
use Rattle.grams.specs.declared.units.Co2.{Co2}
use Rattle.grams.specs.Units.{grams_co2, co2_grams, no_co2, plus_co2, Co2Within, co2_within}

-- ---- the bound

pub within_none : (n : ℕ) → Co2Within n no_co2
within_none n = omega arith

pub within_more : (c : Co2) (n m : ℕ) → n ≤ m → Co2Within n c → Co2Within m c
within_more c n m h w = omega arith

-- so many grams, on either side of zero
pub within-grams : (z : ℤ) (n : ℕ) → nat_abs z ≤ n * 10 ^ 13 → Co2Within n (grams_co2 z)
within-grams z n h = le_trans (signed-less z) h

pub within-plus : (a b : Co2) (n m : ℕ) → Co2Within n a → Co2Within m b → Co2Within (n + m) (plus_co2 a b)
within-plus a b n m p q =
    let s : nat_abs (co2_grams a +ℤ co2_grams b) ≤ nat_abs (co2_grams a) + nat_abs (co2_grams b) = abs-plus (co2_grams a) (co2_grams b) in
    within-grams (co2_grams a +ℤ co2_grams b) (n + m) (omega arith)

-- the test, and what it says
pub within-true : (c : Co2) (n : ℕ) → co2_within n c ≡ true → Co2Within n c
within-true c n e = leb-true _ _ e

pub within-test : (c : Co2) (n : ℕ) → Co2Within n c → co2_within n c ≡ true
within-test c n w = le-leb _ _ w

-- ---- sums

-- the CO2 of a word
abbrev pub as_word : ℕ → Co2
as_word w = record { 0 = w }

-- no sum of so few records goes round its word
pub plus-grams : (a b : Co2) (n m : ℕ) → n + m ≤ 65535 → Co2Within n a → Co2Within m b
    → co2_grams (plus_co2 a b) ≡ co2_grams a +ℤ co2_grams b
plus-grams a b n m h p q =
    let s : nat_abs (co2_grams a +ℤ co2_grams b) ≤ nat_abs (co2_grams a) + nat_abs (co2_grams b) = abs-plus (co2_grams a) (co2_grams b) in
    signed_word (co2_grams a +ℤ co2_grams b) (omega arith)

pub plus_comm : (a b : Co2) → plus_co2 a b ≡ plus_co2 b a
plus_comm a b = ap grams_co2 (+ℤ_comm (co2_grams a) (co2_grams b))

pub plus_assoc : (a b c : Co2) → plus_co2 (plus_co2 a b) c ≡ plus_co2 a (plus_co2 b c)
plus_assoc a b c = ap as_word
    (word-assoc (co2_grams a) (co2_grams b) (co2_grams c) (signed-mag a.0) (signed-mag b.0) (signed-mag c.0))

-- none added to a word
pub plus_none : (c : Co2) → c.0 < 2 ^ 64 → plus_co2 c no_co2 ≡ c
plus_none c h = ap grams_co2 (+ℤ_idr (co2_grams c)) ∙ ap as_word (word-signed c.0 h)
