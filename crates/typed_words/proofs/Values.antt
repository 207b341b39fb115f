-- Laws of `digits_from`: one more digit, a byte that is taken no more, and the end.
use Prim.Native.Nat.{ℕ, ◌+◌, ◌-◌, ◌*◌, ◌<◌, ◌≤◌}
use native.Mathlib.Numerals.{add-one}
use mathlib.Core.Path.{◌≡◌, ◌∙◌}
use mathlib.Core.Bool.{Bool, true, false, ◌&&◌}
use mathlib.Core.List.{List}
use lib.ListN.{length, get_or, drop, drop_of_length-le}
use lib.Seq.{drop-cons}
use lib.Dec.{T, leb, ltb, leb→le, ltb→lt}
use lib.Ieee.Fits.{and_l, and_r}
use Rattle.std.specs.Prelude.{Option, Some, None}
use Rattle.typed_words.specs.Numbers.{takes, goes_on_lem, digits_from}

at_byte : (v : ℕ) (s : List ℕ) (i : ℕ) → i < length s
    → digits_from v (drop i s) ≡ goes_on_lem (takes v (get_or s i 0)) (digits_from (v * 10 + (get_or s i 0 - 48)) (drop (i + 1) s))
unfolding digits_from
at_byte v s i h = rw (add-one, drop-cons s i 0 h)

-- what a taken byte tells
pub record Taken (v b : ℕ) : Type 0 where
  pub low : 48 ≤ b
  pub high : b ≤ 57
  pub few : v < 100000000000000

taken-if : (v b : ℕ) → T (takes v b) → Taken v b
taken-if v b t =
    let digit = and_l (leb 48 b && leb b 57) (ltb v 100000000000000) t in
    record {
      low = leb→le 48 b (and_l (leb 48 b) (leb b 57) digit);
      high = leb→le b 57 (and_r (leb 48 b) (leb b 57) digit);
      few = ltb→lt v 100000000000000 (and_r (leb 48 b && leb b 57) (ltb v 100000000000000) t);
    }

pub taken : (v b : ℕ) (r : Bool) → r ≡ takes v b → r ≡ true → Taken v b
taken v b r e t = taken-if v b (rw (← e, t) tt)

-- r is what the test of the byte at i told
module _ (v : ℕ) (s : List ℕ) (i : ℕ) (h : i < length s) (r : Bool) (e : r ≡ takes v (get_or s i 0)) where
  pub goes_on : r ≡ true → digits_from v (drop i s) ≡ digits_from (v * 10 + (get_or s i 0 - 48)) (drop (i + 1) s)
  goes_on t = at_byte v s i h ∙ rw (← e, t)

  pub breaks-off : r ≡ false → digits_from v (drop i s) ≡ None
  breaks-off t = at_byte v s i h ∙ rw (← e, t)

pub at-end : (v : ℕ) (s : List ℕ) (i : ℕ) → length s ≤ i → digits_from v (drop i s) ≡ Some v
unfolding digits_from
at-end v s i h = rw (drop_of_length-le s h)
