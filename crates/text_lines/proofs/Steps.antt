-- Laws of the cutter's steps: what the code's parts make together.
-- Assumes nothing.
use Prim.Native.Nat.{ℕ, ◌+◌, ◌≤◌, ◌<◌}
use native.Mathlib.Omega.{arith}
use mathlib.Core.Path.{◌≡◌, refl, sym, ap, ◌∙◌}
use mathlib.Core.Bool.{Bool, true, false, ◌&&◌, ◌||◌}
use mathlib.Core.List.{List, []}
use lib.ListN.{length, get_or, take, drop, length-take, take-append-drop, get_or-eq_default}
use lib.Dec.{eqb, ltb}
use borrow.Author.Tests.{ltb-true}
use Rattle.base.specs.Choice.{pick}
use Rattle.base.proofs.Tests.{and-false, by-test}
use Rattle.base.specs.Bytes.{index_of}
use Rattle.printing.specs.Decimal.{Put}
use Rattle.text_lines.specs.Lines.{before, room, stored, cutting_of, cut_in, is_marked, unmarked}
use Rattle.text_lines.specs.declared.Cut.{Cut}

-- a part of a slice up to its end
pub too_short : (line : List ℕ) → length line < 3 → false ≡ is_marked line
too_short line h =
    let z : get_or line 2 0 ≡ 0 = get_or-eq_default line 0 (omega arith) in
    sym (rw z (and-false (eqb (get_or line 0 0) 239 && eqb (get_or line 1 0) 187)))

-- all is the line, b whether it is marked
module _ (number : ℕ) (line : List ℕ) (len : ℕ) {all : List ℕ} (e : all ≡ take len line) {b : Bool} (f : b ≡ is_marked all) where
  pub mark-dropped : eqb number 1 && b ≡ true → {r : List ℕ} → r ≡ drop 3 all → r ≡ unmarked number (take len line)
  unfolding unmarked
  mark-dropped t q = rw (← e, ← f, t) q

  pub as-it-is : eqb number 1 && b ≡ false → all ≡ unmarked number (take len line)
  unfolding unmarked
  as-it-is t = rw (← e, ← f, t)

module _ (line more : List ℕ) (len : ℕ) {left : ℕ} (e : left ≡ room (length line) len) where
  pub no_room : left ≡ 0 → (len ≡ len + length (take (room (length line) len) more)) × (line ≡ stored line len (take (room (length line) len) more))
  no_room z =
      let w : room (length line) len ≡ 0 = sym e ∙ z in
      let k : len + 0 ≡ len = omega arith in
      rw (w, k) (refl, sym (take-append-drop len line))

  module _ {new : List ℕ} (n : new ≡ take left more) where
    pub room_fits : (left ≡ 0 → ⊥) → len + length new ≤ length line
    room_fits h = let l = ap length n ∙ length-take left more in omega (arith, l)

    pub kept-behind : {line' : List ℕ} {r : ℕ} → Put line line' len new r
        → (r ≡ len + length (take (room (length line) len) more)) × (line' ≡ stored line len (take (room (length line) len) more))
    kept-behind p =
        let w : take (room (length line) len) more ≡ new = rw (← e) (sym n) in
        rw w (p.next, rw p.next at p.text)

past-within : (a b : ℕ) → a ≤ b → pick (ltb a b) (a + 1) a ≤ b
past-within a b h = by-test (ltb a b) (λ t. rw t (omega (arith, ltb-true a b t))) (λ f. rw f h)

-- here is what the part has of the line, words what stands before its #, out what of it goes in
module _ (line part : List ℕ) (from : Cut) {here words out : List ℕ} (h : here ≡ before 10 part) (w : words ≡ before 35 here)
    (o : out ≡ pick from.comment [] words) where
  pub is-cutting : {len taken : ℕ} → len ≡ from.len + length (take (room (length line) from.len) out)
      → taken ≡ pick (ltb (length here) (length part)) (length here + 1) (length here)
      → record {
        cut = record { number = from.number; len = len; comment = from.comment || ltb (length words) (length here) };
        taken = taken;
        ended = ltb (length here) (length part);
      } ≡ cutting_of (length line) from part
  unfolding cutting_of
  is-cutting k t = rw (k, t, o, w, h)

  pub is-buffer : {line' : List ℕ} → line' ≡ stored line from.len (take (room (length line) from.len) out) → line' ≡ cut_in line from part
  unfolding cut_in
  is-buffer l = rw (l, o, w, h)

  pub taken-within : {taken : ℕ} → taken ≡ pick (ltb (length here) (length part)) (length here + 1) (length here) → taken ≤ length part
  taken-within t = rw t (past-within (length here) (length part) (let l = ap length h ∙ length-take (index_of 10 part) part in omega (arith, l)))
