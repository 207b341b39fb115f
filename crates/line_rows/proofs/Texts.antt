-- Laws of rows: the rows of lines by the one at their front.
-- Assumes nothing.
use Prim.Native.Nat.{ℕ, zero, suc, ◌+◌, ◌*◌, ◌≤◌, ◌<◌}
use mathlib.Core.Path.{◌≡◌, refl, ap, sym, ◌∙◌}
use mathlib.Core.List.{List, [], ◌∷◌, ◌++◌}
use mathlib.Core.Bool.{Bool, true, false}
use native.Mathlib.Omega.{arith}
use borrow.Author.Tests.{ltb-false, lt-ltb, le-ltb, eq-eqb, ne_eqb}
use lib.ListN.{length, get_or, drop, length-drop}
use lib.Seq.{drop-drop}
use lib.Dec.{ltb}
use Rattle.base.specs.Signed.{signed_of}
use Rattle.base.proofs.Tests.{of-choice}
use Rattle.codec.specs.Codec.{values_at}
use Rattle.line_bytes.specs.Lines.{line_fields, total_fields, line_size, total_size, is_total, front_size}
use Rattle.printing.specs.Decimal.{decimal, signed, Put}
use Rattle.printing.proofs.Puts.{none, put-length, and-then}
use Rattle.line_rows.specs.declared.Form.{Form}
use Rattle.line_rows.specs.Rows.{line_numbers, is_signed, column_text, columns_text, ending, row_text, line_row, rows_by, rows_text}

pub size-least : (xs : List ℕ) → line_size ≤ front_size xs
size-least xs = of-choice (λ (n : ℕ). line_size ≤ n) (is_total xs) (λ e. omega arith) (λ e. omega arith)

-- a column's text, by whether it is signed
module _ (column v : ℕ) {b : Bool} (s : b ≡ is_signed column) where
  pub with-sign : b ≡ true → column_text column v ≡ signed (signed_of v)
  with-sign e = rw (sym s ∙ e) refl

  pub without_sign : b ≡ false → column_text column v ≡ decimal v
  without_sign e = rw (sym s ∙ e) refl

module _ (form : Form) where
  -- the count of lines that bounds a text does not matter, as long as it is above the count of bytes
  same_text : (n m : ℕ) (xs : List ℕ) → length xs < n → length xs < m → rows_by form n xs ≡ rows_by form m xs
  unfolding rows_by
  same_text zero m xs p q = absurd (omega arith)
  same_text (suc n) zero xs p q = absurd (omega arith)
  same_text (suc n) (suc m) xs p q =
      of-choice (λ (t : List ℕ). t ≡ rows_by form (suc m) xs) (ltb (length xs) (front_size xs)) (λ e. rw e)
      (λ e. rw e (ap (λ (t : List ℕ). line_row form xs ++ t) (same_text n m (drop (front_size xs) xs) (shorter n p e) (shorter m q e))))
    where
      shorter : (k : ℕ) → length xs < suc k → ltb (length xs) (front_size xs) ≡ false → length (drop (front_size xs) xs) < k
      shorter k h e = let h2 = ltb-false (length xs) (front_size xs) e in rw length-drop (omega (arith, size-least xs))

  pub text-none : (xs : List ℕ) → length xs < front_size xs → rows_text form xs ≡ []
  unfolding rows_text rows_by
  text-none xs h = rw (lt-ltb _ _ h)

  pub text-some : (xs : List ℕ) → front_size xs ≤ length xs → rows_text form xs ≡ line_row form xs ++ rows_text form (drop (front_size xs) xs)
  unfolding rows_text rows_by
  text-some xs h =
      let ys = drop (front_size xs) xs in
      let short : length ys < length xs = rw length-drop (omega (arith, size-least xs)) in
      rw (le-ltb _ _ h) (ap (λ (t : List ℕ). line_row form xs ++ t) (same_text (length xs) (suc (length ys)) ys short (omega arith)))

  -- a row by its first column
  pub row-text : (total : Bool) (vs : List ℕ) → 1 ≤ length vs
      → row_text form total vs ≡ column_text 0 (get_or vs 0 0) ++ (columns_text form 1 (drop 1 vs) ++ ending form total)
  unfolding row_text
  row-text total [] h = absurd (omega arith)
  row-text total (v ∷ vs) h = refl

-- by the kind of the line record at the front
module _ (xs : List ℕ) (k : get_or xs 3 0 ≡ 8) where
  pub size-total : front_size xs ≡ total_size
  size-total = rw (eq-eqb _ _ k)

  pub row-total : (form : Form) → line_row form xs ≡ row_text form true (drop 2 (values_at total_fields xs 0))
  unfolding line_row line_numbers
  row-total form = rw (eq-eqb _ _ k)

module _ (xs : List ℕ) (k : get_or xs 3 0 ≡ 8 → ⊥) where
  pub size-detail : front_size xs ≡ line_size
  size-detail = rw (ne_eqb _ _ k)

  pub row-detail : (form : Form) → line_row form xs ≡ row_text form false (drop 2 (values_at line_fields xs 0))
  unfolding line_row line_numbers
  row-detail form = rw (ne_eqb _ _ k)

-- ---- the loop over the lines

-- the lines up to i are put, up to at; putting the rows of those left makes the whole
pub record Putting (form : Form) (out₀ lines out : List ℕ) (i at : ℕ) : Type 0 where
  pub same : length out ≡ length out₀
  pub inside : i ≤ length lines
  pub room : at + 4 * length lines ≤ length out + 4 * i
  pub rest : (zs : List ℕ) (q : ℕ) → Put out zs at (rows_text form (drop i lines)) q → Put out₀ zs 0 (rows_text form lines) q

pub putting-none : (form : Form) (out lines : List ℕ) → 4 * length lines ≤ length out → Putting form out lines out 0 0
putting-none form out lines h = record { same = refl; inside = omega arith; room = omega arith; rest = λ zs q p. p }

module _ {form : Form} {out₀ lines out : List ℕ} {i at : ℕ} (g : Putting form out₀ lines out i at) where
  module _ {rest : List ℕ} (e : rest ≡ drop i lines) where
    -- no whole line is left
    pub putting-ends : length rest < front_size rest → Put out₀ out 0 (rows_text form lines) at
    putting-ends h = g.rest out at (rw (← e, text-none form rest h) (none out at (omega (arith, g.room, g.inside))))

    -- one line of n bytes is put
    pub putting-on : {out' : List ℕ} {n r : ℕ} → n ≡ front_size rest → n ≤ length rest → Put out out' at (line_row form rest) r
        → r ≤ at + 4 * front_size rest → Putting form out₀ lines out' (i + n) r
    putting-on {out'} {n} {r} m h p s =
        let d : drop (front_size rest) rest ≡ drop (i + n) lines =
        ap (λ (k : ℕ). drop k rest) (sym m) ∙ ap (λ (l : List ℕ). drop n l) e ∙ drop-drop n i lines in
        let t = text-some form rest (omega arith) in
        record {
          same = put-length p ∙ g.same;
          inside = omega (arith, ap length e, length-drop i lines, g.inside);
          room = omega (arith, put-length p, g.room);
          rest = λ zs q u. g.rest zs q (rw (← e, t) (and-then p (rw (← d) at u)));
        }
