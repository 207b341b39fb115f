-- A column's number as text and read off it, with what stands behind it.
use Prim.Native.Nat.{ℕ, suc, ◌+◌, ◌-◌, ◌<◌, ◌≤◌}
use native.Mathlib.Omega.{arith}
use mathlib.Core.Bool.{Bool, true, false}
use mathlib.Core.Path.{◌≡◌, refl, sym, ap, ◌∙◌}
use mathlib.Core.List.{List, [], ◌∷◌, ◌++◌, append_assoc}
use lib.ListN.{length, drop}
use lib.Seq.{drop-append_seam}
use lib.Dec.{ltb, eqb}
use borrow.Author.Tests.{ltb-true, ltb-false, leb-true, eqb-true, le-leb, eq-eqb, ne_eqb}
use Rattle.codec.specs.Codec.{bytes_hold}
use Rattle.printing.specs.Decimal.{decimal}
use Rattle.printing.proofs.Digits.{signed-small, signed_below}
use Rattle.sheet.specs.declared.rows.Column.{Column}
use Rattle.sheet.specs.Numbers.{half, full, first, Number, positive, unsigned, Cell, unsigned_cell}
use Rattle.sheet.specs.Numbers.{signed_cell}
use Rattle.sheet.specs.Rows.{column_end, starts_with, read_cell, read_column}
use Rattle.sheet.proofs.AsColumns.{signed_text, cell_text}
use Rattle.base.proofs.Tests.{of-choice, by-test, no_bool, and_l, and_r}
use Rattle.sheet.proofs.Numerals.{front, positive-above, positive-text, positive_back, unsigned-first, unsigned-text, unsigned_back}

-- s is the text t of the value and what stands behind it, and the value is below n
pub record Reads (s : List ℕ) (k : Cell) (t : ℕ → List ℕ) (n : ℕ) : Type 0 where
  pub text : s ≡ t k.value ++ k.rest
  pub small : k.value < n

-- a number v with nothing wrong
abbrev pub right : ℕ → List ℕ → Cell
right v q = record { good = true; fits = true; value = v; rest = q }

-- ---- an unsigned number

pub unsigned_reads : (h : ℕ) (s : List ℕ) → (unsigned_cell h s).fits ≡ true → Reads s (unsigned_cell h s) decimal (suc h)
unfolding unsigned_cell
unsigned_reads h s f =
    let n = unsigned s in
    let u = leb-true n.value h (and_r n.good _ f) in
    rw f (record { text = unsigned-text s (and_l _ _ f); small = omega arith })

pub unsigned-cell : (h v : ℕ) (q : List ℕ) → v ≤ h → first q < 48 → unsigned_cell h (decimal v ++ q) ≡ right v q
unfolding unsigned_cell
unsigned-cell h v q l e = rw (unsigned_back v q e, le-leb v h l)

-- ---- a signed number

module _ (h : ℕ) (o : h + 1 ≡ half) where
  signed_reads : (s : List ℕ) → (signed_cell h s).fits ≡ true → Reads s (signed_cell h s) signed_text full
  unfolding signed_cell
  signed_reads s =
      of-choice (λ (k : Cell). k.fits ≡ true → Reads s k signed_text full) (eqb (first s) 45)
      (λ t f.
      let n = positive (drop 1 s) in
      let g = and_l _ _ f in
      let e = eqb-true (first s) 45 t in
      let a = positive-above (drop 1 s) g in
      let u = leb-true n.value (h + 1) (and_r n.good _ f) in
      let word : signed_text (full - n.value) ≡ 45 ∷ decimal n.value = signed_below (full - n.value) n.value (omega arith) (omega arith) a in
      rw f (record { text = front s (omega arith) ∙ rw (e, word) (ap (λ (l : List ℕ). 45 ∷ l) (positive-text (drop 1 s) g)); small = omega arith }))
      (λ t f.
      let n = unsigned s in
      let u = leb-true n.value h (and_r n.good _ f) in
      rw f (record { text = rw (signed-small n.value (omega arith)) (unsigned-text s (and_l _ _ f)); small = omega arith }))

  signed-cell : (v : ℕ) (q : List ℕ) → v < full → first q < 48 → signed_cell h (signed_text v ++ q) ≡ right v q
  unfolding signed_cell
  signed-cell v q l e =
      by-test (ltb v half)
      (λ t.
      let n = unsigned_back v q e in
      let small = ltb-true v half t in
      let b = unsigned-first (decimal v ++ q) (ap (λ (m : Number). m.good) n) in
      rw (signed-small v small, ne_eqb (first (decimal v ++ q)) 45 (λ x. omega arith), n, le-leb v h (omega arith)))
      (λ f.
      let big = ltb-false v half f in
      let back : full - (full - v) ≡ v = omega arith in
      rw (
        signed_below v (full - v) big (omega arith) (omega arith),
        positive_back (full - v) q (omega arith) e,
        le-leb (full - v) (h + 1)
            (omega arith),
        back,
      ))

-- ---- a column

-- the highest number is that of the bytes: a signed one has eight, an unsigned one as many as the column, if any
pub record Sound (c : Column) : Type 0 where
  pub eight : c.signed ≡ true → c.width ≡ 8
  pub half-way : c.signed ≡ true → c.highest + 1 ≡ half
  pub top : c.signed ≡ false → suc c.highest ≡ bytes_hold c.width

cell-reads : (c : Column) (s : List ℕ) → Sound c → (read_cell c s).fits ≡ true → Reads s (read_cell c s) (cell_text c) (bytes_hold c.width)
unfolding read_cell cell_text bytes_hold
cell-reads c s o =
    of-choice (λ (k : Cell). k.fits ≡ true → Reads s k (cell_text c) (bytes_hold c.width)) (eqb c.width 0)
    (λ t f. let e = eqb-true c.width 0 t in record { text = rw t; small = rw e (omega arith) })
    (λ z.
    of-choice (λ (k : Cell). k.fits ≡ true → Reads s k (cell_text c) (bytes_hold c.width)) c.signed
    (λ t f. let r = signed_reads c.highest (o.half-way t) s f in record { text = rw (z, t) r.text; small = rw (o.eight t) r.small })
    (λ t f. let r = unsigned_reads c.highest s f in record { text = rw (z, t) r.text; small = rw (← o.top t) r.small }))

cell-back : (c : Column) (v : ℕ) (q : List ℕ) → Sound c → v < bytes_hold c.width → first q < 48 → read_cell c (cell_text c v ++ q) ≡ right v q
unfolding read_cell cell_text bytes_hold
cell-back c v q o h e =
    by-test (eqb c.width 0)
    (λ t. let w = eqb-true c.width 0 t in
    let l : v < bytes_hold 0 = rw w at h in
    let z : v ≡ 0 = omega arith in rw (t, z))
    (λ f. by-test c.signed
    (λ t. let l : v < bytes_hold 8 = rw (o.eight t) at h in rw (f, t) (signed-cell c.highest (o.half-way t) v q l e))
    (λ t. rw (f, t) (unsigned-cell c.highest v q (omega (arith, o.top t)) e)))

-- ---- with what stands behind it

pub starts-text : (e s : List ℕ) → starts_with e s ≡ true → s ≡ e ++ drop (length e) s
unfolding starts_with
starts-text [] s h = refl
starts-text (x ∷ e) [] h = no_bool h
starts-text (x ∷ e) (b ∷ s) h = rw (eqb-true x b (and_l _ _ h)) (ap (λ (l : List ℕ). b ∷ l) (starts-text e s (and_r (eqb x b) _ h)))

pub starts-back : (e q : List ℕ) → starts_with e (e ++ q) ≡ true
unfolding starts_with
starts-back [] q = refl
starts-back (x ∷ e) q = rw (eq-eqb x x refl) (starts-back e q)

ending-first : (l : Bool) (q : List ℕ) → first (column_end l ++ q) < 48
ending-first true q = omega arith
ending-first false q = omega arith

module _ (c : Column) (o : Sound c) where
  pub column-reads : (s : List ℕ) → (read_column c s).good ≡ true → (read_column c s).fits ≡ true
      → Reads s (read_column c s) (λ v. cell_text c v ++ column_end c.last) (bytes_hold c.width)
  column-reads s g f =
      let k = read_cell c s in
      let e = column_end c.last in
      let r = cell-reads c s o f in
      let behind : k.rest ≡ e ++ drop (length e) k.rest = starts-text e k.rest (and_r k.good _ g) in
      record {
        text = r.text ∙ ap (λ (l : List ℕ). cell_text c k.value ++ l) behind
            ∙ sym (append_assoc (cell_text c k.value) e (drop (length e) k.rest));
        small = r.small;
      }

  pub column-back : (v : ℕ) (q : List ℕ) → v < bytes_hold c.width → read_column c (cell_text c v ++ (column_end c.last ++ q)) ≡ right v q
  column-back v q h =
      let e = column_end c.last in
      rw (cell-back c v (e ++ q) o h (ending-first c.last q), starts-back e q, drop-append_seam e q)
