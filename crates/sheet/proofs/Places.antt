-- Laws of the places in a sheet that is not of its form.
-- Assumes nothing.
use Prim.Native.Nat.{ℕ, suc, ◌+◌, ◌-◌, ◌≤◌, ◌<◌}
use mathlib.Core.Path.{◌≡◌, refl, sym, ap, ◌∙◌}
use mathlib.Core.Bool.{Bool, true, false, ◌&&◌}
use mathlib.Core.List.{List, [], ◌∷◌}
use native.Mathlib.Omega.{arith}
use native.Mathlib.Nat.{add-zero}
use native.Mathlib.Numerals.{add-one}
use borrow.Author.Tests.{eq-eqb, ne_eqb, eqb-true}
use lib.Dec.{eqb}
use Rattle.std.specs.List.{list_any, position_or_len}
use Rattle.std.proofs.lemmas.List.Recursion.{is_position_or_len}
use lib.ListN.{length, get_or, take, drop, drop_of_length-le, length-drop}
use lib.Seq.{drop-cons, get_or-drop, take-take}
use Rattle.base.specs.Choice.{pick}
use Rattle.base.proofs.Tests.{same_test}
use Rattle.line_rows.specs.declared.Form.TheVariants.{Sheet}
use Rattle.line_rows.specs.Rows.{column_names, header}
use Rattle.printing.specs.Decimal.{Put}
use Rattle.printing.proofs.Sayings.{text-at-start}
use Rattle.sheet.specs.declared.numbers.Read.{Read}
use Rattle.sheet.specs.declared.faults.Spot.{Spot}
use Rattle.sheet.specs.declared.rows.Column.{Column}
use Rattle.sheet.specs.Numbers.{first, Cell}
use Rattle.sheet.specs.Rows.{column_count, read_column}
use Rattle.sheet.specs.Code.{is_formed, IsRead, IsSpot}
use Rattle.sheet.proofs.Reading.{formed_is}
use Rattle.sheet.specs.Faults.{after_marks, ends, part_length_lem, has, column_at, Place, bad_by, place_text}
use Rattle.sheet.specs.Faults.{part_at, last_fault, cell_fault}
use Rattle.sheet.specs.declared.faults.Fault.TheVariants.{Number}

-- ---- bytes of a text, one after the other

module _ (b : ℕ) (text : List ℕ) (i n : ℕ) where
  pub marks-on : i < length text → (n ≡ 0 → ⊥)
      → after_marks b n (drop i text) ≡ after_marks b (pick (eqb (get_or text i 0) b) (n - 1) n) (drop (i + 1) text)
  unfolding after_marks
  marks-on h z = rw (add-one i, drop-cons text i 0 h, ne_eqb n 0 z) refl

  pub marks-stop : i < length text → n ≡ 0 → after_marks b n (drop i text) ≡ drop i text
  unfolding after_marks
  marks-stop h z = rw (drop-cons text i 0 h, eq-eqb n 0 z) refl

  pub marks-end : length text ≤ i → after_marks b n (drop i text) ≡ drop i text
  unfolding after_marks
  marks-end h = rw (drop_of_length-le text h) refl

-- as std's words say it
pub part-as : (cell : Bool) (s : List ℕ) → part_length_lem cell s ≡ position_or_len (ends cell) s
unfolding part_length_lem
part-as cell = is_position_or_len (part_length_lem cell) (ends cell) refl (λ x xs. refl)

pub has-as : (b : ℕ) (s : List ℕ) → has b s ≡ list_any (λ x. eqb x b) s
unfolding has
has-as b [] = refl
has-as b (x ∷ s) = rw (has-as b s)

-- ---- the names of the columns

header-long : length (header Sheet) ≡ 2 + length column_names
unfolding header
header-long = refl

header-names : take (length column_names) (header Sheet) ≡ column_names
unfolding header
header-names = refl

module _ {xs zs : List ℕ} {q : ℕ} (p : Put xs zs 0 (header Sheet) q) where
  pub names-end : q ≡ 2 + length column_names
  names-end = p.next ∙ omega (arith, header-long)

  pub names_at : take (q - 2) zs ≡ column_names
  names_at =
      let n : q - 2 ≡ length column_names = omega (arith, names-end) in
      sym (take-take (q - 2) q zs (omega arith)) ∙ ap (λ (s : List ℕ). take (q - 2) s) (text-at-start p) ∙ (rw (← n) at header-names)

-- ---- a line feed after what is right

pub feed-same : {text : List ℕ} {m : Cell} {k : Read} {g : Bool} {b : ℕ} → IsRead text m k → g ≡ is_formed k.number → b ≡ get_or text k.end 0
    → (g && eqb b 10) ≡ (m.good && eqb (first m.rest) 10)
feed-same {text} {m} {k} {g} {b} o f e =
    let there : get_or m.rest 0 0 ≡ b =
    ap (λ (s : List ℕ). get_or s 0 0) (sym o.rest) ∙ get_or-drop k.end text 0 0 ∙ ap (λ (i : ℕ). get_or text i 0) (add-zero k.end) ∙ sym e in
    rw (f ∙ formed_is o, there) refl

-- ---- no line end after what is right

pub end_same : {text : List ℕ} {m : Cell} {k : Read} {g : Bool} → IsRead text m k → g ≡ is_formed k.number
    → (g && eqb k.end (length text)) ≡ (m.good && eqb (length m.rest) 0)
end_same {text} {m} {k} {g} o f =
    let l : length m.rest ≡ length text - k.end = ap length (sym o.rest) ∙ length-drop k.end text in
    let e : eqb k.end (length text) ≡ eqb (length m.rest) 0 =
    same_test (eqb k.end (length text)) (eqb (length m.rest) 0)
    (λ t. let z = eqb-true k.end (length text) t in eq-eqb (length m.rest) 0 (omega (arith, l, z)))
    (λ t. let z = eqb-true (length m.rest) 0 t in let i = o.inside in eq-eqb k.end (length text) (omega (arith, l, z, i))) in
    rw (f ∙ formed_is o, e) refl

-- ---- the column that differs first

-- j columns are of the form, and end before at
pub record Going (text : List ℕ) (kind at j : ℕ) : Type 0 where
  pub within : at ≤ length text
  pub few : j ≤ column_count - 1
  pub same : bad_by (column_count - 1 - j) kind j (drop at text) ≡ bad_by (column_count - 1) kind 0 text

abbrev here : ℕ → List ℕ → Place
here j s = record { column = j; rest = s }

one_on : (n kind j : ℕ) (s : List ℕ) → (read_column (column_at kind j) s).good ≡ true
    → bad_by (suc n) kind j s ≡ bad_by n kind (suc j) (read_column (column_at kind j) s).rest
unfolding bad_by
one_on n kind j s e = rw e refl

one-stop : (n kind j : ℕ) (s : List ℕ) → (read_column (column_at kind j) s).good ≡ false → bad_by (suc n) kind j s ≡ here j s
unfolding bad_by
one-stop n kind j s e = rw e refl

none_left : (kind j : ℕ) (s : List ℕ) → bad_by 0 kind j s ≡ here j s
unfolding bad_by
none_left kind j s = refl

module _ {text : List ℕ} {kind at j : ℕ} (g : Going text kind at j) where
  spot : here j (drop at text) ≡ bad_by (column_count - 1) kind 0 text
      → IsSpot text kind (bad_by (column_count - 1) kind 0 text) (record { kind = kind; column = j; at = at })
  spot e =
      record {
        kinds = refl;
        column = ap (λ (p : Place). p.column) e;
        rest = ap (λ (p : Place). p.rest) e;
        inside = g.within;
        few = omega (arith, g.few);
      }

  -- all of them are
  pub going_end : column_count - 1 ≤ j → IsSpot text kind (bad_by (column_count - 1) kind 0 text) (record { kind = kind; column = j; at = at })
  going_end h =
      let z : column_count - 1 - j ≡ 0 = omega arith in
      spot (sym (none_left kind j (drop at text)) ∙ (rw z at g.same))

  module _ (h : j < column_count - 1) {c : Column} (e : c ≡ column_at kind j) {k : Read} (o : IsRead text (read_column c (drop at text)) k) where
    left : column_count - 1 - j ≡ suc (column_count - 1 - (j + 1))
    left = omega arith

    good-is : is_formed k.number ≡ (read_column (column_at kind j) (drop at text)).good
    good-is = formed_is o ∙ ap (λ (d : Column). (read_column d (drop at text)).good) e

    pub going-stop : is_formed k.number ≡ false → IsSpot text kind (bad_by (column_count - 1) kind 0 text) (record { kind = kind; column = j; at = at })
    going-stop w = spot (sym (one-stop _ kind j (drop at text) (sym good-is ∙ w)) ∙ (rw left at g.same))

    pub going_on : is_formed k.number ≡ true → Going text kind k.end (j + 1)
    going_on w =
        let rest : drop k.end text ≡ (read_column (column_at kind j) (drop at text)).rest =
        o.rest ∙ ap (λ (d : Column). (read_column d (drop at text)).rest) e in
        record {
          within = o.inside;
          few = omega arith;
          same =
              ap (λ (s : List ℕ). bad_by (column_count - 1 - (j + 1)) kind (j + 1) s) rest
              ∙ ap (λ (i : ℕ). bad_by (column_count - 1 - (j + 1)) kind i (read_column (column_at kind j) (drop at text)).rest) (add-one j)
              ∙ sym (one_on _ kind j (drop at text) (sym good-is ∙ w))
              ∙ (rw left at g.same);
        }

-- ---- what is shown

pub both-same : {a b : Bool} {m n : ℕ} → a ≡ b → m ≡ n → (a && eqb m 10) ≡ (b && eqb n 10)
both-same e f = rw (e, f) refl

pub place_same : {text rest : List ℕ} {kind : ℕ} {p : Place} {r : Spot} → IsSpot text kind p r → rest ≡ drop r.at text
    → place_text r.kind (record { column = r.column; rest = rest }) ≡ place_text kind p
place_same o e = rw (o.kinds, o.column, e ∙ o.rest) refl

-- the last column has neither quotes nor semicolons
pub last-cell : (c : Column) (s : List ℕ) → has 34 (part_at true s) ≡ false → has 59 (part_at true s) ≡ false → c.last ≡ true
    → cell_fault c s ≡ last_fault c s
unfolding cell_fault
last-cell c s q m l = rw (q, m) (ap (λ (b : Bool). pick b (last_fault c s) Number) l)
