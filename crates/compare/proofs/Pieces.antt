-- The pieces of a section, as the code says them.
-- Assumes nothing.
use Prim.Native.Nat.{ℕ, ◌-◌}
use mathlib.Core.Path.{◌≡◌, refl, sym, ap, ◌∙◌, subst}
use mathlib.Core.List.{List, [], ◌∷◌, ◌++◌}
use mathlib.Core.Bool.{Bool, true, false, ◌||◌}
use mathlib.Core.Logic.{⊎_elim}
use native.Mathlib.Omega.{arith}
use borrow.Author.Tests.{eqb-true, ne_eqb}
use lib.Dec.{eqb}
use Rattle.base.specs.Choice.{pick}
use Rattle.base.proofs.Tests.{or_cases}
use Rattle.printing.specs.Ascii.{ascii}
use Rattle.printing.specs.Said.{Said}
use Rattle.printing.proofs.Sayings.{said-none}
use Rattle.account.specs.declared.Account.{Account}
use Rattle.walk.specs.Walk.{Entry, entries_after}
use Rattle.compare.specs.declared.Cursor.{Cursor}
use Rattle.compare.specs.declared.Side.{Side}
use Rattle.compare.specs.declared.Stage.TheVariants.{Section, NextGroup}
use Rattle.compare.specs.declared.Step.{Step}
use Rattle.compare.specs.declared.places.Place.{Place}
use Rattle.compare.specs.declared.places.Taken.{Taken}
use Rattle.compare.specs.Inner.{Turned}
use Rattle.compare.specs.Places.{onward}
use Rattle.compare.specs.Values.{alone_text, pair_text, first_alone, first_pair}
use Rattle.compare.specs.Sections.{moved_text, others_text, tail_text}
use Rattle.line_bytes.specs.Lines.{figure_count}
use Rattle.compare.specs.Figures.{sum_text}
use Rattle.compare.specs.Steps.{Stepping, Steps, at_places, opened, one_told, is_silent, subtotal_at, open_text, before_step, old_step, new_step}
use Rattle.compare.specs.Steps.{pair_step, tail_step, section_step}

-- ---- the next record, and the next pair

pub alone-none : (new : Bool) (i : ℕ) (es : List Entry) → es ≡ [] → first_alone new i es ≡ []
alone-none new i es e = rw e refl

pub alone-some : (new : Bool) (i : ℕ) (es : List Entry) (e : Entry) (l : List Entry) → es ≡ e ∷ l
    → first_alone new i es ≡ alone_text new i e.bytes e.lines
alone-some new i es e l q = rw q refl

pair_left : (i j : ℕ) (es ns : List Entry) → es ≡ [] → first_pair i es j ns ≡ []
pair_left i j es ns e = rw e refl

pair-right : (i j : ℕ) (es ns : List Entry) → ns ≡ [] → first_pair i es j ns ≡ []
pair-right i j [] ns e = refl
pair-right i j (x ∷ es) ns e = rw e refl

pub pair-none : (i : ℕ) (a b : Account) (xs ys : List ℕ) (t u : Taken) (j : ℕ) → Turned a xs t → Turned b ys u
    → eqb t.n 0 || eqb u.n 0 ≡ true → first_pair i (entries_after a xs) j (entries_after b ys) ≡ []
pair-none i a b xs ys t u j p q h =
    ⊎_elim (λ (e : eqb t.n 0 ≡ true). pair_left i j (entries_after a xs) (entries_after b ys) (p.ended (eqb-true _ _ e)))
    (λ (e : eqb u.n 0 ≡ true). pair-right i j (entries_after a xs) (entries_after b ys) (q.ended (eqb-true _ _ e)))
    (or_cases (eqb t.n 0) (eqb u.n 0) h)

pub pair-some : (i j : ℕ) (es ns : List Entry) (e n : Entry) (l k : List Entry) → es ≡ e ∷ l → ns ≡ n ∷ k
    → first_pair i es j ns ≡ pair_text i e.bytes e.lines j n.bytes n.lines
pair-some i j es ns e n l k q r = rw (q, r) refl

-- ---- steps

pub one-told-is : (xs : List ℕ) (s : Side) (p : Place) (n : ℕ) → p ≡ onward 1 xs s.place → n ≡ s.left - 1
    → record { place = p; left = n; end = s.end; grouped = s.grouped } ≡ one_told xs s
one-told-is xs s p n e f =
    ap (λ (x : Place). record { place = x; left = n; end = s.end; grouped = s.grouped }) e
    ∙ ap (λ (m : ℕ). record { place = onward 1 xs s.place; left = m; end = s.end; grouped = s.grouped }) f

-- a text that is said, and a cursor
pub stepped : (x : Stepping) (out out' : List ℕ) (s : Step) → Said out out' 0 x.text s.written → s.cursor ≡ x.cursor → Steps x out out' s
stepped x out out' s p q = record { said = p; cursor = q }

module _ (xs : List ℕ) (c : Cursor) (out out' : List ℕ) (n : ℕ) (s : Side) where
  pub old-stepped : Said out out' 0 (old_step xs c).text n → s ≡ one_told xs c.old
      → Steps (old_step xs c) out out'
      (record { cursor = record { stage = Section; old = s; new = c.new; paired = c.paired; moved = c.moved; others = c.others }; written = n })
  old-stepped p e =
      record {
        said = p;
        cursor = ap (λ (x : Side). record { stage = Section; old = x; new = c.new; paired = c.paired; moved = c.moved; others = c.others }) e;
      }

  pub new-stepped : Said out out' 0 (new_step xs c).text n → s ≡ one_told xs c.new
      → Steps (new_step xs c) out out'
      (record { cursor = record { stage = Section; old = c.old; new = s; paired = c.paired; moved = c.moved; others = c.others }; written = n })
  new-stepped p e =
      record {
        said = p;
        cursor = ap (λ (x : Side). record { stage = Section; old = c.old; new = x; paired = c.paired; moved = c.moved; others = c.others }) e;
      }

pub pair-stepped : (xs ys : List ℕ) (c : Cursor) (out out' : List ℕ) (n : ℕ) (s t : Side) → Said out out' 0 (pair_step xs ys c).text n
    → s ≡ one_told xs c.old → t ≡ one_told ys c.new
    → Steps (pair_step xs ys c) out out'
    (record { cursor = record { stage = Section; old = s; new = t; paired = c.paired; moved = c.moved; others = c.others }; written = n })
pair-stepped xs ys c out out' n s t p e f =
    record {
      said = p;
      cursor =
          ap (λ (x : Side). record { stage = Section; old = x; new = t; paired = c.paired; moved = c.moved; others = c.others }) e
          ∙ ap (λ (x : Side). record { stage = Section; old = one_told xs c.old; new = x; paired = c.paired; moved = c.moved; others = c.others }) f;
    }

pub tail-stepped : (xs ys : List ℕ) (c : Cursor) (out out' : List ℕ) (n : ℕ) (d : Cursor)
    → Said out out' 0 (others_text c.others ++ sum_text (ascii "subtotal") figure_count (subtotal_at xs c.old) (subtotal_at ys c.new)) n
    → d ≡ at_places NextGroup c.old.end c.new.end → Steps (tail_step xs ys c) out out' (record { cursor = d; written = n })
unfolding tail_text
tail-stepped xs ys c out out' n d p e = record { said = p; cursor = e }

-- ---- the beginning of a section

-- a section in which nothing is to tell, and one in which something is
module _ (under : Bool) (title headings xs ys : List ℕ) (c : Cursor) (b : Bool) (e : b ≡ is_silent under xs ys c) where
  pub open-silent : b ≡ true → open_text under title headings xs ys c ≡ []
  open-silent h = let z : is_silent under xs ys c ≡ true = sym e ∙ h in rw z refl

  pub open_told : b ≡ false
      → open_text under title headings xs ys c ≡ title ++ (headings ++ moved_text under c.old.place.number c.new.place.number c.moved)
  open_told h = let z : is_silent under xs ys c ≡ false = sym e ∙ h in rw z refl

module _ (xs ys : List ℕ) (c : Cursor) (out : List ℕ) (d : Cursor) (b : Bool) where
  pub before-silent : d ≡ opened false xs c.old.place ys c.new.place → b ≡ is_silent true xs ys d → b ≡ true
      → Steps (before_step xs ys c) out out (record { cursor = d; written = 0 })
  unfolding before_step
  before-silent e f h =
      subst (λ (x : Cursor). Steps (record { text = open_text true (ascii "before the groups:\n") [] xs ys x; cursor = x }) out out
      (record { cursor = d; written = 0 })) e
      (record { said = rw (open-silent true (ascii "before the groups:\n") [] xs ys d b f h) (said-none (omega arith)); cursor = refl })

  pub before-told : (out' : List ℕ) (n : ℕ) → d ≡ opened false xs c.old.place ys c.new.place → b ≡ is_silent true xs ys d → b ≡ false
      → Said out out' 0 (ascii "before the groups:\n" ++ moved_text true d.old.place.number d.new.place.number d.moved) n
      → Steps (before_step xs ys c) out out' (record { cursor = d; written = n })
  unfolding before_step
  before-told out' n e f h p =
      subst (λ (x : Cursor). Steps (record { text = open_text true (ascii "before the groups:\n") [] xs ys x; cursor = x }) out out'
      (record { cursor = d; written = n })) e
      (record { said = rw (open_told true (ascii "before the groups:\n") [] xs ys d b f h) p; cursor = refl })

-- ---- the next step of a section

module _ (xs ys : List ℕ) (c : Cursor) (out out' : List ℕ) (s : Step) (h : c.old.left ≡ 0 → ⊥) where
  pub section-pair : c.paired ≡ true → Steps (pair_step xs ys c) out out' s → Steps (section_step xs ys c) out out' s
  unfolding section_step
  section-pair e p =
      rw (ne_eqb _ _ h) (subst (λ (b : Bool). Steps (pick b (pair_step xs ys c) (old_step xs c)) out out' s) (sym e) p)

  pub section-old : c.paired ≡ false → Steps (old_step xs c) out out' s → Steps (section_step xs ys c) out out' s
  unfolding section_step
  section-old e p =
      rw (ne_eqb _ _ h) (subst (λ (b : Bool). Steps (pick b (pair_step xs ys c) (old_step xs c)) out out' s) (sym e) p)
