-- The steps between sections, as the code takes them.
-- Assumes nothing.
use Prim.Native.Nat.{ℕ, ◌-◌, ◌≤◌, ◌<◌}
use mathlib.Core.Path.{◌≡◌, refl, sym, ap, ◌∙◌, subst}
use mathlib.Core.List.{List, [], ◌∷◌, ◌++◌}
use mathlib.Core.Bool.{Bool, true, false, ◌&&◌, ◌||◌, not}
use mathlib.Core.Logic.{⊎_elim}
use native.Mathlib.Omega.{arith}
use borrow.Author.Tests.{eq-eqb, ne_eqb, eqb-true, eqb-false, lt-ltb, le-ltb}
use lib.ListN.{length, take, drop}
use lib.Dec.{eqb, ltb}
use Rattle.base.proofs.Tests.{by-test, and_l, and_r, not-true, not-false, lt-or-ge, no_bool}
use Rattle.printing.specs.Ascii.{ascii}
use Rattle.printing.specs.Said.{Said}
use Rattle.printing.proofs.Sayings.{said-none}
use Rattle.account.specs.declared.Account.{Account}
use Rattle.walk.specs.Walk.{Entry, entry_of, entries_after, entries_of}
use Rattle.compare.specs.declared.Cursor.{Cursor}
use Rattle.compare.specs.declared.Side.{Side}
use Rattle.compare.specs.declared.Stage.TheVariants.{Section}
use Rattle.compare.specs.declared.Step.{Step}
use Rattle.compare.specs.declared.places.Place.{Place}
use Rattle.compare.specs.declared.places.Taken.{Taken}
use Rattle.compare.specs.Inner.{Valid, Turned}
use Rattle.compare.specs.InnerSides.{ValidSide}
use Rattle.compare.specs.Records.{same}
use Rattle.compare.specs.Places.{start, left_of, one_on_lem, onward, stands_in, part_end_lem, no_group, group_at, first_bytes}
use Rattle.compare.specs.Values.{first_pair}
use Rattle.compare.specs.Sections.{group_title, moved_text, same_each}
use Rattle.compare.specs.Steps.{Stepping, Steps, at_places, alone_side, opened, is_silent, open_text, removed_step, added_step, both_step}
use Rattle.compare.specs.Steps.{last_step_lem}
use Rattle.compare.specs.Steps.{group_step, no_step, stage_step, side_in, step_of}
use Rattle.compare.proofs.Walks.{valid-start, valid-stands, left-none, passed-left}
use Rattle.compare.proofs.Pieces.{open-silent, open_told}

-- ---- a group alone

pub alone-is : (xs : List ℕ) (p h e : Place) (n : ℕ) → h ≡ onward 1 xs p → e ≡ part_end_lem xs h → n ≡ e.number - p.number
    → record { place = p; left = n; end = e; grouped = true } ≡ alone_side xs p
alone-is xs p h e n f g k =
    let q : e ≡ part_end_lem xs (onward 1 xs p) = g ∙ ap (λ (x : Place). part_end_lem xs x) f in
    ap (λ (m : ℕ). record { place = p; left = m; end = e; grouped = true }) k
    ∙ ap (λ (x : Place). record { place = p; left = x.number - p.number; end = x; grouped = true }) q

module _ (xs : List ℕ) (p q : Place) (out out' : List ℕ) (n g : ℕ) (s : Side) (d : Cursor) (e : d ≡ at_places Section p q) where
  pub removed-stepped : g ≡ group_at (left_of xs p) → s ≡ alone_side xs p → Said out out' 0 (group_title g (ascii ", removed:\n")) n
      → Steps (removed_step xs p q) out out'
      (record { cursor = record { stage = d.stage; old = s; new = d.new; paired = d.paired; moved = d.moved; others = d.others }; written = n })
  removed-stepped f h t =
      record {
        said = subst (λ (m : ℕ). Said out out' 0 (group_title m (ascii ", removed:\n")) n) f t;
        cursor =
            ap (λ (c : Cursor). record { stage = c.stage; old = s; new = c.new; paired = c.paired; moved = c.moved; others = c.others }) e
            ∙ ap (λ (x : Side). record { stage = Section; old = x; new = (at_places Section p q).new; paired = false; moved = 0; others = 0 }) h;
      }

  pub added-stepped : g ≡ group_at (left_of xs q) → s ≡ alone_side xs q → Said out out' 0 (group_title g (ascii ", added:\n")) n
      → Steps (added_step xs p q) out out'
      (record { cursor = record { stage = d.stage; old = d.old; new = s; paired = d.paired; moved = d.moved; others = d.others }; written = n })
  added-stepped f h t =
      record {
        said = subst (λ (m : ℕ). Said out out' 0 (group_title m (ascii ", added:\n")) n) f t;
        cursor =
            ap (λ (c : Cursor). record { stage = c.stage; old = c.old; new = s; paired = c.paired; moved = c.moved; others = c.others }) e
            ∙ ap (λ (x : Side). record { stage = Section; old = (at_places Section p q).old; new = x; paired = false; moved = 0; others = 0 }) h;
      }

-- ---- a group of both books

first-none : (es : List Entry) → es ≡ [] → [] ≡ first_bytes es
first-none es e = rw e refl

first_some : (es : List Entry) (e : Entry) (l : List Entry) → es ≡ e ∷ l → e.bytes ≡ first_bytes es
first_some es e l q = rw q refl

pub first-is : (a : Account) (xs : List ℕ) (t : Taken) → Turned a xs t → take t.n xs ≡ first_bytes (entries_after a xs)
first-is a xs t u =
    ⊎_elim
    (λ (z : t.n < 1). let n : t.n ≡ 0 = omega (arith, z) in rw n (first-none (entries_after a xs) (u.ended n)))
    (λ (k : 1 ≤ t.n). first_some (entries_after a xs) (entry_of a (take t.n xs)) _ (u.goes k))
    (lt-or-ge t.n 1)

pub both-opened : (xs ys : List ℕ) (p q s t : Place) (d : Cursor) → d ≡ opened true xs s ys t → s ≡ onward 1 xs p → t ≡ onward 1 ys q
    → d ≡ opened true xs (onward 1 xs p) ys (onward 1 ys q)
both-opened xs ys p q s t d e f g =
    e ∙ ap (λ (x : Place). opened true xs x ys t) f ∙ ap (λ (x : Place). opened true xs (onward 1 xs p) ys x) g

module _ (xs ys : List ℕ) (p q : Place) (out : List ℕ) (d : Cursor) (u b : Bool)
    (f : u ≡ same (first_bytes (left_of xs p)) (first_bytes (left_of ys q))) (e : d ≡ opened true xs (onward 1 xs p) ys (onward 1 ys q))
    (i : b ≡ is_silent u xs ys d) where
  -- its text, with any cursor and any test of the headings
  abbrev both : Bool → Cursor → Stepping
  both v c =
      record {
        text =
            open_text v (group_title (group_at (left_of xs p)) (ascii ":\n")) (first_pair p.number (left_of xs p) q.number (left_of ys q)) xs ys c;
        cursor = c;
      }

  made : (out' : List ℕ) (n : ℕ) → Steps (both u d) out out' (record { cursor = d; written = n })
      → Steps (both_step xs ys p q) out out' (record { cursor = d; written = n })
  unfolding both_step
  made out' n s =
      subst (λ (c : Cursor). Steps (both (same (first_bytes (left_of xs p)) (first_bytes (left_of ys q))) c) out out'
      (record { cursor = d; written = n })) e
      (subst (λ (v : Bool). Steps (both v d) out out' (record { cursor = d; written = n })) f s)

  pub both-silent : b ≡ true → Steps (both_step xs ys p q) out out (record { cursor = d; written = 0 })
  both-silent h =
      made out 0
      (record {
        said = rw (open-silent u (group_title (group_at (left_of xs p)) (ascii ":\n")) (first_pair p.number (left_of xs p) q.number (left_of ys q)) xs
            ys d b i h)
            (said-none (omega arith));
        cursor = refl;
      })

  pub both_told : (out' : List ℕ) (n g : ℕ) → b ≡ false → g ≡ group_at (left_of xs p)
      → Said out out' 0 (group_title g (ascii ":\n") ++ (first_pair p.number (left_of xs p) q.number (left_of ys q)
      ++ moved_text u d.old.place.number d.new.place.number d.moved)) n
      → Steps (both_step xs ys p q) out out' (record { cursor = d; written = n })
  both_told out' n g h k t =
      made out' n
      (record {
        said = rw (open_told u (group_title (group_at (left_of xs p)) (ascii ":\n")) (first_pair p.number (left_of xs p) q.number (left_of ys q)) xs
            ys d b i h)
            (subst (λ (m : ℕ). Said out out' 0 (group_title m (ascii ":\n") ++ (first_pair p.number (left_of xs p) q.number (left_of ys q)
            ++ moved_text u d.old.place.number d.new.place.number d.moved)) n) k t);
        cursor = refl;
      })

-- ---- which group comes next

module _ (alike : Bool) (xs ys : List ℕ) (p q : Place) (out out' : List ℕ) (s : Step) (g h : ℕ)
    (e : g ≡ group_at (left_of xs p)) (f : h ≡ group_at (left_of ys q)) where
  pub group-removed : g < h → Steps (removed_step xs p q) out out' s → Steps (group_step alike xs ys p q) out out' s
  unfolding group_step
  group-removed k t = let z : ltb (group_at (left_of xs p)) (group_at (left_of ys q)) ≡ true = lt-ltb (group_at (left_of xs p))
      (group_at (left_of ys q)) (omega (arith, k, e, f)) in rw z t

  pub group-added : h ≤ g → h < g → Steps (added_step ys p q) out out' s → Steps (group_step alike xs ys p q) out out' s
  unfolding group_step
  group-added k l t =
      let z : ltb (group_at (left_of xs p)) (group_at (left_of ys q)) ≡ false = le-ltb (group_at (left_of xs p)) (group_at (left_of ys q))
      (omega (arith, k, e, f)) in
      let y : ltb (group_at (left_of ys q)) (group_at (left_of xs p)) ≡ true = lt-ltb (group_at (left_of ys q)) (group_at (left_of xs p))
      (omega (arith, l, e, f)) in
      rw (z, y) t

  module _ (k : h ≤ g) (l : g ≤ h) where
    z : ltb (group_at (left_of xs p)) (group_at (left_of ys q)) ≡ false
    z = le-ltb (group_at (left_of xs p)) (group_at (left_of ys q)) (omega (arith, k, e, f))

    y : ltb (group_at (left_of ys q)) (group_at (left_of xs p)) ≡ false
    y = le-ltb (group_at (left_of ys q)) (group_at (left_of xs p)) (omega (arith, l, e, f))

    pub group-last : g ≡ no_group → Steps (last_step_lem alike xs ys p q) out out' s → Steps (group_step alike xs ys p q) out out' s
    unfolding group_step
    group-last n t = let x : eqb (group_at (left_of xs p)) no_group ≡ true = eq-eqb _ _ (sym e ∙ n) in rw (z, y, x) t

    pub group-both : (g ≡ no_group → ⊥) → Steps (both_step xs ys p q) out out' s → Steps (group_step alike xs ys p q) out out' s
    unfolding group_step
    group-both n t = let x : eqb (group_at (left_of xs p)) no_group ≡ false = ne_eqb _ _ (λ w. n (e ∙ w)) in rw (z, y, x) t

-- ---- the accepted records, one for one

-- those before p and q are the same: then it is decided by the others
pub record EachSame (xs ys : List ℕ) (p q : Place) : Type 0 where
  pub old : Valid xs p
  pub new : Valid ys q
  pub rest : same_each (left_of xs p) (left_of ys q) ≡ same_each (entries_of xs) (entries_of ys)

pub each_none : (xs ys : List ℕ) (p q : Place) → p ≡ start → q ≡ start → EachSame xs ys p q
each_none xs ys p q e f =
    subst (λ (x : Place). EachSame xs ys x q) (sym e)
    (subst (λ (x : Place). EachSame xs ys start x) (sym f) (record { old = valid-start xs; new = valid-start ys; rest = refl }))

each_both : (es ns : List Entry) → es ≡ [] → ns ≡ [] → true ≡ same_each es ns
unfolding same_each
each_both es ns e f = rw (e, f) refl

each_left : (es ns : List Entry) (n : Entry) (l : List Entry) → es ≡ [] → ns ≡ n ∷ l → false ≡ same_each es ns
unfolding same_each
each_left es ns n l e f = rw (e, f) refl

each_right : (es ns : List Entry) (e : Entry) (l : List Entry) → es ≡ e ∷ l → ns ≡ [] → false ≡ same_each es ns
unfolding same_each
each_right es ns e l f g = rw (f, g) refl

each_next : (es ns : List Entry) (e n : Entry) (l k : List Entry) → es ≡ e ∷ l → ns ≡ n ∷ k
    → same_each es ns ≡ same e.bytes n.bytes && same_each l k
unfolding same_each
each_next es ns e n l k f g = rw (f, g) refl

module _ (xs ys : List ℕ) (p q : Place) (w : EachSame xs ys p q) (t u : Taken) (a : Turned p.account (drop p.at xs) t)
    (b : Turned q.account (drop q.at ys) u) where
  -- either has no more
  pub each-ends : eqb t.n 0 || eqb u.n 0 ≡ true → eqb t.n 0 && eqb u.n 0 ≡ same_each (entries_of xs) (entries_of ys)
  each-ends h =
      by-test (eqb t.n 0)
      (λ x. by-test (eqb u.n 0)
      (λ y. rw (x, y) (each_both (left_of xs p) (left_of ys q) (a.ended (eqb-true _ _ x)) (b.ended (eqb-true _ _ y)) ∙ w.rest))
      (λ y. let k : 0 < u.n = let n = eqb-false u.n 0 y in omega (arith, n) in
      rw (x, y) (each_left (left_of xs p) (left_of ys q) _ _ (a.ended (eqb-true _ _ x)) (passed-left ys q w.new u b k) ∙ w.rest)))
      (λ x. by-test (eqb u.n 0)
      (λ y. let k : 0 < t.n = let n = eqb-false t.n 0 x in omega (arith, n) in
      rw x (each_right (left_of xs p) (left_of ys q) _ _ (passed-left xs p w.old t a k) (b.ended (eqb-true _ _ y)) ∙ w.rest))
      (λ y. no_bool (rw (x, y) at h)))

  module _ (k : 0 < t.n) (l : 0 < u.n) where
    next : same_each (left_of xs p) (left_of ys q)
        ≡ same (take t.n (drop p.at xs)) (take u.n (drop q.at ys)) && same_each (left_of xs (one_on_lem xs p)) (left_of ys (one_on_lem ys q))
    next = each_next (left_of xs p) (left_of ys q) _ _ _ _ (passed-left xs p w.old t a k) (passed-left ys q w.new u b l)

    pub each-stops : (c : Bool) → c ≡ same (take t.n (drop p.at xs)) (take u.n (drop q.at ys)) → not c ≡ true
        → false ≡ same_each (entries_of xs) (entries_of ys)
    each-stops c e h = let z = next ∙ ap (λ (v : Bool). v && same_each (left_of xs (one_on_lem xs p)) (left_of ys (one_on_lem ys q)))
        (sym e ∙ not-true c h) in sym z ∙ w.rest

    pub each_on : (c : Bool) (r s : Place) → c ≡ same (take t.n (drop p.at xs)) (take u.n (drop q.at ys)) → not c ≡ false
        → r ≡ one_on_lem xs p → Valid xs r → s ≡ one_on_lem ys q → Valid ys s → EachSame xs ys r s
    each_on c r s e h f v g x =
        let z = next ∙ ap (λ (v : Bool). v && same_each (left_of xs (one_on_lem xs p)) (left_of ys (one_on_lem ys q))) (sym e ∙ not-false c h) in
        record {
          old = v;
          new = x;
          rest =
              ap (λ (y : Place). same_each (left_of xs y) (left_of ys s)) f
              ∙ ap (λ (y : Place). same_each (left_of xs (one_on_lem xs p)) (left_of ys y)) g
              ∙ sym z ∙ w.rest;
        }

-- the old book has no more
pub each_over : (xs ys : List ℕ) (p q : Place) → EachSame xs ys p q → (u : Taken) → Turned q.account (drop q.at ys) u → length xs ≤ p.at
    → eqb u.n 0 ≡ same_each (entries_of xs) (entries_of ys)
each_over xs ys p q w u b h =
    by-test (eqb u.n 0)
    (λ y. rw y (each_both (left_of xs p) (left_of ys q) (left-none xs p h) (b.ended (eqb-true _ _ y)) ∙ w.rest))
    (λ y. let k : 0 < u.n = let n = eqb-false u.n 0 y in omega (arith, n) in
    rw y (each_left (left_of xs p) (left_of ys q) _ _ (left-none xs p h) (passed-left ys q w.new u b k) ∙ w.rest))

-- ---- a cursor of these books

pub side-stands : (xs : List ℕ) (s : Side) → side_in xs s ≡ true → ValidSide xs s
side-stands xs s e =
    record {
      place = valid-stands xs s.place (and_l (stands_in xs s.place) (stands_in xs s.end) e);
      end = valid-stands xs s.end (and_r (stands_in xs s.place) (stands_in xs s.end) e);
    }

module _ (xs ys : List ℕ) (c : Cursor) (a b : Bool) (e : a ≡ side_in xs c.old) (f : b ≡ side_in ys c.new) where
  both-in : side_in xs c.old && side_in ys c.new ≡ a && b
  both-in = sym (ap (λ (x : Bool). x && b) e ∙ ap (λ (y : Bool). side_in xs c.old && y) f)

  pub next-sides : not (a && b) ≡ false → ValidSide xs c.old × ValidSide ys c.new
  next-sides h =
      let z = not-false (a && b) h in
      (side-stands xs c.old (sym e ∙ and_l a b z), side-stands ys c.new (sym f ∙ and_r a b z))

  pub next-ended : (alike : Bool) (out out' : List ℕ) (s : Step) → not (a && b) ≡ true → Steps no_step out out' s
      → Steps (step_of alike xs ys c) out out' s
  unfolding step_of
  next-ended alike out out' s h t = let z : side_in xs c.old && side_in ys c.new ≡ false = both-in ∙ not-true (a && b) h in rw z t

  pub next-stepped : (alike : Bool) (out out' : List ℕ) (s : Step) → not (a && b) ≡ false
      → Steps (stage_step alike xs ys c) out out' s → Steps (step_of alike xs ys c) out out' s
  unfolding step_of
  next-stepped alike out out' s h t = let z : side_in xs c.old && side_in ys c.new ≡ true = both-in ∙ not-false (a && b) h in rw z t
