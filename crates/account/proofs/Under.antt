-- Heading, what is used under it and subtotal: the test is the range, by the group it takes fewer steps, and they stay in range.
-- Assumes nothing.
use Prim.Native.Nat.{ℕ, ◌+◌, ◌≤◌}
use mathlib.Core.Path.{◌≡◌, refl}
use mathlib.Core.List.{List, [], ◌∷◌}
use mathlib.Core.Bool.{Bool, true, false, ◌&&◌, ◌||◌, not}
use mathlib.Core.Logic.{inl, inr, ⊎_elim}
use native.Mathlib.Omega.{arith}
use borrow.Author.Tests.{leb-true, le-leb, eqb-true, eq-eqb}
use lib.Dec.{leb, eqb}
use Rattle.base.proofs.Tests.{all-each, each_all, and_l, and_r, implied, implies, or_cases, both_true, same_test}
use Rattle.account.specs.declared.Heading.{Heading}
use Rattle.account.specs.declared.Subtotal.{Subtotal}
use Rattle.account.specs.declared.Used.{Used}
use Rattle.account.specs.Figures.{no_subtotal}
use Rattle.account.specs.Range.{UsedMost, Headed, Unheaded, Grouped, Under}
use Rattle.account.specs.Range.{used_test, unused_test, headed_test, unheaded_test, grouped_test, ungrouped_test, under_test}
use Rattle.account.specs.Account.{none_used}
use Rattle.account.proofs.Sums.{grouped-parts, grouped-test, ungrouped-parts, ungrouped-test, grouped-none, ungrouped-none, grouped-next}
use Rattle.account.proofs.Sums.{ungrouped-bounded}
use Rattle.account.proofs.UsedUp.{used-parts, used-test, unused-parts, unused-test, unused-most, none-unused}

-- ---- the test and the range

or-first : (a b : Bool) → a ≡ true → a || b ≡ true
or-first a b e = rw e

or-second : (a b : Bool) → b ≡ true → a || b ≡ true
or-second true b e = refl
or-second false b e = e

module _ (h : Heading) (u : Used) where
  abbrev headed_rest : ℕ → List Bool
  headed_rest records =
      leb h.group 65535 ∷ leb 1 h.class ∷ leb h.class 4 ∷ leb h.head 20000 ∷ leb 2 records ∷ used_test u ∷ []

  headed-parts : (records : ℕ) → headed_test h u records ≡ true → Headed h u records
  headed-parts records e =
      let t = all-each (leb 1 h.group) (headed_rest records) e in
      record {
        group-least = leb-true _ _ t.0;
        group-most = leb-true _ _ t.1.0;
        class-least = leb-true _ _ t.1.1.0;
        class-most = leb-true _ _ t.1.1.1.0;
        head-most = leb-true _ _ t.1.1.1.1.0;
        records-least = leb-true _ _ t.1.1.1.1.1.0;
        used = used-parts u t.1.1.1.1.1.1.0;
      }

  headed-test : (records : ℕ) → Headed h u records → headed_test h u records ≡ true
  headed-test records p =
      each_all (leb 1 h.group) (headed_rest records) (le-leb _ _ p.group-least) (
        le-leb _ _ p.group-most,
        (
          le-leb _ _ p.class-least,
          (
            le-leb _ _ p.class-most,
            (le-leb _ _ p.head-most, (le-leb _ _ p.records-least, (used-test u p.used, tt))),
          ),
        ),
      )

  abbrev unheaded_rest : List Bool
  unheaded_rest = eqb h.class 0 ∷ eqb h.head 0 ∷ unused_test u ∷ []

  unheaded-parts : unheaded_test h u ≡ true → Unheaded h u
  unheaded-parts e =
      let t = all-each (eqb h.group 0) unheaded_rest e in
      record {
        group = eqb-true _ _ t.0;
        class = eqb-true _ _ t.1.0;
        head = eqb-true _ _ t.1.1.0;
        used = unused-parts u t.1.1.1.0;
      }

  unheaded-test : Unheaded h u → unheaded_test h u ≡ true
  unheaded-test p =
      each_all (eqb h.group 0) unheaded_rest (eq-eqb _ _ p.group)
      (eq-eqb _ _ p.class, (eq-eqb _ _ p.head, (unused-test u p.used, tt)))

  module _ (s : Subtotal) (records : ℕ) where
    abbrev headings : Bool
    headings = headed_test h u records || unheaded_test h u

    abbrev subtotals : Bool
    subtotals = grouped_test s records && (not (eqb h.group 0) || ungrouped_test s)

    pub under-parts : under_test h u s records ≡ true → Under h u s records
    under-parts e =
        let t = and_r headings subtotals e in
        record {
          heading =
              ⊎_elim (λ (t : headed_test h u records ≡ true). inl (headed-parts records t)) (λ (t : unheaded_test h u ≡ true). inr (unheaded-parts t))
              (or_cases (headed_test h u records) (unheaded_test h u) (and_l headings subtotals e));
          grouped = grouped-parts s records (and_l _ _ t);
          ungrouped = λ z. ungrouped-parts s (implied _ _ (and_r (grouped_test s records) _ t) (eq-eqb _ _ z));
        }

    pub under-test : Under h u s records → under_test h u s records ≡ true
    under-test p =
        both_true headings subtotals
        (⊎_elim (λ (q : Headed h u records). or-first (headed_test h u records) (unheaded_test h u) (headed-test records q))
        (λ (q : Unheaded h u). or-second (headed_test h u records) (unheaded_test h u) (unheaded-test q)) p.heading)
        (both_true (grouped_test s records) (not (eqb h.group 0) || ungrouped_test s) (grouped-test s records p.grouped)
        (implies (eqb h.group 0) (ungrouped_test s) (λ z. ungrouped-test s (p.ungrouped (eqb-true _ _ z)))))

    -- without a group
    pub under_none : h.group ≡ 0 → unheaded_test h u && ungrouped_test s ≡ under_test h u s records
    under_none z = same_test _ _ there back
      where
        there : unheaded_test h u && ungrouped_test s ≡ true → under_test h u s records ≡ true
        there e =
            let v = ungrouped-parts s (and_r (unheaded_test h u) (ungrouped_test s) e) in
            under-test (record {
              heading = inr (unheaded-parts (and_l (unheaded_test h u) (ungrouped_test s) e));
              grouped = ungrouped-bounded records v;
              ungrouped = λ z. v;
            })

        back : under_test h u s records ≡ true → unheaded_test h u && ungrouped_test s ≡ true
        back e =
            let p = under-parts e in
            both_true (unheaded_test h u) (ungrouped_test s)
            (⊎_elim (λ (q : Headed h u records). absurd (omega (arith, q.group-least))) (λ (q : Unheaded h u). unheaded-test q) p.heading)
            (ungrouped-test s (p.ungrouped z))

    -- with one
    pub under_some : (h.group ≡ 0 → ⊥) → headed_test h u records && grouped_test s records ≡ under_test h u s records
    under_some n = same_test _ _ there back
      where
        there : headed_test h u records && grouped_test s records ≡ true → under_test h u s records ≡ true
        there e =
            under-test (record {
              heading = inl (headed-parts records (and_l (headed_test h u records) (grouped_test s records) e));
              grouped = grouped-parts s records (and_r (headed_test h u records) (grouped_test s records) e);
              ungrouped = λ z. absurd (n z);
            })

        back : under_test h u s records ≡ true → headed_test h u records && grouped_test s records ≡ true
        back e =
            let p = under-parts e in
            both_true (headed_test h u records) (grouped_test s records)
            (⊎_elim (λ (q : Headed h u records). headed-test records q) (λ (q : Unheaded h u). absurd (n q.group)) p.heading)
            (grouped-test s records p.grouped)

-- ---- with or without a heading

module _ {h : Heading} {u : Used} {s : Subtotal} {records : ℕ} (p : Under h u s records) where
  pub head_in : h.head ≤ 20000
  head_in = ⊎_elim (λ (q : Headed h u records). q.head-most) (λ (q : Unheaded h u). omega arith) p.heading

  pub group-in : h.group ≤ 65535
  group-in = ⊎_elim (λ (q : Headed h u records). q.group-most) (λ (q : Unheaded h u). omega arith) p.heading

  pub class-in : h.class ≤ 4
  class-in = ⊎_elim (λ (q : Headed h u records). q.class-most) (λ (q : Unheaded h u). omega arith) p.heading

  pub used-in : UsedMost u
  used-in = ⊎_elim (λ (q : Headed h u records). q.used) (λ (q : Unheaded h u). unused-most u q.used) p.heading

-- ---- they stay in range

pub under-nothing : Under (record { group = 0; class = 0; head = 0 }) none_used no_subtotal 0
under-nothing =
    record {
      heading = inr (record { group = refl; class = refl; head = refl; used = none-unused });
      grouped = grouped-none 0;
      ungrouped = λ z. ungrouped-none;
    }

-- a new heading from the second record on
pub under-headed : (h : Heading) (records : ℕ) → 1 ≤ h.group → h.group ≤ 65535 → 1 ≤ h.class → h.class ≤ 4 → h.head ≤ 20000 → 1 ≤ records
    → Under h none_used no_subtotal (records + 1)
under-headed h records g1 g2 c1 c2 most begun =
    record {
      heading = inl (record {
        group-least = g1;
        group-most = g2;
        class-least = c1;
        class-most = c2;
        head-most = most;
        records-least = omega arith;
        used = unused-most none_used none-unused;
      });
      grouped = grouped-none _;
      ungrouped = λ z. ungrouped-none;
    }

module _ {h : Heading} {u : Used} {s : Subtotal} {records : ℕ} (p : Under h u s records) where
  headed-on : (w : Used) → UsedMost w → Headed h u records → Headed h w (records + 1)
  headed-on w m q =
      record {
        group-least = q.group-least;
        group-most = q.group-most;
        class-least = q.class-least;
        class-most = q.class-most;
        head-most = q.head-most;
        records-least = omega (arith, q.records-least);
        used = m;
      }

  -- as they were, with one record more
  pub under_next : Under h u s (records + 1)
  under_next =
      record {
        heading = ⊎_elim (λ (q : Headed h u records). inl (headed-on u q.used q)) (λ (q : Unheaded h u). inr q) p.heading;
        grouped = grouped-next p.grouped;
        ungrouped = p.ungrouped;
      }

  -- with more used under a heading, and another subtotal
  pub under_more : (w : Used) (t : Subtotal) → 1 ≤ h.class → UsedMost w → Grouped t (records + 1) → Under h w t (records + 1)
  under_more w t class m g =
      let q = ⊎_elim (λ (q : Headed h u records). q) (λ (q : Unheaded h u). absurd (omega arith)) p.heading in
      record { heading = inl (headed-on w m q); grouped = g; ungrouped = λ z. let least = q.group-least in absurd (omega arith) }
