-- Laws of what is gathered over a book: the account, and what the records of a kind add to its sums.
-- Assumes nothing.
use Rattle.std.proofs.Common.{◌≡◌, ℕ, ◌+◌, ◌≤◌, true, false, ◌||◌, eqb, List, [], length, take, drop, sym, refl, ap, ◌∙◌, subst, arith, length-drop}
use Rattle.std.proofs.Common.{drop_of_length-le, get_or-take, drop-drop}
use borrow.Author.Tests.{eqb-false}
use Rattle.base.specs.Choice.{pick}
use Rattle.base.proofs.Tests.{of-choice, or_l}
use Rattle.account.specs.declared.Account.{Account}
use Rattle.account.specs.declared.Figures.{Figures}
use Rattle.account.specs.Account.{no_record}
use Rattle.account.specs.Figures.{added, figures_of}
use Rattle.account.specs.Sorts.{sort_of}
use Rattle.account.specs.Range.{AccountInRange}
use Rattle.account.specs.Judge.{Step, kind_byte, record_row, values_of, first, refusals, accepted, judge}
use Rattle.account.proofs.Sorts.{by-sort}
use Rattle.account.proofs.Keeps.{in-range-none}
use Rattle.walk.specs.declared.Next.{Next}
use Rattle.walk.specs.Walk.{next_of}
use Rattle.walk.proofs.Walks.{Stands, stands}
use Rattle.page.specs.declared.Sum.{Sum}
use Rattle.page.specs.Over.{over_bytes}
use Rattle.page.specs.Figures.{next_account, last_of, no_sum, with_record, add_kind, sum_of, SumIn, SumsRise}
use Rattle.page.proofs.Overs.{over-nil, over-end, over-next}

-- ---- the sums of an account only rise

rise-same : (f : Figures) → SumsRise f f
rise-same f = record { ch4 = omega arith; n2o = omega arith; grazing = omega arith }

rise-more : (f g : Figures) → SumsRise f (added f g)
rise-more f g = record { ch4 = omega arith; n2o = omega arith; grazing = omega arith }

pub sums-rise : (a : Account) (r : List ℕ) → SumsRise a.sums (judge a r).account.sums
unfolding judge accepted
sums-rise a r =
    of-choice (λ (s : Step). SumsRise a.sums s.account.sums) (eqb (first (refusals a r)) 0)
    (λ e. by-sort (λ (s : Step). SumsRise a.sums s.account.sums) (sort_of (record_row r)) (λ e. rise-same a.sums) (λ e. rise-same a.sums)
    (λ e. rise-more a.sums (figures_of a.heading (record_row r) (values_of r)))
    (λ e. rise-more a.sums (figures_of a.heading (record_row r) (values_of r))) (λ e. rise-same a.sums))
    (λ e. rise-same a.sums)

-- after the record at which a walk stands
pub rise-next : (a : Account) (xs : List ℕ) (t : Next) → Stands a xs t → SumsRise a.sums t.account.sums
rise-next a xs t s = subst (λ (x : Account). SumsRise a.sums x.sums) (sym s.account) (sums-rise a (take t.size xs))

-- ---- a book in the middle

pub record Gathering (book : List ℕ) (kind : ℕ) (a : Account) (s : Sum) (at : ℕ) : Type 0 where
  pub within : at ≤ length book
  pub range : AccountInRange a
  pub sum : SumIn s a.sums
  pub account : over_bytes next_account a a (drop at book) ≡ last_of book
  pub sums : over_bytes (add_kind kind) s a (drop at book) ≡ sum_of kind book

pub gathering-none : (book : List ℕ) (kind : ℕ) → Gathering book kind no_record no_sum 0
unfolding last_of sum_of
gathering-none book kind =
    record {
      within = omega arith;
      range = in-range-none;
      sum = record { ch4 = omega arith; n2o = omega arith; grazing = omega arith };
      account = refl;
      sums = refl;
    }

-- what is gathered
pub record Gathered (book : List ℕ) (kind : ℕ) (a : Account) (s : Sum) : Type 0 where
  pub account : a ≡ last_of book
  pub sum : s ≡ sum_of kind book

module _ {book : List ℕ} {kind : ℕ} {a : Account} {s : Sum} {at : ℕ} (g : Gathering book kind a s at) where
  pub gathering-far : length book ≤ at → Gathered book kind a s
  gathering-far h =
      let none : drop at book ≡ [] = drop_of_length-le book {i = at} h in
      record {
        account = sym (over-nil next_account a a) ∙ (rw none at g.account);
        sum = sym (over-nil (add_kind kind) s a) ∙ (rw none at g.sums);
      }

  module _ (t : Next) (e : t ≡ next_of a (drop at book)) where
    pub gathering-end : eqb t.size 0 || eqb t.account.stage 3 ≡ true → Gathered book kind a s
    gathering-end h =
        record {
          account = sym (over-end next_account a a (drop at book) t e h) ∙ g.account;
          sum = sym (over-end (add_kind kind) s a (drop at book) t e h) ∙ g.sums;
        }

    module _ (h : eqb t.size 0 || eqb t.account.stage 3 ≡ false) where
      pub standing : Stands a (drop at book) t
      standing = stands a (drop at book) t e (eqb-false _ _ (or_l (eqb t.size 0) _ h))

      pub gathering-inside : at + t.size ≤ length book
      gathering-inside = omega (arith, standing.inside, length-drop at book, g.within)

      -- the kind of the record is that of the bytes at its front
      kind-front : kind_byte (take t.size (drop at book)) ≡ kind_byte (drop at book)
      kind-front = get_or-take t.size (drop at book) 3 0 (omega (arith, standing.least))

      add_same : add_kind kind s a (take t.size (drop at book))
          ≡ pick (eqb (kind_byte (drop at book)) kind) (with_record s a.sums t.account.sums) s
      add_same =
          subst (λ (x : Account). add_kind kind s a (take t.size (drop at book))
          ≡ pick (eqb (kind_byte (drop at book)) kind) (with_record s a.sums x.sums) s) (sym standing.account)
          (ap (λ (k : ℕ). pick (eqb k kind) (with_record s a.sums (judge a (take t.size (drop at book))).account.sums) s) kind-front)

      pub gathering-next : {u : Sum} → u ≡ pick (eqb (kind_byte (drop at book)) kind) (with_record s a.sums t.account.sums) s
          → SumIn u t.account.sums → AccountInRange t.account → Gathering book kind t.account u (at + t.size)
      gathering-next {u} q i r =
          let rest = drop-drop t.size at book in
          record {
            within = gathering-inside;
            range = r;
            sum = i;
            account =
                ap (λ (x : List ℕ). over_bytes next_account t.account t.account x) (sym rest)
                ∙ ap (λ (x : Account). over_bytes next_account x t.account (drop t.size (drop at book))) standing.account
                ∙ sym (over-next next_account a a (drop at book) t e h)
                ∙ g.account;
            sums =
                ap (λ (x : List ℕ). over_bytes (add_kind kind) u t.account x) (sym rest)
                ∙ ap (λ (x : Sum). over_bytes (add_kind kind) x t.account (drop t.size (drop at book))) (q ∙ sym add_same)
                ∙ sym (over-next (add_kind kind) s a (drop at book) t e h)
                ∙ g.sums;
          }
