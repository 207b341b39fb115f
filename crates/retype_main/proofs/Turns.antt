-- The turns of the program are a series of calls.
-- Assumes nothing.
use Prim.Native.Nat.{ℕ, ◌+◌, ◌-◌, ◌*◌, ◌/◌, ◌≤◌, ◌<◌}
use native.Mathlib.Omega.{arith}
use native.Mathlib.Nat.{add-zero}
use mathlib.Core.Path.{◌≡◌, refl, sym, ap, ◌∙◌}
use mathlib.Core.Bool.{Bool, true, false, ◌&&◌}
use mathlib.Core.List.{List, [], ◌∷◌, ◌++◌}
use lib.ListN.{length, take, drop, length-drop}
use lib.Seq.{take_all, drop-drop}
use Rattle.base.proofs.Tests.{by-test, no_bool, and-true, and-false}
use Rattle.retype.specs.declared.Retyped.{Retyped}
use Rattle.retype.specs.Book.{Retyping, retyped_by, Retypes, line_most}
use Rattle.in_parts.specs.Retype.{retyped_in}
use Rattle.in_parts.proofs.Retype.{retyped-taken, series-on}
use Rattle.retype_main.specs.declared.Work.{Work}
use Rattle.retype_main.specs.Series.{Turned, Begins, Goes}

pub goes_none : (book : List ℕ) (w : Work) → Begins book w → Goes book w w
unfolding retyped_in
goes_none book w b =
    record {
      rooms = [];
      account = refl;
      at = sym (add-zero w.at);
      inside = b.inside;
      more = λ e. b.more;
      failed = λ e. no_bool (sym e ∙ b.written);
    }

module _ {book : List ℕ} {w₀ w : Work} (g : Goes book w₀ w) where
  -- what was typed before
  before : Retyping
  before = retyped_in g.rooms w₀.account (drop w₀.at book)

  still : w.more ≡ true → before.more ≡ true
  unfolding before
  still m = by-test w.written (λ t. sym (g.more t) ∙ m) (λ t. no_bool (sym (g.failed t) ∙ m))

  pub goes_on : (room : ℕ) {r : Work} → w.more ≡ true
      → Turned (retyped_by (room / line_most) w.account (drop w.at book)) w r → r.at ≤ length book → Goes book w₀ r
  unfolding before
  goes_on room {r} m t inside =
      let xs = drop w₀.at book in
      let place : drop w.at book ≡ drop before.taken xs = rw g.at (sym (drop-drop before.taken w₀.at book)) in
      let x = retyped_by (room / line_most) before.account (drop before.taken xs) in
      let same : retyped_by (room / line_most) w.account (drop w.at book) ≡ x = rw (g.account, place) refl in
      let all = series-on g.rooms room w₀.account xs (still m) in
      record {
        rooms = g.rooms ++ (room ∷ []);
        account = t.account ∙ ap (λ (y : Retyping). y.account) same ∙ sym (ap (λ (y : Retyping). y.account) all);
        at =
            let s = ap (λ (y : Retyping). y.taken) same in
            let a = ap (λ (y : Retyping). y.taken) all in
            omega (arith, t.at, g.at, s, a);
        inside = inside;
        more = λ e. t.more e ∙ ap (λ (y : Retyping). y.more) same ∙ sym (ap (λ (y : Retyping). y.more) all);
        failed = t.failed;
      }

-- ---- as many turns as there are

-- each turn after which more may come has taken six bytes at least
pub record Running (book : List ℕ) (w₀ w : Work) (turns : ℕ) : Type 0 where
  pub going : Goes book w₀ w
  pub many : w.more ≡ true → 6 * 131072 ≤ 6 * turns + w.at

pub running_none : (book : List ℕ) (w : Work) → Begins book w → Running book w w 131072
running_none book w b = record { going = goes_none book w b; many = λ e. omega arith }

module _ {book : List ℕ} {w₀ w : Work} {turns : ℕ} (g : Running book w₀ w turns) where
  pub running-on : (room : ℕ) {r : Work} {next : ℕ} → 0 < turns → next ≡ turns - 1 → line_most ≤ room → w.more ≡ true
      → Turned (retyped_by (room / line_most) w.account (drop w.at book)) w r → r.at ≤ length book → Running book w₀ r next
  running-on room {r} some less long m t inside =
      record {
        going = goes_on g.going room m t inside;
        many = λ e.
            let x = retyped_by (room / line_most) w.account (drop w.at book) in
            let sent : r.written ≡ true = not-not r.written (λ f. no_bool (sym (t.failed f) ∙ e)) in
            let taken = retyped-taken (room / line_most) w.account (drop w.at book) (sym (t.more sent) ∙ e) in
            omega (arith, taken, t.at, g.many m, long, some, less);
      }
    where
      not-not : (b : Bool) → (b ≡ false → b ≡ true) → b ≡ true
      not-not true f = refl
      not-not false f = f refl

  -- there are more turns than bytes, so that more may not come where they are used up
  pub running-end : turns ≡ 0 → length book ≤ 131072 → w.more ≡ false
  running-end z few =
      by-test w.more (λ t. let m = g.many t in absurd (omega (arith, m, z, few, g.going.inside))) (λ t. t)

-- ---- one turn

-- the part of the book from at on, as a call is lent it
rest-lent : (book : List ℕ) (at : ℕ) → take (length book - at) (drop at book) ≡ drop at book
rest-lent book at = take_all (length book - at) (drop at book) (omega (arith, length-drop at book))

module _ (book : List ℕ) (w : Work) where
  pub turned : (n : ℕ) {r : Retyped} (sent : Bool) {out out' : List ℕ}
      → Retypes (retyped_by n w.account (take (length book - w.at) (drop w.at book))) out out' 0 r
      → Turned (retyped_by n w.account (drop w.at book)) w
      (record { account = r.account; at = w.at + r.taken; written = sent; more = r.more && sent })
  turned n {r} sent e =
      let t = rw (rest-lent book w.at) at e in
      record {
        account = t.account;
        at = ap (λ (k : ℕ). w.at + k) t.taken;
        more = λ e. rw e (and-true r.more ∙ t.more);
        failed = λ e. rw e (and-false r.more);
      }

  pub turned-inside : (n : ℕ) → w.at ≤ length book → n ≤ length (take (length book - w.at) (drop w.at book)) → w.at + n ≤ length book
  turned-inside n h k = omega (arith, h, k, ap length (rest-lent book w.at), length-drop w.at book)
