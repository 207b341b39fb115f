-- Details in another order: each is accepted in its turn, and the account behind them all is the same.
-- Assumes nothing.
use Prim.Native.Nat.{ℕ, zero, suc}
use mathlib.Core.Path.{◌≡◌, refl, sym, ap, ◌∙◌, subst}
use mathlib.Core.List.{List, [], ◌∷◌, ◌++◌, map, append_assoc}
use Rattle.account.specs.declared.Account.{Account}
use Rattle.account.specs.declared.Heading.{Heading}
use Rattle.account.specs.Line.{joined, line_of}
use Rattle.account.specs.Judge.{record_row, values_of}
use Rattle.account.proofs.Details.{DetailKind, with_record, judge-detail, same-account, Within, within-after, second-first, first-second}
use Rattle.book.specs.Run.{then, book}
use Rattle.promises.proofs.SameLine.{book-record}
use Rattle.orders.specs.InOrder.{behind_first, to_front_lem, keep_first, in_order_lem}
use Rattle.orders.specs.AnyOrder.{Details}
use Rattle.orders.proofs.Runs.{Takes, Taken, reached, given}

-- ---- details one after the other

pub record Detail (a : Account) (r : List ℕ) : Type 0 where
  pub kind : DetailKind (record_row r)
  pub takes : Takes a r

abbrev pub InTurn : Account → List (List ℕ) → Type 0
InTurn a [] = Unit {0}
InTurn a (r ∷ rs) = Detail a r × InTurn (with_record a r) rs

-- the account with all of them
abbrev pub with_records : Account → List (List ℕ) → Account
with_records a [] = a
with_records a (r ∷ rs) = with_records (with_record a r) rs

abbrev pub line_in : Heading → List ℕ → List ℕ
line_in h r = line_of h (record_row r) (values_of r)

-- where records are taken and all are details, they are so in turn
pub in-turn : (rs : List (List ℕ)) (a : Account) → Details rs → Taken a rs → InTurn a rs
in-turn [] a d t = tt
in-turn (r ∷ rs) a d t =
    let e = ap (λ s. s.account) (judge-detail a r d.0 t.0.passes) in
    (record { kind = d.0; takes = t.0 }, in-turn rs (with_record a r) d.1 (subst (λ (b : Account). Taken b rs) e t.1))

pub reached-details : (rs : List (List ℕ)) (a : Account) → InTurn a rs → reached a rs ≡ with_records a rs
reached-details [] a t = refl
reached-details (r ∷ rs) a t = rw (judge-detail a r t.0.kind t.0.takes.passes) (reached-details rs (with_record a r) t.1)

-- a line for each, all under one heading, and then what the bytes behind them give
pub book-details : (rs : List (List ℕ)) (a : Account) (ys : List ℕ) → InTurn a rs
    → book a (joined rs ++ ys) ≡ then (map (line_in a.heading) rs) (book (with_records a rs) ys)
book-details [] a ys t = refl
book-details (r ∷ rs) a ys t =
    rw (
      append_assoc,
      book-record a r (joined rs ++ ys) t.0.takes.whole t.0.takes.early,
      judge-detail a r t.0.kind t.0.takes.passes,
      book-details rs (with_record a r) ys t.1,
    ) refl

pub given-details : (rs : List (List ℕ)) (a : Account) → InTurn a rs → given a rs ≡ map (line_in a.heading) rs
given-details [] a t = refl
given-details (r ∷ rs) a t = rw (judge-detail a r t.0.kind t.0.takes.passes, given-details rs (with_record a r) t.1) refl

-- ---- in another order

-- accepted in the other order too, with the same account in the end
pub record Same (a : Account) (rs ss : List (List ℕ)) : Type 0 where
  pub turn : InTurn a ss
  pub account : with_records a ss ≡ with_records a rs

same-as : {a : Account} {rs : List (List ℕ)} → InTurn a rs → Same a rs rs
same-as t = record { turn = t; account = refl }

same_then : {a : Account} {rs ss ts : List (List ℕ)} → Same a rs ss → Same a ss ts → Same a rs ts
same_then p q = record { turn = q.turn; account = q.account ∙ p.account }

-- behind one that stays
same-behind : {a : Account} {r : List ℕ} {rs ss : List (List ℕ)} → Detail a r → Same (with_record a r) rs ss → Same a (r ∷ rs) (r ∷ ss)
same-behind d p = record { turn = (d, p.turn); account = p.account }

-- two neighbours change places
swapped : (a : Account) (r s : List ℕ) (rs : List (List ℕ)) → Within a → InTurn a (r ∷ s ∷ rs) → Same a (r ∷ s ∷ rs) (s ∷ r ∷ rs)
swapped a r s rs w t =
    let d = t.0 in
    let e = t.1.0 in
    let sf = second-first a r s d.kind e.kind w d.takes.passes e.takes.passes in
    let fs = first-second a r s d.kind e.kind w d.takes.passes e.takes.passes in
    record {
      turn = (
        record { kind = e.kind; takes = record { whole = e.takes.whole; early = d.takes.early; passes = sf } },
        (
          record { kind = d.kind; takes = record { whole = d.takes.whole; early = d.takes.early; passes = fs } },
          subst (λ (b : Account). InTurn b rs) (same-account a r s) t.1.1,
        ),
      );
      account = ap (λ (b : Account). with_records b rs) (sym (same-account a r s));
    }

within-next : (a : Account) (r : List ℕ) → Within a → Detail a r → Within (with_record a r)
within-next a r w d = within-after a r d.kind w d.takes.passes

behind-first : (a : Account) (r : List ℕ) (rs : List (List ℕ)) → Within a → InTurn a (r ∷ rs) → Same a (r ∷ rs) (behind_first r rs)
behind-first a r [] w t = same-as t
behind-first a r (s ∷ rs) w t = swapped a r s rs w t

to_front : (i : ℕ) (rs : List (List ℕ)) (a : Account) → Within a → InTurn a rs → Same a rs (to_front_lem i rs)
unfolding to_front_lem
to_front zero rs a w t = same-as t
to_front (suc i) [] a w t = same-as t
to_front (suc i) (r ∷ rs) a w t =
    let p = same-behind t.0 (to_front i rs (with_record a r) (within-next a r w t.0) t.1) in
    same_then p (behind-first a r (to_front_lem i rs) w p.turn)

keep-first : (f : List (List ℕ) → List (List ℕ)) → ((ss : List (List ℕ)) (b : Account) → Within b → InTurn b ss → Same b ss (f ss))
    → (rs : List (List ℕ)) (a : Account) → Within a → InTurn a rs → Same a rs (keep_first f rs)
keep-first f h [] a w t = same-as t
keep-first f h (r ∷ rs) a w t = same-behind t.0 (h rs (with_record a r) (within-next a r w t.0) t.1)

pub in_order : (order : List ℕ) (rs : List (List ℕ)) (a : Account) → Within a → InTurn a rs → Same a rs (in_order_lem order rs)
unfolding in_order_lem
in_order [] rs a w t = same-as t
in_order (i ∷ order) rs a w t =
    let p = to_front i rs a w t in
    same_then p (keep-first (in_order_lem order) (in_order order) (to_front_lem i rs) a w p.turn)

-- ---- lines in the order of their records

module _ (f : List ℕ → List ℕ) where
  map-behind : (r : List ℕ) (rs : List (List ℕ)) → map f (behind_first r rs) ≡ behind_first (f r) (map f rs)
  map-behind r [] = refl
  map-behind r (s ∷ rs) = refl

  map-front : (i : ℕ) (rs : List (List ℕ)) → map f (to_front_lem i rs) ≡ to_front_lem i (map f rs)
  unfolding to_front_lem
  map-front zero rs = refl
  map-front (suc i) [] = refl
  map-front (suc i) (r ∷ rs) = map-behind r (to_front_lem i rs) ∙ ap (behind_first (f r)) (map-front i rs)

  map-keep : (g : List (List ℕ) → List (List ℕ)) → ((ss : List (List ℕ)) → map f (g ss) ≡ g (map f ss))
      → (rs : List (List ℕ)) → map f (keep_first g rs) ≡ keep_first g (map f rs)
  map-keep g h [] = refl
  map-keep g h (r ∷ rs) = ap (λ (l : List (List ℕ)). f r ∷ l) (h rs)

  pub map-order : (order : List ℕ) (rs : List (List ℕ)) → map f (in_order_lem order rs) ≡ in_order_lem order (map f rs)
  unfolding in_order_lem
  map-order [] rs = refl
  map-order (i ∷ order) rs = map-keep (in_order_lem order) (map-order order) (to_front_lem i rs) ∙ ap (keep_first (in_order_lem order)) (map-front i rs)
