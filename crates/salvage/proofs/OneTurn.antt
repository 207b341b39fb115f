-- One turn: what is found in some bytes, by the record at their front.
-- Assumes nothing.
use Prim.Native.Nat.{ℕ, ◌+◌, ◌≤◌, ◌<◌}
use mathlib.Core.Path.{◌≡◌, refl, sym, ap, ◌∙◌}
use mathlib.Core.List.{List, [], ◌∷◌}
use mathlib.Core.Bool.{Bool, true, false, ◌&&◌, ◌||◌, not}
use mathlib.Core.Logic.{⊎_elim}
use native.Mathlib.Omega.{arith}
use Rattle.std.specs.Prelude.{Option, Some, None, is_some}
use borrow.Author.Tests.{eqb-true, eqb-false, ne_eqb}
use lib.ListN.{drop}
use lib.Dec.{leb, eqb}
use Rattle.base.specs.Choice.{pick}
use Rattle.base.proofs.Tests.{by-test, no_bool, not-true, not-false, or_l, lt-or-ge}
use Rattle.account.specs.declared.Account.{Account}
use Rattle.account.specs.Judge.{kind_byte, first, judge}
use Rattle.book.specs.Front.{Front, unfinished, bad_length, whole, need, front}
use Rattle.book.specs.Inner.{front_number}
use Rattle.walk.specs.Walk.{record_at}
use Rattle.book.specs.WholeRecords.{records_of}
use Rattle.book.proofs.Fronts.{meaning}
use Rattle.book.proofs.WholeRecords.{records-whole}
use Rattle.walk.proofs.Walks.{records-none}
use Rattle.salvage.specs.declared.Reading.{Reading}
use Rattle.salvage.specs.declared.turns.Seen.{Seen}
use Rattle.salvage.specs.declared.turns.Turn.{Turn}
use Rattle.salvage.specs.Salvage.{Found, nothing, with, drops, dropped_by, ends, reading_after, found, found_in}
use Rattle.salvage.specs.HowFar.{goes_on_lem, reached, reached_in}
use Rattle.salvage.specs.Inner.{Open, as_told, by_told, Sees, Turned}
use Rattle.salvage.proofs.Fates.{code_is, open_after, records-after}

-- ---- the number and the reading behind a record, as they are computed

pub code-told : (s : Reading) (r : List ℕ) (code : Option ℕ) (kind : ℕ) → kind ≡ kind_byte r → (b : Account) → Open s → b ≡ (judge s.account r).account
    → code ≡ as_told (first (drops b.refusal.code kind s.lost)) → code ≡ as_told (dropped_by s r)
unfolding dropped_by
code-told s r code kind k b o t e = e ∙ rw (t, code_is s.account r o.range o.early, k)

-- what the code has of such a number tells as much
module _ (o : Option ℕ) (c : ℕ) (e : o ≡ as_told c) where
  pub some-is : is_some o ≡ not (eqb c 0)
  some-is = rw e (go (eqb c 0))
    where
      go : (b : Bool) → is_some (pick b None (Some c)) ≡ not b
      go true = refl
      go false = refl

  pub none-is : not (is_some o) ≡ eqb c 0
  none-is = ap not some-is ∙ twice (eqb c 0)
    where
      twice : (b : Bool) → not (not b) ≡ b
      twice true = refl
      twice false = refl

  pub by-is : {A : Type 0} (x y : A) → by_told o x y ≡ pick (eqb c 0) x y
  by-is {A} x y = rw e (go (eqb c 0))
    where
      go : (b : Bool) → by_told (pick b None (Some c)) x y ≡ pick b x y
      go true = refl
      go false = refl

-- std's test for none, the other way round
pub turned-round : (b d : Bool) → b ≡ not d → d ≡ not b
turned-round b true e = rw e
turned-round b false e = rw e

-- ---- the fold, by what its first record does

pub found-ends : (s : Reading) (r : List ℕ) (rs : List (List ℕ)) → ends s r ≡ true → found s (r ∷ rs) ≡ nothing
unfolding found
found-ends s r rs e = rw e

pub found-goes : (s : Reading) (r : List ℕ) (rs : List (List ℕ)) → ends s r ≡ false
    → found s (r ∷ rs) ≡ with (dropped_by s r) s.number r (found (reading_after s r) rs)
unfolding found
found-goes s r rs e = rw e

-- what holds where the reading ends, goes on behind a kept record and goes on behind a dropped one holds of all that is found
pub by-records : (P : Reading → List (List ℕ) → Found → Type 0) → ((s : Reading) (rs : List (List ℕ)) → P s rs nothing)
    → ((s : Reading) (r : List ℕ) (rs : List (List ℕ)) (f : Found) → ends s r ≡ false → dropped_by s r ≡ 0 → P (reading_after s r) rs f
    → P s (r ∷ rs) (record { kept = r ∷ f.kept; dropped = f.dropped }))
    → ((s : Reading) (r : List ℕ) (rs : List (List ℕ)) (f : Found) → ends s r ≡ false → (dropped_by s r ≡ 0 → ⊥) → P (reading_after s r) rs f
    → P s (r ∷ rs) (record { kept = f.kept; dropped = record { number = s.number; code = dropped_by s r } ∷ f.dropped }))
    → (s : Reading) (rs : List (List ℕ)) → P s rs (found s rs)
unfolding found
by-records P ended kept dropped s [] = ended s []
by-records P ended kept dropped s (r ∷ rs) = go (ends s r) refl (by-records P ended kept dropped (reading_after s r) rs)
  where
    f : Found
    f = found (reading_after s r) rs

    behind : ends s r ≡ false → (b : Bool) → eqb (dropped_by s r) 0 ≡ b → P (reading_after s r) rs f
        → P s (r ∷ rs) (record {
          kept = pick b (r ∷ f.kept) f.kept;
          dropped = pick b f.dropped (record { number = s.number; code = dropped_by s r } ∷ f.dropped);
        })
    behind e true d ih = kept s r rs f e (eqb-true _ _ d) ih
    behind e false d ih = dropped s r rs f e (eqb-false _ _ d) ih

    go : (b : Bool) → ends s r ≡ b → P (reading_after s r) rs f → P s (r ∷ rs) (pick b nothing (with (dropped_by s r) s.number r f))
    go true e ih = ended s (r ∷ rs)
    go false e ih = behind e (eqb (dropped_by s r) 0) refl ih

-- ---- the same over bytes

-- a front is one of the three
clash : (f : Front) → (front_number f ≡ 2 → ⊥) → f ≡ whole → ⊥
clash f n e = n (ap front_number e)

pub none_found : (s : Reading) (xs : List ℕ) → (front xs ≡ whole → ⊥) → found_in s xs ≡ nothing
unfolding found
none_found s xs n = rw (records-none xs n)

module _ (s : Reading) (xs : List ℕ) where
  -- the reading goes on where a whole record stands that does not end it
  pub goes-whole : goes_on_lem (front xs) s xs ≡ true → (front xs ≡ whole) × (ends s (record_at xs) ≡ false)
  goes-whole = go (front xs) refl
    where
      go : (f : Front) → front xs ≡ f → goes_on_lem f s xs ≡ true → (front xs ≡ whole) × (ends s (record_at xs) ≡ false)
      go unfinished e h = no_bool h
      go bad_length e h = no_bool h
      go whole e h = (e, not-true (ends s (record_at xs)) h)

  pub whole-goes : front xs ≡ whole → ends s (record_at xs) ≡ false → goes_on_lem (front xs) s xs ≡ true
  whole-goes e h = rw (e, h)

  pub whole-stops : front xs ≡ whole → ends s (record_at xs) ≡ true → goes_on_lem (front xs) s xs ≡ false
  whole-stops e h = rw (e, h)

  pub none-stops : (front xs ≡ whole → ⊥) → goes_on_lem (front xs) s xs ≡ false
  none-stops n = by-test (goes_on_lem (front xs) s xs) (λ t. absurd (n (goes-whole t).0)) (λ t. t)

  -- where it does not go on, what holds of no record and of one that ends it holds of the records
  pub stops-by : (P : List (List ℕ) → Type 0) → P [] → ((r : List ℕ) (rs : List (List ℕ)) → ends s r ≡ true → P (r ∷ rs))
      → goes_on_lem (front xs) s xs ≡ false → P (records_of xs)
  stops-by P none some = go (front xs) refl
    where
      go : (f : Front) → front xs ≡ f → goes_on_lem f s xs ≡ false → P (records_of xs)
      go unfinished e h = rw (records-none xs (λ w. clash unfinished (λ z. absurd (omega arith)) (sym e ∙ w))) none
      go bad_length e h = rw (records-none xs (λ w. clash bad_length (λ z. absurd (omega arith)) (sym e ∙ w))) none
      go whole e h = rw (records-whole xs e) (some (record_at xs) (records_of (drop (need xs) xs)) (not-false (ends s (record_at xs)) h))

  module _ (h : goes_on_lem (front xs) s xs ≡ false) where
    pub stops-found : found_in s xs ≡ nothing
    unfolding found
    stops-found = stops-by (λ (rs : List (List ℕ)). found s rs ≡ nothing) refl (found-ends s) h

    pub stops-reached : reached_in s xs ≡ s
    unfolding reached
    stops-reached = stops-by (λ (rs : List (List ℕ)). reached s rs ≡ s) refl (λ r rs e. rw e) h

  module _ (h : goes_on_lem (front xs) s xs ≡ true) where
    pub goes-found : found_in s xs
        ≡ with (dropped_by s (record_at xs)) s.number (record_at xs) (found_in (reading_after s (record_at xs)) (drop (need xs) xs))
    goes-found = let w = goes-whole h in rw (records-whole xs w.0) (found-goes s (record_at xs) (records_of (drop (need xs) xs)) w.1)

    pub goes-reached : reached_in s xs ≡ reached_in (reading_after s (record_at xs)) (drop (need xs) xs)
    unfolding reached
    goes-reached = let w = goes-whole h in rw (records-whole xs w.0) (rw w.1)

-- ---- one turn

-- the end of the reading, with no bytes
abbrev pub ended : Reading → Turn
ended s = record { n = 0; code = None; next = s }

turned-ended : (s : Reading) (xs : List ℕ) → Open s → goes_on_lem (front xs) s xs ≡ false → Turned s xs (ended s)
turned-ended s xs o e =
    record {
      stops = λ z. e;
      on = λ h. absurd (omega arith);
      size = λ h. absurd (omega arith);
      code_is = λ h. absurd (omega arith);
      next-is = λ h. absurd (omega arith);
      inside = omega arith;
      most = omega arith;
      ended = λ z. stops-found s xs e;
      first_of = λ h. absurd (omega arith);
      goes = λ h. absurd (omega arith);
      opened = o;
      number = λ h. absurd (omega arith);
      records = λ h. absurd (omega arith);
    }

-- v is the record at the front of xs
module _ (s : Reading) (xs : List ℕ) (v : Seen) (o : Open s) (y : Sees s xs v) where
  -- it lies whole there
  seen : 0 < v.size → (front xs ≡ whole) × (v.size ≡ need xs)
  seen h = y.ready.some h

  -- whether it ends the reading
  ends_is : 0 < v.size → ends s (record_at xs) ≡ leb 4095 s.account.records || (eqb v.kind 8 && not (is_some v.code))
  ends_is h = rw (none-is v.code _ (y.code h), y.kind h, (seen h).1)

  -- there is no record, 4,095 are kept, or it is a close that nothing drops
  pub ends-here : (eqb v.size 0 || leb 4095 s.account.records) || (eqb v.kind 8 && not (is_some v.code)) ≡ true → Turned s xs (ended s)
  ends-here e =
      ⊎_elim
      (λ (h : 0 < v.size).
      let z : leb 4095 s.account.records || (eqb v.kind 8 && not (is_some v.code)) ≡ true = rw (ne_eqb v.size 0 (λ z. omega arith)) at e in
      turned-ended s xs o (whole-stops s xs (seen h).0 (ends_is h ∙ z)))
      (λ (h : v.size ≤ 0). turned-ended s xs o (none-stops s xs (y.ready.none (omega arith))))
      (lt-or-ge 0 v.size)

  module _ (e : (eqb v.size 0 || leb 4095 s.account.records) || (eqb v.kind 8 && not (is_some v.code)) ≡ false) where
    some : 0 < v.size
    some =
        let a = eqb v.size 0 in
        let b = leb 4095 s.account.records in
        let z = eqb-false v.size 0 (or_l a b (or_l (a || b) (eqb v.kind 8 && not (is_some v.code)) e)) in
        omega (arith, z)

    goes-here : ends s (record_at xs) ≡ false
    goes-here = ends_is some ∙ (rw (ne_eqb v.size 0 (λ z. omega (arith, some))) at e)

    -- the reading behind it, field by field
    pub next-so : (a : Account) (lost : Bool) (heading : ℕ) → a ≡ by_told v.code v.account s.account
        → lost ≡ pick (eqb v.kind 2) (is_some v.code) s.lost → heading ≡ pick (eqb v.kind 2) s.number s.heading
        → ◌≡◌ {A = Reading} (record { account = a; lost = lost; heading = heading; number = s.number + 1 }) (reading_after s (record_at xs))
    next-so a lost heading p q r =
        let w = (seen some).1 in
        let k = y.code some in
        let m = p ∙ by-is v.code _ k v.account s.account in
        let l = q ∙ ap (λ (b : Bool). pick (eqb v.kind 2) b s.lost) (some-is v.code _ k) in
        rw (m, l, r, y.account some, y.kind some, w)

    -- it goes on behind the record
    pub goes_on : (t : Turn) → t.n ≡ v.size → t.code ≡ v.code → t.next ≡ reading_after s (record_at xs) → Turned s xs t
    goes_on t is-n is_code is-next =
        let w = seen some in
        let m = meaning xs whole w.0 in
        let n : t.n ≡ need xs = is-n ∙ w.1 in
        let c : t.code ≡ as_told (dropped_by s (record_at xs)) = is_code ∙ rw w.1 at (y.code some) in
        record {
          stops = λ z. absurd (omega (arith, z, is-n, some));
          on = λ h. whole-goes s xs w.0 goes-here;
          size = λ h. n;
          code_is = λ h. c;
          next-is = λ h. is-next;
          inside = omega (arith, n, m.3);
          most = omega (arith, n, m.2);
          ended = λ z. absurd (omega (arith, z, is-n, some));
          first_of = λ z. rw n (records-whole xs w.0);
          goes = λ z. rw (n, is-next) (goes-found s xs (whole-goes s xs w.0 goes-here));
          opened = rw is-next (open_after s (record_at xs) goes-here o);
          number = λ z. rw is-next refl;
          records = λ z. rw is-next (records-after s (record_at xs) goes-here);
        }
