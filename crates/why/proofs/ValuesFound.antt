-- The values of a record, and what is compared of them, as the code finds them.
-- Assumes nothing.
use Prim.Native.Nat.{ℕ, ◌+◌, ◌-◌, ◌≤◌, ◌<◌}
use mathlib.Core.Path.{◌≡◌, refl, sym, ◌∙◌}
use mathlib.Core.List.{List}
use mathlib.Core.Bool.{true, false}
use mathlib.Core.Logic.{inl, inr, ⊎_elim}
use native.Mathlib.Omega.{arith}
use Rattle.std.specs.Prelude.{Option}
use borrow.Author.Tests.{eq-eqb, ne_eqb, lt-ltb, le-ltb}
use lib.ListN.{length, get_or, take, get_or-eq_default}
use lib.Seq.{length-take-le}
use Rattle.base.proofs.Tests.{lt-or-ge}
use Rattle.codec.specs.Table.{table, fields, length_of, last_kind}
use Rattle.codec.specs.Codec.{val_at}
use Rattle.codec.proofs.BigEndian.{one_byte}
use Rattle.codec.proofs.Within.{ranges}
use Rattle.account.specs.declared.Account.{Account}
use Rattle.account.specs.Judge.{version_of, kind_byte, record_row, values_of}
use Rattle.account.specs.Compared.{no_numbers, numbers, outside, bad_field, range_of, value_at, days_with, values_compared, compared}
use Rattle.book.specs.Front.{unfinished, bad_length, whole, front, bad}
use Rattle.book.proofs.Fronts.{length-take-two}
use Rattle.why.specs.declared.Reason.{Reason}
use Rattle.why.specs.declared.Numbers.{Numbers}
use Rattle.why.specs.Why.{told, reason}
use Rattle.why.specs.declared.Verdict.TheVariants.{Missing, NextLength, Refused}
use Rattle.why.specs.Inner.{Parted, parts_told, version_told, unread}

-- ---- shares and parts

module _ {k : ℕ} (v : List ℕ) where
  pub shares-small : k ≡ 4 → bad_field k v ≡ 0 → (get_or v 6 0 ≤ 10000) × (get_or v 7 0 ≤ 10000) × (get_or v 8 0 ≤ 10000)
  unfolding table
  shares-small e b =
      let w = ranges v (fields 4) 0 (rw e at b) in ((w 6 (omega arith)).below, (w 7 (omega arith)).below, (w 8 (omega arith)).below)

  pub parts-small : k ≡ 5 → bad_field k v ≡ 0 → (get_or v 8 0 ≤ 1000) × (get_or v 10 0 ≤ 1000)
  unfolding table
  parts-small e b = let w = ranges v (fields 5) 0 (rw e at b) in ((w 8 (omega arith)).below, (w 10 (omega arith)).below)

  pub fraction-small : k ≡ 10 → bad_field k v ≡ 0 → get_or v 3 0 ≤ 10000
  unfolding table
  fraction-small e b = (ranges v (fields 10) 0 (rw e at b) 3 (omega arith)).below

-- the last of the three kinds
pub last-part : {k : ℕ} → Parted k → (k ≡ 4 → ⊥) → (k ≡ 5 → ⊥) → k ≡ 10
last-part (inl e) m n = absurd (m e)
last-part (inr (inl e)) m n = absurd (n e)
last-part (inr (inr e)) m n = e

-- ---- what is compared of the values, by the number

module _ (a : Account) (k : ℕ) (v : List ℕ) {c : ℕ} {n : Option Numbers} where
  pub by-seven : {p : ℕ} → c ≡ 7 → p ≡ bad_field k v → n ≡ told (outside (range_of k p).1 (range_of k p).2 (value_at v p))
      → n ≡ told (values_compared c a k v)
  unfolding values_compared
  by-seven e p t = t ∙ rw (e, p) refl

  pub by-eight : {x : ℕ} → c ≡ 8 → x ≡ get_or v 0 0 → n ≡ told (numbers x a.heading.group) → n ≡ told (values_compared c a k v)
  unfolding values_compared
  by-eight e p t = t ∙ rw (e, p) refl

  pub by-nine : {x y : ℕ} → c ≡ 9 → x ≡ get_or v 0 0 → y ≡ days_with a.used k x → n ≡ told (numbers y 366) → n ≡ told (values_compared c a k v)
  unfolding values_compared
  by-nine e p q t = t ∙ rw (e, q, p) refl

  pub by_ten : c ≡ 10 → n ≡ parts_told a.used.grazed k v → n ≡ told (values_compared c a k v)
  unfolding values_compared
  by_ten e t = t ∙ rw e refl

  pub by-twelve : {x : ℕ} → c ≡ 12 → x ≡ get_or v 0 0 → n ≡ told (numbers x a.records) → n ≡ told (values_compared c a k v)
  unfolding values_compared
  by-twelve e p t = t ∙ rw (e, p) refl

  pub by-other : (c ≡ 7 → ⊥) → (c ≡ 8 → ⊥) → (c ≡ 9 → ⊥) → (c ≡ 10 → ⊥) → (c ≡ 12 → ⊥) → n ≡ told no_numbers → n ≡ told (values_compared c a k v)
  unfolding values_compared
  by-other h7 h8 h9 h10 h12 t = t ∙ rw (ne_eqb c 7 h7, ne_eqb c 8 h8, ne_eqb c 9 h9, ne_eqb c 10 h10, ne_eqb c 12 h12) refl

-- ---- and of the record

module _ (r : List ℕ) {x : ℕ} (p : x ≡ val_at r 2 1) {n : Option Numbers} where
  pub farm-version : kind_byte r ≡ 1 → n ≡ told (outside 1 2 x) → n ≡ version_told r
  farm-version k t = t ∙ rw (p, sym (one_byte r 2 (version_of r) refl), eq-eqb _ _ k) refl

  pub other-version : (kind_byte r ≡ 1 → ⊥) → n ≡ told (numbers x 1) → n ≡ version_told r
  other-version k t = t ∙ rw (p, sym (one_byte r 2 (version_of r) refl), ne_eqb _ _ k) refl

module _ (a : Account) (r : List ℕ) {c : ℕ} {n : Option Numbers} where
  pub by_two : c ≡ 2 → n ≡ version_told r → n ≡ told (compared c a r)
  unfolding compared
  by_two e t = t ∙ rw e refl

  pub by_three : {x : ℕ} → c ≡ 3 → x ≡ val_at r 3 1 → n ≡ told (outside 1 last_kind x) → n ≡ told (compared c a r)
  unfolding compared
  by_three e p t = t ∙ rw (e, p, sym (one_byte r 3 (kind_byte r) refl)) refl

  pub by-four : {x y : ℕ} → c ≡ 4 → x ≡ val_at r 0 2 → y ≡ length_of (record_row r) → n ≡ told (numbers x y) → n ≡ told (compared c a r)
  unfolding compared
  by-four e p q t = t ∙ rw (e, p, q) refl

  pub by_values : 5 ≤ c → n ≡ told (values_compared c a (record_row r) (values_of r)) → n ≡ told (compared c a r)
  unfolding compared
  by_values h t =
      t ∙ rw (ne_eqb c 1 (λ z. omega arith), ne_eqb c 2 (λ z. omega arith), ne_eqb c 3 (λ z. omega arith), ne_eqb c 4 (λ z. omega arith)) refl

-- from 2 on, what is none of 2, 3 and 4 is 5 at least
pub past-four : {c : ℕ} → 2 ≤ c → (c ≡ 2 → ⊥) → (c ≡ 3 → ⊥) → (c ≡ 4 → ⊥) → 5 ≤ c
past-four h p q s = omega (arith, p, q, s)

-- ---- a length that no record has

pub broken-told : (a : Account) (at : ℕ) (rest : List ℕ) {x : ℕ} {n : Option Numbers} → 2 ≤ length rest → x ≡ val_at rest 0 2 → n ≡ told (outside 4 26 x)
    → ◌≡◌ {A = Reason} (record {
      code = 1;
      number = a.records;
      first = at;
      last = at + 1;
      field = 0;
      kind = 0;
      row = 0;
      group = a.heading.group;
      compares = n;
    })
    (reason 1 a.records 0 at a (take 2 rest))
unfolding compared
broken-told a at rest h p t =
    let l : at + length (take 2 rest) - 1 ≡ at + 1 = omega (arith, length-take-le 2 rest h) in
    let y : version_of (take 2 rest) ≡ 0 = get_or-eq_default (take 2 rest) 0 (omega (arith, length-take-le 2 rest h)) in
    let z : kind_byte (take 2 rest) ≡ 0 = get_or-eq_default (take 2 rest) 0 (omega (arith, length-take-le 2 rest h)) in
    rw (l, y, z, length-take-two rest 2 (omega arith), t, p) refl

-- ---- no whole record

module _ (rest : List ℕ) where
  pub front-short : length rest < 2 → front rest ≡ unfinished
  unfolding front
  front-short h = rw (lt-ltb _ _ h)

  pub front-bad : 2 ≤ length rest → bad rest ≡ true → front rest ≡ bad_length
  unfolding front
  front-bad h b = rw (le-ltb _ _ h, b)

  pub front-begun : 2 ≤ length rest → bad rest ≡ false → (front rest ≡ whole → ⊥) → (length rest < val_at rest 0 2 + 2) × (front rest ≡ unfinished)
  unfolding front
  front-begun h b n =
      ⊎_elim
      (λ (l : length rest < val_at rest 0 2 + 2). (l, rw (le-ltb _ _ h, b, lt-ltb _ _ l)))
      (λ (l : val_at rest 0 2 + 2 ≤ length rest). absurd (n (rw (le-ltb _ _ h, b, le-ltb _ _ l))))
      (lt-or-ge (length rest) (val_at rest 0 2 + 2))

  -- what is said then
  pub says-short : (a : Account) (at : ℕ) → length rest < 2 → NextLength ≡ unread (front rest) a at rest
  says-short a at h = rw (front-short h, lt-ltb _ _ h)

  pub says-bad : (a : Account) (at : ℕ) {w : Reason} → 2 ≤ length rest → bad rest ≡ true → w ≡ reason 1 a.records 0 at a (take 2 rest)
      → Refused w ≡ unread (front rest) a at rest
  says-bad a at h b e = rw (front-bad h b, e)

  pub says-missing : (a : Account) (at : ℕ) {n : ℕ} → 2 ≤ length rest → bad rest ≡ false → (front rest ≡ whole → ⊥) → n ≡ val_at rest 0 2
      → Missing (n + 2 - length rest) ≡ unread (front rest) a at rest
  says-missing a at h b n e = rw ((front-begun h b n).1, le-ltb _ _ h, e)
