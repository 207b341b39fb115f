-- Document 02, W1: "7 also for a value too big for its bytes". No range of the table goes past what its field's bytes can hold, so that a
-- value too big for its bytes is out of its range, and 7 gives the position of the first value that is.
-- Assumes nothing.
use Prim.Native.Nat.{ℕ, zero, suc, ◌≤◌, ◌<◌}
use mathlib.Core.Path.{◌≡◌, refl, sym, ap}
use mathlib.Core.List.{List, [], ◌∷◌}
use mathlib.Core.Bool.{Bool, true, ◌&&◌}
use native.Mathlib.Omega.{arith}
use native.Mathlib.Nat.{zero-add}
use borrow.Author.Tests.{ltb-true, lt-leb, ne_eqb}
use lib.Dec.{ltb}
use lib.ListN.{length, get_or}
use Rattle.base.proofs.Tests.{and_l, and_r}
use Rattle.codec.specs.declared.Field.{Field}
use Rattle.codec.specs.Table.{table, fields}
use Rattle.codec.specs.Codec.{bytes_hold, first_bad}
use Rattle.codec.proofs.Within.{none, Good, too-high}
use Rattle.account.specs.Account.{refused}
use Rattle.account.specs.Judge.{first, in_place_lem, weigh}
use Rattle.book.specs.declared.State.{State}
use Rattle.std.specs.Prelude.{Err}
use Rattle.make_record.specs.Write.{row_for, write, Ready, OfKind}
use Rattle.make_record.proofs.Answers.{by-reader}

-- ---- the table, field by field: antt computes the test

holds : Field → Bool
holds f = ltb f.2 (bytes_hold f.0)

row-holds : List Field → Bool
row-holds [] = true
row-holds (f ∷ fs) = holds f && row-holds fs

all_hold : List (List Field) → Bool
all_hold [] = true
all_hold (r ∷ t) = row-holds r && all_hold t

checked : all_hold table ≡ true
unfolding all_hold row-holds holds table bytes_hold
checked = refl

row_at : (t : List (List Field)) → all_hold t ≡ true → (k : ℕ) → row-holds (get_or t k []) ≡ true
unfolding all_hold row-holds
row_at [] e k = refl
row_at (r ∷ t) e zero = and_l (row-holds r) (all_hold t) e
row_at (r ∷ t) e (suc k) = row_at t (and_r (row-holds r) (all_hold t) e) k

field_at : (fs : List Field) → row-holds fs ≡ true → (j : ℕ) → j < length fs → (get_or fs j none).2 < bytes_hold (get_or fs j none).0
unfolding row-holds holds
field_at [] e j h = absurd (omega arith)
field_at (f ∷ fs) e zero h = ltb-true _ _ (and_l (holds f) (row-holds fs) e)
field_at (f ∷ fs) e (suc j) h = field_at fs (and_r (holds f) (row-holds fs) e) j (omega arith)

-- The highest value of a field fits its bytes.
pub highest-fits : (k j : ℕ) → j < length (fields k) → (get_or (fields k) j none).2 < bytes_hold (get_or (fields k) j none).0
highest-fits k j h = field_at (fields k) (row_at table checked k) j h

-- ---- a value of the row k too big for its bytes, the values before it being in their ranges

module _ (k : ℕ) (v : List ℕ) (j : ℕ) (h : j < length (fields k)) (before : Good j (fields k) v 0)
    (big : bytes_hold (get_or (fields k) j none).0 ≤ get_or v j 0) where
  -- It is the first out of its range, at its position, counted from 1.
  pub too-big : first_bad (fields k) v 0 ≡ suc j
  too-big = sym (rw zero-add at (too-high j (fields k) v 0 before h (rw zero-add (omega (arith, highest-fits k j h, big)))))

  -- Where neither 5 nor 6 comes first, the writer refuses values of its kind by 7, with its position, whatever the buffer's size.
  pub too-big-is-seven : (kind : ℕ) → k ≡ row_for kind (length v) → (s : State) (n : ℕ) → Ready s → OfKind kind k v → s.account.records < 4096
      → in_place_lem s.account k ≡ true → (write s kind v n).answer ≡ Err (record { code = 7; accepted = s.account.records; field = suc j })
  unfolding weigh first
  too-big-is-seven kind row s n y o r p =
      let q : suc j ≡ 0 → ⊥ = λ e. omega arith in
      let e : weigh s.account k v ≡ record { account = refused s.account 7 (suc j); lines = [] } =
      rw (lt-leb _ _ r, p, too-big, ne_eqb _ _ q) in
      rw (← row, by-reader s kind k v n y o _ (sym (ap (λ a. a.account) e)) refl)
