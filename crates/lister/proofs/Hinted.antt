-- What begins as a typed text does, a sheet too, is refused by 1 at its first record: so is every input that is hinted to be one.
-- Assumes nothing.
use Prim.Native.Nat.{ℕ, ◌≤◌, ◌<◌}
use mathlib.Core.Path.{◌≡◌}
use mathlib.Core.List.{List, [], ◌∷◌}
use mathlib.Core.Bool.{true, false}
use mathlib.Core.Logic.{⊎_elim}
use native.Mathlib.Omega.{arith}
use borrow.Author.Tests.{lt-ltb, le-ltb, lt-leb, ne_eqb}
use Rattle.base.proofs.Tests.{lt-or-ge, no_bool}
use Rattle.codec.specs.Codec.{val_at}
use Rattle.account.specs.Account.{no_record, refused}
use Rattle.book.specs.Front.{bad_length, front}
use Rattle.book.specs.State.{no_record_yet}
use Rattle.book.specs.Run.{run}
use Rattle.book.proofs.Fronts.{is-bad}
use Rattle.book.proofs.Runs.{book-bad}
use Rattle.names.specs.Hints.{is_typed, begins_typed}

-- a typed text's first byte is 9 at least
typed-least : (b : ℕ) → is_typed b ≡ true → 9 ≤ b
typed-least b e = ⊎_elim (λ (h : b < 9). no_bool (rw (none h) at e)) (λ (h : 9 ≤ b). h) (lt-or-ge b 9)
  where
    none : b < 9 → is_typed b ≡ false
    none h =
        rw (
          ne_eqb b 9 (λ z. omega arith),
          ne_eqb b 10 (λ z. omega arith),
          ne_eqb b 13 (λ z. omega arith),
          lt-leb 32 b (omega arith),
          ne_eqb b 239 (λ z. omega arith),
        )

-- so that its first two bytes are above every length
bad-front : (xs : List ℕ) → begins_typed xs ≡ true → front xs ≡ bad_length
unfolding val_at
bad-front [] e = no_bool e
bad-front (b ∷ []) e = no_bool e
bad-front (b ∷ c ∷ xs) e =
    let h = typed-least b e in
    is-bad (b ∷ c ∷ xs) (omega arith, rw (le-ltb (val_at (b ∷ c ∷ xs) 0 2) 4 (omega arith), lt-ltb 26 (val_at (b ∷ c ∷ xs) 0 2) (omega arith)))

pub typed-refused : (xs : List ℕ) → begins_typed xs ≡ true → (run no_record_yet xs).state.account ≡ refused no_record 1 0
unfolding run
typed-refused xs e = rw (book-bad no_record xs (omega arith) (bad-front xs e))
