-- What the accepted records of a book make, one after the other: each is taken with the account that stands before it.
-- Assumes nothing.
use Rattle.std.specs.Prelude.{ℕ, List, [], ◌∷◌}
use Rattle.base.specs.Choice.{pick}
use Rattle.account.specs.declared.Account.{Account}
use Rattle.account.specs.Account.{no_record}
use Rattle.account.specs.Judge.{judge}
use Rattle.book.specs.WholeRecords.{records_of}
use Rattle.walk.specs.Walk.{accepts}

-- the records rs after the account a, up to one that is not accepted, each of which makes another b
unfoldable pub over : {B : Type 0} → (B → Account → List ℕ → B) → B → Account → List (List ℕ) → B
over f b a [] = b
over f b a (r ∷ rs) = pick (accepts a r) (over f (f b a r) (judge a r).account rs) b

-- those of the bytes xs after the account a
abbrev pub over_bytes : {B : Type 0} → (B → Account → List ℕ → B) → B → Account → List ℕ → B
over_bytes f b a xs = over f b a (records_of xs)

-- those of a book
abbrev pub over_book : {B : Type 0} → (B → Account → List ℕ → B) → B → List ℕ → B
over_book f b xs = over_bytes f b no_record xs
