-- Laws of the status.
use mathlib.Core.Path.{◌≡◌, refl}
use mathlib.Core.Bool.{Bool, true, false, ◌&&◌}
use lib.Dec.{eqb}
use Rattle.account.specs.declared.Account.{Account}
use Rattle.last_word.specs.Remarks.{status_byte}

-- the status, by its test
module _ (a : Account) (read written : Bool) where
  pub all_right : (eqb a.stage 2 && read) && written ≡ true → 48 ≡ status_byte a read written
  all_right e = rw e refl

  pub not_right : (eqb a.stage 2 && read) && written ≡ false → 49 ≡ status_byte a read written
  not_right e = rw e refl
