-- Document 01, "Refusal numbers": a whole record that 2, 3 and 4 let through.
-- Assumes nothing.
use Rattle.std.specs.Prelude.{ℕ, ◌+◌, ◌≡◌, List, true, length}
use Rattle.codec.specs.Table.{length_of, is_kind}
use Rattle.account.specs.Judge.{WholeRecord, version_of, record_row}

-- r is a whole record of version 1, of one of the kinds, and as long as its kind
pub record Right (r : List ℕ) : Type 0 where
  pub whole : WholeRecord r
  pub version : version_of r ≡ 1
  pub kinds : is_kind (record_row r) ≡ true
  pub long : length r ≡ 2 + length_of (record_row r)
