-- An input of which nothing is read yet. The turns are u64's last number, which no run uses up.
-- Assumes nothing.
use Rattle.std.specs.Prelude.{true}
use Rattle.program.specs.declared.Reading.{Reading}

abbrev pub unread : Reading
unread = record { len = 0; good = true; turns = 18446744073709551615 }
