-- `codec::numbers::be8` meets its contract.
-- Assumes nothing.
use Rattle.codec.proofs.BigEndian.{one_byte}
use borrow.Author.Rules.{rules}
use Rattle.codec.proofs.numbers.be8.Goals as goal

pub returns : goal.returns
returns c = search (rules, one_byte)
