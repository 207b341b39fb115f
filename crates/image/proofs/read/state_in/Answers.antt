-- `image::read::state_in` meets its contract: the account, the held bytes and their count.
-- Assumes nothing.
use mathlib.Core.Path.{refl}
use mathlib.Core.Logic.{inl}
use native.Mathlib.Omega.{arith}
use Rattle.image.specs.Image.{state_in}
use Rattle.image.proofs.read.state_in.Goals as goal

pub numbers_in-requires : goal.numbers_in-requires
unfolding state_in
numbers_in-requires c = c.requires

pub account_of-account-requires : goal.account_of-account-requires
unfolding state_in
account_of-account-requires c = tt

pub held_in-held-requires : goal.held_in-held-requires
unfolding state_in
held_in-held-requires c = c.requires

pub number-count-requires : goal.number-count-requires
unfolding state_in
number-count-requires c = (omega (arith, c.requires), inl refl)

pub returns : goal.returns
unfolding state_in
returns c = rw (c.number-count.ensures, c.held_in-held.ensures, c.account_of-account.ensures, c.numbers_in.ensures) refl
