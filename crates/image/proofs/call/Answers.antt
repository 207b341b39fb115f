-- `image::call` meets its contract: 13 where the image is none, else what feed gives, and the image of its state.
-- Assumes nothing.
use borrow.Author.Rules.{rules}
use Rattle.codec.specs.Table.{size}
use Rattle.account.specs.Account.{account_fields}
use Rattle.image.proofs.Calls.{meets-length, meets-outside, meets-inside}
use Rattle.image.proofs.call.Goals as goal

pub returns-then-size-ne-SIZE : goal.returns-then-size-ne-SIZE
unfolding size account_fields
returns-then-size-ne-SIZE c =
    let m = meets-length _ _ _ c.if-size-ne-SIZE.true c.no_image.ensures in
    record { result = m.0; image = m.1.0; lines = m.1.1.0; counts = m.1.1.1 }

pub state_in-state-requires : goal.state_in-state-requires
unfolding size account_fields
state_in-state-requires c = c.if-size-ne-SIZE.false

pub returns-then-code-eq13 : goal.returns-then-code-eq13
unfolding size account_fields
returns-then-code-eq13 c =
    let a = c.args in
    let e = c.feed-fed.ensures in
    let m =
    meets-outside a.image.now a.part.now a.lines.now _ c.if-size-ne-SIZE.false c.state_in-state.ensures e.result e.lines c.code_of-code.ensures.0
    c.if-code-eq13.true c.no_image-then-code-eq13.ensures in
    record { result = m.0; image = m.1.0; lines = m.1.1.0; counts = m.1.1.1 }

pub put_state-requires : goal.put_state-requires
unfolding size account_fields
put_state-requires c = search rules

pub returns : goal.returns
unfolding size account_fields
returns c =
    let a = c.args in
    let e = c.feed-fed.ensures in
    let m =
    meets-inside a.image.now a.part.now a.lines.now _ c.if-size-ne-SIZE.false c.state_in-state.ensures e.result e.lines c.code_of-code.ensures.0
    c.if-code-eq13.false c.put_state.ensures e.counts in
    record { result = m.0; image = m.1.0; lines = m.1.1.0; counts = m.1.1.1 }
