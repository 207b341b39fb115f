-- By the form. Assumes nothing.
use native.Mathlib.Omega.{arith}
use Rattle.printing.proofs.Puts.{none, and-then, put-length}
use Rattle.line_rows.specs.Rows.{header}
use Rattle.line_rows.proofs.put_header.Goals as goal

pub put_text-figures-requires : goal.put_text-figures-requires
unfolding header
put_text-figures-requires c = let room = rw c.in-Sheet.is at c.requires in omega (arith, room)

pub put_text-end-requires : goal.put_text-end-requires
unfolding header
put_text-end-requires c =
    let room = rw c.in-Sheet.is at c.requires in
    omega (arith, room, c.put_text-figures.ensures.next, put-length c.put_text-figures.ensures)

pub put_text-requires : goal.put_text-requires
unfolding header
put_text-requires c =
    let room = rw c.in-Sheet.is at c.requires in
    omega (
      arith,
      room,
      c.put_text-figures.ensures.next,
      put-length c.put_text-figures.ensures,
      c.put_text-end.ensures.next,
      put-length c.put_text-end.ensures,
    )

pub returns-in-Listing : goal.returns-in-Listing
unfolding header
returns-in-Listing c = rw c.in-Listing.is (none _ _ (omega (arith, c.requires)))

pub returns-in-Sheet : goal.returns-in-Sheet
unfolding header
returns-in-Sheet c = rw c.in-Sheet.is (and-then c.put_text-figures.ensures (and-then c.put_text-end.ensures c.put_text.ensures))
