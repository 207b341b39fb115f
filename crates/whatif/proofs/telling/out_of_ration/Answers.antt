-- The ranges of the ration. Assumes nothing.
use lib.Ieee.{of_bits, round}
use Rattle.whatif.proofs.telling.out_of_ration.Goals as goal

pub returns : goal.returns
unfolding of_bits round
returns c = let ym = c in
    let head = ym in
    let days = head in
    rw (
      c.place_unless.ensures,
      ym.place_unless-ym.ensures,
      head.place_unless-head.ensures,
      days.place_unless-days.ensures,
      c.in_range-3.ensures,
      ym.in_range-2.ensures,
      head.in_range.ensures,
    )
