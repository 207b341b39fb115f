-- The number is in reach of 64 bits where it can be shown. Assumes nothing.
use lib.Ieee.{of_bits, neg, round}
use Rattle.whatif.proofs.Showing.{above, below, is-grams, no-grams}
use Rattle.whatif.proofs.in_grams.Goals as goal

pub truncating_f64_to_u64-requires : goal.truncating_f64_to_u64-requires
unfolding of_bits neg round
truncating_f64_to_u64-requires c = let x = c.args.x in record { lower_bound = above x c.if-y.true; upper_bound = below x c.if-y.true }

pub returns-then-y : goal.returns-then-y
unfolding of_bits neg round
returns-then-y c = let whole = c.truncating_f64_to_u64 in
    is-grams c.args.x whole.result c.if-y.true whole.ensures

pub returns : goal.returns
unfolding of_bits neg round
returns c = no-grams c.args.x c.if-y.false
