-- The running sums over the closed books, a column each, in words of 64 bits. What they stand for in whole numbers is said in specs/Whole.
-- Assumes nothing.
use Rattle.std.specs.Prelude.{ℕ, suc, ◌+◌, ◌-◌, ◌%◌, ◌^◌, Bool, false, ◌&&◌, List, [], ◌∷◌, replicate, ◌==◌, nat_le, nat_lt, slice_index}
use Rattle.base.specs.Choice.{pick, one_more_lem}
use Rattle.line_bytes.specs.Lines.{figure_count}
use Rattle.line_rows.specs.Rows.{is_signed}
use Rattle.table.specs.declared.Seen.{Seen}
use Rattle.table.specs.declared.sums.Sum.{Sum}
use Rattle.table.specs.declared.sums.Totals.{Totals}
use Rattle.table.specs.Seen.{is_closed}

-- a sum of no words
abbrev pub no_sum : Sum
no_sum = record { low = 0; ups = 0; downs = 0 }

-- one word more: the low word of the sum, how often it went over 64 bits, and how many words stood for numbers below zero
abbrev pub sum_with : Bool → Sum → ℕ → Sum
sum_with signed s w =
    record {
      low = (s.low + w) % 2 ^ 64;
      ups = pick (nat_lt ((s.low + w) % 2 ^ 64) w) (one_more_lem s.ups) s.ups;
      downs = pick (signed && nat_le (2 ^ 63) w) (one_more_lem s.downs) s.downs;
    }

-- each column's sum, from column k on, with its number of vs
unfoldable pub sums_with : ℕ → List Sum → List ℕ → List Sum
sums_with k [] vs = []
sums_with k (s ∷ ss) vs = sum_with (is_signed k) s (slice_index vs k) ∷ sums_with (suc k) ss vs

-- over no books
abbrev pub no_totals : Totals
no_totals = record { closed = 0; sums = replicate (3 + figure_count) no_sum }

-- one book more: a closed one counts
unfoldable pub totals_with : Totals → Seen → Totals
totals_with t s = pick (is_closed s) (record { closed = one_more_lem t.closed; sums = sums_with 0 t.sums s.numbers }) t

-- the sum fits eight bytes: a word of grams, or the word of signed grams in two's complement
abbrev pub fits : Bool → Sum → Bool
fits signed s =
    pick signed
    (pick (nat_lt s.low (2 ^ 63)) (s.ups == s.downs) (pick (nat_lt s.ups s.downs) (s.downs - s.ups == 1) false))
    (s.ups == 0)
