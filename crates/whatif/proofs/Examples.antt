-- Worked texts: what is told of a wrong word, and of a number out of its range; and a name in capitals.
-- Assumes nothing.
use Rattle.std.proofs.Common.{◌≡◌, true, refl}
use lib.Ieee.{Float, round, le}
use Rattle.base.specs.Bytes.{index_of, index_after}
use Rattle.printing.specs.Ascii.{ascii}
use Rattle.names.specs.Names.{all_printed}
use Rattle.typed_words.specs.Words.{leading_of, nth_word, nth_part, same_text_lem, lowered}
use Rattle.slip.specs.Slip.{double}
use Rattle.slip.specs.declared.Change.TheVariants.{Feed}
use Rattle.std.specs.Prelude.{is_some}
use Rattle.whatif.specs.declared.Fault.TheVariants.{NoNumber}
use Rattle.whatif.specs.Asked.{change_named}
use Rattle.whatif.specs.Told.{columns, ranges, wrong_number, fault_text, out_text}

wrong-ge : fault_text (NoNumber 0) (ascii "3x 6.5 40 365 feed 1.1") ≡ ascii "GE: \"3x\" is no number; expected 1 to 1000 MJ"
unfolding fault_text wrong_number columns ranges leading_of nth_word nth_part index_of index_after all_printed
wrong-ge = refl

-- 600 MJ, Ym 6.5, one head, 365 days: twice the feed is over 1000 MJ
changed-ge : out_text 15 (record { ge = double 600 1; ym = double 65 10; head = double 1 1; days = 365 }) (Feed (double 2 1))
    ≡ ascii "the changed GE is out of its range; expected 1 to 1000 MJ"
unfolding columns ranges leading_of nth_word nth_part index_of index_after
changed-ge = refl

-- Ym 25
wrong-ym : out_text 14 (record { ge = double 300 1; ym = double 25 1; head = double 1 1; days = 365 }) (Feed (double 2 1))
    ≡ ascii "Ym is out of its range; expected 0.5 to 20 per cent"
unfolding columns ranges leading_of nth_word nth_part index_of index_after round le
wrong-ym = refl

-- capitals or not
capitals : (x : Float) → (change_named (ascii "Feed") x ≡ change_named (ascii "feed") x) × (is_some (change_named (ascii "YM") x) ≡ true)
unfolding same_text_lem lowered
capitals x = (refl, refl)
