use Rattle.kilograms.proofs.+say_threes.Given as goal

-- the digits that are left fall
abbrev pub decreases-say_threes : goal.decreases-say_threes
decreases-say_threes l = l.n
