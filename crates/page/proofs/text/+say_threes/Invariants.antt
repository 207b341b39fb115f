use Rattle.page.proofs.text.+say_threes.Given as goal

-- the spaces that are left fall
abbrev pub decreases-say_threes : goal.decreases-say_threes
decreases-say_threes l = l.most
