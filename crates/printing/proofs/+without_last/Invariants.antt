use Rattle.printing.proofs.+without_last.Given as goal

-- fewer digits are left
abbrev pub decreases-without_last : goal.decreases-without_last
decreases-without_last l = l.d
