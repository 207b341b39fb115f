use Rattle.printing.proofs.+put_last.Given as goal

-- fewer digits are left
abbrev pub decreases-put_last : goal.decreases-put_last
decreases-put_last l = l.d
