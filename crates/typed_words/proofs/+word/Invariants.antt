use Rattle.typed_words.proofs.+word.Given as goal

-- fewer words are left
abbrev pub decreases-word : goal.decreases-word
decreases-word l = l.n
