use Rattle.typed_words.proofs.+part.Given as goal

-- fewer separators are left
abbrev pub decreases-part : goal.decreases-part
decreases-part l = l.n
