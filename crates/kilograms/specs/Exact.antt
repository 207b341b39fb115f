-- What a text says beside its thin spaces.
-- Assumes nothing.
use Rattle.std.specs.Prelude.{ℕ, ◌^◌, List, [], ◌∷◌, ltb}
use Rattle.base.specs.Choice.{pick}

-- the bytes of ASCII alone: a thin space is no such byte
unfoldable pub unspaced : List ℕ → List ℕ
unspaced [] = []
unspaced (b ∷ s) = pick (ltb b (2 ^ 7)) (b ∷ unspaced s) (unspaced s)
