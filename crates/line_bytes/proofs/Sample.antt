-- The first line of document 01's sample book, and a subtotal, computed.
-- Assumes nothing.
use Prim.Native.Nat.{◌-◌}
use mathlib.Core.Path.{◌≡◌, refl}
use mathlib.Core.List.{[], ◌∷◌, ◌++◌}
use lib.ListN.{replicate}
use Rattle.codec.specs.Codec.{be, bytes_of, first_bad}
use Rattle.line_bytes.specs.Lines.{figure_count, line_size, line_length, line_fields, subtotal_kind, line_values, line_bytes_lem}

-- 3 12 434501, all others 0
pub line : line_bytes_lem 3 12 (434501 ∷ replicate (figure_count - 1) 0)
    ≡ (0 ∷ line_length ∷ 1 ∷ 3 ∷ 0 ∷ 12 ∷ 0 ∷ 0 ∷ 0 ∷ 0 ∷ 0 ∷ 6 ∷ 161 ∷ 69 ∷ []) ++ replicate (line_size - 14) 0
unfolding line_bytes_lem bytes_of line_fields be
line = refl

-- a subtotal's values are in the ranges of its row
pub subtotal : first_bad line_fields (line_values subtotal_kind 12 (434501 ∷ replicate (figure_count - 1) 0)) 0 ≡ 0
unfolding first_bad line_fields
subtotal = refl
