-- Source document 002, table A4-4, "lumCmax and k values for tillage practice change": the changes 1 to 3, the mirror rule for the changes
-- 4 to 6 with its exceptions, and the whole table as printed. Assumes nothing.
use Rattle.std.specs.Prelude.{◌≡◌, ℕ, ◌+◌, ◌-◌, ◌*◌, ◌≤◌, Bool, false, List, [], ◌∷◌, get_or, ℤ, pos, neg_ℤ, ◌==◌, nat_lt, slice_index, slice_index_or}
use Rattle.base.specs.Choice.{pick}

-- lumCmax with its sign, in g per square metre, and k in ten-thousandths
pub record Pair : Type 0 where
  pub lum : ℤ
  pub k : ℕ

abbrev pub plus : ℕ → ℕ → Pair
plus lum k = record { lum = pos lum; k = k }

abbrev pub minus : ℕ → ℕ → Pair
minus lum k = record { lum = neg_ℤ (pos lum); k = k }

-- zone, texture and change, each counted from 1 in the table's order
pub record PlaceIn (zone texture change : ℕ) : Type 0 where
  pub zone-in : (1 ≤ zone) × (zone ≤ 9)
  pub texture-in : (1 ≤ texture) × (texture ≤ 3)
  pub change-in : (1 ≤ change) × (change ≤ 6)

-- for each zone and texture lumCmax and k of the change from intensive to reduced, from reduced to no, and from intensive to no tillage
unfoldable pub less_tillage : List (List ℕ)
less_tillage =
    -- Boreal Shield West: coarse, medium, fine
    (143 ∷ 262 ∷ 441 ∷ 284 ∷ 584 ∷ 306 ∷ [])
    ∷ (217 ∷ 253 ∷ 478 ∷ 282 ∷ 695 ∷ 311 ∷ [])
    ∷ (155 ∷ 258 ∷ 398 ∷ 331 ∷ 553 ∷ 403 ∷ [])
    -- Atlantic Maritime: coarse, medium, fine
    ∷ (232 ∷ 282 ∷ 25 ∷ 252 ∷ 257 ∷ 222 ∷ [])
    ∷ (246 ∷ 227 ∷ 241 ∷ 219 ∷ 486 ∷ 211 ∷ [])
    ∷ (349 ∷ 285 ∷ 184 ∷ 291 ∷ 533 ∷ 298 ∷ [])
    -- Boreal Plains: coarse, medium, fine
    ∷ (221 ∷ 270 ∷ 450 ∷ 283 ∷ 671 ∷ 296 ∷ [])
    ∷ (233 ∷ 219 ∷ 464 ∷ 238 ∷ 698 ∷ 258 ∷ [])
    ∷ (163 ∷ 180 ∷ 467 ∷ 231 ∷ 630 ∷ 283 ∷ [])
    -- Boreal Shield East: coarse, medium, fine
    ∷ (277 ∷ 295 ∷ 665 ∷ 268 ∷ 941 ∷ 242 ∷ [])
    ∷ (238 ∷ 266 ∷ 311 ∷ 230 ∷ 549 ∷ 193 ∷ [])
    ∷ (206 ∷ 228 ∷ 235 ∷ 178 ∷ 441 ∷ 127 ∷ [])
    -- Mixedwood Plains: coarse, medium, fine
    ∷ (181 ∷ 307 ∷ 435 ∷ 300 ∷ 616 ∷ 293 ∷ [])
    ∷ (173 ∷ 262 ∷ 264 ∷ 256 ∷ 437 ∷ 250 ∷ [])
    ∷ (197 ∷ 208 ∷ 207 ∷ 216 ∷ 404 ∷ 223 ∷ [])
    -- Semiarid Prairies: coarse, medium, fine
    ∷ (183 ∷ 226 ∷ 316 ∷ 239 ∷ 499 ∷ 252 ∷ [])
    ∷ (233 ∷ 193 ∷ 261 ∷ 230 ∷ 495 ∷ 266 ∷ [])
    ∷ (268 ∷ 149 ∷ 193 ∷ 194 ∷ 462 ∷ 240 ∷ [])
    -- Montane Cordillera: coarse, medium, fine
    ∷ (51 ∷ 141 ∷ 289 ∷ 138 ∷ 340 ∷ 135 ∷ [])
    ∷ (446 ∷ 163 ∷ 115 ∷ 159 ∷ 561 ∷ 155 ∷ [])
    ∷ (31 ∷ 73 ∷ 581 ∷ 101 ∷ 613 ∷ 129 ∷ [])
    -- Pacific Maritime: coarse, medium, fine
    ∷ (105 ∷ 175 ∷ 638 ∷ 153 ∷ 743 ∷ 132 ∷ [])
    ∷ (763 ∷ 120 ∷ 807 ∷ 131 ∷ 1570 ∷ 143 ∷ [])
    ∷ (533 ∷ 91 ∷ 778 ∷ 106 ∷ 1311 ∷ 121 ∷ [])
    -- Subhumid Prairies: coarse, medium, fine
    ∷ (256 ∷ 230 ∷ 411 ∷ 266 ∷ 667 ∷ 302 ∷ [])
    ∷ (331 ∷ 271 ∷ 320 ∷ 287 ∷ 651 ∷ 302 ∷ [])
    ∷ (196 ∷ 203 ∷ 189 ∷ 230 ∷ 385 ∷ 257 ∷ [])
    ∷ []

-- the changes 1 to 3
unfoldable pub less_of : ℕ → ℕ → ℕ → Pair
less_of zone texture change =
    let row = get_or less_tillage ((zone - 1) * 3 + (texture - 1)) [] in
    plus (slice_index row ((change - 1) * 2)) (slice_index row ((change - 1) * 2 + 1))

-- THE MIRROR RULE: a reversed change, 4 to 6, has the negated lumCmax and the same k ..
abbrev pub reversed : Pair → Pair
reversed p = record { lum = neg_ℤ p.lum; k = p.k }

abbrev pub mirrored : ℕ → ℕ → ℕ → Pair
mirrored zone texture change = pick (nat_lt 3 change) (reversed (less_of zone texture (change - 3))) (less_of zone texture change)

-- .. except where the print says otherwise
pub record Exception : Type 0 where
  pub zone : ℕ
  pub texture : ℕ
  pub change : ℕ
  pub is : Pair

abbrev exception : ℕ → ℕ → ℕ → Pair → Exception
exception zone texture change is = record { zone = zone; texture = texture; change = change; is = is }

-- Pacific Maritime, from no tillage to reduced tillage: medium and fine
abbrev pub exceptions : List Exception
exceptions = exception 8 2 5 (minus 1256 219) ∷ exception 8 3 5 (minus 441 310) ∷ []

-- an exception says something else than the mirror rule
abbrev pub Differs : Exception → Type 0
Differs e = e.is ≡ mirrored e.zone e.texture e.change → ⊥

-- so does each of these
abbrev pub EachDiffers : List Exception → Type 0
EachDiffers [] = Unit
EachDiffers (e ∷ es) = Differs e × EachDiffers es

-- the exception stands at this place
abbrev pub stands : Exception → ℕ → ℕ → ℕ → Bool
stands e zone texture change = pick (e.zone == zone) (pick (e.texture == texture) (e.change == change) false) false

-- the exception at this place, or else p
abbrev pub unless_listed : List Exception → ℕ → ℕ → ℕ → Pair → Pair
unless_listed [] zone texture change p = p
unless_listed (e ∷ es) zone texture change p = pick (stands e zone texture change) e.is (unless_listed es zone texture change p)

-- lumCmax and k of any change
unfoldable pub pair_of : ℕ → ℕ → ℕ → Pair
pair_of zone texture change = unless_listed exceptions zone texture change (mirrored zone texture change)

-- ---- the table as printed: a row for each zone and texture, with the changes 1 to 6

unfoldable pub printed : List (List Pair)
printed =
    -- Boreal Shield West: coarse, medium, fine
    (plus 143 262 ∷ plus 441 284 ∷ plus 584 306 ∷ minus 143 262 ∷ minus 441 284 ∷ minus 584 306 ∷ [])
    ∷ (plus 217 253 ∷ plus 478 282 ∷ plus 695 311 ∷ minus 217 253 ∷ minus 478 282 ∷ minus 695 311 ∷ [])
    ∷ (plus 155 258 ∷ plus 398 331 ∷ plus 553 403 ∷ minus 155 258 ∷ minus 398 331 ∷ minus 553 403 ∷ [])
    -- Atlantic Maritime: coarse, medium, fine
    ∷ (plus 232 282 ∷ plus 25 252 ∷ plus 257 222 ∷ minus 232 282 ∷ minus 25 252 ∷ minus 257 222 ∷ [])
    ∷ (plus 246 227 ∷ plus 241 219 ∷ plus 486 211 ∷ minus 246 227 ∷ minus 241 219 ∷ minus 486 211 ∷ [])
    ∷ (plus 349 285 ∷ plus 184 291 ∷ plus 533 298 ∷ minus 349 285 ∷ minus 184 291 ∷ minus 533 298 ∷ [])
    -- Boreal Plains: coarse, medium, fine
    ∷ (plus 221 270 ∷ plus 450 283 ∷ plus 671 296 ∷ minus 221 270 ∷ minus 450 283 ∷ minus 671 296 ∷ [])
    ∷ (plus 233 219 ∷ plus 464 238 ∷ plus 698 258 ∷ minus 233 219 ∷ minus 464 238 ∷ minus 698 258 ∷ [])
    ∷ (plus 163 180 ∷ plus 467 231 ∷ plus 630 283 ∷ minus 163 180 ∷ minus 467 231 ∷ minus 630 283 ∷ [])
    -- Boreal Shield East: coarse, medium, fine
    ∷ (plus 277 295 ∷ plus 665 268 ∷ plus 941 242 ∷ minus 277 295 ∷ minus 665 268 ∷ minus 941 242 ∷ [])
    ∷ (plus 238 266 ∷ plus 311 230 ∷ plus 549 193 ∷ minus 238 266 ∷ minus 311 230 ∷ minus 549 193 ∷ [])
    ∷ (plus 206 228 ∷ plus 235 178 ∷ plus 441 127 ∷ minus 206 228 ∷ minus 235 178 ∷ minus 441 127 ∷ [])
    -- Mixedwood Plains: coarse, medium, fine
    ∷ (plus 181 307 ∷ plus 435 300 ∷ plus 616 293 ∷ minus 181 307 ∷ minus 435 300 ∷ minus 616 293 ∷ [])
    ∷ (plus 173 262 ∷ plus 264 256 ∷ plus 437 250 ∷ minus 173 262 ∷ minus 264 256 ∷ minus 437 250 ∷ [])
    ∷ (plus 197 208 ∷ plus 207 216 ∷ plus 404 223 ∷ minus 197 208 ∷ minus 207 216 ∷ minus 404 223 ∷ [])
    -- Semiarid Prairies: coarse, medium, fine
    ∷ (plus 183 226 ∷ plus 316 239 ∷ plus 499 252 ∷ minus 183 226 ∷ minus 316 239 ∷ minus 499 252 ∷ [])
    ∷ (plus 233 193 ∷ plus 261 230 ∷ plus 495 266 ∷ minus 233 193 ∷ minus 261 230 ∷ minus 495 266 ∷ [])
    ∷ (plus 268 149 ∷ plus 193 194 ∷ plus 462 240 ∷ minus 268 149 ∷ minus 193 194 ∷ minus 462 240 ∷ [])
    -- Montane Cordillera: coarse, medium, fine
    ∷ (plus 51 141 ∷ plus 289 138 ∷ plus 340 135 ∷ minus 51 141 ∷ minus 289 138 ∷ minus 340 135 ∷ [])
    ∷ (plus 446 163 ∷ plus 115 159 ∷ plus 561 155 ∷ minus 446 163 ∷ minus 115 159 ∷ minus 561 155 ∷ [])
    ∷ (plus 31 73 ∷ plus 581 101 ∷ plus 613 129 ∷ minus 31 73 ∷ minus 581 101 ∷ minus 613 129 ∷ [])
    -- Pacific Maritime: coarse, medium, fine
    ∷ (plus 105 175 ∷ plus 638 153 ∷ plus 743 132 ∷ minus 105 175 ∷ minus 638 153 ∷ minus 743 132 ∷ [])
    ∷ (plus 763 120 ∷ plus 807 131 ∷ plus 1570 143 ∷ minus 763 120 ∷ minus 1256 219 ∷ minus 1570 143 ∷ [])
    ∷ (plus 533 91 ∷ plus 778 106 ∷ plus 1311 121 ∷ minus 533 91 ∷ minus 441 310 ∷ minus 1311 121 ∷ [])
    -- Subhumid Prairies: coarse, medium, fine
    ∷ (plus 256 230 ∷ plus 411 266 ∷ plus 667 302 ∷ minus 256 230 ∷ minus 411 266 ∷ minus 667 302 ∷ [])
    ∷ (plus 331 271 ∷ plus 320 287 ∷ plus 651 302 ∷ minus 331 271 ∷ minus 320 287 ∷ minus 651 302 ∷ [])
    ∷ (plus 196 203 ∷ plus 189 230 ∷ plus 385 257 ∷ minus 196 203 ∷ minus 189 230 ∷ minus 385 257 ∷ [])
    ∷ []

abbrev pub printed_at : ℕ → ℕ → ℕ → Pair
printed_at zone texture change = slice_index_or (slice_index_or printed ((zone - 1) * 3 + (texture - 1)) []) (change - 1) (plus 0 0)
