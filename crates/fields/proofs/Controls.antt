-- Closed cases, worked by hand (heading "The record on disk"): numbers, lists and fields as bytes, and the same read at a place.
use mathlib.Core.Path.{◌≡◌, refl}
use mathlib.Core.List.{[], ◌∷◌}
use Prim.Native.Nat.{ℕ}
use lib.IntN.{pos, negsuc}
use Rattle.fields.specs.Bytes.{u16_bytes, u32_bytes, i32_bytes, knot_bytes, coordinate_bytes, field_head, field_bytes}
use Rattle.fields.specs.Places.{u16_at, u32_at, i32_at, knots_at, coordinates_at, put_at}

-- the low byte comes first: 258 is 2 + 256·1
knot-258 : u16_bytes 258 ≡ 2 ∷ 1 ∷ []
knot-258 = refl

-- 67,305,985 is 1 + 256·2 + 65,536·3 + 16,777,216·4
number-of-four-bytes : u32_bytes 67305985 ≡ 1 ∷ 2 ∷ 3 ∷ 4 ∷ []
number-of-four-bytes = refl

-- two's complement: -2, and the two ends of the grid
minus-two : i32_bytes (negsuc 1) ≡ 254 ∷ 255 ∷ 255 ∷ 255 ∷ []
minus-two = refl

lowest : i32_bytes (negsuc 262143) ≡ 0 ∷ 0 ∷ 252 ∷ 255 ∷ []
lowest = refl

highest : i32_bytes (pos 262144) ≡ 0 ∷ 0 ∷ 4 ∷ 0 ∷ []
highest = refl

-- entries in their order, and a length above 255 in two bytes
two-knots : knot_bytes (258 ∷ 3 ∷ []) ≡ 2 ∷ 1 ∷ 3 ∷ 0 ∷ []
two-knots = refl

two-coordinates : coordinate_bytes (negsuc 1 ∷ pos 67305985 ∷ []) ≡ 254 ∷ 255 ∷ 255 ∷ 255 ∷ 1 ∷ 2 ∷ 3 ∷ 4 ∷ []
two-coordinates = refl

head-of-300 : field_head 3 300 ≡ 3 ∷ 44 ∷ 1 ∷ []
head-of-300 = refl

field-of-two : field_bytes 4 (9 ∷ 8 ∷ []) ≡ 4 ∷ 2 ∷ 0 ∷ 9 ∷ 8 ∷ []
field-of-two = refl

-- the same numbers, read behind a byte that is not theirs
knot-at-1 : u16_at (7 ∷ 2 ∷ 1 ∷ []) 1 ≡ 258
knot-at-1 = refl

number-at-1 : u32_at (7 ∷ 1 ∷ 2 ∷ 3 ∷ 4 ∷ []) 1 ≡ 67305985
number-at-1 = refl

coordinate-at-1 : i32_at (7 ∷ 254 ∷ 255 ∷ 255 ∷ 255 ∷ []) 1 ≡ negsuc 1
coordinate-at-1 = refl

knots-at-1 : knots_at (7 ∷ 2 ∷ 1 ∷ 3 ∷ 0 ∷ 7 ∷ []) 1 2 ≡ 258 ∷ 3 ∷ []
knots-at-1 = refl

coordinates-at-1 : coordinates_at (7 ∷ 254 ∷ 255 ∷ 255 ∷ 255 ∷ 0 ∷ 0 ∷ 252 ∷ 255 ∷ []) 1 2 ≡ negsuc 1 ∷ negsuc 262143 ∷ []
coordinates-at-1 = refl

-- a part put over a list: what stands before it and behind it stays
put-at-1 : put_at {A = ℕ} (1 ∷ 2 ∷ 3 ∷ 4 ∷ []) 1 (8 ∷ 9 ∷ []) ≡ 1 ∷ 8 ∷ 9 ∷ 4 ∷ []
put-at-1 = refl
