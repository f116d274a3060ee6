-- Closed cases, worked by hand: records byte by byte (headings "The record on disk" and "Worked by hand").
use mathlib.Core.Path.{◌≡◌, refl}
use mathlib.Core.List.{List, [], ◌∷◌}
use Prim.Native.Nat.{ℕ}
use lib.IntN.{pos, negsuc}
use lib.ListN.{length, replicate, take}
use Rattle.curve.specs.Lists.{Lists, lists}
use Rattle.format.specs.Format.{form1, record_bytes}
use Rattle.format.specs.RecordPlaces.{degree_place, knots_field, before_knots, x_field, x_place, y_field, y_place, record_end}

-- curve A: degree 3, knots 0 0 0 0 4 4 4 4, points (0,0) (0,8) (8,8) (8,0)
unfoldable pub curve_a : Lists
curve_a =
    lists (0 ∷ 0 ∷ 0 ∷ 0 ∷ 4 ∷ 4 ∷ 4 ∷ 4 ∷ []) (pos 0 ∷ pos 0 ∷ pos 8 ∷ pos 8 ∷ []) (pos 0 ∷ pos 8 ∷ pos 8 ∷ pos 0 ∷ [])

unfoldable pub bytes_a : List ℕ
bytes_a =
    1 ∷ 1 ∷ 0 ∷ 3
    ∷ 2 ∷ 16 ∷ 0 ∷ 0 ∷ 0 ∷ 0 ∷ 0 ∷ 0 ∷ 0 ∷ 0 ∷ 0 ∷ 4 ∷ 0 ∷ 4 ∷ 0 ∷ 4 ∷ 0 ∷ 4 ∷ 0
    ∷ 3 ∷ 16 ∷ 0 ∷ 0 ∷ 0 ∷ 0 ∷ 0 ∷ 0 ∷ 0 ∷ 0 ∷ 0 ∷ 8 ∷ 0 ∷ 0 ∷ 0 ∷ 8 ∷ 0 ∷ 0 ∷ 0
    ∷ 4 ∷ 16 ∷ 0 ∷ 0 ∷ 0 ∷ 0 ∷ 0 ∷ 8 ∷ 0 ∷ 0 ∷ 0 ∷ 8 ∷ 0 ∷ 0 ∷ 0 ∷ 0 ∷ 0 ∷ 0 ∷ 0
    ∷ []

record-A : record_bytes form1 3 curve_a ≡ bytes_a
unfolding record_bytes curve_a bytes_a
record-A = refl

-- a line from (-2,5) over (300,-1) to (262144,-262144), of degree 1 over 0 0 258 16383 16383: x and y of unlike signs, knots of two bytes
unfoldable pub line : Lists
line = lists (0 ∷ 0 ∷ 258 ∷ 16383 ∷ 16383 ∷ []) (negsuc 1 ∷ pos 300 ∷ pos 262144 ∷ []) (pos 5 ∷ negsuc 0 ∷ negsuc 262143 ∷ [])

unfoldable pub line_bytes : List ℕ
line_bytes =
    1 ∷ 1 ∷ 0 ∷ 1
    ∷ 2 ∷ 10 ∷ 0 ∷ 0 ∷ 0 ∷ 0 ∷ 0 ∷ 2 ∷ 1 ∷ 255 ∷ 63 ∷ 255 ∷ 63
    ∷ 3 ∷ 12 ∷ 0 ∷ 254 ∷ 255 ∷ 255 ∷ 255 ∷ 44 ∷ 1 ∷ 0 ∷ 0 ∷ 0 ∷ 0 ∷ 4 ∷ 0
    ∷ 4 ∷ 12 ∷ 0 ∷ 5 ∷ 0 ∷ 0 ∷ 0 ∷ 255 ∷ 255 ∷ 255 ∷ 255 ∷ 0 ∷ 0 ∷ 252 ∷ 255
    ∷ []

record-of-line : record_bytes form1 1 line ≡ line_bytes
unfolding record_bytes line line_bytes
record-of-line = refl

-- where its fields stand: degree, knots of 10 bytes, x of 12, y of 12
places-of-line : degree_place ∷ knots_field ∷ before_knots ∷ x_field 10 ∷ x_place 10 ∷ y_field 10 12 ∷ y_place 10 12 ∷ record_end 10 12 12 ∷ []
    ≡ 3 ∷ 4 ∷ 7 ∷ 17 ∷ 20 ∷ 32 ∷ 35 ∷ length line_bytes ∷ []
unfolding line_bytes
places-of-line = refl

-- 150 knots take 300 bytes: a length of two bytes, low byte first
head-of-150-knots : take 7 (record_bytes form1 2 (lists (replicate 150 0) [] [])) ≡ 1 ∷ 1 ∷ 0 ∷ 2 ∷ 2 ∷ 44 ∷ 1 ∷ []
unfolding record_bytes
head-of-150-knots = refl
