-- Closed cases, worked by hand (heading "The record on disk"): clamps as bytes and read from bytes; 64 of them, and one more.
use Rattle.std.specs.Prelude.{Ok, Err}
use mathlib.Core.Bool.{true, false}
use mathlib.Core.Path.{◌≡◌, refl}
use mathlib.Core.List.{List, [], ◌∷◌}
use Prim.Native.Nat.{ℕ}
use lib.IntN.{pos, negsuc}
use lib.ListN.{replicate}
use Rattle.grid.specs.Rows.{on_grid, axis_ok, rectangle_ok}
use Rattle.taken_field.specs.Taking.{tag_at, left_over_at, length_ok, field_at}
use Rattle.clamps.specs.Clamp.{Clamp, all_sides, clamp_fields, clamps_at, clamps_ok}
use Rattle.clamps.specs.Tail.{clamps_from, clamps_behind}

-- x from -2 to 300 and y from -262,144 to 5; x from 7 to 8 and y from 9 to 10
abbrev wide : Clamp
wide = record { low_x = negsuc 1; high_x = pos 300; low_y = negsuc 262143; high_y = pos 5 }

abbrev small : Clamp
small = record { low_x = pos 7; high_x = pos 8; low_y = pos 9; high_y = pos 10 }

unfoldable pub two : List Clamp
two = wide ∷ small ∷ []

unfoldable pub two_bytes : List ℕ
two_bytes =
    5 ∷ 16 ∷ 0 ∷ 254 ∷ 255 ∷ 255 ∷ 255 ∷ 44 ∷ 1 ∷ 0 ∷ 0 ∷ 0 ∷ 0 ∷ 252 ∷ 255 ∷ 5 ∷ 0 ∷ 0 ∷ 0
    ∷ 5 ∷ 16 ∷ 0 ∷ 7 ∷ 0 ∷ 0 ∷ 0 ∷ 8 ∷ 0 ∷ 0 ∷ 0 ∷ 9 ∷ 0 ∷ 0 ∷ 0 ∷ 10 ∷ 0 ∷ 0 ∷ 0
    ∷ []

fields-of-two : clamp_fields two ≡ two_bytes
unfolding two two_bytes
fields-of-two = refl

sides-of-two : all_sides two ≡ negsuc 1 ∷ pos 300 ∷ negsuc 262143 ∷ pos 5 ∷ pos 7 ∷ pos 8 ∷ pos 9 ∷ pos 10 ∷ []
unfolding two
sides-of-two = refl

-- the same, read behind a byte that is not theirs
two-at-1 : clamps_at (9 ∷ two_bytes) 1 2 ≡ two
unfolding two two_bytes
two-at-1 = refl

two-behind : clamps_behind (9 ∷ two_bytes) 1 ≡ Ok 2
unfolding clamps_from field_at length_ok two_bytes
two-behind = refl

-- no other tag begins a clamp
tag-6 : clamps_behind (6 ∷ 16 ∷ 0 ∷ []) 0 ≡ Err (tag_at 0)
unfolding clamps_from field_at length_ok
tag-6 = refl

-- 64 clamps, 19 bytes each, and one more
clamps-64 : clamps_behind (clamp_fields (replicate 64 small)) 0 ≡ Ok 64
unfolding clamps_from field_at length_ok
clamps-64 = refl

clamps-65 : clamps_behind (clamp_fields (replicate 65 small)) 0 ≡ Err (left_over_at 1216)
unfolding clamps_from field_at length_ok
clamps-65 = refl

-- row 14 looks at every clamp: both are right; the second has its low side above its high side, in x or in y
two_ok : clamps_ok two ≡ true
unfolding clamps_ok rectangle_ok axis_ok on_grid two
two_ok = refl

crossed-x : clamps_ok (wide ∷ record { low_x = pos 8; high_x = pos 7; low_y = pos 9; high_y = pos 10 } ∷ []) ≡ false
unfolding clamps_ok rectangle_ok axis_ok on_grid
crossed-x = refl

crossed-y : clamps_ok (wide ∷ record { low_x = pos 7; high_x = pos 8; low_y = pos 10; high_y = pos 9 } ∷ []) ≡ false
unfolding clamps_ok rectangle_ok axis_ok on_grid
crossed-y = refl
