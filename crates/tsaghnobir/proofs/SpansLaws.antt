-- The four sides of a clamp that C hands in are read as they are.
use mathlib.Core.Path.{◌≡◌}
use lib.IntN.{ℤ}
use mir.Syntax.{w32}
use mir.Val.{to_z, of_z, SFits}
use mir.Facts.{to_z-of_z}
use Rattle.tsaghnobir.specs.Places.{clamp_of}

pub sides-as-read : {low_x high_x low_y high_y : ℤ} → SFits w32 low_x → SFits w32 high_x → SFits w32 low_y → SFits w32 high_y
    → clamp_of (to_z w32 (of_z w32 low_x)) (to_z w32 (of_z w32 high_x)) (to_z w32 (of_z w32 low_y)) (to_z w32 (of_z w32 high_y)) ≡ clamp_of low_x high_x low_y high_y
sides-as-read a b c d = rw (to_z-of_z a, to_z-of_z b, to_z-of_z c, to_z-of_z d)
