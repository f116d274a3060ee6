-- Closed cases of what only the exports name.
use mathlib.Core.Path.{◌≡◌, refl}
use lib.IntN.{pos}
use Rattle.tsaghnobir.specs.Places.{clamp_of}

-- low x, high x, low y, high y
sides-in-order : ((clamp_of (pos 1) (pos 2) (pos 3) (pos 4)).low_x ≡ pos 1) × ((clamp_of (pos 1) (pos 2) (pos 3) (pos 4)).high_x ≡ pos 2)
    × ((clamp_of (pos 1) (pos 2) (pos 3) (pos 4)).low_y ≡ pos 3) × ((clamp_of (pos 1) (pos 2) (pos 3) (pos 4)).high_y ≡ pos 4)
sides-in-order = (refl, refl, refl, refl)
