-- When a closed box of points meets a closed rectangle (heading "Spans to check"), an axis at a time. The sides are any whole numbers.
use Rattle.std.specs.Prelude.{Bool, false, ◌&&◌, ◌||◌, List, [], ◌∷◌, ℤ}
use Rattle.std.specs.Int.Signed.{le_z}

unfoldable pub some_at_most : ℤ → List ℤ → Bool  -- some entry is at most `high`
some_at_most high [] = false
some_at_most high (z ∷ zs) = le_z z high || some_at_most high zs

unfoldable pub some_at_least : ℤ → List ℤ → Bool  -- some entry is at least `low`
some_at_least low [] = false
some_at_least low (z ∷ zs) = le_z low z || some_at_least low zs

unfoldable pub meets_on_axis : ℤ → ℤ → List ℤ → Bool  -- on this axis the box of the coordinates meets low..high, a shared side included
meets_on_axis low high zs = some_at_most high zs && some_at_least low zs
