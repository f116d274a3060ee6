-- When a closed box meets a closed range of one axis, and which points a widened clamp holds, in sentences (heading "Spans to check").
use Rattle.std.specs.Prelude.{true, List, ◌↔◌, ◌≡◌, ℕ, ◌<◌, ◌≤◌, ℤ, pos, nat_abs, ◌-ℤ◌, length, get_or, ◌≤ℤ◌}
use Rattle.boxes.specs.Meeting.{meets_on_axis}
use Rattle.boxes.specs.Widening.{widened}
use Rattle.boxes.specs.declared.Rectangle.{Rectangle}

-- z lies from the coordinate at `below` to the one at `above`, either included
pub record Between (zs : List ℤ) (z : ℤ) : Type 0 where
  pub below : ℕ
  pub above : ℕ
  pub below-stands : below < length zs
  pub above-stands : above < length zs
  pub low : get_or zs below (pos 0) ≤ℤ z
  pub high : z ≤ℤ get_or zs above (pos 0)

-- a whole number that lies between two of the coordinates and from low to high
pub record Shared (low high : ℤ) (zs : List ℤ) : Type 0 where
  pub number : ℤ
  pub between : Between zs number
  pub from : low ≤ℤ number
  pub to : number ≤ℤ high

-- the box meets low..high exactly where they share a whole number
abbrev pub MeetsExactly : Type 0
MeetsExactly = (low high : ℤ) (zs : List ℤ) → low ≤ℤ high → (meets_on_axis low high zs ≡ true) ↔ Shared low high zs

-- the whole point (x, y) lies in a rectangle, its sides included
pub record Inside (rectangle : Rectangle) (x y : ℤ) : Type 0 where
  pub low_x : rectangle.low_x ≤ℤ x
  pub high-x : x ≤ℤ rectangle.high_x
  pub low-y : rectangle.low_y ≤ℤ y
  pub high-y : y ≤ℤ rectangle.high_y

-- z is at most the radius away from some whole number of low..high
pub record Near (radius : ℕ) (low high z : ℤ) : Type 0 where
  pub other : ℤ
  pub from : low ≤ℤ other
  pub to : other ≤ℤ high
  pub apart : nat_abs (z -ℤ other) ≤ radius

-- a whole point lies in the widened clamp exactly where on each axis it is at most the radius away from some whole number between the clamp's sides
abbrev pub WidenedExactly : Type 0
WidenedExactly =
    (radius : ℕ) (clamp : Rectangle) (x y : ℤ) → clamp.low_x ≤ℤ clamp.high_x → clamp.low_y ≤ℤ clamp.high_y
    → Inside (widened radius clamp) x y ↔ (Near radius clamp.low_x clamp.high_x x × Near radius clamp.low_y clamp.high_y y)
