-- A rectangle widened on all four sides (heading "Spans to check"): each is moved outward by a cutter's radius, be it off the grid.
use Rattle.std.specs.Prelude.{ℕ, pos, ◌+ℤ◌, ◌-ℤ◌}
use Rattle.boxes.specs.declared.Rectangle.{Rectangle}

unfoldable pub widened : ℕ → Rectangle → Rectangle
widened radius clamp =
    record {
      low_x = clamp.low_x -ℤ pos radius;
      high_x = clamp.high_x +ℤ pos radius;
      low_y = clamp.low_y -ℤ pos radius;
      high_y = clamp.high_y +ℤ pos radius;
    }
