-- All lines on a clamp (heading "`clampcheck`"), and what is told of clamp k of a list. Clamps are counted from 0 here and numbered from 1 in the text.
use Rattle.std.specs.Prelude.{Bool, cond, ◌&&◌, List, [], ℕ, suc, ◌+◌, ◌*◌, leb, ltb, eqb, ℤ, pos, length, get_or}
use Rattle.refusal.specs.Numbers.{accepted}
use Rattle.curve.specs.Lists.{Lists}
use Rattle.grid.specs.Limits.{clamps_most}
use Rattle.grid.specs.Check.{check_number}
use Rattle.grid.specs.Rows.{radius_ok, rectangle_ok}
use Rattle.boxes.specs.Widening.{widened}
use Rattle.boxes.specs.declared.Rectangle.{Rectangle}
use Rattle.span_walk.specs.SpanLists.{knots_met}
use Rattle.lines.specs.Lines.{clamp_text}

-- all lines on a clamp with its number: one for each span on which a cutter of this radius may meet it, or one that it is clear
abbrev pub clamp_lines : ℕ → Lists → ℕ → ℕ → Rectangle → List ℕ
clamp_lines m c radius number clamp =
    clamp_text number (knots_met (widened radius clamp) m c.knots c.xs c.ys).lows (knots_met (widened radius clamp) m c.knots c.xs c.ys).highs

-- clamp k, counted from 0, of a list with four sides a clamp: low x, high x, low y, high y
abbrev pub clamp_at : List ℤ → ℕ → Rectangle
clamp_at sides k =
    record {
      low_x = get_or sides (4 * k) (pos 0);
      high_x = get_or sides (4 * k + 1) (pos 0);
      low_y = get_or sides (4 * k + 2) (pos 0);
      high_y = get_or sides (4 * k + 3) (pos 0);
    }

-- what is told of a curve that passes the check, and of no other
abbrev pub where_checked : ℕ → Lists → List ℕ → List ℕ
where_checked m c text = cond (eqb (check_number m c.knots c.xs c.ys) accepted) text []

-- what is told of a radius that row 22 passes and a clamp that row 14 does, and of no other
abbrev pub where_sound : ℕ → Rectangle → List ℕ → List ℕ
where_sound radius clamp text =
    cond (radius_ok radius && rectangle_ok clamp.low_x clamp.high_x clamp.low_y clamp.high_y) text []

-- clamp k is one of the first `count`, a job may have it, and the list has its sides
abbrev pub standing : ℕ → List ℤ → ℕ → Bool
standing count sides k = ltb k count && ltb k clamps_most && leb (4 * k + 4) (length sides)

-- all lines on clamp k of a curve, where it is there and sound
unfoldable pub clamp_part : ℕ → Lists → ℕ → ℕ → List ℤ → ℕ → List ℕ
clamp_part m c radius count sides k =
    cond (standing count sides k) (where_sound radius (clamp_at sides k) (clamp_lines m c radius (suc k) (clamp_at sides k))) []
